use Rattle.std.proofs.Common.{[]}
use Rattle.code_lift.proofs.KeptPromises.{does, never_both, one_of_both}
use Rattle.code_lift.proofs.laws.lifted_goals_are_their_code.Goals as goal

pub returns : goal.returns
returns c = record {
  does = λ lift world is_lift is_world met.
      does lift world is_lift is_world (λ n i low e. (c.words_and_instructions.ensures.forth n i low e).0)
      (λ instrs wf. c.terms_are_what_words_compute.ensures.values world (λ n. []) instrs is_world wf)
      c.steps_add_up.ensures.last c.steps_add_up.ensures.sums c.steps_add_up.ensures.steps c.steps_add_up.ensures.trapped met;
  decided = λ lift world is_lift is_world.
      one_of_both lift world is_lift is_world (λ n i low e. (c.words_and_instructions.ensures.forth n i low e).0)
      (λ instrs wf. c.terms_are_what_words_compute.ensures.values world (λ n. []) instrs is_world wf)
      c.steps_add_up.ensures.last c.steps_add_up.ensures.sums c.steps_add_up.ensures.steps c.steps_add_up.ensures.trapped;
  apart = λ lift world is_lift is_world traps met.
      never_both lift world is_lift is_world (λ n i low e. (c.words_and_instructions.ensures.forth n i low e).0)
      (λ instrs wf. c.terms_are_what_words_compute.ensures.values world (λ n. []) instrs is_world wf)
      c.steps_add_up.ensures.last c.steps_add_up.ensures.sums c.steps_add_up.ensures.steps c.steps_add_up.ensures.trapped traps met;
}
