use Rattle.goal_meaning.specs.Expanded.{expanded}
use Rattle.goal_meaning.specs.Names.{declared_name}
use Rattle.code_check.proofs.Steps.{first_values, no_trap, one_step}
use Rattle.code_check.proofs.Deciding.{decided, inputs_low}
use Rattle.code_check.proofs.laws.same_code_does_the_goal.Goals as goal

pub returns : goal.returns
returns c = record {
  does_goal = λ input goal words instrs places terms graph library is_input is_goal code few low stands same world is_world holds.
      let names = declared_name input.ops in
      let v = stands.values world is_world (c.axioms_make_rules_true.ensures.true_rules library input goal world is_input holds) in
      decided c.steps_add_up.ensures.last c.steps_add_up.ensures.sums c.steps_add_up.ensures.stays c.steps_add_up.ensures.steps
      c.classes_are_multiples.ensures.shown c.classes_are_multiples.ensures.few world input.ops
      (one_step world names c.displacements_are_low_bits.ensures.low c.displacements_are_low_bits.ensures.high
      c.meanings_are_in_range.ensures.words c.memories_hold_words.ensures.loaded c.memories_hold_words.ensures.stored)
      (no_trap world names c.displacements_are_low_bits.ensures.low c.displacements_are_low_bits.ensures.high
      c.meanings_are_in_range.ensures.words c.memories_hold_words.ensures.loaded c.memories_hold_words.ensures.stored)
      words instrs code few (first_values world names is_world) (expanded goal) places
      (inputs_low goal.inputs goal.pool is_goal.rules.low) low graph v.0 v.1 same;
}
