use Rattle.proc_link.proofs.Following.{as_they_are, follows}
use Rattle.proc_link.proofs.laws.linked_words_follow_the_blocks.Goals as goal

pub returns : goal.returns
returns c = λ p listings words is_proc are decode.
    follows p is_proc (as_they_are p c.goals_without_lets_are_expanded.ensures (c.goals_of_procs_are_well_formed.ensures p is_proc)) listings are words decode c.steps_add_up.ensures.last c.steps_add_up.ensures.sums c.steps_add_up.ensures.stays c.steps_add_up.ensures.steps c.steps_add_up.ensures.trapped
    c.meanings_are_in_range.ensures.words c.memories_hold_words.ensures.loaded c.memories_hold_words.ensures.stored
