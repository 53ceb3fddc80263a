use Rattle.axiom_base.proofs.ComputedTruth.{calc_is_true, one_constant, kind_is_listed}
use Rattle.axiom_base.proofs.ComputedSides.{calc_usable, variables_end}
use Rattle.axiom_base.proofs.computed_laws.computed_rules_are_true.Goals as goal

pub returns : goal.returns
returns c = record {
  true_rules = λ world names. calc_is_true world names c.words_have_bits.ensures.byte_mask c.memories_hold_words.ensures.others;
  usable = calc_usable;
  last = variables_end;
  one = one_constant;
  listed = kind_is_listed;
}
