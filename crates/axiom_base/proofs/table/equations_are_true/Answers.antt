use Rattle.axiom_base.proofs.Rules.{equations_are_rules}
use Rattle.axiom_base.proofs.Truth as truth
use Rattle.axiom_base.proofs.table.equations_are_true.Goals as goal

pub returns : goal.returns
returns c =
    let bits = c.words_have_bits.ensures in
    let memories = c.memories_hold_words.ensures in
    record {
      rules = equations_are_rules;
      true_rows = λ world names.
          truth.equations_are_true world names bits.shifted_left bits.shifted_right bits.sign_extended
          c.meanings_are_in_range.ensures.words bits.stored_byte memories.put memories.again;
    }
