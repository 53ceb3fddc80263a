use Rattle.code_check.specs.Outcomes.{entry_state}
use Rattle.code_check.specs.Terms.{terms_at_entry}
use Rattle.code_check.proofs.Steps.{all_steps, first_values}
use Rattle.code_check.proofs.laws.terms_are_what_words_compute.Goals as goal

pub returns : goal.returns
returns c = record {
  values = λ world names instrs is wf.
      all_steps world names c.displacements_are_low_bits.ensures.low c.displacements_are_low_bits.ensures.high
      c.meanings_are_in_range.ensures.words c.memories_hold_words.ensures.loaded c.memories_hold_words.ensures.stored instrs terms_at_entry (entry_state world) wf (first_values world names is);
}
