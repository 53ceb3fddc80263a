use Rattle.std.proofs.Common.{Some, sym, ap, ◌∙◌}
use Rattle.std.proofs.lemmas.Option.{slice_get-get_or}
use Rattle.std.proofs.lemmas.Slice.Eq.{bytes_eq-Decides}
use Rattle.machine_table.specs.declared.tables.Slot.{Slot}
use Rattle.machine_table.proofs.uses.slot_of.Goals as goal

pub returns-then-eq : goal.returns-then-eq
returns-then-eq c = record {
  slot = c.index-slots-number.result;
  found = slice_get-get_or c.args.slots.now c.loop-number.number c.index-slots-number.result c.loop-number-test.true ∙ ap Some (sym c.index-slots-number.is);
  named = ap (λ (s : Slot). s.name) c.index-slots-number.is ∙ sym c.bytes.ensures ∙ (bytes_eq-Decides c.bytes.result.now c.args.name.now).0 (sym c.if-eq.ensures);
}
