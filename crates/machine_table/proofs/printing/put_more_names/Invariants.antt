use Rattle.std.proofs.Common.{◌≡◌, ◌∷◌, ◌++◌, take}
use Rattle.std.specs.List.{flat_map}
use Rattle.forms.specs.Printing.{plain_text}
use Rattle.machine_table.specs.Printing.{slot_name_plain}
use Rattle.machine_table.proofs.printing.put_more_names.Given as goal

abbrev pub invariant-loop-slot : goal.invariant-loop-slot
invariant-loop-slot l = l.text.items ≡ l.initial.text.items ++ flat_map (λ s. 32 ∷ plain_text (slot_name_plain l.table s)) (take l.slot-index l.slots)
