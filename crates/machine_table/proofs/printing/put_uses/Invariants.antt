use Rattle.std.proofs.Common.{◌≡◌, ◌∷◌, ◌++◌, take}
use Rattle.std.specs.List.{flat_map}
use Rattle.forms.specs.Printing.{plain_text}
use Rattle.machine_table.specs.Printing.{use_plain}
use Rattle.machine_table.proofs.printing.put_uses.Given as goal

abbrev pub invariant-loop-one : goal.invariant-loop-one
invariant-loop-one l = l.text.items ≡ l.initial.text.items ++ flat_map (λ s. 32 ∷ plain_text (use_plain l.table s)) (take l.one-index l.uses)
