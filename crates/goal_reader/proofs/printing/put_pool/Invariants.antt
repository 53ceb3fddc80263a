use Rattle.std.proofs.Common.{◌≡◌, ◌∷◌, ◌++◌, take}
use Rattle.std.specs.List.{flat_map}
use Rattle.forms.specs.Printing.{plain_text}
use Rattle.goal_meaning.specs.InputForms.{register_plain}
use Rattle.goal_reader.proofs.printing.put_pool.Given as goal

abbrev pub invariant-loop-register : goal.invariant-loop-register
invariant-loop-register l = l.text.items ≡ l.initial.text.items ++ flat_map (λ x. 32 ∷ plain_text (register_plain x)) (take l.register-index l.pool)
