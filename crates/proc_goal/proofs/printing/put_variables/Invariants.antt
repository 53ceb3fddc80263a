use Rattle.std.proofs.Common.{◌≡◌, ◌∷◌, ◌++◌, take}
use Rattle.std.specs.List.{flat_map}
use Rattle.forms.specs.Printing.{plain_text}
use Rattle.proc_goal.specs.ProcForms.{var_plain}
use Rattle.proc_goal.proofs.printing.put_variables.Given as goal

abbrev pub invariant-loop-var : goal.invariant-loop-var
invariant-loop-var l = l.text.items ≡ l.initial.text.items ++ flat_map (λ x. 32 ∷ plain_text (var_plain x)) (take l.var-index l.vars)
