use Rattle.std.proofs.Common.{◌≡◌, ◌++◌, ℕ, List, subst, arith}
use Rattle.std.proofs.lemmas.Grind.{common_steps}
use Rattle.std.specs.Prelude.{OnOk}
use Rattle.dimacs.proofs.ClauseLines.{clause_text}
use Rattle.dimacs.proofs.printing.put_clause.Goals as goal

pub returns : goal.returns
returns c =
    subst (λ (xs : List ℕ). OnOk c.put.result (c.put.new.text.items ≡ c.args.text.now.items ++ xs))
    (clause_text c.args.lits.now) (grind (arith, common_steps))
