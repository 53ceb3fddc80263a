use Rattle.std.proofs.Common.{◌≡◌, ◌++◌, ℕ, List, subst, arith}
use Rattle.std.proofs.lemmas.Grind.{common_steps}
use Rattle.std.specs.Prelude.{OnOk}
use Rattle.refutation_check.proofs.Printing.{line_text-parts}
use Rattle.refutation_check.proofs.text.print_line.Goals as goal

pub returns : goal.returns
returns c =
    subst (λ (xs : List ℕ). OnOk c.extend_from_slice-3.result (c.extend_from_slice-3.new.self.items ≡ c.args.text.now.items ++ xs)) (line_text-parts c.args.line.now) (grind (arith, common_steps))
