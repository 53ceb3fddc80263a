use Rattle.std.proofs.Common.{◌≡◌, ℕ, List, subst, arith}
use Rattle.std.proofs.lemmas.Grind.{common_steps}
use Rattle.refutation_check.proofs.Printing.{lines_text-words}
use Rattle.refutation_check.proofs.text.print.Goals as goal

pub returns : goal.returns
returns c = subst (λ (xs : List ℕ). c.loop-line.text.items ≡ xs) (lines_text-words c.args.lines.now.lines) (grind (arith, common_steps))
