use Rattle.std.proofs.Common.{sym, subst}
use Rattle.std.specs.Prelude.{IsTrue, ◌↔◌}
use Rattle.code_check.specs.Compared.{ArePresentClasses, IsSameLeaving}
use Rattle.code_check.specs.Terms.{TermState}
use Rattle.code_check.proofs.Comparisons.{no_branch_leaves}
use Rattle.code_check.proofs.comparing.is_same_leaving.Goals as goal

pub returns-in-Some : goal.returns-in-Some
returns-in-Some c =
    let g = c.args.graph.now in
    subst (λ b. (ts : TermState) → ArePresentClasses g c.args.classes.now c.args.memory ts
    → (IsTrue c.is_same_exit.result ↔ IsSameLeaving g c.args.inputs.now b ts)) (sym c.in-Some.is) c.is_same_exit.ensures

pub returns-in-None : goal.returns-in-None
returns-in-None c = λ ts are. no_branch_leaves c.args.graph.now c.args.inputs.now c.args.branch ts c.in-None.is
