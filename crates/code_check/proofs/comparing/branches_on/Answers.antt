use Rattle.std.proofs.Common.{ℕ, List, [], Some, sym, subst}
use Rattle.std.specs.List.{AllZip}
use Rattle.std.specs.Prelude.{IfOk, IsTrue, ◌↔◌}
use Rattle.word_ops.specs.declared.sorts.Op.{Op}
use Rattle.word_terms.specs.Tree.{Tree, substituted}
use Rattle.word_terms.specs.View.{tree_of}
use Rattle.pattern_match.specs.Classes.{IsClass}
use Rattle.code_check.specs.Compared.{ArePresentClasses, IsSameBranch}
use Rattle.code_check.specs.Terms.{TermState}
use Rattle.code_check.proofs.Comparisons.{no_branch_tells}
use Rattle.code_check.proofs.comparing.branches_on.Goals as goal

pub returns-in-Some : goal.returns-in-Some
returns-in-Some c =
    let g = c.args.graph.now in
    subst (λ b. IfOk c.has_term.result (λ same. (es : List (Tree Op)) (ts : TermState) (memory : ℕ) → AllZip (IsClass g []) es c.args.lets.now
    → ArePresentClasses g c.args.classes.now memory ts → (IsTrue same ↔ IsSameBranch g (Some (substituted es (tree_of c.args.guard.now))) b ts))) (sym c.in-Some.is) c.has_term.ensures

pub returns-in-None : goal.returns-in-None
returns-in-None c = λ es ts memory zip are. no_branch_tells c.args.graph.now (substituted es (tree_of c.args.guard.now)) c.args.branch ts c.in-None.is
