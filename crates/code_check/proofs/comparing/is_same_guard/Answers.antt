use Rattle.std.specs.List.{AllZip}
use Rattle.std.proofs.Common.{ℕ, List, [], ap, sym, subst, option_map}
use Rattle.std.specs.Prelude.{IfOk, IsTrue, ◌↔◌}
use Rattle.word_ops.specs.declared.sorts.Op.{Op}
use Rattle.word_terms.specs.Tree.{Tree, substituted}
use Rattle.word_terms.specs.View.{tree_of}
use Rattle.pattern_match.specs.Classes.{IsClass}
use Rattle.code_check.specs.Compared.{ArePresentClasses, IsSameBranch}
use Rattle.code_check.specs.Terms.{TermState}
use Rattle.code_check.proofs.Comparisons.{no_guard_tells}
use Rattle.code_check.proofs.comparing.is_same_guard.Goals as goal

pub returns-in-Some : goal.returns-in-Some
returns-in-Some c =
    let g = c.args.graph.now in
    subst (λ o. IfOk c.branches_on.result (λ same. (es : List (Tree Op)) (ts : TermState) (memory : ℕ) → AllZip (IsClass g []) es c.args.lets.now
    → ArePresentClasses g c.args.classes.now memory ts → (IsTrue same ↔ IsSameBranch g (option_map (substituted es) (option_map tree_of o)) c.args.branch ts))) (sym c.in-Some.is) c.branches_on.ensures

pub returns-in-None : goal.returns-in-None
returns-in-None c = λ es ts memory zip are.
    no_guard_tells c.args.graph.now (option_map (substituted es) (option_map tree_of c.args.guard.now)) c.args.branch ts c.is_none.result
    (ap (λ o. option_map (substituted es) (option_map tree_of o)) c.in-None.is) c.is_none.ensures
