use Rattle.std.proofs.Common.{sym, ap, ◌∙◌, subst}
use Rattle.std.proofs.lemmas.Result.{IfOk-weaker}
use Rattle.word_terms.specs.Tree.{application, operands_of, AreBelow, EachBelow}
use Rattle.word_terms.specs.View.{trees_of}
use Rattle.word_terms.specs.Sorting.{Occurs, OccursInOne}
use Rattle.pattern_match.specs.Bindings.{AreMatches, IsSubstitution}
use Rattle.pattern_match.proofs.Walking.{application_is}
use Rattle.pattern_match.proofs.searching.substitutions.Goals as goal

pub among_rows-requires-clause-below : goal.among_rows-requires-clause-below
among_rows-requires-clause-below c =
    let is = application_is c.args.pattern.now c.in-App.op c.in-App.operands c.in-App.is in
    let whole : EachBelow c.args.count (operands_of (trees_of c.in-App.operands.items)) = subst (AreBelow c.args.count) is c.requires.below in
    subst (λ xs. EachBelow c.args.count (operands_of (trees_of xs))) (sym c.deref.ensures.value) whole

pub among_rows-requires-clause-all : goal.among_rows-requires-clause-all
among_rows-requires-clause-all c = λ n l.
    let is = application_is c.args.pattern.now c.in-App.op c.in-App.operands c.in-App.is in
    let whole : OccursInOne n (operands_of (trees_of c.in-App.operands.items)) = subst (Occurs n) is (c.requires.all n l) in
    subst (λ xs. OccursInOne n (operands_of (trees_of xs))) (sym c.deref.ensures.value) whole

pub returns-in-App : goal.returns-in-App
returns-in-App c =
    let g = c.args.graph.now in
    let n = c.args.count in
    let is = ap (λ xs. application c.in-App.op (operands_of (trees_of xs))) c.deref.ensures.value ∙ sym (application_is c.args.pattern.now c.in-App.op c.in-App.operands c.in-App.is) in
    record { exact = IfOk-weaker c.among_rows.result _ _ (λ out h. subst (λ t. AreMatches g t (IsSubstitution g t n) out.items) is h) c.among_rows.ensures.exact }
