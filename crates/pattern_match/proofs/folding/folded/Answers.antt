use Rattle.std.proofs.Common.{◌≡◌, List, ℕ, [], length, Option, sym, ap, ◌∙◌, subst}
use Rattle.std.specs.Prelude.{IfOk, MatchOption, Result}
use Rattle.std.specs.declared.alloc.AllocError.{AllocError}
use Rattle.std.proofs.lemmas.Option.{MatchOption-at_some, MatchOption-at_none}
use Rattle.word_ops.specs.Operators.{value_of}
use Rattle.word_ops.specs.declared.sorts.Op.TheVariants.{Constant}
use Rattle.egraph.specs.Graph.{HasRow}
use Rattle.pattern_match.specs.Matches.{IsUnmetFold, HaveConstants}
use Rattle.pattern_match.proofs.FoldSteps.{no_constants, counted, one_row, unmet_fold, met_fold}
use Rattle.pattern_match.proofs.folding.folded.Goals as goal
use Rattle.pattern_match.proofs.folding.folded.Goals.{After-deref, After-apply-value, in_default-class_of-2, in_default-class_of}

have : (c : After-deref) → HaveConstants c.args.graph.now c.args.row.now.operands c.in-Some.words.items
have c = subst (λ cs. HaveConstants c.args.graph.now cs c.in-Some.words.items) c.as_slice.ensures (MatchOption-at_some _ _ c.in-Some.words c.in-Some.is c.in_ok-words.ensures.exact)

value_is : (c : After-apply-value) → c.apply-value.result ≡ value_of c.in-Word.op c.in-Some.words.items
value_is c = c.apply-value.ensures ∙ ap (value_of c.in-Word.op) c.deref.ensures.value

pub returns-in_default-2 : goal.returns-in_default-2
returns-in_default-2 c =
    let g = c.args.graph.now in
    no_constants g c.requires.graph c.constants_are_numbered.ensures.numbers c.args.row.now
    (subst (λ cs. (ws : List ℕ) → HaveConstants g cs ws → ⊥) c.as_slice.ensures (MatchOption-at_none _ _ c.in_default-2.is c.in_ok-words.ensures.exact))

pub apply-value-requires : goal.apply-value-requires
apply-value-requires c =
    ap length c.deref.ensures.value
    ∙ counted c.args.graph.now c.requires.graph c.constants_are_numbered.ensures.numbers c.args.row.now c.requires.row c.in-Word.op c.in-Word.is c.in-Some.words.items (have (goal.at.apply-value-requires c).After-deref)

pub returns-in-Some-class_of : goal.returns-in-Some-class_of
returns-in-Some-class_of c =
    let g = c.args.graph.now in
    let row = c.args.row.now in
    let is = value_is (goal.at.returns-in-Some-class_of c).After-apply-value in
    let has = subst (HasRow g.rows (Constant c.apply-value.result) []) c.if-class-row.true c.in-Some-class_of.ensures.row in
    met_fold g c.requires.graph c.constants_are_numbered.ensures.numbers row c.requires.row c.in-Word.op c.in-Word.is c.in-Some.words.items (have (goal.at.returns-in-Some-class_of c).After-deref)
    (subst (λ v. HasRow g.rows (Constant v) [] row.class) is has)

pub returns : goal.returns
returns c =
    let g = c.args.graph.now in
    let row = c.args.row.now in
    let value = c.apply-value.result in
    let is = value_is (goal.at.returns c).After-apply-value in
    let P = λ (r : Result (Option ℕ) AllocError). IfOk r (λ found. MatchOption found ((v : ℕ) → ¬ IsUnmetFold g row v) (IsUnmetFold g row)) in
    let unmet : ¬ HasRow g.rows (Constant value) [] row.class → IsUnmetFold g row value =
    λ none. subst (IsUnmetFold g row) (sym is)
    (unmet_fold g c.requires.graph c.constants_are_numbered.ensures.numbers row c.requires.row c.in-Word.op c.in-Word.is c.in-Some.words.items (have (goal.at.returns c).After-deref)
    (λ has. none (subst (λ v. HasRow g.rows (Constant v) [] row.class) (sym is) has))) in
    elim c.match-class_of.branch [
      | in_default-class_of-2 w ↦ subst P (sym w.result-is) (unmet (λ has. w.if-class-row.false (one_row g c.requires.graph w.in-Some-class_of.ensures.row has)))
      | in_default-class_of w ↦ subst P (sym w.result-is) (unmet (λ has. w.in_default-class_of.ensures.row row.class has))
    ]
