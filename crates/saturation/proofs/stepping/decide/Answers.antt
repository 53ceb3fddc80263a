use Rattle.std.proofs.Common.{true, false, ◌≡◌, ◌^◌, ◌-◌, ◌++◌, min, All, length, map, sym, ap, ◌∙◌, subst}
use Rattle.std.proofs.lemmas.List.{length-map}
use Rattle.std.proofs.lemmas.Option.{MatchOption-at_some, MatchOption-at_none}
use Rattle.axiom_base.specs.Equations as rows
use Rattle.axiom_base.specs.Rewrites.{IsRule}
use Rattle.axiom_base.specs.Schemes.{calc_kinds, schemes}
use Rattle.saturation.specs.Asking.{AreAsked, AreFound, AreUnmetOf, AreUnmetOfKind, StopFits, asked_of_all}
use Rattle.saturation.specs.Trace.{operators_asked}
use Rattle.saturation.specs.Instances.{asked_of}
use Rattle.saturation.proofs.LoopSteps.{end_fits, goes_on_with}
use Rattle.saturation.proofs.Searched.{all_are_asked, zip_length}
use Rattle.saturation.proofs.stepping.decide.Goals as goal
use Rattle.saturation.proofs.stepping.decide.Goals.{After-len, In-Some}

-- what the search found
found_is : (c : In-Some) → AreFound c.args.graph.now c.args.rules.now c.in-Some.unmet × All IsRule c.args.rules.now.axioms
    × (c.in-Some.unmet.need ≡ min (operators_asked (asked_of_all c.args.rules.now c.in-Some.unmet)) (2 ^ 64 - 1))
found_is c = MatchOption-at_some _ _ c.in-Some.unmet c.in-Some.is c.in_ok-unmet.ensures.found

pub ask-requires-clause-by_equation : goal.ask-requires-clause-by_equation
ask-requires-clause-by_equation c = zip_length (AreUnmetOf c.args.graph.now) rows.equations c.in-Some.unmet.equations.items (found_is (goal.at.ask-requires-clause-by_equation c).In-Some).0.equations

pub ask-requires-clause-by_axiom : goal.ask-requires-clause-by_axiom
ask-requires-clause-by_axiom c = zip_length (AreUnmetOf c.args.graph.now) c.args.rules.now.axioms c.in-Some.unmet.axioms.items (found_is (goal.at.ask-requires-clause-by_axiom c).In-Some).0.axioms

pub ask-requires-clause-by_kind : goal.ask-requires-clause-by_kind
ask-requires-clause-by_kind c = zip_length (AreUnmetOfKind c.args.graph.now) (calc_kinds ++ c.args.rules.now.kinds) c.in-Some.unmet.kinds.items (found_is (goal.at.ask-requires-clause-by_kind c).In-Some).0.kinds

are_asked : (c : After-len) → AreAsked c.args.graph.now (schemes c.args.rules.now) (map asked_of c.in_ok-asked.asked.items)
are_asked c =
    let g = c.args.graph.now in
    let added = c.args.rules.now in
    subst (AreAsked g (schemes added)) (sym c.in_ok-asked.ensures.asked) (all_are_asked c.schemes_are_true.ensures.weights g c.operators_are_listed.ensures.each c.matches_have_sorts.ensures.folds added c.in-Some.unmet (MatchOption-at_some _ _ c.in-Some.unmet c.in-Some.is c.in_ok-unmet.ensures.found).0)

count_is : (c : After-len) → c.len.result ≡ length (map asked_of c.in_ok-asked.asked.items)
count_is c = c.len.ensures ∙ c.in_ok-asked.asked.ok.0 ∙ sym (length-map c.in_ok-asked.asked.items asked_of)

need_is : (c : After-len) → c.in-Some.unmet.need ≡ min (operators_asked (map asked_of c.in_ok-asked.asked.items)) (2 ^ 64 - 1)
need_is c = (MatchOption-at_some _ _ c.in-Some.unmet c.in-Some.is c.in_ok-unmet.ensures.found).2 ∙ ap (λ xs. min (operators_asked xs) (2 ^ 64 - 1)) (sym c.in_ok-asked.ensures.asked)

pub returns-in_default : goal.returns-in_default
returns-in_default c =
    let none = MatchOption-at_none _ _ c.in_default.is c.in_ok-unmet.ensures.found in
    record { step = (none.0, c.if-last.false, none.1) }

pub returns-then-branch : goal.returns-then-branch
returns-then-branch c = record { step = c.in_ok-is_quiet.ensures.0 c.if-branch.true }

pub returns-then-last : goal.returns-then-last
returns-then-last c =
    let f : c.in_ok-is_quiet.field-0 ≡ false = c.if-branch.false in
    record { step = (λ q. (let t : c.in_ok-is_quiet.field-0 ≡ true = c.in_ok-is_quiet.ensures.1 q in absurd (cc)), c.if-last.true) }

pub returns-in-Some-stop_of : goal.returns-in-Some-stop_of
returns-in-Some-stop_of c =
    let k = (goal.at.returns-in-Some-stop_of c).After-len in
    let fits = MatchOption-at_some _ _ c.in-Some-stop_of.stop c.in-Some-stop_of.is c.stop_of.ensures in
    record { step = end_fits c.args.rules.now c.args.graph.now (map asked_of c.in_ok-asked.asked.items) (are_asked k) c.in-Some.unmet.need c.rows.result c.args.nodes c.args.last c.in-Some-stop_of.stop (need_is k) c.rows.ensures.value c.if-last.false (subst (λ n. StopFits n c.in-Some.unmet.need c.rows.result c.args.nodes c.in-Some-stop_of.stop) (count_is k) fits) }

pub returns : goal.returns
returns c =
    let k = (goal.at.returns c).After-len in
    let none = MatchOption-at_none _ _ c.in-None.is c.stop_of.ensures in
    record { step = goes_on_with c.args.rules.now c.args.graph.now c.args.last (map asked_of c.in_ok-asked.asked.items) c.in-Some.unmet.need c.rows.result c.args.nodes c.len.result (are_asked k) (count_is k) (need_is k) c.rows.ensures.value c.requires.nodes (found_is (goal.at.returns c).In-Some).1 c.if-last.false none }
