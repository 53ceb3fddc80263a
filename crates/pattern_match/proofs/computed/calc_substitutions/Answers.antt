use Rattle.std.specs.Prelude.{IfOk}
use Rattle.std.proofs.Common.{◌≡◌, ◌+◌, sym, subst, subst₂, arith}
use Rattle.word_terms.specs.Tree.{AreBelow}
use Rattle.word_terms.specs.Sorting.{Occurs}
use Rattle.pattern_match.specs.Bindings.{IsSubstitution, AreMatches}
use Rattle.pattern_match.specs.Matches.{variables_of}
use Rattle.pattern_match.proofs.ComputedMatching.{left_occurs, left_below}
use Rattle.pattern_match.proofs.computed.calc_substitutions.Goals as goal
use Rattle.pattern_match.proofs.computed.calc_substitutions.Goals.{After-constants}

counted : (c : After-constants) → c.first_constant.result + c.constants.result ≡ variables_of c.args.kind
counted c = omega (arith, c.first_constant.ensures.number, c.constants.ensures.count)

pub substitutions-requires-clause-below : goal.substitutions-requires-clause-below
substitutions-requires-clause-below c =
    let law = c.computed_rules_are_true.ensures in
    subst₂ (λ n t. AreBelow n t) (sym (counted (goal.at.substitutions-requires-clause-below c).After-constants)) (sym c.in_ok-left.ensures.tree) (left_below law.usable law.last c.args.kind)

pub substitutions-requires-clause-all : goal.substitutions-requires-clause-all
substitutions-requires-clause-all c = λ n l.
    let law = c.computed_rules_are_true.ensures in
    let e = counted (goal.at.substitutions-requires-clause-all c).After-constants in
    subst (Occurs n) (sym c.in_ok-left.ensures.tree) (left_occurs law.usable law.last c.args.kind n (omega (arith, l, e)))

pub returns : goal.returns
returns c =
    let e = counted (goal.at.returns c).After-constants in
    subst₂ (λ t n. IfOk c.substitutions.result (λ found. AreMatches c.args.graph.now t (IsSubstitution c.args.graph.now t n) found.items)) c.in_ok-left.ensures.tree e c.substitutions.ensures.exact
