use Rattle.std.proofs.Common.{map, length, sym, ap, subst, subst₂}
use Rattle.word_terms.specs.Tree.{AreBelow}
use Rattle.axiom_base.specs.Schemes.{plain}
use Rattle.pattern_match.specs.Bindings.{IsSubstitution, AreMatches}
use Rattle.pattern_match.specs.Found.{classes_in}
use Rattle.pattern_match.specs.Listing.{Lists}
use Rattle.pattern_match.specs.Matches.{IsMatchOf}
use Rattle.pattern_match.proofs.Choosing.{lists_same}
use Rattle.pattern_match.proofs.Matching.{rule_below, rule_matched, matched_rule}
use Rattle.pattern_match.proofs.plain.matches.Goals as goal

pub substitutions-requires-clause-below : goal.substitutions-requires-clause-below
substitutions-requires-clause-below c =
    let r = c.args.rule.now in
    subst₂ (λ n t. AreBelow n t) (ap length (sym c.variables-variables.ensures.sorts)) (sym c.left.ensures) (rule_below r c.variables-variables.ensures.rule)

pub returns : goal.returns
returns c =
    let g = c.args.graph.now in
    let r = c.args.rule.now in
    let is = c.in_ok-tables.ensures.graph in
    let rule = c.variables-variables.ensures.rule in
    let out = c.in_ok-found.found.items in
    let matched = subst₂ (λ t n. AreMatches g t (IsSubstitution g t n) out) c.left.ensures (ap length c.variables-variables.ensures.sorts) c.in_ok-found.ensures.exact in
    let listed = lists_same (IsSubstitution g r.left (length r.variables)) (IsMatchOf g (plain r)) (map classes_in out) (rule_matched g is r rule) (matched_rule g is r rule) matched.lists in
    record { exact = subst (λ xs. Lists (IsMatchOf g (plain r)) (map classes_in xs)) (sym c.from.ensures) listed }
