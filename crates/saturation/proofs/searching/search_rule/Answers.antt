use Rattle.std.proofs.Common.{◌≡◌, ◌-◌, ◌^◌, min, length, map, ap, ◌∙◌, arith}
use Rattle.std.proofs.lemmas.List.{length-map}
use Rattle.word_terms.specs.OperatorsIn.{operators_in}
use Rattle.axiom_base.specs.Schemes.{plain}
use Rattle.pattern_match.specs.Found.{classes_in}
use Rattle.pattern_match.specs.Matches.{IsUnmetOf}
use Rattle.saturation.proofs.Needed.{rule_over, whole}
use Rattle.saturation.proofs.searching.search_rule.Goals as goal

pub returns-then-len-most-clause-found : goal.returns-then-len-most-clause-found
returns-then-len-most-clause-found c =
    let g = c.args.graph.now in
    let r = c.args.rule.now in
    let found = c.in_ok-found.found in
    let weight : c.operators.result ≡ min (operators_in r.right) (2 ^ 64 - 1) = c.operators.ensures ∙ ap (λ t. min (operators_in t) (2 ^ 64 - 1)) c.right.ensures in
    let over = c.most_within-most.ensures (length found) (omega (arith, c.len.ensures, c.len.type_inv)) (omega (arith, c.if-len-most.true, c.len.ensures)) in
    rule_over g c.requires.graph r found c.most_within-most.result c.args.room c.operators.result c.in_ok-found.ensures.found (omega (arith, weight)) over

pub returns-else-len-most-clause-found : goal.returns-else-len-most-clause-found
returns-else-len-most-clause-found c =
    let found = c.in_ok-found.found in
    record {
      exact = whole (IsUnmetOf c.args.graph.now (plain c.args.rule.now)) c.most_within-most.result (map classes_in found) c.in_ok-found.ensures.found (omega (arith, c.if-len-most.false, c.len.ensures, length-map found classes_in));
      each = c.in_ok-found.ensures.each;
    }
