use Rattle.std.proofs.Common.{◌-◌, ◌^◌, map, arith}
use Rattle.std.proofs.lemmas.List.{length-map}
use Rattle.axiom_base.specs.Schemes.{plain}
use Rattle.pattern_match.specs.Found.{classes_in}
use Rattle.pattern_match.specs.Matches.{IsUnmetOf}
use Rattle.pattern_match.proofs.Choosing.{all_up_to}
use Rattle.pattern_match.proofs.plain.unmet.Goals as goal

pub returns : goal.returns
returns c =
    let found = c.in_ok-found.found in
    record { exact = all_up_to (IsUnmetOf c.args.graph.now (plain c.args.rule.now)) (2 ^ 64 - 1) (map classes_in found) (let e = length-map found classes_in in let n = c.len-count.type_inv in omega (arith, e, n, c.len-count.ensures)) c.in_ok-found.ensures.found }
