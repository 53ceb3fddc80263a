use Rattle.std.proofs.Common.{◌<◌}
use Rattle.std.specs.List.{All}
use Rattle.order_encoding.proofs.OrderNarrowed.{finds_memory, pinned_rules_of, pinned_fits_kept}
use Rattle.order_encoding.proofs.laws.launches_without_variables_may_go.Goals as goal

pub returns : goal.returns
returns c =
    let cycles = c.cycle_clauses_say_rules.ensures in
    let parts = c.parts_keep_rules.ensures in
    record {
      fits = λ g table a k e ls t w n f.
          let rules = pinned_rules_of g table a k ls f in
          let found = finds_memory g table a k ls f in
          let placed = cycles.places g table a k ls t rules in
          let below : All (λ l. l.cycle < k) ls = λ i d lt. (placed i d lt).1 in
          pinned_fits_kept g table a k ls f below n.keep (parts.kept g table a k e ls t w n rules found) (parts.rules g table a k e ls t w n rules found);
      listed = λ g table a k e ls t w n f. parts.listed g table a k e ls t w n (pinned_rules_of g table a k ls f) (finds_memory g table a k ls f);
    }
