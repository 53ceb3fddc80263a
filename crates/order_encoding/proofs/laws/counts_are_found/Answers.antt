use Rattle.order_encoding.proofs.PartSteps.{all-vars, all-size}
use Rattle.order_encoding.proofs.Sized.{pins-vars, with-pins-size}
use Rattle.order_encoding.proofs.laws.counts_are_found.Goals as goal

pub returns : goal.returns
returns c =
    let cycles = c.cycle_counts_are_found.ensures in
    let size = c.counters_count.ensures.size in
    let capacity = c.capacity_is_counted.ensures in
    record {
      vars = λ g table k s. all-vars g table k s (capacity.vars g table k s) _ (pins-vars g table k s (cycles.vars g table k s));
      clauses = λ g table k s. all-size g table k s (capacity.clauses g table k s) _ (with-pins-size g table k s size (cycles.clauses g table k s));
    }
