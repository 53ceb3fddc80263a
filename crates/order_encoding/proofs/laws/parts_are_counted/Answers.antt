use Rattle.cycle_encoding.specs.Counts.{cycle_size, cycle_vars}
use Rattle.order_encoding.proofs.PartSteps.{size_added, vars_added}
use Rattle.order_encoding.proofs.Sized.{memory-vars, guard-vars, pool-vars, pins-vars, with-memory-size, with-guard-size, with-pool-size, with-pins-size}
use Rattle.order_encoding.proofs.laws.parts_are_counted.Goals as goal

pub returns : goal.returns
returns c =
    let cycles = c.cycle_counts_are_found.ensures in
    let size = c.counters_count.ensures.size in
    let whole = c.counts_are_found.ensures in
    record {
      memory_vars = λ g table k s. memory-vars g table k s (cycles.vars g table k s);
      vars = λ p g table k s. vars_added g table k s (cycle_vars g table k s) (cycles.vars g table k s) (memory-vars g table k s (cycles.vars g table k s)) (guard-vars g table k s (cycles.vars g table k s)) (pool-vars g table k s (cycles.vars g table k s)) (pins-vars g table k s (cycles.vars g table k s)) (whole.vars g table k s) p;
      clauses = λ p g table k s. size_added g table k s (cycle_size g table k s) (cycles.clauses g table k s) (with-memory-size g table k s size (cycles.clauses g table k s)) (with-guard-size g table k s size (cycles.clauses g table k s)) (with-pool-size g table k s size (cycles.clauses g table k s)) (with-pins-size g table k s size (cycles.clauses g table k s)) (whole.clauses g table k s) p;
    }
