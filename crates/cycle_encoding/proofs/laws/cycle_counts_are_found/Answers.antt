use Rattle.cycle_encoding.proofs.PinnedTotals.{pinned-cycle-vars, pinned-cycle-size}
use Rattle.cycle_encoding.proofs.laws.cycle_counts_are_found.Goals as goal

pub returns : goal.returns
returns c =
    record {
      vars = pinned-cycle-vars;
      clauses = λ g table k s. pinned-cycle-size g table k s c.counters_count.ensures.size;
    }
