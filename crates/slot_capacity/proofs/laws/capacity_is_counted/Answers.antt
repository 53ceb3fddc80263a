use Rattle.slot_capacity.specs.Limits.{capacity_in}
use Rattle.slot_capacity.proofs.CapacityTotals.{size-counted, vars-counted}
use Rattle.slot_capacity.proofs.CapacityVars.{has-vars}
use Rattle.slot_capacity.proofs.laws.capacity_is_counted.Goals as goal

pub returns : goal.returns
returns c =
    let size = c.counters_count.ensures.size in
    record {
      vars = λ g table k s f. vars-counted g table k s (capacity_in s g table k) (has-vars g table k s) f;
      clauses = λ g table k s f. size-counted g table k s (capacity_in s g table k) (has-vars g table k s) f size;
    }
