use Rattle.std.proofs.Common.{refl}
use Rattle.cycle_encoding.specs.Shapes.{numbered, shown}
use Rattle.cycle_encoding.proofs.Blocks.{AreExact}
use Rattle.cycle_encoding.proofs.Unshown.{shown-within}
use Rattle.slot_capacity.specs.Limits.{capacity_of}
use Rattle.slot_capacity.proofs.Keeping.{fitting-keeps}
use Rattle.slot_capacity.proofs.Suffices.{capacity-extends}
use Rattle.slot_capacity.proofs.laws.slots_suffice.Goals as goal

pub returns : goal.returns
returns c =
    let counters = c.counters_count.ensures in
    let exact : AreExact =
    λ old p lits h. (counters.say old p lits h, counters.over old p lits h, counters.size old p lits) in
    λ g table a k launches f v is_table well le fit.
    let ls = shown v (numbered 0 launches) in
    capacity-extends g ls (capacity_of g table a k launches)
    (fitting-keeps g table a k launches ls is_table fit (λ l h. shown-within v 0 launches l h)) exact launches f v
    le refl
