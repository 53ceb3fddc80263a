-- Launches in their own order are by cycle, slot, row and where they go.
use Rattle.std.proofs.Common.{◌≡◌, ◌+◌, Bool, true, false, cond, List, get_or, refl, sym}
use Rattle.std.specs.Prelude.{◌==◌, ◌&&◌, ◌||◌, nat_lt}
use Rattle.std.specs.List.Sorted.{IsSorted, IsSortedBy}
use Rattle.std.specs.Ordering.{is_lt, nat_cmp, ordering_then}
use Rattle.std.specs.declared.cmp.Ordering.{Ordering}
use Rattle.std.specs.declared.cmp.Ordering.TheVariants.{Less, Equal, Greater}
use Rattle.std.proofs.lemmas.Bool.{false≢true}
use Rattle.schedule_meaning.specs.declared.schedules.Launch.{Launch}
use Rattle.schedule_meaning.specs.declared.schedules.To.{To}
use Rattle.schedule_meaning.specs.declared.schedules.To.TheVariants.{Pool, Set}
use Rattle.schedule_meaning.specs.contracts.schedules.LaunchOrd.TheImpl as of_launches
use Rattle.schedule_meaning.specs.contracts.schedules.ToOrd.TheImpl as of_destinations
use Rattle.schedule_reader.specs.LaunchOrder.{goes_before, comes_before}

-- of two numbers and what decides where they are the same
by_first : (less same : Bool) (rest : Ordering) (later : Bool) → (is_lt rest ≡ false → later ≡ false)
    → is_lt (ordering_then (cond less Less (cond same Equal Greater)) rest) ≡ false → (less || (same && later)) ≡ false
by_first true same rest later f h = absurd (false≢true (sym h))
by_first false true rest later f h = f h
by_first false false rest later f h = refl

by_last : (less same : Bool) → is_lt (cond less Less (cond same Equal Greater)) ≡ false → less ≡ false
by_last true same h = absurd (false≢true (sym h))
by_last false same h = refl

goes_not : (a b : To) → is_lt (of_destinations.ghosts.cmp a b) ≡ false → goes_before a b ≡ false
goes_not Pool Pool h = refl
goes_not (Set i) Pool h = refl
goes_not Pool (Set j) h = absurd (false≢true (sym h))
goes_not (Set i) (Set j) h = by_last (nat_lt i j) (i == j) h

falls_not : (l m : Launch)
    → is_lt (ordering_then (nat_cmp l.cycle m.cycle)
    (ordering_then (nat_cmp l.slot m.slot)
    (ordering_then (nat_cmp l.row m.row) (of_destinations.ghosts.cmp l.to m.to)))) ≡ false → comes_before l m ≡ false
falls_not l m h =
    let by_to : Ordering = of_destinations.ghosts.cmp l.to m.to in
    let by_row : Ordering = ordering_then (nat_cmp l.row m.row) by_to in
    let by_slot : Ordering = ordering_then (nat_cmp l.slot m.slot) by_row in
    let later_row = nat_lt l.row m.row || ((l.row == m.row) && goes_before l.to m.to) in
    by_first (nat_lt l.cycle m.cycle) (l.cycle == m.cycle) by_slot
    (nat_lt l.slot m.slot || ((l.slot == m.slot) && later_row))
    (λ slot. by_first (nat_lt l.slot m.slot) (l.slot == m.slot) by_row later_row
    (λ row. by_first (nat_lt l.row m.row) (l.row == m.row) by_to (goes_before l.to m.to) (goes_not l.to m.to) row)
    slot) h

pub sorted_by_numbers : (ls : List Launch) → IsSorted of_launches.ghosts.cmp ls → IsSortedBy comes_before ls
sorted_by_numbers ls h k d le lt =
    let l : Launch = get_or ls (k + 1) d in
    let m : Launch = get_or ls k d in
    falls_not l m (h k d le lt)
