-- The order of a schedule that is read off.
-- Source: this project.
use Rattle.std.specs.Prelude.{◌==◌, ◌&&◌, ◌||◌, nat_lt, Bool, true, false}
use Rattle.schedule_meaning.specs.declared.schedules.Launch.{Launch}
use Rattle.schedule_meaning.specs.declared.schedules.To.{To}
use Rattle.schedule_meaning.specs.declared.schedules.To.TheVariants.{Pool, Set}

-- the pool first, then sets by their numbers
abbrev pub goes_before : To → To → Bool
goes_before Pool (Set j) = true
goes_before (Set i) (Set j) = nat_lt i j
goes_before _ Pool = false

-- by cycle, then by slot, then by row, then by where they go
abbrev pub comes_before : Launch → Launch → Bool
comes_before l m =
    nat_lt l.cycle m.cycle
    || ((l.cycle == m.cycle)
    && (nat_lt l.slot m.slot
    || ((l.slot == m.slot) && (nat_lt l.row m.row || ((l.row == m.row) && goes_before l.to m.to)))))
