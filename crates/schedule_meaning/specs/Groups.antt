-- The parts of a cycle, by number.
-- Source: this project.
use Rattle.std.specs.Prelude.{ℕ}
use Rattle.schedule_meaning.specs.declared.schedules.Group.{Group}
use Rattle.schedule_meaning.specs.declared.schedules.Group.TheVariants.{Free, Branch, HeldLoad, Store, Overwriting}

abbrev pub group_number : Group → ℕ
group_number Free = 0
group_number Branch = 1
group_number HeldLoad = 2
group_number Store = 3
group_number Overwriting = 4
