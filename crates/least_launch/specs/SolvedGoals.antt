-- What becomes of a goal's result where a schedule with the fewest launches is looked for; no public clause rests on it
-- alone. Source: this project.
use Rattle.std.specs.Prelude.{◌≡◌, ℕ, ◌<◌, ◌≤◌, ◌^◌, All, Option, Some, None}
use Rattle.schedule_meaning.specs.Limits.{most_cycles}
use Rattle.denali_run.specs.declared.results.Answered.{Answered}
use Rattle.denali_run.specs.declared.results.Answered.TheVariants.{Scheduled}
use Rattle.denali_run.specs.declared.results.Found.{Found}
use Rattle.graph_meaning.specs.WellFormed.{IsLaunchGraph}
use Rattle.machine_table.specs.declared.tables.Table.{Table}
use Rattle.register_assign.specs.Assigned.{IsTheListing, KeepsWord}
use Rattle.register_assign.specs.Outcomes.{AreWordsOf}
use Rattle.schedule_meaning.specs.Fits.{Fits}
use Rattle.schedule_meaning.specs.declared.schedules.Allocation.{Allocation}
use Rattle.least_launch.specs.LeastAnswers.{IsSaidOf}
use Rattle.least_launch.specs.declared.tails.Tail.{Tail}

-- the result has a schedule that fits, in as many cycles as may be asked for
pub record CanLessen (table : Table) (a : Allocation) (f : Found) : Type 0 where
  pub graph : IsLaunchGraph f.matched.graph
  pub few : f.k ≤ most_cycles
  pub fits : Fits f.matched.graph table a f.k f.schedule.launches

-- The new result differs from the old one in its schedule, its listing and its words alone. They belong together, and
-- this is said of the schedule.
pub record IsLessened (table : Table) (a : Allocation) (conflicts : ℕ) (old new : Found) (tail : Tail) : Type 0 where
  pub is : new ≡ record old { schedule = new.schedule; listing = new.listing; words = new.words }
  pub fits : Fits old.matched.graph table a old.k new.schedule.launches
  pub listing : IsTheListing old.matched.graph table a new.schedule.launches new.listing.items new.listing.wheres
  pub words : AreWordsOf new.listing.items new.words
  pub low : All (λ word. word < 2 ^ 32) new.words
  pub keeps : KeepsWord old.matched.graph table old.k new.listing.items new.listing.wheres
  pub said : IsSaidOf table a conflicts new tail

-- results with a schedule can be lessened
abbrev pub MayLessen : Table → Allocation → Answered → Type 0
MayLessen table a (Scheduled f) = CanLessen table a f
MayLessen table a answered = Unit {0}

-- a result with a schedule is lessened, and every other stays
abbrev pub IsWithFewest : Table → Allocation → ℕ → Answered → Answered → Option Tail → Type 0
IsWithFewest table a conflicts (Scheduled old) (Scheduled new) (Some tail) = IsLessened table a conflicts old new tail
IsWithFewest table a conflicts (Scheduled old) new tail = ⊥
IsWithFewest table a conflicts old new None = new ≡ old
IsWithFewest table a conflicts old new (Some tail) = ⊥
