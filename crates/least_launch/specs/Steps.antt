-- What the clauses for fewer launches come to, in a step of the search. No public clause rests on this. Source: this
-- project.
use Rattle.std.specs.Prelude.{ℕ, ◌+◌, ◌≤◌, List, length}
use Rattle.graph_meaning.specs.declared.graphs.LaunchGraph.{LaunchGraph}
use Rattle.machine_table.specs.declared.tables.Table.{Table}
use Rattle.schedule_meaning.specs.Fits.{Fits}
use Rattle.schedule_meaning.specs.declared.schedules.Allocation.{Allocation}
use Rattle.schedule_meaning.specs.declared.schedules.Launch.{Launch}
use Rattle.schedule_meaning.specs.declared.schedules.Schedule.{Schedule}
use Rattle.least_launch.specs.Fewest.{IsProof}
use Rattle.least_launch.specs.declared.results.Proof.{Proof}
use Rattle.least_launch.specs.declared.searching.Step.{Step}
use Rattle.least_launch.specs.declared.searching.Step.TheVariants as steps

-- a schedule with at most n launches, or what shows that one with n + 1 has the fewest, or that this isn't known
abbrev pub IsStep : LaunchGraph → Table → Allocation → ℕ → ℕ → ℕ → Step → Type 0
IsStep g table a k conflicts n (steps.Fewer schedule) =
    Fits g table a k schedule.launches × (length schedule.launches ≤ n)
IsStep g table a k conflicts n (steps.Ended proof) = IsProof g table a k conflicts (n + 1) proof

-- where the steps ended: a schedule with at most as many launches as the given one, and what stands beside it
pub record IsStepsEnd (g : LaunchGraph) (table : Table) (a : Allocation) (k conflicts : ℕ) (given : List Launch)
    (schedule : Schedule) (proof : Proof) : Type 0 where
  pub fits : Fits g table a k schedule.launches
  pub no_more : length schedule.launches ≤ length given
  pub proof_is : IsProof g table a k conflicts (length schedule.launches) proof
