-- What the program can do. Source: this project.
use Rattle.std.specs.Prelude.{◌≤◌}
use Rattle.text_core.specs.Limits.{most_goals}
use Rattle.schedule_meaning.specs.Limits.{most_cycles}
use Rattle.denali_run.specs.MatchedGoals.{IsSettings}
pub use Rattle.denali_cli.specs.declared.commands.Command.{Command}
pub use Rattle.denali_cli.specs.declared.commands.Command.TheVariants.{Solve, SolveLeast, Proc, Check, CheckLeast, Trim, Verify, Run, Gen, Cnf, Lift, Improve, ImproveLeast, Cycles}

-- its numbers are within their limits
abbrev pub HasValuesInRange : Command → Type 0
HasValuesInRange (Solve s) = IsSettings s
HasValuesInRange (SolveLeast s) = IsSettings s
HasValuesInRange (Proc s) = IsSettings s
HasValuesInRange Check = Unit {0}
HasValuesInRange CheckLeast = Unit {0}
HasValuesInRange Trim = Unit {0}
HasValuesInRange (Verify rounds nodes library) = (rounds ≤ 16) × ((1 ≤ nodes) × (nodes ≤ 4096))
HasValuesInRange Run = Unit {0}
HasValuesInRange (Gen size) = (1 ≤ size) × (size ≤ 20)
HasValuesInRange (Cnf goal cycles) = ((1 ≤ goal) × (goal ≤ most_goals)) × (cycles ≤ most_cycles)
HasValuesInRange Lift = Unit {0}
HasValuesInRange (Improve s) = IsSettings s
HasValuesInRange (ImproveLeast s) = IsSettings s
HasValuesInRange (Cycles cycles conflicts) = (cycles ≤ most_cycles) × ((1 ≤ conflicts) × (conflicts ≤ 1000000))
