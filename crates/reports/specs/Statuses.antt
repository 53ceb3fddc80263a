-- The exit status of each ending.
-- Source: this project.
use Rattle.std.specs.Prelude.{ℕ, nat_lt, if◌then◌else◌}
use Rattle.reports.specs.declared.statuses.Status.{Status}
use Rattle.reports.specs.declared.statuses.Status.TheVariants.{Done, Missing, Usage, ReadFault, Spent, Memory, SourceFault, SinkFault, NoWorld}

abbrev pub status_code : Status → ℕ
status_code Done = 0
status_code Missing = 1
status_code Usage = 2
status_code ReadFault = 3
status_code Spent = 4
status_code Memory = 5
status_code SourceFault = 6
status_code SinkFault = 7
status_code NoWorld = 8

-- of two statuses the one with the greater code
abbrev pub greater : Status → Status → Status
greater one other = if nat_lt (status_code one) (status_code other) then other else one
