-- How a run of the program ends, and what was written. Source: this project; `Appends` is std's.
use Rattle.std.specs.Prelude.{◌≡◌, ℕ, List, None, Some, codes}
use Rattle.std.specs.declared.option.Option.{Option}
use Rattle.std.specs.Io.KnownBytes.{Appends}
use Rattle.axiom_library.specs.declared.families.Family.{Family}
use Rattle.reports.specs.declared.statuses.Status.{Status}
use Rattle.reports.specs.declared.statuses.Status.TheVariants.{Done, Usage, Memory, SinkFault}
use Rattle.axiom_texts.specs.LibraryText.{library_text}

-- what is to be written for the families that the words ask for
abbrev pub output_of : Option (List Family) → List ℕ
output_of None = codes "usage\n"
output_of (Some families) = library_text families

-- and the status with which all of it is
abbrev pub status_for : Option (List Family) → Status
status_for None = Usage
status_for (Some families) = Done

-- a status under which all of the output is written
abbrev pub EndsWritten : Status → Type 0
EndsWritten Memory = ⊥
EndsWritten SinkFault = ⊥
EndsWritten _ = Unit {0}

-- a status with which the program ends
abbrev pub IsEndStatus : Status → Type 0
IsEndStatus Done = Unit {0}
IsEndStatus Usage = Unit {0}
IsEndStatus Memory = Unit {0}
IsEndStatus SinkFault = Unit {0}
IsEndStatus _ = ⊥

-- All of the output was written, and the run ended with its status.
pub record WritesReply (asked : Option (List Family)) (written written' : Option (List ℕ)) (status : Status) : Type 0 where
  pub status_is : status ≡ status_for asked
  pub appended : Appends written written' (output_of asked)
