-- How a run of the program ends: what its words and its input decide, and what of that was written.
-- Source: this project; `Keeps` and `Appends` are std's.
use Rattle.std.specs.Prelude.{◌≡◌, ℕ, List, [], None, Some, IsSome}
use Rattle.std.specs.declared.option.Option.{Option}
use Rattle.std.specs.Io.KnownBytes.{Keeps, Appends}
use Rattle.outside_io.specs.Putting.{AppendsFront}
use Rattle.outside_io.specs.Taking.{IsRead, TakesWithin}
use Rattle.reports.specs.declared.statuses.Status.{Status}
use Rattle.reports.specs.declared.statuses.Status.TheVariants.{Done, Missing, Spent, NoWorld, Usage, Memory, SourceFault, SinkFault}
use Rattle.denali_cli.specs.Commands.{Command}
use Rattle.denali_cli.specs.Replies.{limit_of, IsWithinLimit, usage_line, Reply, Reports}

-- what a command reads to the end, if it reads; `left` and `left'` are what the source has left before and after
abbrev pub ReadsWithin : Option ℕ → Option (List ℕ) → Option (List ℕ) → List ℕ → Type 0
ReadsWithin None left left' text = Keeps left left' × (text ≡ [])
ReadsWithin (Some limit) left left' text = IsRead limit left left' text

-- What the words and the input decide: which bytes are to be written, and the status.
abbrev pub Decides : Option Command → Option (List ℕ) → Option (List ℕ) → List ℕ → Status → Type 0
Decides None left left' output status = Keeps left left' × (output ≡ usage_line) × (status ≡ Usage)
Decides (Some command) left left' output status =
    (text : List ℕ) × ReadsWithin (limit_of command) left left' text × Reply command text output status

-- the words ask for a command that reads
abbrev pub IsReader : Option Command → Type 0
IsReader None = ⊥
IsReader (Some command) = IsSome (limit_of command)

-- nothing was read, and no read failed
abbrev pub IsUnread : Option (List ℕ) → Option (List ℕ) → ℕ → ℕ → Type 0
IsUnread left left' before now = Keeps left left' × (now ≡ before)

-- what is taken for a command, whatever the status: nothing where it doesn't read, and else at most a byte more than
-- its limit
abbrev pub TakesFor : Option ℕ → Option (List ℕ) → Option (List ℕ) → Type 0
TakesFor None left left' = Keeps left left'
TakesFor (Some limit) left left' = TakesWithin limit left left'

-- and without a command nothing
abbrev pub Takes : Option Command → Option (List ℕ) → Option (List ℕ) → Type 0
Takes None left left' = Keeps left left'
Takes (Some command) left left' = TakesFor (limit_of command) left left'

-- a status under which all of the output is written
abbrev pub IsWhole : Status → Type 0
IsWhole Memory = ⊥
IsWhole SourceFault = ⊥
IsWhole SinkFault = ⊥
IsWhole _ = Unit {0}

-- All of the output was written, and the run ended with its status.
pub record WritesAll (said : Option Command) (left left' written written' : Option (List ℕ))
    (status : Status) : Type 0 where
  pub output : List ℕ
  pub decided : Decides said left left' output status
  pub appended : Appends written written' output

-- A front of the output was written, whatever its status would have been.
pub record WritesFront (said : Option Command) (left left' written written' : Option (List ℕ)) : Type 0 where
  pub output : List ℕ
  pub status : Status
  pub decided : Decides said left left' output status
  pub appended : AppendsFront written written' output

-- a status that reports: the input was read, and the command's work on it was done
abbrev pub IsReported : Status → Type 0
IsReported Done = Unit {0}
IsReported Missing = Unit {0}
IsReported Spent = Unit {0}
IsReported NoWorld = Unit {0}
IsReported _ = ⊥

-- The input is within the command's limit, and the command's report on it was written: for `solve` the lines of right
-- results of its goals, and with the flag what is said of their launches; for `proc` the results of its blocks and their
-- linked words; for `check` the lines of the verdicts on an answer, and with the flag on what is said behind it; for
-- `trim` the answer with its refutations trimmed or the line of a rejected goal; for `verify` the lines of codes; for
-- `run` how its program ends; for `gen` the line of a right result of its goal; for `cnf` the clauses of a goal in an
-- answer; for `lift` the goals of its lifts, for `improve` the lines of their right results, whose words do what the
-- given ones do, and for `cycles` the line of each lift.
pub record Works (command : Command) (left left' written written' : Option (List ℕ)) (status : Status) : Type 0 where
  pub text : List ℕ
  pub bytes : List ℕ
  pub read : ReadsWithin (limit_of command) left left' text
  pub within : IsWithinLimit command text
  pub reports : Reports command text bytes status
  pub appended : Appends written written' bytes
