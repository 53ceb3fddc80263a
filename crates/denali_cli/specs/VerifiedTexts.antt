-- What is written of a text of codes, and with which status. Source: this project.
use Rattle.std.specs.Prelude.{◌≡◌, ℕ, Bool, List, if◌then◌else◌}
use Rattle.axiom_library.specs.declared.libraries.Library.{Library}
use Rattle.code_check.specs.Replies.{IsTold}
use Rattle.reports.specs.declared.statuses.Status.{Status}
use Rattle.reports.specs.declared.statuses.Status.TheVariants.{Done, Missing, NoWorld}

-- the status where some code isn't known to be its goal, or some goal holds in no world
abbrev pub told_status : Bool → Bool → Status
told_status unknown no_world = if no_world then NoWorld else if unknown then Missing else Done

-- The text reads as codes, each has a line with an answer that is right, the bytes are these lines, and the status is
-- the greatest that they ask for.
pub record VerifiesText (rounds nodes : ℕ) (library : Library) (text bytes : List ℕ) (status : Status) : Type 0 where
  pub unknown : Bool
  pub no_world : Bool
  pub told : IsTold text rounds nodes library bytes unknown no_world
  pub status_is : status ≡ told_status unknown no_world
