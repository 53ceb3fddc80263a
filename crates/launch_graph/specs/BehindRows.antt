-- The lines of a graph behind its rows: what is read of them, and when the first fault is among them. No public clause
-- rests on this. Source: this project.
use Rattle.std.specs.Prelude.{ℕ, ◌≡◌, ◌≢◌, ◌+◌, ◌<◌, ◌≤◌, ◌^◌, List, [], ◌∷◌, ◌++◌, length, map, codes, All, IfSome, Option, None, Some}
use Rattle.word_ops.specs.declared.sorts.Sort.{Sort}
use Rattle.word_ops.specs.declared.sorts.Sort.TheVariants as sorts
use Rattle.text_core.specs.Faults.{IsFaultBy}
use Rattle.text_core.specs.Lines.{Line, line_at, line_word}
use Rattle.text_core.specs.LineTexts.{Words, SaysNone}
use Rattle.text_core.specs.declared.faults.TextFault.{TextFault}
use Rattle.launch_graph.specs.declared.behind_rows.BehindRows.{BehindRows}
use Rattle.launch_graph.specs.declared.class_marks.Mark.{Mark}
use Rattle.graph_meaning.specs.declared.graphs.InputClass.{InputClass}
use Rattle.graph_meaning.specs.declared.graphs.Guard.{Guard}
use Rattle.graph_meaning.specs.declared.graphs.SetClass.{SetClass}
use Rattle.launch_graph.specs.declared.row_lines.RowLine.{RowLine}
use Rattle.launch_graph.specs.ClassMarks.{AreMarks}
use Rattle.launch_graph.specs.CleanLines.{IsClean}
use Rattle.launch_graph.specs.GraphLines.{entry_words, in_words, pool_words, guard_lines, set_words, SetFits}
use Rattle.launch_graph.specs.GraphStages.{Stage, InputFits, IsNewPin, Low, pins_among}
use Rattle.launch_graph.specs.GraphStages as stages
use Rattle.launch_graph.specs.GraphTexts.{EndsGraph}
use Rattle.launch_graph.specs.LineFaults.{IsFirstFaultOf}
use Rattle.launch_graph.specs.LineFormats.{words_between, words_from}
use Rattle.launch_graph.specs.LineReading.{IsEntryLine, IsInputLine, IsPoolLine, IsGuardLine, IsSetLine}
use Rattle.launch_graph.specs.RowFaults.{IsWrongClass}
use Rattle.graph_meaning.specs.Graphs.{HaveOwnPins}
use Rattle.graph_meaning.specs.WellFormed.{set_sort}

-- Whatever rows have these marks, the class isn't wrong where this sort is wanted.
abbrev pub IsRight : List Mark → Sort → ℕ → Type 0
IsRight marks sort class =
    (all : List RowLine) → AreMarks (length marks) all marks → IsWrongClass (length marks) all sort class → ⊥

-- Up to a line a graph has no fault, all its rows are read, and its lines have come to this stage.
pub record IsCleanBehindRows (version : ℕ) (lines : List Line) (from : ℕ) (all : List RowLine) (marks : List Mark)
    (at : ℕ) (stage : Stage) : Type 0 where
  pub clean : IsClean version lines from (length marks) all all at stage
  pub full : length all ≡ length marks
  pub marks_are : AreMarks (length marks) all marks

-- Wherever a graph began whose lines have come to this stage at this line, the fault is its first in the version.
abbrev pub IsFaultBehindOf : ℕ → List Line → List Mark → ℕ → Stage → TextFault → Type 0
IsFaultBehindOf version lines marks at stage fault =
    (from : ℕ) (all : List RowLine) → IsCleanBehindRows version lines from all marks at stage
    → IsFaultBy (IsFirstFaultOf version lines from) fault

-- and so in each version
abbrev pub IsFaultBehind : List Line → List Mark → ℕ → Stage → TextFault → Type 0
IsFaultBehind lines marks at stage fault = (version : ℕ) → IsFaultBehindOf version lines marks at stage fault

-- ---- one line

pub record IsEntryAt (lines : List Line) (marks : List Mark) (at class : ℕ) : Type 0 where
  pub within : at < length lines
  pub is : IsEntryLine (line_at lines at).words class
  pub right : IsRight marks sorts.Memory class

pub record IsInputAt (lines : List Line) (marks : List Mark) (at : ℕ) (i : InputClass) : Type 0 where
  pub is : IsInputLine (line_at lines at).words i
  pub right : IsRight marks sorts.Word i.class

pub record IsPoolAt (lines : List Line) (at : ℕ) (pool : List ℕ) : Type 0 where
  pub within : at < length lines
  pub is : IsPoolLine (line_at lines at).words pool

pub record IsGuardAt (lines : List Line) (marks : List Mark) (at : ℕ) (o : Guard) : Type 0 where
  pub within : at < length lines
  pub is : IsGuardLine (line_at lines at).words o
  pub right : IsRight marks sorts.Word o.class

-- its pin is none of these
pub record IsSetAt (version : ℕ) (lines : List Line) (marks : List Mark) (at : ℕ) (pins : List ℕ) (s : SetClass)
    : Type 0 where
  pub is : IsSetLine version (line_at lines at).words s
  pub pin : IsNewPin pins s.pin
  pub right : IsRight marks (set_sort s.name) s.class

-- a line, if there is one, is no input's, or doesn't begin as that of a guard
abbrev pub HasNoInput : List Line → ℕ → Type 0
HasNoInput lines at = at < length lines → SaysNone IsInputLine (line_at lines at).words

abbrev pub HasNoGuard : List Line → ℕ → Type 0
HasNoGuard lines at = at < length lines → line_word lines at 0 ≢ codes "guard"

-- where a target may stand: behind the guard or targets with these pins, or behind the pool where there is no guard
pub data TakesSets (lines : List Line) (at : ℕ) : List ℕ → Stage → Type 0 where
  targets : {pins : List ℕ} → TakesSets lines at pins (stages.sets pins)
  no_guard : HasNoGuard lines at → TakesSets lines at [] stages.behind_pool

-- ---- lines of one kind, one after another

pub record AreInputsAt (lines : List Line) (marks : List Mark) (first next : ℕ) (inputs : List InputClass)
    : Type 0 where
  pub order : first ≤ next
  pub within : next ≤ length lines
  pub words : words_between lines first next ≡ map in_words inputs
  pub fit : All InputFits inputs
  pub right : All (λ (i : InputClass). IsRight marks sorts.Word i.class) inputs
  pub behind : (version from : ℕ) (all : List RowLine)
      → IsCleanBehindRows version lines from all marks first stages.inputs
      → IsCleanBehindRows version lines from all marks next stages.inputs

-- a graph has come to a line where a target may stand, with these pins
pub record CanTakeSets (version : ℕ) (lines : List Line) (from : ℕ) (all : List RowLine) (marks : List Mark) (at : ℕ)
    (pins : List ℕ) : Type 0 where
  pub stage : Stage
  pub takes : TakesSets lines at pins stage
  pub behind : IsCleanBehindRows version lines from all marks at stage

pub record AreSetsAt (version : ℕ) (lines : List Line) (marks : List Mark) (first next : ℕ) (sets : List SetClass)
    : Type 0 where
  pub order : first ≤ next
  pub within : next ≤ length lines
  pub words : words_between lines first next ≡ map set_words sets
  pub fit : All (SetFits version) sets
  pub own_pins : HaveOwnPins sets
  pub right : All (λ (s : SetClass). IsRight marks (set_sort s.name) s.class) sets
  pub behind : (from : ℕ) (all : List RowLine) → CanTakeSets version lines from all marks first []
      → CanTakeSets version lines from all marks next (pins_among sets)

-- ---- all of them

-- the line behind that of the guard, where there is one
abbrev pub line_after_guard : Option Guard → ℕ → ℕ
line_after_guard None line = line
line_after_guard (Some o) line = line + 1

abbrev pub behind_words : BehindRows → List Words
behind_words b =
    entry_words b.entry
    ∷ (map in_words b.inputs ++ (pool_words b.pool ∷ (guard_lines b.guard ++ map set_words b.sets)))

-- The lines from one on are these, their classes are right, and the graph ends before the line `next`.
pub record IsReadBehind (version : ℕ) (lines : List Line) (marks : List Mark) (first next : ℕ) (b : BehindRows) : Type 0 where
  pub order : first ≤ next
  pub within : next ≤ length lines
  pub words : words_between lines first next ≡ behind_words b
  pub entry : (b.entry < 2 ^ 31) × IsRight marks sorts.Memory b.entry
  pub inputs : All InputFits b.inputs × All (λ (i : InputClass). IsRight marks sorts.Word i.class) b.inputs
  pub pool : All Low b.pool
  pub guard : IfSome b.guard (λ (o : Guard). (o.class < 2 ^ 31) × IsRight marks sorts.Word o.class)
  pub sets : All (SetFits version) b.sets × All (λ (s : SetClass). IsRight marks (set_sort s.name) s.class) b.sets
  pub own_pins : HaveOwnPins b.sets
  pub ends : EndsGraph (words_from lines next)
