-- What the launches of a row need from other launches. At entry each input's class is there; the class of an input
-- whose register no launch writes is there always. No public clause rests on this. Source: this project.
use Rattle.std.specs.Prelude.{ℕ, ◌&&◌, Bool, not, List}
use Rattle.schedule_meaning.specs.Launches.{operands_at, IsClassOfInput}
use Rattle.schedule_meaning.specs.declared.schedules.Operand.{Operand}
use Rattle.graph_meaning.specs.declared.graphs.LaunchGraph.{LaunchGraph}
use Rattle.cycle_encoding.specs.Facts.{classes_among}
use Rattle.cycle_encoding.specs.Families.{is_free}
use Rattle.cycle_encoding.specs.Variables.{is_input}
use Rattle.cycle_encoding.specs.Variables.{is_safe}
use Rattle.cycle_encoding.specs.Narrow.{IsSafe}
use Rattle.cycle_encoding.specs.declared.operands.There.{There}
use Rattle.cycle_encoding.specs.declared.operands.There.TheVariants.{AtEntry, Always}

-- the class is there without a launch
abbrev pub IsThere : There → LaunchGraph → ℕ → Type 0
IsThere AtEntry g = IsClassOfInput g
IsThere Always g = IsSafe g

-- the same, as a test
abbrev pub is_there : There → LaunchGraph → ℕ → Bool
is_there AtEntry g class = is_input g class
is_there Always g class = is_safe g class

-- a launch needs the operand from another launch
abbrev pub is_lacked : There → LaunchGraph → Operand → Bool
is_lacked there g o = not (is_free g o) && not (is_there there g o.class)

-- the classes of those operands
abbrev pub lacked_among : There → LaunchGraph → List Operand → List ℕ
lacked_among there g os = classes_among (is_lacked there g) os

-- the classes that a launch of the row needs from other launches
abbrev pub needs_of : There → LaunchGraph → ℕ → List ℕ
needs_of there g row = lacked_among there g (operands_at g row)
