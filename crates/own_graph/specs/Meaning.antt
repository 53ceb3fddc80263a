-- What the launch graph of words says of running them: wherever they don't trap its rows are true, and its sets are
-- what the words leave. Source: this project, over the launch graphs of Denali (PLDI 2002); the Alpha Architecture
-- Handbook, version 4, for what running words does.
use Rattle.std.specs.Prelude.{◌≡◌, ℕ, List, slice_get, slice_index, Some}
use Rattle.word_ops.specs.Worlds.{IsWorld, Value, World, memory, word}
use Rattle.alpha_machine.specs.States.{MachineState}
use Rattle.alpha_machine.specs.Runs.{Runs}
use Rattle.alpha_machine.specs.declared.running.End.TheVariants.{Fall}
use Rattle.graph_meaning.specs.Graphs.{IsTrueUnder, memory_target}
use Rattle.graph_meaning.specs.declared.graphs.LaunchGraph.{LaunchGraph}
use Rattle.graph_meaning.specs.declared.graphs.SetClass.{SetClass}
use Rattle.code_check.specs.Outcomes.{entry_state}
use Rattle.code_lift.specs.Promises.{TrapsOnTheWay}

-- the words run to their end; under some values of classes every row is true, and the classes of the sets have the
-- memory and the words that are left
pub record SaysWhatRuns (words : List ℕ) (g : LaunchGraph) (world : World) : Type 0 where
  pub state : MachineState
  pub runs : Runs words (entry_state world) Fall state
  pub value : ℕ → Value
  pub is_true : IsTrueUnder g world value
  pub memory_is : value (memory_target g) ≡ memory state.memory
  pub registers : (i r : ℕ) (s : SetClass) → slice_get g.sets i ≡ Some s → s.pin ≡ Some r
      → value s.class ≡ word (slice_index state.registers r)

-- so in each world in which the words don't trap
abbrev pub IsTrueOf : List ℕ → LaunchGraph → Type 0
IsTrueOf words g = (world : World) → IsWorld world → ¬ TrapsOnTheWay words world → SaysWhatRuns words g world
