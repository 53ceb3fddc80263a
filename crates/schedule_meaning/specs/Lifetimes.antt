-- At which cycles a class is needed, and so how long launches keep their registers of the pool. Source: this project,
-- over the live ranges of register allocation: a register is free in the cycle behind the last launch that reads its
-- word.
use Rattle.std.specs.Prelude.{ℕ, ◌==◌, ◌&&◌, ◌||◌, nat_le, nat_lt, Bool, not, is_some, List, None}
use Rattle.std.specs.List.{list_any}
use Rattle.graph_meaning.specs.Graphs.{is_memory_name, is_zero_class}
use Rattle.schedule_meaning.specs.Launches.{class_at, is_free, operands_at, takes_pool}
use Rattle.schedule_meaning.specs.Readers.{input_where, is_intact}
use Rattle.graph_meaning.specs.declared.graphs.SetClass.{SetClass}
use Rattle.graph_meaning.specs.declared.graphs.LaunchGraph.{LaunchGraph}
use Rattle.schedule_meaning.specs.declared.schedules.Allocation.{Allocation}
use Rattle.schedule_meaning.specs.declared.schedules.Allocation.TheVariants.{Block, Live}
use Rattle.schedule_meaning.specs.declared.schedules.Launch.{Launch}
use Rattle.schedule_meaning.specs.declared.schedules.Operand.{Operand}

-- the operand is of the class, and isn't free
abbrev pub is_operand_of : LaunchGraph → ℕ → Operand → Bool
is_operand_of g class o = (o.class == class) && not (is_free g o)

-- the launch has the class as a word operand that isn't free
abbrev pub reads_class : LaunchGraph → ℕ → Launch → Bool
reads_class g class l = list_any (is_operand_of g class) (operands_at g l.row)

-- some launch in cycle t or later, the branch included, reads the class
abbrev pub is_read_from : LaunchGraph → List Launch → ℕ → ℕ → Bool
is_read_from g ls t class = list_any (λ l. nat_le t l.cycle && reads_class g class l) ls

-- the set is a word target of the class, without a pin
abbrev pub is_unpinned_of : ℕ → SetClass → Bool
is_unpinned_of class s = (s.class == class) && (not (is_memory_name s.name) && not (is_some s.pin))

-- the class is that of a word target without a pin, and neither the zero class nor of an input whose register no launch
-- writes
abbrev pub is_wanted : LaunchGraph → List Launch → ℕ → Bool
is_wanted g ls class =
    list_any (is_unpinned_of class) g.sets
    && (not (is_zero_class g class) && not (is_some (input_where g (is_intact g ls None) class)))

-- the class is needed at cycle t
abbrev pub is_needed : LaunchGraph → List Launch → ℕ → ℕ → Bool
is_needed g ls t class = is_read_from g ls t class || is_wanted g ls class

-- the launch holds a register of the pool at cycle t: at each cycle; or at its own, and at each later one at which its
-- class is needed
abbrev pub holds : LaunchGraph → Allocation → List Launch → ℕ → Launch → Bool
holds g Block ls t l = takes_pool g l
holds g Live ls t l = takes_pool g l && ((l.cycle == t) || (nat_lt l.cycle t && is_needed g ls t (class_at g l.row)))
