-- What the steps of the encoder of memory, guards and registers look up. No public clause rests on this. Source: this
-- project.
use Rattle.std.specs.Prelude.{◌≡◌, ℕ, ◌+◌, ◌-◌, length, Bool, List, map, Option, None, Some, if◌then◌else◌, ◌*◌, ◌==◌, not}
use Rattle.std.specs.Prelude.{◌<◌, [], ◌∷◌, ◌++◌, IsTrue}
use Rattle.std.specs.List.{flat_map, filter, range_with_len, sum_by}
use Rattle.machine_table.specs.declared.tables.InstrKind.{InstrKind}
use Rattle.graph_meaning.specs.WellFormed.{next_class}
use Rattle.graph_meaning.specs.declared.graphs.LaunchGraph.{LaunchGraph}
use Rattle.schedule_meaning.specs.Launches.{launches, goes_to}
use Rattle.schedule_meaning.specs.declared.schedules.Launch.{Launch}
use Rattle.cycle_encoding.specs.Shapes.{numbered, implied, negative, positive, vars_of, when}
use Rattle.order_encoding.specs.OrderVariables.{Held, is_memory_class, memory_classes}
use Rattle.order_encoding.specs.LiveVariables.{Hold, Need, is_pooled, pooled_classes}
use Rattle.order_encoding.specs.LiveFamilies.{is_hold_at}
use Rattle.cnf_core.specs.declared.literal.Lit.{Lit}
use Rattle.cnf_core.specs.Counter.{at_most_size}
use Rattle.machine_table.specs.declared.tables.Table.{Table}
use Rattle.cycle_encoding.specs.Counts.{one_if}
use Rattle.cycle_encoding.specs.CycleFormula.{Scope}
use Rattle.cycle_encoding.specs.Variables.{is_overwriting}
use Rattle.order_encoding.specs.PinFamilies.{has_own_input}
use Rattle.order_encoding.specs.OrderCounts.{goes_count}

-- ---- launches of a kind

-- those whose instruction passes the test, with their variables
unfoldable pub launched_in : LaunchGraph → (InstrKind → Bool) → List Launch → List (ℕ × Launch)
launched_in g test ls = filter (λ p. launches g test p.1) (numbered 0 ls)

-- ---- what is held

abbrev pub held_at : ℕ → ℕ → Held
held_at class cycle = record { class = class; cycle = cycle }

-- what is held of a class in the first n cycles
abbrev pub class_held : ℕ → ℕ → List Held
class_held n class = map (held_at class) (range_with_len 0 n)

-- and of several classes
abbrev pub classes_held : ℕ → List ℕ → List Held
classes_held n classes = flat_map (class_held n) classes

-- how many are held of classes below this one, where it is a memory's
abbrev pub held_before : LaunchGraph → ℕ → ℕ → Option ℕ
held_before g n class =
    if is_memory_class g class
    then Some (length (classes_held n (filter (is_memory_class g) (range_with_len 0 class))))
    else None

-- the classes of memories, and how many are held before each class in the cycles up to k
pub record AreHeldVars (g : LaunchGraph) (k : ℕ) (classes : List ℕ) (starts : List (Option ℕ)) : Type 0 where
  pub classes_are : classes ≡ memory_classes g
  pub starts_are : starts ≡ map (held_before g (k + 1)) (range_with_len 0 (next_class g.rows))

-- ---- clauses: the variables of the set's cycles from 0 to k are those after `before`

-- a launch to the set overwrites its register from the next cycle on
abbrev pub next_in_set : ℕ → ℕ → ℕ → Launch → List (List Lit)
next_in_set k before j l =
    when (goes_to j l) (vars_of (λ t. t == l.cycle + 1) (numbered before (range_with_len 0 (k + 1))) ∷ [])

-- what is overwritten below a cycle is so below the next
abbrev pub stays_in_set : ℕ → ℕ → List Lit
stays_in_set before t = negative (before + t + 1) ∷ positive (before + t + 2) ∷ []

-- both
abbrev pub clauses_in_set : ℕ → List (ℕ × Launch) → ℕ → ℕ → List (List Lit)
clauses_in_set k xs before j =
    implied xs (next_in_set k before j) ++ map (stays_in_set before) (range_with_len 0 k)

-- ---- counts

-- its counter; what it overwrites, if that is an input's register; and that some launch goes to it, where one has to
abbrev pub set_size : LaunchGraph → Table → ℕ → Scope → ℕ → ℕ
set_size g table k s j =
    at_most_size 1 (goes_count g table k s j)
    + one_if (is_overwriting g j) * (goes_count g table k s j + k)
    + one_if (not (has_own_input g j))

-- ---- live ranges

abbrev pub need_at : ℕ → ℕ → Need
need_at class cycle = record { class = class; cycle = cycle }

-- what is needed of a class in the first cycles, and of several classes
abbrev pub class_needs : ℕ → ℕ → List Need
class_needs k class = map (need_at class) (range_with_len 0 k)

-- how many are needed of pooled classes below this one, where it is one
abbrev pub needs_before : LaunchGraph → ℕ → List (ℕ × Launch) → ℕ → Option ℕ
needs_before g k xs class =
    if is_pooled g xs class
    then Some (length (flat_map (class_needs k) (filter (is_pooled g xs) (range_with_len 0 class))))
    else None

-- the pooled classes, and how many are needed before each class
pub record AreNeedVars (g : LaunchGraph) (k : ℕ) (xs : List (ℕ × Launch)) (classes : List ℕ)
    (starts : List (Option ℕ)) : Type 0 where
  pub classes_are : classes ≡ pooled_classes g xs
  pub starts_are : starts ≡ map (needs_before g k xs) (range_with_len 0 (next_class g.rows))
  pub within : (class : ℕ) → IsTrue (is_pooled g xs class) → class < next_class g.rows

-- what is needed in a cycle behind the first was needed in the one before; the variables of a class's cycles are those
-- after `before`
abbrev pub needed_before : ℕ → ℕ → List Lit
needed_before before t = negative (before + t + 1) ∷ positive (before + t) ∷ []

-- how many cycles there are from each of the starts below this one to the last
abbrev pub starts_before : ℕ → ℕ → ℕ
starts_before k start = sum_by (λ f. k - f) (range_with_len 0 start)

-- the variables of what the launches of a slot hold in a cycle, by their starts up to it
abbrev pub slot_lits : ℕ → List (ℕ × Hold) → ℕ → List Lit
slot_lits cycle hs slot = flat_map (λ start. vars_of (is_hold_at slot start cycle) hs) (range_with_len 0 (cycle + 1))
