-- The clauses of cycles, slots and values. An operand or a target may be read of an input's register as long as no launch
-- has overwritten it. Source: this project, over Denali (PLDI 2002).
use Rattle.std.specs.Prelude.{ℕ, ◌==◌, ◌&&◌, ◌||◌, nat_le, Bool, true, List, [], ◌∷◌, map, length, false, not, ◌++◌}
use Rattle.std.specs.Prelude.{is_some}
use Rattle.std.specs.List.{flat_map, range_with_len, filter, list_any}
use Rattle.cnf_core.specs.declared.literal.Lit.{Lit}
use Rattle.graph_meaning.specs.Graphs.{is_zero_class, is_memory_name}
use Rattle.schedule_meaning.specs.Launches.{gives, ready_in, operands_at, reads_until, pin_of}
use Rattle.schedule_meaning.specs.declared.schedules.Operand.{Operand}
use Rattle.machine_table.specs.declared.tables.Table.{Table}
use Rattle.graph_meaning.specs.declared.graphs.LaunchGraph.{LaunchGraph}
use Rattle.schedule_meaning.specs.declared.schedules.Launch.{Launch}
use Rattle.cycle_encoding.specs.Shapes.{vars_of, implied, negated}
use Rattle.cycle_encoding.specs.Variables.{is_byte, Seen}
use Rattle.std.specs.Option.{option_map_or}
use Rattle.machine_table.specs.Tables.{cluster_of}
use Rattle.schedule_meaning.specs.declared.schedules.To.TheVariants.{Set}
use Rattle.graph_meaning.specs.declared.graphs.SetClass.{SetClass}
use Rattle.cycle_encoding.specs.Variables.{is_safe, Overwritten}

-- ---- tests

abbrev pub any : {X : Type 0} → X → Bool
any x = true

abbrev pub is_at : ℕ → ℕ → Launch → Bool
is_at slot cycle l = (l.slot == slot) && (l.cycle == cycle)

abbrev pub is_free : LaunchGraph → Operand → Bool
is_free g o = is_zero_class g o.class || (o.second && is_byte g o.class)

abbrev pub is_seen : ℕ → ℕ → ℕ → Seen → Bool
is_seen class cluster cycle d = (d.class == class) && ((d.cluster == cluster) && (d.cycle == cycle))

-- the launch gives the class, and it is ready in the cluster at the cycle
abbrev pub makes : LaunchGraph → Table → Seen → Launch → Bool
makes g table d l = gives g d.class l && nat_le (ready_in g table d.cluster l) d.cycle

-- ---- families: xs are the launches with their variables, ds what is seen

-- 3: what is seen was made
abbrev pub seen_clauses : LaunchGraph → Table → List (ℕ × Launch) → List (ℕ × Seen) → List (List Lit)
seen_clauses g table xs ds = implied ds (λ d. vars_of (makes g table d) xs ∷ [])

-- 4: at most one launch in each slot and cycle
abbrev pub slot_row : ℕ → ℕ → List (ℕ × Launch) → List (List Lit)
slot_row slot k xs = map (λ t. vars_of (is_at slot t) xs) (range_with_len 0 k)

abbrev pub slot_rows : ℕ → ℕ → List (ℕ × Launch) → List (List Lit)
slot_rows slots k xs = flat_map (λ s. slot_row s k xs) (range_with_len 0 slots)

abbrev pub slot_groups : Table → ℕ → List (ℕ × Launch) → List (List Lit)
slot_groups table k xs = slot_rows (length table.slots) k xs

-- ---- tests

-- the operand has to be made by a launch, or read before an input's register is overwritten
abbrev pub is_made : LaunchGraph → Operand → Bool
is_made g o = not (is_free g o) && not (is_safe g o.class)

-- the same of a target without a pin
abbrev pub is_made_target : LaunchGraph → SetClass → Bool
is_made_target g s =
    not (is_memory_name s.name)
    && (not (is_some s.pin) && (not (is_safe g s.class) && not (is_zero_class g s.class)))

-- an input of the class has this register
abbrev pub is_input_at : LaunchGraph → ℕ → ℕ → Bool
is_input_at g class r = list_any (λ i. (i.class == class) && (i.reg == r)) g.inputs

-- the set is pinned to the register of an input of the class
abbrev pub takes_input : LaunchGraph → ℕ → ℕ → Bool
takes_input g class j = option_map_or (is_input_at g class) (pin_of g (Set j)) false

-- the launch itself goes to such a set, so that no other does
abbrev pub reads_own : LaunchGraph → Launch → Operand → Bool
reads_own g l o = option_map_or (is_input_at g o.class) (pin_of g l.to) false

-- the operand has to be seen, or read of an input's register that another launch overwrites
abbrev pub is_needed : LaunchGraph → Launch → Operand → Bool
is_needed g l o = is_made g o && not (reads_own g l o)

-- an input's register of the class was overwritten below the cycle
abbrev pub is_lost : LaunchGraph → ℕ → ℕ → Overwritten → Bool
is_lost g class cycle v = takes_input g class v.set && (v.cycle == cycle)

-- ---- families: xs are the launches with their variables, ds what is seen, vs what is overwritten

-- each target without a pin that has to be made is made, or an input of its class is never overwritten
abbrev pub target_clauses : LaunchGraph → ℕ → List (ℕ × Launch) → List (ℕ × Overwritten) → List (List Lit)
target_clauses g k xs vs =
    map (λ s. vars_of (gives g s.class) xs ++ negated (is_lost g s.class k) vs) (filter (is_made_target g) g.sets)

-- the clause that a launch sees an operand, or that an input of its class isn't overwritten yet
abbrev pub operand_clause : LaunchGraph → Table → List (ℕ × Seen) → List (ℕ × Overwritten) → Launch → Operand
    → List Lit
operand_clause g table ds vs l o =
    vars_of (is_seen o.class (cluster_of table l.slot) l.cycle) ds ++ negated (is_lost g o.class (reads_until g l)) vs

-- each operand that a launch needs is seen, or an input of its class isn't overwritten yet
abbrev pub operand_clauses : LaunchGraph → Table → List (ℕ × Launch) → List (ℕ × Seen) → List (ℕ × Overwritten)
    → List (List Lit)
operand_clauses g table xs ds vs =
    implied xs (λ l. map (operand_clause g table ds vs l) (filter (is_needed g l) (operands_at g l.row)))
