-- The clauses of memory, of a guard's branch, and of registers. Each family is a function of the things that have
-- variables, by what each of these things implies. Source: this project.
use Rattle.std.specs.Prelude.{ℕ, ◌+◌, ◌==◌, ◌&&◌, ◌||◌, nat_le, Bool, not, List, [], ◌∷◌, ◌++◌, map, is_some}
use Rattle.std.specs.List.{flat_map, range_with_len}
use Rattle.cnf_core.specs.declared.literal.Lit.{Lit}
use Rattle.graph_meaning.specs.Graphs.{memory_target}
use Rattle.schedule_meaning.specs.Launches.{launches, is_load, is_store, is_branch, class_at}
use Rattle.schedule_meaning.specs.Launches.{memory_class_at, is_held}
use Rattle.graph_meaning.specs.declared.graphs.LaunchGraph.{LaunchGraph}
use Rattle.schedule_meaning.specs.declared.schedules.Launch.{Launch}
use Rattle.cycle_encoding.specs.Shapes.{vars_of, implied, when}
use Rattle.cycle_encoding.specs.Families.{any}
use Rattle.order_encoding.specs.OrderVariables.{Held, Taken}

-- ---- tests

abbrev pub is_held_at : ℕ → ℕ → Held → Bool
is_held_at class cycle m = (m.class == class) && (m.cycle == cycle)

abbrev pub stores_at : LaunchGraph → ℕ → Launch → Bool
stores_at g cycle l = launches g is_store l && (l.cycle == cycle)

abbrev pub uses_memory : LaunchGraph → Launch → Bool
uses_memory g l = launches g is_load l || launches g is_store l

abbrev pub branches_by : LaunchGraph → ℕ → Launch → Bool
branches_by g cycle l = launches g is_branch l && nat_le l.cycle cycle

-- the launch may come in no earlier cycle than the branch
abbrev pub waits : LaunchGraph → Launch → Bool
waits g l = launches g is_store l || (launches g is_load l && is_held g)

abbrev pub is_taken_at : ℕ → ℕ → Taken → Bool
is_taken_at slot cycle u = (u.slot == slot) && (u.cycle == cycle)

-- ---- memory: xs are the launches with their variables, ms what is held, ws the cycles in which there is a store

-- a memory that isn't the one at entry isn't held at first
abbrev pub not_at_entry : LaunchGraph → Held → List (List Lit)
not_at_entry g m = when ((m.cycle == 0) && not (m.class == g.entry)) ([] ∷ [])

-- 5: the memory at entry is held at first, and no other
abbrev pub entry_clauses : LaunchGraph → List (ℕ × Held) → List (List Lit)
entry_clauses g ms = vars_of (is_held_at g.entry 0) ms ∷ implied ms (λ m. not_at_entry g m)

-- a load or store uses the memory that is held
abbrev pub uses_held : LaunchGraph → List (ℕ × Held) → Launch → List (List Lit)
uses_held g ms l = when (uses_memory g l) (vars_of (is_held_at (memory_class_at g l.row) l.cycle) ms ∷ [])

-- a store leaves its own, and there is a store in its cycle
abbrev pub leaves : LaunchGraph → List (ℕ × Held) → List (ℕ × ℕ) → Launch → List (List Lit)
leaves g ms ws l =
    when (launches g is_store l)
    (vars_of (is_held_at (class_at g l.row) (l.cycle + 1)) ms ∷ vars_of (λ t. t == l.cycle) ws ∷ [])

-- 6: both of each launch
abbrev pub memory_clauses : LaunchGraph → List (ℕ × Launch) → List (ℕ × Held) → List (ℕ × ℕ) → List (List Lit)
memory_clauses g xs ms ws = implied xs (λ l. uses_held g ms l ++ leaves g ms ws l)

-- there is a store in a cycle where its variable says so
abbrev pub store_clause : LaunchGraph → List (ℕ × Launch) → ℕ → ℕ → List (List Lit)
store_clause g xs t c = when (c == t) (vars_of (stores_at g t) xs ∷ [])

-- what is held in a cycle is held in the next, or there is a store
abbrev pub stays : List (ℕ × Held) → List (ℕ × ℕ) → ℕ → Held → List (List Lit)
stays ms ws t m = when (m.cycle == t) ((vars_of (λ c. c == t) ws ++ vars_of (is_held_at m.class (t + 1)) ms) ∷ [])

-- both of a cycle
abbrev pub kept_at : LaunchGraph → List (ℕ × Launch) → List (ℕ × Held) → List (ℕ × ℕ) → ℕ → List (List Lit)
kept_at g xs ms ws t = implied ws (store_clause g xs t) ++ implied ms (stays ms ws t)

-- 7: in each cycle there is a store, or what is held stays
abbrev pub kept_clauses : LaunchGraph → ℕ → List (ℕ × Launch) → List (ℕ × Held) → List (ℕ × ℕ)
    → List (List Lit)
kept_clauses g k xs ms ws = flat_map (λ t. kept_at g xs ms ws t) (range_with_len 0 k)

-- 8 and 9: at most one memory is held at a time, and at most one store is in a cycle
abbrev pub held_groups : ℕ → List (ℕ × Held) → List (List Lit)
held_groups k ms = map (λ t. vars_of (λ m. m.cycle == t) ms) (range_with_len 0 (k + 1))

abbrev pub store_groups : LaunchGraph → ℕ → List (ℕ × Launch) → List (List Lit)
store_groups g k xs = map (λ t. vars_of (stores_at g t) xs) (range_with_len 0 k)

-- 10: the memory of the target is held at the end
abbrev pub last_memory_clauses : LaunchGraph → ℕ → List (ℕ × Held) → List (List Lit)
last_memory_clauses g k ms = vars_of (is_held_at (memory_target g) k) ms ∷ []

-- ---- the branch of a guard: bs are the cycles by which it was launched

-- 11: there is a branch
abbrev pub branch_clauses : LaunchGraph → List (ℕ × Launch) → List (List Lit)
branch_clauses g xs = when (is_some g.guard) (vars_of (launches g is_branch) xs ∷ [])

-- 12: there is at most one
abbrev pub branch_groups : LaunchGraph → List (ℕ × Launch) → List (List Lit)
branch_groups g xs = when (is_some g.guard) (vars_of (launches g is_branch) xs ∷ [])

-- what waits comes when the branch has come
abbrev pub comes_after : LaunchGraph → List (ℕ × ℕ) → Launch → List (List Lit)
comes_after g bs l = when (waits g l) (vars_of (λ t. t == l.cycle) bs ∷ [])

-- 13: each launch that waits does
abbrev pub wait_clauses : LaunchGraph → List (ℕ × Launch) → List (ℕ × ℕ) → List (List Lit)
wait_clauses g xs bs = when (is_some g.guard) (implied xs (λ l. comes_after g bs l))

-- 14: the branch has come where it was launched by then
abbrev pub come_clauses : LaunchGraph → List (ℕ × Launch) → List (ℕ × ℕ) → List (List Lit)
come_clauses g xs bs = when (is_some g.guard) (implied bs (λ t. vars_of (branches_by g t) xs ∷ []))

-- ---- registers: us are the slots and cycles whose launches take one

-- 16: at most as many registers are taken as the pool has
abbrev pub register_groups : List (ℕ × Taken) → List (List Lit)
register_groups us = vars_of any us ∷ []
