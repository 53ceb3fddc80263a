-- The clauses of registers and pins: which launches take a register of the pool, and what those that go to pinned sets
-- imply.
-- Source: this project.
use Rattle.std.specs.Prelude.{ℕ, ◌+◌, ◌==◌, ◌&&◌, Bool, false, not, List, [], ◌∷◌, ◌++◌, map, is_some, slice_get}
use Rattle.std.specs.Option.{option_map_or}
use Rattle.std.specs.List.{filter, flat_map, range_with_len}
use Rattle.cnf_core.specs.declared.literal.Lit.{Lit}
use Rattle.graph_meaning.specs.declared.graphs.LaunchGraph.{LaunchGraph}
use Rattle.schedule_meaning.specs.Launches.{goes_to, is_load, launches, overwrites, takes_pool}
use Rattle.schedule_meaning.specs.declared.schedules.Launch.{Launch}
use Rattle.cycle_encoding.specs.Shapes.{vars_of, implied, negated, when}
use Rattle.cycle_encoding.specs.Variables.{pinned_sets, overwriting_sets, Overwritten}
use Rattle.cycle_encoding.specs.Families.{takes_input}
use Rattle.order_encoding.specs.OrderVariables.{Taken}
use Rattle.order_encoding.specs.OrderFamilies.{is_taken_at}

-- ---- tests

abbrev pub is_overwritten_at : ℕ → ℕ → Overwritten → Bool
is_overwritten_at j cycle v = (v.set == j) && (v.cycle == cycle)

-- an input of the set's class has its pin, so that no launch need go to it
abbrev pub has_own_input : LaunchGraph → ℕ → Bool
has_own_input g j = option_map_or (λ s. takes_input g s.class j) (slice_get g.sets j) false

-- the pinned sets to which some launch has to go
abbrev pub unmet_sets : LaunchGraph → List ℕ
unmet_sets g = filter (λ j. not (has_own_input g j)) (pinned_sets g)

-- ---- registers: us are the slots and cycles whose launches take one

-- a launch to the pool that gives a word takes a register
abbrev pub takes_register : LaunchGraph → List (ℕ × Taken) → Launch → List (List Lit)
takes_register g us l = when (takes_pool g l) (vars_of (is_taken_at l.slot l.cycle) us ∷ [])

-- 15: each of them takes one
abbrev pub pool_clauses : LaunchGraph → List (ℕ × Launch) → List (ℕ × Taken) → List (List Lit)
pool_clauses g xs us = implied xs (λ l. takes_register g us l)

-- ---- pins: xs are the launches with their variables, vs what is overwritten, bs the cycles by which the branch was
-- launched

-- a launch to the set overwrites its register from the next cycle on
abbrev pub overwrites_next : List (ℕ × Overwritten) → ℕ → Launch → List (List Lit)
overwrites_next vs j l = when (goes_to j l) (vars_of (is_overwritten_at j (l.cycle + 1)) vs ∷ [])

-- what is overwritten below a cycle is so below the next
abbrev pub stays_overwritten : List (ℕ × Overwritten) → ℕ → ℕ → Overwritten → List (List Lit)
stays_overwritten vs j t v = when (is_overwritten_at j t v) (vars_of (is_overwritten_at j (t + 1)) vs ∷ [])

-- both of a set
abbrev pub set_clauses : ℕ → List (ℕ × Launch) → List (ℕ × Overwritten) → ℕ → List (List Lit)
set_clauses k xs vs j =
    implied xs (overwrites_next vs j) ++ flat_map (λ t. implied vs (stays_overwritten vs j t)) (range_with_len 0 k)

-- 17: both of each set whose pin is an input's register
abbrev pub overwritten_clauses : LaunchGraph → ℕ → List (ℕ × Launch) → List (ℕ × Overwritten) → List (List Lit)
overwritten_clauses g k xs vs = flat_map (set_clauses k xs vs) (overwriting_sets g)

-- 18: at most one launch goes to each pinned set
abbrev pub pin_groups : LaunchGraph → List (ℕ × Launch) → List (List Lit)
pin_groups g xs = map (λ j. vars_of (goes_to j) xs) (pinned_sets g)

-- 19: one does, where no input has the set's class and pin
abbrev pub pin_clauses : LaunchGraph → List (ℕ × Launch) → List (List Lit)
pin_clauses g xs = map (λ j. vars_of (goes_to j) xs) (unmet_sets g)

-- what overwrites comes when the branch has come
abbrev pub overwrites_after : LaunchGraph → List (ℕ × ℕ) → Launch → List (List Lit)
overwrites_after g bs l = when (overwrites g l) (vars_of (λ t. t == l.cycle) bs ∷ [])

-- 20: each launch that overwrites does
abbrev pub late_clauses : LaunchGraph → List (ℕ × Launch) → List (ℕ × ℕ) → List (List Lit)
late_clauses g xs bs = when (is_some g.guard) (implied xs (overwrites_after g bs))

-- a load that overwrites an input's register launches in no store's cycle: ws are the cycles in which there is a store
abbrev pub loads_alone : LaunchGraph → List (ℕ × ℕ) → Launch → List (List Lit)
loads_alone g ws l =
    when (launches g is_load l && overwrites g l) (negated (λ t. t == l.cycle) ws ∷ [])

-- 22: each such load does
abbrev pub load_clauses : LaunchGraph → List (ℕ × Launch) → List (ℕ × ℕ) → List (List Lit)
load_clauses g xs ws = implied xs (loads_alone g ws)
