-- The clauses of registers by live ranges: which classes are needed when, and which launches hold a register.
-- Source: this project, over the live ranges of register allocation.
use Rattle.std.specs.Prelude.{ℕ, ◌+◌, ◌-◌, ◌==◌, ◌&&◌, Bool, not, List, [], ◌∷◌, ◌++◌, map}
use Rattle.std.specs.List.{filter, range_with_len}
use Rattle.cnf_core.specs.declared.literal.Lit.{Lit}
use Rattle.graph_meaning.specs.declared.graphs.LaunchGraph.{LaunchGraph}
use Rattle.graph_meaning.specs.declared.graphs.SetClass.{SetClass}
use Rattle.schedule_meaning.specs.Launches.{class_at, operands_at, takes_pool}
use Rattle.schedule_meaning.specs.declared.schedules.Launch.{Launch}
use Rattle.schedule_meaning.specs.declared.schedules.Operand.{Operand}
use Rattle.cycle_encoding.specs.Shapes.{implied, negated, vars_of, when}
use Rattle.cycle_encoding.specs.Families.{is_free, is_lost, is_made_target}
use Rattle.cycle_encoding.specs.Variables.{Overwritten}
use Rattle.order_encoding.specs.LiveVariables.{Hold, Need, is_pooled}

-- ---- tests

abbrev pub is_need_at : ℕ → ℕ → Need → Bool
is_need_at class cycle n = (n.class == class) && (n.cycle == cycle)

abbrev pub is_hold_at : ℕ → ℕ → ℕ → Hold → Bool
is_hold_at slot start cycle h = (h.slot == slot) && ((h.start == start) && (h.cycle == cycle))

-- ---- families: xs are the launches with their variables, ns what is needed, hs which registers are held, vs what is
-- overwritten

-- the operand needs a register, and a launch to the pool may give its class
abbrev pub is_pooled_operand : LaunchGraph → List (ℕ × Launch) → Operand → Bool
is_pooled_operand g xs o = not (is_free g o) && is_pooled g xs o.class

-- these operands are needed in a cycle
abbrev pub operands_needed : LaunchGraph → List (ℕ × Launch) → List (ℕ × Need) → ℕ → List Operand → List (List Lit)
operands_needed g xs ns cycle os = map (λ o. vars_of (is_need_at o.class cycle) ns) (filter (is_pooled_operand g xs) os)

abbrev pub operand_needs : LaunchGraph → List (ℕ × Launch) → List (ℕ × Need) → Launch → List (List Lit)
operand_needs g xs ns l = operands_needed g xs ns l.cycle (operands_at g l.row)

-- 15: the operands of a launch are needed in its cycle
abbrev pub need_clauses : LaunchGraph → List (ℕ × Launch) → List (ℕ × Need) → List (List Lit)
need_clauses g xs ns = implied xs (operand_needs g xs ns)

-- what is needed in a cycle was needed in the one before
abbrev pub was_needed : List (ℕ × Need) → Need → List (List Lit)
was_needed ns n = when (not (n.cycle == 0)) (vars_of (is_need_at n.class (n.cycle - 1)) ns ∷ [])

abbrev pub earlier_clauses : List (ℕ × Need) → List (List Lit)
earlier_clauses ns = implied ns (was_needed ns)

-- the class of a target without a pin that has to be made, and that a launch to the pool may give, is needed in the last
-- cycle, or an input of the class is never overwritten
abbrev pub is_pooled_target : LaunchGraph → List (ℕ × Launch) → SetClass → Bool
is_pooled_target g xs s = is_made_target g s && is_pooled g xs s.class

abbrev pub target_needs : LaunchGraph → ℕ → List (ℕ × Need) → List (ℕ × Overwritten) → SetClass → List Lit
target_needs g k ns vs s = vars_of (is_need_at s.class (k - 1)) ns ++ negated (is_lost g s.class k) vs

abbrev pub target_groups : LaunchGraph → ℕ → List (ℕ × Launch) → List (ℕ × Need) → List (ℕ × Overwritten)
    → List SetClass → List (List Lit)
target_groups g k xs ns vs sets = map (target_needs g k ns vs) (filter (is_pooled_target g xs) sets)

abbrev pub last_need_clauses : LaunchGraph → ℕ → List (ℕ × Launch) → List (ℕ × Need) → List (ℕ × Overwritten)
    → List (List Lit)
last_need_clauses g k xs ns vs = target_groups g k xs ns vs g.sets

-- a launch to the pool that gives a word holds a register in a later cycle in which its class is needed
abbrev pub holds_while : LaunchGraph → List (ℕ × Need) → List (ℕ × Hold) → Launch → ℕ → List Lit
holds_while g ns hs l t =
    negated (is_need_at (class_at g l.row) t) ns ++ vars_of (is_hold_at l.slot l.cycle t) hs

-- in its own cycle it holds one
abbrev pub holds_register : LaunchGraph → ℕ → List (ℕ × Need) → List (ℕ × Hold) → Launch → List (List Lit)
holds_register g k ns hs l =
    when
    (takes_pool g l)
    (vars_of (is_hold_at l.slot l.cycle l.cycle) hs
    ∷ map (holds_while g ns hs l) (range_with_len (l.cycle + 1) (k - (l.cycle + 1))))

abbrev pub hold_clauses : LaunchGraph → ℕ → List (ℕ × Launch) → List (ℕ × Need) → List (ℕ × Hold) → List (List Lit)
hold_clauses g k xs ns hs = implied xs (holds_register g k ns hs)

-- 16: in each cycle at most as many registers are held as the pool has
abbrev pub hold_groups : ℕ → List (ℕ × Hold) → List (List Lit)
hold_groups k hs = map (λ t. vars_of (λ h. h.cycle == t) hs) (range_with_len 0 k)
