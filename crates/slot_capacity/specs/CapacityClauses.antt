-- The clauses of capacity: each due class is launched by its deadline, and no more of them than there are slots.
-- Source: this project.
use Rattle.std.specs.Prelude.{ℕ, ◌+◌, ◌-◌, ◌==◌, ◌&&◌, min, nat_le, Bool, false, List, [], ◌∷◌, ◌++◌, length, map, Option, option_map, find}
use Rattle.std.specs.Option.{option_map_or}
use Rattle.std.specs.List.{flat_map, range_with_len}
use Rattle.cnf_core.specs.declared.literal.Lit.{Lit}
use Rattle.cnf_core.specs.Counter.{at_most_clauses, at_most_vars}
use Rattle.cnf_core.specs.Formula.{Formula}
use Rattle.schedule_meaning.specs.Launches.{class_at}
use Rattle.graph_meaning.specs.declared.graphs.LaunchGraph.{LaunchGraph}
use Rattle.schedule_meaning.specs.declared.schedules.Launch.{Launch}
use Rattle.cycle_encoding.specs.Shapes.{implied, negated, numbered, vars_of, when}
use Rattle.slot_capacity.specs.Makers.{makes_own}
use Rattle.slot_capacity.specs.declared.deadlines.Deadline.{Deadline}
use Rattle.slot_capacity.specs.declared.limits.Limit.{Limit}
use Rattle.slot_capacity.specs.declared.limits.Capacity.{Capacity}

-- a launch makes the class in a cycle up to this one
pub record Launched : Type 0 where
  pub class : ℕ
  pub cycle : ℕ

-- of one class from its first cycle to its last, and of several classes
abbrev pub class_launched : Deadline → List Launched
class_launched x = map (λ t. record { class = x.class; cycle = t }) (range_with_len x.first (x.last + 1 - x.first))

abbrev pub all_launched : List Deadline → List Launched
all_launched counted = flat_map class_launched counted

abbrev pub is_launched_at : ℕ → ℕ → Launched → Bool
is_launched_at class cycle p = (p.class == class) && (p.cycle == cycle)

-- ---- families: xs are the launches with their variables, ps what is launched

-- the last cycle of the class, if it is counted
abbrev pub last_counted : List Deadline → ℕ → Option ℕ
last_counted counted class = option_map (λ x. x.last) (find (λ x. x.class == class) counted)

-- a launch of the row in the cycle makes a counted class by its last
abbrev pub makes_by : LaunchGraph → List Deadline → ℕ → ℕ → Bool
makes_by g counted row cycle =
    makes_own g row && option_map_or (λ last. nat_le cycle last) (last_counted counted (class_at g row)) false

-- then the class is launched
abbrev pub makes_counted : LaunchGraph → List Deadline → List (ℕ × Launched) → Launch → List (List Lit)
makes_counted g counted ps l =
    when (makes_by g counted l.row l.cycle) (vars_of (is_launched_at (class_at g l.row) l.cycle) ps ∷ [])

abbrev pub made_clauses : LaunchGraph → List Deadline → List (ℕ × Launch) → List (ℕ × Launched) → List (List Lit)
made_clauses g counted xs ps = implied xs (makes_counted g counted ps)

-- what is launched up to a cycle is so up to the next
abbrev pub stays_launched : List (ℕ × Launched) → Deadline → ℕ → List Lit
stays_launched ps x t =
    negated (is_launched_at x.class (t - 1)) ps ++ vars_of (is_launched_at x.class t) ps

abbrev pub stay_clauses : List Deadline → List (ℕ × Launched) → List (List Lit)
stay_clauses counted ps =
    flat_map (λ x. map (stays_launched ps x) (range_with_len (x.first + 1) (x.last - x.first))) counted

-- each counted class is launched by its last cycle
abbrev pub end_clauses : List Deadline → List (ℕ × Launched) → List (List Lit)
end_clauses counted ps = map (λ x. vars_of (is_launched_at x.class x.last) ps) counted

-- what a limit counts: that its classes are launched up to its cycle, or up to their last
abbrev pub limit_lits : List (ℕ × Launched) → Limit → List Lit
limit_lits ps m = flat_map (λ x. vars_of (is_launched_at x.class (min m.cycle x.last)) ps) m.due

-- the counters of limits, one after another; `old` is the last variable before the first
abbrev pub limit_counters : ℕ → List (ℕ × Launched) → List Limit → List (List Lit)
limit_counters old ps [] = []
limit_counters old ps (m ∷ ms) =
    at_most_clauses old m.most (limit_lits ps m)
    ++ limit_counters (old + at_most_vars m.most (length (limit_lits ps m))) ps ms

abbrev pub limit_vars : List (ℕ × Launched) → List Limit → ℕ
limit_vars ps [] = 0
limit_vars ps (m ∷ ms) = at_most_vars m.most (length (limit_lits ps m)) + limit_vars ps ms

-- ---- a formula f with these clauses

module _ (g : LaunchGraph) (capacity : Capacity) (xs : List (ℕ × Launch)) (f : Formula) where
  abbrev pub new_launched : List (ℕ × Launched)
  new_launched = numbered f.vars (all_launched capacity.counted)

  abbrev pub before_limits : ℕ
  before_limits = f.vars + length (all_launched capacity.counted)

  abbrev pub added_capacity : List (List Lit)
  added_capacity =
      made_clauses g capacity.counted xs new_launched
      ++ stay_clauses capacity.counted new_launched
      ++ end_clauses capacity.counted new_launched
      ++ limit_counters before_limits new_launched capacity.limits

  abbrev pub with_capacity : Formula
  with_capacity = record {
    vars = before_limits + limit_vars new_launched capacity.limits;
    clauses = f.clauses ++ added_capacity;
  }
