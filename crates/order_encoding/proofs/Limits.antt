-- The counts and the formulas of the calls, and what a limit that is not passed says.
use Rattle.std.proofs.Common.{◌≡◌, ℕ, ◌≤◌, List, length, ap, ◌∙◌, inl, inr}
use Rattle.std.specs.Prelude.{is_some}
use Rattle.std.specs.List.{range_with_len}
use Rattle.std.proofs.lemmas.Bool.{cases_lt}
use Rattle.cycle_encoding.specs.Limits.{most_vars, most_clauses}
use Rattle.cnf_core.specs.Formula.{Formula}
use Rattle.machine_table.specs.declared.tables.Table.{Table}
use Rattle.graph_meaning.specs.declared.graphs.LaunchGraph.{LaunchGraph}
use Rattle.schedule_meaning.specs.declared.schedules.Allocation.{Allocation}
use Rattle.schedule_meaning.specs.declared.schedules.Launch.{Launch}
use Rattle.cycle_encoding.specs.Shapes.{numbered, when}
use Rattle.cycle_encoding.specs.CycleFormula.{Listed}
use Rattle.cycle_encoding.specs.Plans.{IsTooLarge}
use Rattle.order_encoding.specs.WholeFormula.{before_new_stores, with_memory, formula_with_guard, formula_with_pool, memory_formula, guard_formula, pool_formula, formula_with_pins, pins_formula, whole_formula}
use Rattle.slot_capacity.specs.CapacityClauses.{with_capacity}
use Rattle.slot_capacity.specs.Limits.{capacity_of}
use Rattle.slot_capacity.specs.declared.limits.Capacity.{Capacity}
use Rattle.cycle_encoding.specs.CycleFormula.{cycle_formula, before_overwritten}
use Rattle.cycle_encoding.specs.Variables.{all_overwritten}

-- ---- limits

pub within_clauses : (f : Formula) → (IsTooLarge f → ⊥) → length f.clauses ≤ most_clauses
within_clauses f h =
    elim (cases_lt 2000000 (length f.clauses)) [
      | inl lt ↦ absurd (h (inr lt))
      | inr le ↦ le
    ]

pub within_vars : (f : Formula) → (IsTooLarge f → ⊥) → f.vars ≤ most_vars
within_vars f h =
    elim (cases_lt 262144 f.vars) [
      | inl lt ↦ absurd (h (inl lt))
      | inr le ↦ le
    ]

-- ---- one part after another

module _ (g : LaunchGraph) (table : Table) (k : ℕ) (e : Listed) (ls : List Launch) (els : ls ≡ e.launches) (f : Formula) where
  pub memory_is : f ≡ cycle_formula g table k e → with_memory g k (numbered 0 ls) f ≡ memory_formula g table k e
  memory_is ef = ap (λ (x : List Launch). with_memory g k (numbered 0 x) f) els ∙ ap (with_memory g k (numbered 0 e.launches)) ef

  pub guard_is : f ≡ memory_formula g table k e → formula_with_guard g k (numbered 0 ls) f ≡ guard_formula g table k e
  guard_is ef = ap (λ (x : List Launch). formula_with_guard g k (numbered 0 x) f) els ∙ ap (formula_with_guard g k (numbered 0 e.launches)) ef

  -- registers, by the allocation and the variables before what is overwritten
  abbrev pool_by : List Launch → Formula → ℕ → Allocation → Formula
  pool_by xs h o a = formula_with_pool g k (numbered 0 xs) h table (numbered o (all_overwritten g k)) a

  pub pool_is : (over : ℕ) (a : Allocation) → over ≡ before_overwritten e → a ≡ e.allocation → f ≡ guard_formula g table k e → pool_by ls f over a ≡ pool_formula g table k e
  pool_is over a eo ea ef =
      ap (λ (x : List Launch). pool_by x f over a) els
      ∙ ap (λ (x : Formula). pool_by e.launches x over a) ef
      ∙ ap (λ o. pool_by e.launches (guard_formula g table k e) o a) eo
      ∙ ap (pool_by e.launches (guard_formula g table k e) (before_overwritten e)) ea

  pub capacity_is : (c : Capacity) → c ≡ capacity_of g table e.allocation k e.launches → f ≡ pins_formula g table k e → with_capacity g c (numbered 0 ls) f ≡ whole_formula g table k e
  capacity_is c ec ef =
      ap (λ (x : Capacity). with_capacity g x (numbered 0 ls) f) ec
      ∙ ap (λ (x : List Launch). with_capacity g (capacity_of g table e.allocation k e.launches) (numbered 0 x) f) els
      ∙ ap (λ (x : Formula). with_capacity g (capacity_of g table e.allocation k e.launches) (numbered 0 e.launches) x) ef

  -- pins, by the variables before what is overwritten, before the branch's cycles and before cycles with a store
  module _ (over branches stores : ℕ) (eo : over ≡ before_overwritten e) (eb : branches ≡ (memory_formula g table k e).vars) (es : stores ≡ before_new_stores g k (numbered 0 e.launches) (cycle_formula g table k e)) where
    abbrev cycles_of_branch : List ℕ
    cycles_of_branch = when (is_some g.guard) (range_with_len 0 k)

    abbrev by : List Launch → Formula → ℕ → ℕ → ℕ → Formula
    by xs h o b w = formula_with_pins g k (numbered 0 xs) h (numbered o (all_overwritten g k)) (numbered b cycles_of_branch) (numbered w (range_with_len 0 k))

    pub pins_is : f ≡ pool_formula g table k e → by ls f over branches stores ≡ pins_formula g table k e
    pins_is ef =
        ap (λ (x : List Launch). by x f over branches stores) els
        ∙ ap (λ (x : Formula). by e.launches x over branches stores) ef
        ∙ ap (λ o. by e.launches (pool_formula g table k e) o branches stores) eo
        ∙ ap (λ b. by e.launches (pool_formula g table k e) (before_overwritten e) b stores) eb
        ∙ ap (λ w. by e.launches (pool_formula g table k e) (before_overwritten e) (memory_formula g table k e).vars w) es
