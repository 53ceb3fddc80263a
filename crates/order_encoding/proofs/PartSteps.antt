-- What one part adds to the formula of the parts before it.
use Rattle.std.proofs.Common.{◌≡◌, ◌+◌, ◌≤◌, ◌∙◌, ℕ, length, length-append, sym, ap, subst}
use Rattle.cycle_encoding.specs.Limits.{most_vars, most_clauses}
use Rattle.cnf_core.specs.Formula.{Formula}
use Rattle.machine_table.specs.declared.tables.Table.{Table}
use Rattle.graph_meaning.specs.declared.graphs.LaunchGraph.{LaunchGraph}
use Rattle.cycle_encoding.specs.CycleFormula.{Listed, Scope, allocation_in, cycle_formula, listed_in}
use Rattle.cycle_encoding.specs.Plans.{IsTooLarge}
use Rattle.order_encoding.specs.OrderCounts.{guard_size, guard_vars, memory_size, memory_vars, part_size, part_vars, pins_size, pins_vars, pool_size, pool_vars}
use Rattle.order_encoding.specs.WholeFormula.{before_part, guard_formula, memory_formula, pins_formula, pool_formula, whole_formula, with_part}
use Rattle.order_encoding.specs.declared.adding.Part.{Part}
use Rattle.order_encoding.specs.declared.adding.Part.TheVariants.{Memory, Guard, Pool, Pins, Capacity}
use Rattle.slot_capacity.specs.Limits.{capacity_in}
use Rattle.slot_capacity.specs.CapacityCounts.{capacity_size, capacity_vars}
use Rattle.slot_capacity.specs.CapacityClauses.{added_capacity, with_capacity}
use Rattle.cycle_encoding.specs.Shapes.{numbered}
use Rattle.order_encoding.proofs.Limits.{within_clauses, within_vars}
use Rattle.order_encoding.proofs.Parts.{capacity_part}

-- ---- counts

module _ (g : LaunchGraph) (table : Table) (k : ℕ) (s : Scope) where
  abbrev vars_of : (LaunchGraph → Table → ℕ → Listed → Formula) → ℕ
  vars_of formula = (formula g table k (listed_in g table k s)).vars

  abbrev size_of : (LaunchGraph → Table → ℕ → Listed → Formula) → ℕ
  size_of formula = length (formula g table k (listed_in g table k s)).clauses

  -- by the counts of the formulas one after another, from that of cycles on
  module _ (c : ℕ) where
    pub vars_added : vars_of cycle_formula ≡ c → vars_of memory_formula ≡ c + memory_vars g table k s
        → vars_of guard_formula ≡ c + memory_vars g table k s + guard_vars g table k s
        → vars_of pool_formula ≡ c + memory_vars g table k s + guard_vars g table k s + pool_vars g table k s (allocation_in s)
        → vars_of pins_formula
        ≡ c + memory_vars g table k s + guard_vars g table k s + pool_vars g table k s (allocation_in s) + pins_vars g table k s
        → vars_of whole_formula
        ≡ c + memory_vars g table k s + guard_vars g table k s + pool_vars g table k s (allocation_in s) + pins_vars g table k s + capacity_vars g table k s (capacity_in s g table k)
        → (p : Part) → vars_of (with_part p) ≡ vars_of (before_part p) + part_vars p g table k s
    vars_added e m d r w x Memory = m ∙ ap (λ n. n + memory_vars g table k s) (sym e)
    vars_added e m d r w x Guard = d ∙ ap (λ n. n + guard_vars g table k s) (sym m)
    vars_added e m d r w x Pool = r ∙ ap (λ n. n + pool_vars g table k s (allocation_in s)) (sym d)
    vars_added e m d r w x Pins = w ∙ ap (λ n. n + pins_vars g table k s) (sym r)
    vars_added e m d r w x Capacity = x ∙ ap (λ n. n + capacity_vars g table k s (capacity_in s g table k)) (sym w)

    pub size_added : size_of cycle_formula ≡ c → size_of memory_formula ≡ c + memory_size g table k s
        → size_of guard_formula ≡ c + memory_size g table k s + guard_size g table k s
        → size_of pool_formula ≡ c + memory_size g table k s + guard_size g table k s + pool_size g table k s (allocation_in s)
        → size_of pins_formula
        ≡ c + memory_size g table k s + guard_size g table k s + pool_size g table k s (allocation_in s) + pins_size g table k s
        → size_of whole_formula
        ≡ c + memory_size g table k s + guard_size g table k s + pool_size g table k s (allocation_in s) + pins_size g table k s + capacity_size g table k s (capacity_in s g table k)
        → (p : Part) → size_of (with_part p) ≡ size_of (before_part p) + part_size p g table k s
    size_added e m d r w x Memory = m ∙ ap (λ n. n + memory_size g table k s) (sym e)
    size_added e m d r w x Guard = d ∙ ap (λ n. n + guard_size g table k s) (sym m)
    size_added e m d r w x Pool = r ∙ ap (λ n. n + pool_size g table k s (allocation_in s)) (sym d)
    size_added e m d r w x Pins = w ∙ ap (λ n. n + pins_size g table k s) (sym r)
    size_added e m d r w x Capacity = x ∙ ap (λ n. n + capacity_size g table k s (capacity_in s g table k)) (sym w)

  -- with capacity
  abbrev pins_now : Formula
  pins_now = pins_formula g table k (listed_in g table k s)

  pub all-vars : ((f : Formula) → (with_capacity g (capacity_in s g table k) (numbered 0 (listed_in g table k s).launches) f).vars ≡ f.vars + capacity_vars g table k s (capacity_in s g table k)) → (n : ℕ) → pins_now.vars ≡ n → vars_of whole_formula ≡ n + capacity_vars g table k s (capacity_in s g table k)
  all-vars counted n e = counted pins_now ∙ ap (λ m. m + capacity_vars g table k s (capacity_in s g table k)) e

  pub all-size : ((f : Formula) → length (added_capacity g (capacity_in s g table k) (numbered 0 (listed_in g table k s).launches) f) ≡ capacity_size g table k s (capacity_in s g table k)) → (n : ℕ) → length pins_now.clauses ≡ n → size_of whole_formula ≡ n + capacity_size g table k s (capacity_in s g table k)
  all-size counted n e =
      length-append pins_now.clauses (capacity_part g table k (listed_in g table k s))
      ∙ ap (λ m. m + length (capacity_part g table k (listed_in g table k s))) e
      ∙ ap (λ m. n + m) (counted pins_now)

-- ---- one part by its name

module _ (p q : Part) (same : p ≡ q) (g : LaunchGraph) (table : Table) (k : ℕ) (s : Scope) where
  abbrev before : Part → Formula
  before x = before_part x g table k (listed_in g table k s)

  abbrev after : Part → Formula
  after x = with_part x g table k (listed_in g table k s)

  pub before_named : (f : Formula) → f ≡ before p → f ≡ before q
  before_named f e = subst (λ x. f ≡ before x) same e

  pub vars_named : (IsTooLarge (after p) → ⊥) → (after q).vars ≤ most_vars
  vars_named h = within_vars (after q) (subst (λ x. IsTooLarge (after x) → ⊥) same h)

  pub clauses_named : (IsTooLarge (after p) → ⊥) → length (after q).clauses ≤ most_clauses
  clauses_named h = within_clauses (after q) (subst (λ x. IsTooLarge (after x) → ⊥) same h)

  pub after_named : (f : Formula) → f ≡ after q → f ≡ after p
  after_named f e = subst (λ x. f ≡ after x) (sym same) e

-- ---- what a part with its counts comes to, in as many cycles under another name

module _ (p : Part) (g : LaunchGraph) (table : Table) (j k : ℕ) (s : Scope) (same : j ≡ k) where
  abbrev now : ℕ → Formula
  now n = with_part p g table n (listed_in g table n s)

  abbrev was : ℕ → Formula
  was n = before_part p g table n (listed_in g table n s)

  module _ (count : Formula → ℕ) (part : ℕ → ℕ) (f : Formula) (v : ℕ) where
    pub counted : f ≡ was k → count (now k) ≡ count (was k) + part k → v ≡ count f + part j → v ≡ count (now k)
    counted ef sum ev = ev ∙ ap (λ n. count f + part n) same ∙ ap (λ (x : Formula). count x + part k) ef ∙ sym sum
