-- Where the variables of cycles with a store and of the branch begin, by the counts of the first parts.
use Rattle.std.proofs.Common.{◌≡◌, ℕ, ◌+◌, ◌*◌, ◌≤◌, length, sym, ◌∙◌, arith}
use Rattle.cycle_encoding.specs.Counts.{cycle_vars}
use Rattle.cycle_encoding.specs.CycleFormula.{cycle_formula, launch_vars, listed_in}
use Rattle.cycle_encoding.specs.Framed.{over}
use Rattle.cycle_encoding.specs.Limits.{most_vars}
use Rattle.cycle_encoding.specs.Plans.{IsTooLarge}
use Rattle.cycle_encoding.specs.declared.frames.Frame.{Frame}
use Rattle.order_encoding.specs.OrderCounts.{held_count, memory_vars}
use Rattle.order_encoding.specs.OrderVariables.{all_held}
use Rattle.order_encoding.specs.PlanOver.{AreFirstSizes, by_list}
use Rattle.order_encoding.specs.WholeFormula.{before_new_stores, memory_formula, pins_formula}
use Rattle.order_encoding.specs.declared.plans.FirstSizes.{FirstSizes}
use Rattle.order_encoding.proofs.Composed.{memory_pins}
use Rattle.order_encoding.proofs.Limits.{within_vars}
use Rattle.order_encoding.proofs.Sized.{held-size}

module _ (f : Frame) (s : FirstSizes) (is : AreFirstSizes f s) where
  abbrev pub branches_begin : ℕ
  branches_begin = s.cycle.vars + s.memory.vars

  abbrev pub stores_begin : ℕ
  stores_begin = s.cycle.vars + s.held

  abbrev before_stores : ℕ
  before_stores = before_new_stores f.facts.now f.k (launch_vars (over f listed_in)) (by_list f cycle_formula)

  pub branches_are : (by_list f memory_formula).vars ≡ over f cycle_vars + over f memory_vars → branches_begin ≡ (by_list f memory_formula).vars
  branches_are counted = (let c = is.cycle_vars in let m = is.memory_vars in omega (arith, counted, c, m))

  pub stores_are : (by_list f cycle_formula).vars ≡ over f cycle_vars → stores_begin ≡ before_stores
  stores_are counted =
      let c = is.cycle_vars in
      let swap : (x y : ℕ) → x * y ≡ y * x = λ x y. omega arith in
      let held : s.held ≡ length (all_held f.facts.now f.k) = is.held ∙ swap (f.k + 1) (held_count f.facts.now) ∙ sym (held-size f.facts.now f.table.now f.k f.scope.now) in
      omega (arith, counted, c, held)

  -- both are small where the formula with pins is
  module _ (within : IsTooLarge (by_list f pins_formula) → ⊥) where
    memory_within : (by_list f memory_formula).vars ≤ most_vars
    memory_within = within_vars (by_list f memory_formula) (λ t. within (memory_pins f.facts.now f.table.now f.k (over f listed_in) t))

    pub branches_within : (by_list f memory_formula).vars ≡ over f cycle_vars + over f memory_vars → branches_begin ≤ most_vars
    branches_within counted = (let b = branches_are counted in let m = memory_within in omega (arith, b, m))

    pub stores_within : (by_list f cycle_formula).vars ≡ over f cycle_vars → stores_begin ≤ most_vars
    stores_within counted = (let b = stores_are counted in let m = memory_within in omega arith)
