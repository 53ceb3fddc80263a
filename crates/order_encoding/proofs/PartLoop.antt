-- The parts of the whole formula, one after another.
use Rattle.std.proofs.Common.{◌≡◌, ℕ, zero, suc, ◌+◌, ◌<◌, ◌≤◌, List, [], ◌∷◌, get_or, refl, arith}
use Rattle.cnf_core.specs.Formula.{Formula}
use Rattle.machine_table.specs.declared.tables.Table.{Table}
use Rattle.graph_meaning.specs.declared.graphs.LaunchGraph.{LaunchGraph}
use Rattle.cycle_encoding.specs.CycleFormula.{Listed, before_overwritten, cycle_formula}
use Rattle.cycle_encoding.specs.Plans.{IsTooLarge}
use Rattle.order_encoding.specs.declared.adding.Part.{Part}
use Rattle.order_encoding.specs.declared.adding.Part.TheVariants.{Memory, Guard, Pool, Pins, Capacity}
use Rattle.order_encoding.specs.WholeFormula.{KnowsOverwritten, before_part, with_part}
use Rattle.order_encoding.specs.WholeFormula.{guard_formula, memory_formula, pins_formula, pool_formula, whole_formula}
use Rattle.order_encoding.proofs.Composed.{guard_less, memory_less, pins_less, pool_less}

abbrev pub all_parts : List Part
all_parts = Memory ∷ Guard ∷ Pool ∷ Pins ∷ Capacity ∷ []

-- the formula with so many of them
abbrev pub up_to : ℕ → LaunchGraph → Table → ℕ → Listed → Formula
up_to zero = cycle_formula
up_to (suc zero) = memory_formula
up_to (suc (suc zero)) = guard_formula
up_to (suc (suc (suc zero))) = pool_formula
up_to (suc (suc (suc (suc zero)))) = pins_formula
up_to (suc (suc (suc (suc (suc n))))) = whole_formula

module _ (g : LaunchGraph) (table : Table) (k : ℕ) (e : Listed) where
  pub part_begins : (i : ℕ) (d : Part) → i < 5 → up_to i g table k e ≡ before_part (get_or all_parts i d) g table k e
  part_begins zero d h = refl
  part_begins (suc zero) d h = refl
  part_begins (suc (suc zero)) d h = refl
  part_begins (suc (suc (suc zero))) d h = refl
  part_begins (suc (suc (suc (suc zero)))) d h = refl
  part_begins (suc (suc (suc (suc (suc n))))) d h = absurd (omega arith)

  pub part_ends : (i : ℕ) (d : Part) → i < 5
      → with_part (get_or all_parts i d) g table k e ≡ up_to (i + 1) g table k e
  part_ends zero d h = refl
  part_ends (suc zero) d h = refl
  part_ends (suc (suc zero)) d h = refl
  part_ends (suc (suc (suc zero))) d h = refl
  part_ends (suc (suc (suc (suc zero)))) d h = refl
  part_ends (suc (suc (suc (suc (suc n))))) d h = absurd (omega arith)

  pub all_ended : (i : ℕ) → 5 ≤ i → up_to i g table k e ≡ whole_formula g table k e
  all_ended zero h = absurd (omega arith)
  all_ended (suc zero) h = absurd (omega arith)
  all_ended (suc (suc zero)) h = absurd (omega arith)
  all_ended (suc (suc (suc zero))) h = absurd (omega arith)
  all_ended (suc (suc (suc (suc zero)))) h = absurd (omega arith)
  all_ended (suc (suc (suc (suc (suc n))))) h = refl

  -- a part that is too large makes the whole too large
  pub part_less : (p : Part) → IsTooLarge (with_part p g table k e) → IsTooLarge (whole_formula g table k e)
  part_less Memory t = memory_less g table k e t
  part_less Guard t = guard_less g table k e t
  part_less Pool t = pool_less g table k e t
  part_less Pins t = pins_less g table k e t
  part_less Capacity t = t

pub part_knows : (p : Part) (before : ℕ) (l : Listed) → before ≡ before_overwritten l → KnowsOverwritten p before l
part_knows Memory before l h = tt
part_knows Guard before l h = tt
part_knows Pool before l h = h
part_knows Pins before l h = h
part_knows Capacity before l h = tt
