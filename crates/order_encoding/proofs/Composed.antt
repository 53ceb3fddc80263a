-- What the whole formula of a call says, and what its refusals say.
use Rattle.std.proofs.Common.{◌≡◌, ℕ, ◌+◌, ◌<◌, ◌≤◌, ◌++◌, ◌⊎◌, inl, inr, length, Bool, true, List, [], ◌∷◌, refl, sym, ap, ◌∙◌, subst, arith, length-append}
use Rattle.std.specs.Prelude.{Contains, ◌↔◌, is_some}
use Rattle.std.specs.List.{filter, range_with_len}
use Rattle.cycle_encoding.specs.Limits.{most_vars, most_clauses}
use Rattle.cnf_core.specs.declared.literal.Lit.{Lit}
use Rattle.cnf_core.specs.Formula.{Formula, Satisfies}
use Rattle.machine_table.specs.declared.tables.Table.{Table}
use Rattle.graph_meaning.specs.declared.graphs.LaunchGraph.{LaunchGraph}
use Rattle.schedule_meaning.specs.Fits.{Fits}
use Rattle.schedule_meaning.specs.declared.schedules.Allocation.{Allocation}
use Rattle.schedule_meaning.specs.declared.schedules.Allocation.TheVariants.{Block, Live}
use Rattle.schedule_meaning.specs.declared.schedules.Launch.{Launch}
use Rattle.cycle_encoding.specs.Shapes.{shown, numbered, when}
use Rattle.cycle_encoding.specs.CycleFormula.{Listed, launch_vars}
use Rattle.cycle_encoding.specs.CycleFormula.{wide, before_overwritten, cycle_formula, cycle_part}
use Rattle.cycle_encoding.specs.Variables.{all_overwritten}
use Rattle.cycle_encoding.specs.Narrow.{IsPinnedList}
use Rattle.cycle_encoding.specs.Encodings.{AreListed, allocation_of}
use Rattle.cycle_encoding.specs.declared.encodings.Encoding.{Encoding}
use Rattle.cycle_encoding.specs.declared.encodings.Encoding.TheVariants as encodings
use Rattle.cycle_encoding.specs.declared.encodings.Encoding.TheVariants.{Wide, Narrow, Pinned}
use Rattle.cycle_encoding.specs.Plans.{Plan, plan_of, IsTooLarge}
use Rattle.order_encoding.specs.WholeFormula.{memory_formula, guard_formula, pool_formula, pins_formula, whole_formula}
use Rattle.order_encoding.proofs.Parts.{memory_part, guard_part, pool_part, pool-clauses, pool-up, pins_part, capacity_part}

module _ (g : LaunchGraph) (table : Table) (k : ℕ) where
  abbrev whole : Formula
  whole = whole_formula g table k (wide g table k)

  module _ (f : Formula) (p : Plan) (ef : f ≡ whole) (ep : p ≡ plan_of g table k) where
    pub has_each : (ls : List Launch) → ((v : ℕ → Bool) × Satisfies v whole.clauses × ((l : Launch) → Contains (shown v (numbered 0 (plan_of g table k).launches)) l ↔ Contains ls l)) → (v : ℕ → Bool) × Satisfies v f.clauses × ((l : Launch) → Contains (shown v (numbered 0 p.launches)) l ↔ Contains ls l)
    has_each ls h = (
      h.0,
      subst (λ (f : Formula). Satisfies h.0 f.clauses) (sym ef) h.1,
      subst (λ (p : Plan). (l : Launch) → Contains (shown h.0 (numbered 0 p.launches)) l ↔ Contains ls l) (sym ep) h.2,
    )

larger : (a b c d : ℕ) → a ≤ c → b ≤ d → (most_vars < a) ⊎ (most_clauses < b) → (most_vars < c) ⊎ (most_clauses < d)
larger a b c d p q (inl h) = inl (omega arith)
larger a b c d p q (inr h) = inr (omega arith)

-- where a part is too large, so is the whole
module _ (g : LaunchGraph) (table : Table) (k : ℕ) (e : Listed) where
  abbrev a : List (List Lit)
  a = cycle_part g table k e

  abbrev b : List (List Lit)
  b = memory_part g table k e

  abbrev d : List (List Lit)
  d = guard_part g table k e

  abbrev p : List (List Lit)
  p = pool_part g table k e

  abbrev q : List (List Lit)
  q = pins_part g table k e

  -- the variables of what is overwritten and of the branch's cycles stand before those of the whole
  pub over_within : before_overwritten e + length (all_overwritten g k) ≤ (memory_formula g table k e).vars
  over_within = omega arith

  pub come_within : (memory_formula g table k e).vars + length (when (is_some g.guard) (range_with_len 0 k)) ≤ (pool_formula g table k e).vars
  come_within = (let up = pool-up g table k e in omega arith)

  pub launches_within : length e.launches ≤ (pins_formula g table k e).vars
  launches_within = (let up = pool-up g table k e in omega arith)

  pub pins_less : IsTooLarge (pins_formula g table k e) → IsTooLarge (whole_formula g table k e)
  pins_less h =
      let s = length-append (pins_formula g table k e).clauses (capacity_part g table k e) in
      larger (pins_formula g table k e).vars (length (pins_formula g table k e).clauses) (whole_formula g table k e).vars (length (whole_formula g table k e).clauses) (omega arith) (omega arith) h

  pool_pins : IsTooLarge (pool_formula g table k e) → IsTooLarge (pins_formula g table k e)
  pool_pins h =
      let s = length-append (pool_formula g table k e).clauses q in
      larger (pool_formula g table k e).vars (length (pool_formula g table k e).clauses) (pins_formula g table k e).vars (length (pins_formula g table k e).clauses) (omega arith) (omega arith) h

  guard_pins : IsTooLarge (guard_formula g table k e) → IsTooLarge (pins_formula g table k e)
  guard_pins h =
      let s = ap (λ (cs : List (List Lit)). length cs) (pool-clauses g table k e) ∙ length-append (a ++ b ++ d) p in
      let up = pool-up g table k e in
      pool_pins (larger (guard_formula g table k e).vars (length (a ++ b ++ d)) (pool_formula g table k e).vars (length (pool_formula g table k e).clauses) (omega arith) (omega arith) h)

  pub memory_pins : IsTooLarge (memory_formula g table k e) → IsTooLarge (pins_formula g table k e)
  memory_pins h =
      let s = length-append (a ++ b) d in
      guard_pins (larger (memory_formula g table k e).vars (length (a ++ b)) (guard_formula g table k e).vars (length (a ++ b ++ d)) (omega arith) (omega arith) h)

  pub pool_less : IsTooLarge (pool_formula g table k e) → IsTooLarge (whole_formula g table k e)
  pool_less h = pins_less (pool_pins h)

  pub guard_less : IsTooLarge (guard_formula g table k e) → IsTooLarge (whole_formula g table k e)
  guard_less h = pins_less (guard_pins h)

  pub memory_less : IsTooLarge (memory_formula g table k e) → IsTooLarge (whole_formula g table k e)
  memory_less h = pins_less (memory_pins h)

  pub cycle_less : IsTooLarge (cycle_formula g table k e) → IsTooLarge (whole_formula g table k e)
  cycle_less h =
      let s = length-append a b in
      memory_less (larger (cycle_formula g table k e).vars (length a) (memory_formula g table k e).vars (length (a ++ b)) (omega arith) (omega arith) h)

-- ---- each encoding

abbrev Shown : LaunchGraph → Table → Allocation → ℕ → Listed → Type 0
Shown g table a k l = (v : ℕ → Bool) → Satisfies v (whole_formula g table k l).clauses → Fits g table a k (shown v (launch_vars l))

abbrev Some_of : LaunchGraph → Table → Allocation → ℕ → Listed → List Launch → Type 0
Some_of g table a k l ls =
    (ms : List Launch) × Fits g table a k ms × ((keep : Launch → Bool) × (ms ≡ filter keep ls))
    × ((v : ℕ → Bool) × Satisfies v (whole_formula g table k l).clauses
    × ((x : Launch) → Contains (shown v (launch_vars l)) x ↔ Contains ms x))

abbrev Each_of : LaunchGraph → Table → ℕ → Listed → List Launch → Type 0
Each_of g table k l ls =
    (v : ℕ → Bool) × Satisfies v (whole_formula g table k l).clauses
    × ((x : Launch) → Contains (shown v (launch_vars l)) x ↔ Contains ls x)

pub shown-as : (e : Encoding) (g : LaunchGraph) (table : Table) (k : ℕ) (l : Listed) → Shown g table Block k (wide g table k) → ((a : Allocation) → IsPinnedList g table a k l → Shown g table a k l) → AreListed e g table k l → Shown g table (allocation_of e) k l
shown-as Wide g table k l w n a = subst (Shown g table Block k) (sym a) w
shown-as Narrow g table k l w n a = n Block a
shown-as Pinned g table k l w n a = n Block a
shown-as encodings.Live g table k l w n a = n Live a

filter-every : (ls : List Launch) → filter (λ x. true) ls ≡ ls
filter-every [] = refl
filter-every (l ∷ ls) = ap (λ xs. l ∷ xs) (filter-every ls)

pub some-as : (e : Encoding) (g : LaunchGraph) (table : Table) (k : ℕ) (l : Listed) (ls : List Launch) → Fits g table (allocation_of e) k ls → (Fits g table Block k ls → Each_of g table k (wide g table k) ls) → ((a : Allocation) → IsPinnedList g table a k l → Fits g table a k ls → Some_of g table a k l ls) → AreListed e g table k l → Some_of g table (allocation_of e) k l ls
some-as Wide g table k l ls f w n a = (ls, f, ((λ x. true), sym (filter-every ls)), subst (λ m. Each_of g table k m ls) (sym a) (w f))
some-as Narrow g table k l ls f w n a = n Block a f
some-as Pinned g table k l ls f w n a = n Block a f
some-as encodings.Live g table k l ls f w n a = n Live a f

-- the same of a formula and of launches that are these
module _ (g : LaunchGraph) (table : Table) (a : Allocation) (k : ℕ) (l : Listed) (f : Formula) (ls : List Launch)
    (ef : f ≡ whole_formula g table k l) (el : ls ≡ l.launches) where
  pub shows_in : Shown g table a k l → (v : ℕ → Bool) → Satisfies v f.clauses → Fits g table a k (shown v (numbered 0 ls))
  shows_in h v s =
      subst (λ (x : List Launch). Fits g table a k (shown v (numbered 0 x))) (sym el) (h v (subst (λ (x : Formula). Satisfies v x.clauses) ef s))

  pub some_in : ((xs : List Launch) → Fits g table a k xs → Some_of g table a k l xs) → (xs : List Launch) → Fits g table a k xs
      → (ms : List Launch) × Fits g table a k ms × ((keep : Launch → Bool) × (ms ≡ filter keep xs))
      × ((v : ℕ → Bool) × Satisfies v f.clauses × ((x : Launch) → Contains (shown v (numbered 0 ls)) x ↔ Contains ms x))
  some_in h xs fit =
      let p = h xs fit in (
        p.0,
        p.1,
        p.2,
        (
          p.3.0,
          subst (λ (x : Formula). Satisfies p.3.0 x.clauses) (sym ef) p.3.1,
          subst (λ (x : List Launch). (y : Launch) → Contains (shown p.3.0 (numbered 0 x)) y ↔ Contains p.0 y) (sym el) p.3.2,
        ),
      )
