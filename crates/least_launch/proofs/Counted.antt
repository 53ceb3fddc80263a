-- What the clauses of schedules with few launches say.
use Rattle.std.proofs.Common.{◌≡◌, ℕ, ◌+◌, ◌≤◌, Bool, List, length, ap, ◌∙◌, arith}
use Rattle.std.specs.Prelude.{All, AllPairs, Contains}
use Rattle.cnf_core.specs.Counter.{at_most_clauses, count_true}
use Rattle.cnf_core.specs.Formula.{AreOver, Formula, IsLitOf, Satisfies}
use Rattle.cycle_encoding.specs.CycleFormula.{Listed, launch_vars}
use Rattle.cycle_encoding.specs.Families.{any}
use Rattle.cycle_encoding.specs.Shapes.{shown}
use Rattle.cycle_encoding.proofs.Blocks.{AreExact, extends-refl, shown-extends, stays, vars-over}
use Rattle.cycle_encoding.proofs.Counting.{count-any}
use Rattle.cycle_encoding.proofs.Shown.{both, count_of, left, right}
use Rattle.graph_meaning.specs.declared.graphs.LaunchGraph.{LaunchGraph}
use Rattle.machine_table.specs.declared.tables.Table.{Table}
use Rattle.order_encoding.specs.WholeFormula.{whole_formula}
use Rattle.order_encoding.proofs.Composed.{launches_within}
use Rattle.schedule_meaning.specs.Fits.{Collide}
use Rattle.schedule_meaning.specs.declared.schedules.Launch.{Launch}
use Rattle.least_launch.specs.FewerLaunches.{fewer_formula, launch_literals}
use Rattle.least_launch.proofs.Within.{within}

-- one launch is in one slot and cycle
collide : (l m : Launch) → l ≡ m → Collide l m
collide l m e = (ap (λ (x : Launch). x.cycle) e, ap (λ (x : Launch). x.slot) e)

-- launches of which no two are in one slot and cycle are no more than those among which they are
pub few_launches : (some all : List Launch) → AllPairs (λ l m. ¬ Collide l m) some
    → ((l : Launch) → Contains some l → Contains all l) → length some ≤ length all
few_launches some all apart among = within some all (λ i j d lt len e. apart i j d lt len (collide _ _ e)) among

module _ (exact : AreExact) (g : LaunchGraph) (table : Table) (k n : ℕ) (l : Listed) where
  abbrev before : Formula
  before = whole_formula g table k l

  abbrev xs : List (ℕ × Launch)
  xs = launch_vars l

  pub launches_first : 0 + length l.launches ≤ before.vars
  launches_first = (let up = launches_within g table k l in omega (arith, up))

  pub lits_over : All (IsLitOf before.vars) (launch_literals l.launches)
  lits_over = vars-over any 0 before.vars l.launches launches_first

  -- as many literals are true as launches are shown
  true_are : (v : ℕ → Bool) → count_true v (launch_literals l.launches) ≡ length (shown v xs)
  true_are v = count_of v any xs ∙ count-any (shown v xs)

  pub few_shown : (v : ℕ → Bool) → Satisfies v (fewer_formula g table k l n).clauses → length (shown v xs) ≤ n
  few_shown v h =
      let say = (exact before.vars n (launch_literals l.launches) lits_over).0 v in
      let few = say.0 (
        v,
        extends-refl before.vars v,
        right v before.clauses
            (at_most_clauses before.vars n (launch_literals l.launches)) h,
      ) in
      let same = true_are v in
      omega (arith, few, same)

  pub before_holds : (v : ℕ → Bool) → Satisfies v (fewer_formula g table k l n).clauses → Satisfies v before.clauses
  before_holds v h = left v before.clauses (at_most_clauses before.vars n (launch_literals l.launches)) h

  -- values that show few launches and satisfy the clauses before the counter go on to such as satisfy all
  pub counted : AreOver before.vars before.clauses → (v : ℕ → Bool) → Satisfies v before.clauses
      → length (shown v xs) ≤ n
      → (w : ℕ → Bool) × Satisfies w (fewer_formula g table k l n).clauses × (shown w xs ≡ shown v xs)
  counted over v h few =
      let say = (exact before.vars n (launch_literals l.launches) lits_over).0 v in
      let same = true_are v in
      let w = say.1 (omega (arith, few, same)) in (
        w.0,
        both w.0 before.clauses (at_most_clauses before.vars n (launch_literals l.launches))
            (stays before.vars v w.0 before.clauses w.1 over h) w.2,
        shown-extends v w.0 0 before.vars l.launches launches_first w.1,
      )
