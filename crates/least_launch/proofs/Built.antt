-- The clauses before a counter, and the counter, where all of them are within the limits.
use Rattle.std.proofs.Common.{◌≡◌, ℕ, ◌+◌, ◌<◌, ◌≤◌, ◌^◌, Bool, List, length, inl, inr, sym, ap, subst, ◌∙◌, arith, length-append}
use Rattle.std.proofs.Common.{Result, Ok, Err}
use Rattle.std.specs.Prelude.{All, IfOk, OnOk}
use Rattle.cnf_core.specs.Counter.{at_most_clauses, at_most_size, at_most_vars}
use Rattle.cnf_core.specs.Formula.{Formula, IsLitOf, Satisfies}
use Rattle.cnf_core.specs.declared.literal.Lit.{Lit}
use Rattle.cycle_encoding.specs.Allocations.{allocation_of}
use Rattle.cycle_encoding.specs.CycleFormula.{Listed, launch_vars}
use Rattle.cycle_encoding.specs.Families.{any}
use Rattle.cycle_encoding.specs.Faults.{EncodeFaultIs}
use Rattle.cycle_encoding.specs.Plans.{IsTooLarge}
use Rattle.cycle_encoding.specs.Shapes.{numbered, shown}
use Rattle.cycle_encoding.specs.declared.plans.EncodeFault.{EncodeFault}
use Rattle.cycle_encoding.specs.declared.plans.EncodeFault.TheVariants.{Size, Memory}
use Rattle.cycle_encoding.proofs.Blocks.{vars-over}
use Rattle.denali_run.specs.Encodings.{encoding_for}
use Rattle.graph_meaning.specs.declared.graphs.LaunchGraph.{LaunchGraph}
use Rattle.machine_table.specs.declared.tables.Table.{Table}
use Rattle.order_encoding.proofs.Limits.{within_clauses, within_vars}
use Rattle.schedule_meaning.specs.Fits.{Fits}
use Rattle.schedule_meaning.specs.declared.schedules.Allocation.{Allocation}
use Rattle.schedule_meaning.specs.declared.schedules.Launch.{Launch}
use Rattle.least_launch.specs.FewerLaunches.{fewer_formula, launch_literals, with_at_most}
use Rattle.least_launch.proofs.Allocated.{allocated}
use Rattle.least_launch.proofs.CountsOf.{SizesAre}
use Rattle.least_launch.proofs.Launched.{count_is}

-- a part of a formula is no larger than it
pub part_within : (n : ℕ) (lits : List Lit) (f : Formula) → ¬ IsTooLarge (with_at_most n lits f) → ¬ IsTooLarge f
part_within n lits f within (inl high) = within (inl (omega (arith, high)))
part_within n lits f within (inr high) =
    within (inr (let whole = length-append f.clauses (at_most_clauses f.vars n lits) in omega (arith, high, whole)))

-- a fault of a part that is within the limits is none of its size, and so one of the whole
pub fault_of_part : (f whole : Formula) (fault : EncodeFault) → ¬ IsTooLarge f → EncodeFaultIs f fault
    → EncodeFaultIs whole fault
fault_of_part f whole (Size vars clauses) within is = absurd (within is.0)
fault_of_part f whole Memory within is = tt

module _ (n : ℕ) (launches : List Launch) (f : Formula) (exist : length launches ≤ f.vars) where
  pub lits_exist : (lits : List Lit) → lits ≡ launch_literals launches → All (IsLitOf f.vars) lits
  lits_exist lits is =
      subst (All (IsLitOf f.vars)) (sym is)
      (vars-over any 0 f.vars launches (let e : 0 + length launches ≤ f.vars = omega (arith, exist) in e))

  pub lits_few : (lits : List Lit) → lits ≡ launch_literals launches → f.vars < 2 ^ 29 → length lits < 2 ^ 29
  lits_few lits is few = let size = ap length is ∙ count_is launches in omega (arith, size, few, exist)

  pub vars_room : (lits : List Lit) → lits ≡ launch_literals launches
      → ¬ IsTooLarge (with_at_most n (launch_literals launches) f)
      → f.vars + at_most_vars n (length lits) < 2 ^ 29
  vars_room lits is within =
      let most = within_vars (with_at_most n (launch_literals launches) f) within in
      let same = ap (λ (ls : List Lit). f.vars + at_most_vars n (length ls)) is in
      omega (arith, most, same)

  pub clauses_room : SizesAre → (lits : List Lit) → lits ≡ launch_literals launches
      → ¬ IsTooLarge (with_at_most n (launch_literals launches) f)
      → length f.clauses + at_most_size n (length lits) < 2 ^ 30
  clauses_room size lits is within =
      let most = within_clauses (with_at_most n (launch_literals launches) f) within in
      let whole = length-append f.clauses (at_most_clauses f.vars n (launch_literals launches)) in
      let counted = size f.vars n (launch_literals launches) in
      let same = ap (λ (ls : List Lit). at_most_size n (length ls)) is in
      omega (arith, most, whole, counted, same)

pub then_with : {E : Type 0} (r : Result (Unit {0}) E) (n : ℕ) (lits launches : List Lit) (f new : Formula)
    → lits ≡ launches
    → OnOk r (new ≡ with_at_most n lits f) → OnOk r (new ≡ with_at_most n launches f)
then_with (Ok x) n lits launches f new is h = h ∙ ap (λ ls. with_at_most n ls f) is
then_with (Err e) n lits launches f new is h = tt

-- the same launches and the same formula
pub with_same : (n : ℕ) (xs ys : List Launch) (f h : Formula) → xs ≡ ys → f ≡ h
    → with_at_most n (launch_literals xs) f ≡ with_at_most n (launch_literals ys) h
with_same n xs ys f h exs ef =
    ap (λ zs. with_at_most n (launch_literals zs) f) exs ∙ ap (λ x. with_at_most n (launch_literals ys) x) ef

-- of a result whose promises are told apart
pub if_ok_on : {A E : Type 0} (P Q : A → Type 0) (R : Type 0) (r : Result A E) → ((a : A) → P a → R → Q a) → IfOk r P
    → OnOk r R
    → IfOk r Q
if_ok_on P Q R (Ok a) f h k = f a h k
if_ok_on P Q R (Err x) f h k = tt

-- the clauses of the encoding that the allocation gives
module _ (g : LaunchGraph) (table : Table) (a : Allocation) (k n : ℕ) (l : Listed) (f : Formula)
    (launches : List Launch) (ef : f ≡ fewer_formula g table k l n) (el : launches ≡ l.launches) where
  pub shows_few : ((v : ℕ → Bool) → Satisfies v (fewer_formula g table k l n).clauses
      → Fits g table (allocation_of (encoding_for a)) k (shown v (launch_vars l))
      × (length (shown v (launch_vars l)) ≤ n))
      → (v : ℕ → Bool) → Satisfies v f.clauses
      → Fits g table a k (shown v (numbered 0 launches)) × (length (shown v (numbered 0 launches)) ≤ n)
  shows_few says v h =
      subst (λ (ls : List Launch). Fits g table a k (shown v (numbered 0 ls)) × (length (shown v (numbered 0 ls)) ≤ n))
      (sym el)
      (subst (λ (x : Allocation). Fits g table x k (shown v (launch_vars l)) × (length (shown v (launch_vars l)) ≤ n))
      (allocated a)
      (says v (subst (λ (x : Formula). Satisfies v x.clauses) ef h)))

  pub some_few : (v : ℕ → Bool) → Satisfies v (fewer_formula g table k l n).clauses → Satisfies v f.clauses
  some_few v h = subst (λ (x : Formula). Satisfies v x.clauses) (sym ef) h
