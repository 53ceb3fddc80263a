-- A right result stays right where its schedule is replaced by another one that fits.
use Rattle.std.proofs.Common.{◌≡◌, ℕ, ◌<◌, List, [], ◌∷◌, ◌++◌, length, refl, sym, subst, arith, Option, Some, None, inl, inr}
use Rattle.std.specs.Prelude.{slice_get}
use Rattle.std.specs.List.{AllZip}
use Rattle.std.proofs.lemmas.Option.{slice_get_cases}
use Rattle.denali_run.specs.MatchedGoals.{IsSettings}
use Rattle.denali_run.specs.Right.{Right}
use Rattle.denali_run.specs.declared.results.Answered.{Answered}
use Rattle.denali_run.specs.declared.results.Answered.TheVariants as answered
use Rattle.denali_run.specs.declared.results.Found.{Found}
use Rattle.denali_run.specs.declared.settings.Settings.{Settings}
use Rattle.denali_run.proofs.RisingCycles.{found_right}
use Rattle.goal_meaning.specs.Views.{GoalTree, InputTree}
use Rattle.machine_table.specs.declared.tables.Table.{Table}
use Rattle.schedule_meaning.specs.declared.schedules.Allocation.{Allocation}
use Rattle.least_launch.specs.LeastAnswers.{IsTailOf}
use Rattle.least_launch.specs.SolvedGoals.{CanLessen, IsLessened, IsWithFewest, MayLessen}
use Rattle.least_launch.specs.declared.tails.Tail.{Tail}

module _ (input : InputTree) (goal : GoalTree) (s : Settings) where
  can_lessen : IsSettings s → (f : Found) → Right input goal s (answered.Scheduled f)
      → CanLessen input.table s.allocation f
  can_lessen is f right = record {
    graph = right.0.graph;
    few = (let most = right.1 in let cycles = is.cycles in omega (arith, most, cycles));
    fits = right.2.fits;
  }

  pub may_lessen : IsSettings s → (a : Answered) → Right input goal s a → MayLessen input.table s.allocation a
  may_lessen is (answered.Scheduled f) right = can_lessen is f right
  may_lessen is (answered.Nowhere m) right = tt
  may_lessen is (answered.SpentConflicts t) right = tt
  may_lessen is (answered.SpentSize l) right = tt
  may_lessen is (answered.NoWorld class a b) right = tt

  lessened_right : (old new : Found) (tail : Tail) → Right input goal s (answered.Scheduled old)
      → IsLessened input.table s.allocation s.conflicts old new tail → Right input goal s (answered.Scheduled new)
  lessened_right old new tail right h =
      subst (λ (f : Found). Right input goal s (answered.Scheduled f)) (sym h.is)
      (found_right input goal s input.table
      (record old { schedule = new.schedule; listing = new.listing; words = new.words }) right.3.clauses_for refl
      right.0 right.1
      right.3.formulas (right.3.holds.0, h.fits) h.listing h.words h.low h.keeps right.3.holds.1)

  abbrev IsBoth : Answered → Option Tail → Type 0
  IsBoth a tail = Right input goal s a × IsTailOf input.table s.allocation s.conflicts a tail

  -- every other result stays
  stays : (old new : Answered) → Right input goal s old → IsTailOf input.table s.allocation s.conflicts old None
      → new ≡ old → IsBoth new None
  stays old new right none is = subst (λ (a : Answered). IsBoth a None) (sym is) (right, none)

  pub with_right : (old new : Answered) (tail : Option Tail) → Right input goal s old
      → IsWithFewest input.table s.allocation s.conflicts old new tail → IsBoth new tail
  with_right (answered.Scheduled old) (answered.Scheduled new) (Some tail) right h =
      (lessened_right old new tail right h, h.said)
  with_right (answered.Scheduled old) (answered.Scheduled new) None right h = absurd h
  with_right (answered.Scheduled old) (answered.Nowhere m) tail right h = absurd h
  with_right (answered.Scheduled old) (answered.SpentConflicts t) tail right h = absurd h
  with_right (answered.Scheduled old) (answered.SpentSize l) tail right h = absurd h
  with_right (answered.Scheduled old) (answered.NoWorld class a b) tail right h = absurd h
  with_right (answered.Nowhere m) new None right h = stays (answered.Nowhere m) new right tt h
  with_right (answered.Nowhere m) new (Some tail) right h = absurd h
  with_right (answered.SpentConflicts t) new None right h = stays (answered.SpentConflicts t) new right tt h
  with_right (answered.SpentConflicts t) new (Some tail) right h = absurd h
  with_right (answered.SpentSize l) new None right h = stays (answered.SpentSize l) new right tt h
  with_right (answered.SpentSize l) new (Some tail) right h = absurd h
  with_right (answered.NoWorld class a b) new None right h = stays (answered.NoWorld class a b) new right tt h
  with_right (answered.NoWorld class a b) new (Some tail) right h = absurd h

-- a number below that of the goals is one goal's
pub goal_at : (goals : List GoalTree) (i : ℕ) → i < length goals → (goal : GoalTree) × (slice_get goals i ≡ Some goal)
goal_at goals i lt =
    let cases = slice_get_cases goals i in
    elim (cases.1) [
      | inl h ↦ (h.0, h.2)
      | inr h ↦ absurd (let past = h.0 in omega (arith, lt, past))
    ]

-- of each result so far something is said, or nothing
pub said_more : {A B : Type 0} (P : A → B → Type 0) (xs : List A) (ys : List B) (x : A) (y : B) → AllZip P xs ys → P x y
    → AllZip P (xs ++ x ∷ []) (ys ++ y ∷ [])
said_more P [] [] x y z p = (p, tt)
said_more P [] (v ∷ ys) x y z p = absurd z
said_more P (u ∷ xs) [] x y z p = absurd z
said_more P (u ∷ xs) (v ∷ ys) x y z p = (z.0, said_more P xs ys x y z.1 p)

-- a result without a schedule stays, and nothing is said of it
pub none_stays : (table : Table) (a : Allocation) (conflicts : ℕ) (old new : Answered)
    → ((found : Found) → old ≡ answered.Scheduled found → ⊥) → new ≡ old → IsWithFewest table a conflicts old new None
none_stays table a conflicts (answered.Scheduled f) new never is = absurd (never f refl)
none_stays table a conflicts (answered.Nowhere m) new never is = is
none_stays table a conflicts (answered.SpentConflicts t) new never is = is
none_stays table a conflicts (answered.SpentSize l) new never is = is
none_stays table a conflicts (answered.NoWorld class x y) new never is = is
