-- Results of goals, one after another, and their lines.
use Rattle.std.proofs.Common.{inl, inr, ◌≡◌, ℕ, suc, zero, ◌+◌, ◌<◌, List, [], ◌∷◌, ◌++◌, length, take, get_or, map, refl, sym, ap, subst, arith}
use Rattle.std.specs.Prelude.{slice_get, Some}
use Rattle.std.specs.List.{AllZip}
use Rattle.std.proofs.lemmas.List.{length-map}
use Rattle.std.proofs.lemmas.Option.{slice_get_cases}
use Rattle.goal_meaning.specs.Views.{GoalTree, goal_view}
use Rattle.goal_meaning.specs.declared.goals.Goal.{Goal}
use Rattle.denali_run.specs.declared.results.Answered.{Answered}

next : (i : ℕ) → i + 1 ≡ suc i
next i = omega arith

-- ---- results

result_next : (P : GoalTree → Answered → Type 0) (goals : List GoalTree) (results : List Answered) (i : ℕ)
    (d : GoalTree) (r : Answered) → i < length goals → AllZip P (take i goals) results → P (get_or goals i d) r
    → AllZip P (take (suc i) goals) (results ++ r ∷ [])
result_next P [] results i d r lt z p = absurd (omega (arith, lt))
result_next P (goal ∷ goals) [] zero d r lt z p = (p, tt)
result_next P (goal ∷ goals) (x ∷ xs) zero d r lt z p = absurd z
result_next P (goal ∷ goals) [] (suc i) d r lt z p = absurd z
result_next P (goal ∷ goals) (x ∷ xs) (suc i) d r lt z p =
    (z.0, result_next P goals xs i d r (omega (arith, lt)) z.1 p)

-- each goal so far has its result
pub result_more : (P : GoalTree → Answered → Type 0) (goals : List GoalTree) (results : List Answered) (i : ℕ)
    (d : GoalTree) (r : Answered) → i < length goals → AllZip P (take i goals) results → P (get_or goals i d) r
    → AllZip P (take (i + 1) goals) (results ++ r ∷ [])
result_more P goals results i d r lt z p =
    subst (λ n. AllZip P (take n goals) (results ++ r ∷ [])) (sym (next i)) (result_next P goals results i d r lt z p)

pub as_many : (P : GoalTree → Answered → Type 0) (goals : List GoalTree) (results : List Answered)
    → AllZip P goals results → length results ≡ length goals
as_many P [] [] z = refl
as_many P [] (r ∷ rs) z = absurd z
as_many P (goal ∷ goals) [] z = absurd z
as_many P (goal ∷ goals) (r ∷ rs) z = ap suc (as_many P goals rs z.1)

pub below_goals : (goals : List Goal) (i : ℕ) → i < length goals → i < length (map goal_view goals)
below_goals goals i lt = subst (λ n. i < n) (sym (length-map goals goal_view)) lt

-- the result of the next goal, whatever goal it is
pub one_more_result : (P : GoalTree → Answered → Type 0) (goals : List GoalTree) (results : List Answered) (i : ℕ)
    (r : Answered) → i < length goals → AllZip P (take i goals) results
    → ((goal : GoalTree) → slice_get goals i ≡ Some goal → P goal r) → AllZip P (take (i + 1) goals) (results ++ r ∷ [])
one_more_result P goals results i r lt z each =
    let cases = slice_get_cases goals i in
    elim (cases.1) [
      | inl h ↦ result_more P goals results i h.0 r lt z (subst (λ (g : GoalTree). P g r) (sym h.3) (each h.0 h.2))
      | inr h ↦ absurd (let past = h.0 in omega (arith, lt, past))
    ]
