-- Each goal of a text that the program reads has a first graph within the format.
use Rattle.std.proofs.Common.{ℕ, zero, suc, ◌*◌, ◌<◌, ◌≤◌, ◌^◌, List, [], ◌∷◌, length, get_or, arith}
use Rattle.goal_meaning.specs.Views.{InputTree}
use Rattle.goal_meaning.specs.WellFormed.{IsInput, operators_of_goal, operators_of_input, sum_over}
use Rattle.denali_run.specs.ClaimedResults.{StartsWithinFormat}

-- one of several is no larger than all
one_of : {A : Type 0} (size : A → ℕ) (xs : List A) (k : ℕ) (d : A) → k < length xs → size (get_or xs k d) ≤ sum_over size xs
one_of size [] k d h = absurd (omega (arith, h))
one_of size (x ∷ xs) zero d h = omega arith
one_of size (x ∷ xs) (suc k) d h = let a = one_of size xs k d (omega (arith, h)) in omega (arith, a)

pub starts_small : (text : List ℕ) (input : InputTree) → IsInput input
    → 5 * operators_of_input input ≤ 4 * length text → length text ≤ 2 ^ 20 → StartsWithinFormat input
starts_small text input is few short = λ i d lt.
    let one = one_of operators_of_goal input.goals i d lt in
    let inputs = (is.goals i d lt).rules.few.0 in
    omega (arith, few, short, one, inputs)
