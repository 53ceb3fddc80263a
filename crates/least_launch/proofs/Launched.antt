-- The variables of launches, one after another, and how many they are.
use Rattle.std.proofs.Common.{◌≡◌, ℕ, ◌+◌, ◌<◌, List, [], ◌∷◌, ◌++◌, length, take, get_or, refl, sym, ap, ◌∙◌, arith}
use Rattle.std.proofs.lemmas.List.{length-take-le, take_more}
use Rattle.cnf_core.specs.declared.literal.Lit.{Lit}
use Rattle.cycle_encoding.specs.Families.{any}
use Rattle.cycle_encoding.specs.Shapes.{numbered, positive, vars_of}
use Rattle.cycle_encoding.proofs.Counting.{count-any}
use Rattle.cycle_encoding.proofs.Totals.{size-vars}
use Rattle.schedule_meaning.specs.declared.schedules.Launch.{Launch}
use Rattle.least_launch.specs.FewerLaunches.{launch_literals}

-- one thing more has the next variable
one_more : (n : ℕ) (xs : List Launch) (x : Launch)
    → vars_of any (numbered n (xs ++ x ∷ [])) ≡ vars_of any (numbered n xs) ++ positive (n + length xs + 1) ∷ []
one_more n [] x = ap (λ m. positive m ∷ []) (let e : n + 1 ≡ n + 0 + 1 = omega arith in e)
one_more n (y ∷ xs) x =
    ap (λ ys. positive (n + 1) ∷ ys)
    (one_more (n + 1) xs x
    ∙ ap (λ m. vars_of any (numbered (n + 1) xs) ++ positive m ∷ [])
    (let size : length (y ∷ xs) ≡ length xs + 1 = omega arith in
    let e : n + 1 + length xs + 1 ≡ n + length (y ∷ xs) + 1 = omega (arith, size) in e))

pub next_lit : (xs : List Launch) (place : ℕ) (old new : List Lit) → place < length xs
    → old ≡ launch_literals (take place xs)
    → new ≡ old ++ positive (place + 1) ∷ [] → new ≡ launch_literals (take (place + 1) xs)
next_lit [] place old new lt so_far is = absurd (let z : length {A = Launch} [] ≡ 0 = refl in omega (arith, lt, z))
next_lit (x ∷ xs) place old new lt so_far is =
    let all = x ∷ xs in
    let more = take_more all place x lt in
    let size = length-take-le place all (omega (arith, lt)) in
    is ∙ ap (λ ys. ys ++ positive (place + 1) ∷ []) so_far
    ∙ ap (λ m. launch_literals (take place all) ++ positive (m + 1) ∷ [])
    (let e : place ≡ 0 + length (take place (x ∷ xs)) = omega (arith, size) in e)
    ∙ sym (one_more 0 (take place all) (get_or all place x)) ∙ ap launch_literals (sym more)

-- as many literals as launches
pub count_is : (xs : List Launch) → length (launch_literals xs) ≡ length xs
count_is xs = size-vars any 0 xs ∙ count-any xs
