-- What unmet matches need, rule by rule, up to a limit.
use Rattle.std.proofs.Common.{◌≡◌, ℕ, zero, suc, ◌+◌, ◌-◌, ◌*◌, ◌^◌, ◌<◌, ◌≤◌, min, List, [], ◌∷◌, ◌++◌, map, length, take, get_or, refl, sym, ap, ◌∙◌, arith, ⊎_elim}
use Rattle.std.proofs.lemmas.Bool.{cases_lt}
use Rattle.word_terms.specs.OperatorsIn.{operators_in}
use Rattle.axiom_base.specs.Computed.{calc_right, no_constants}
use Rattle.axiom_base.specs.declared.kinds.Calc.{Calc}
use Rattle.axiom_base.specs.declared.kinds.Calc.TheVariants.{C1}
use Rattle.axiom_base.specs.declared.kinds.Given.{Given}
use Rattle.pattern_match.specs.declared.found.Match.{Match}
use Rattle.pattern_match.specs.declared.found.Fold.{Fold}
use Rattle.saturation.specs.Trace.{Asked, operators_asked}
use Rattle.saturation.specs.Asking.{asked_of_each, fold_asked}
use Rattle.saturation.proofs.AskSteps.{operators_append}
use Rattle.saturation.proofs.Searched.{one_more_rule}

at_least : (n m : ℕ) → m ≤ suc n * m
at_least zero m = omega arith
at_least (suc n) m = let h = at_least n m in omega (arith, h, next n m)
  where
    next : (n m : ℕ) → suc (suc n) * m ≡ suc n * m + m
    next n m = omega arith

pub capped_product : (n w most : ℕ) → min (n * min w most) most ≡ min (n * w) most
capped_product zero w most = omega arith
capped_product (suc n) w most =
    ⊎_elim
    (λ l. let e : min w most ≡ w = omega arith in ap (λ x. min (suc n * x) most) e)
    (λ l. let e : min w most ≡ most = omega arith in
    let a = at_least n most in
    let b = at_least n w in
    ap (λ x. min (suc n * x) most) e ∙ omega (arith, a, b, l))
    (cases_lt w most)

-- matches whose right sides have as many operators
product : (f : Match → Asked) (w : ℕ) → ((m : Match) → operators_in (f m).right ≡ w) → (ms : List Match) → operators_asked (map f ms) ≡ length ms * w
product f w each [] = omega arith
product f w each (m ∷ ms) =
    let e = product f w each ms in
    let k : suc (length ms) * w ≡ w + length ms * w = omega arith in
    omega (arith, e, k, each m)

-- one rule more
pub need_more :
    {X : Type 0} (f : X → Match → Asked) (xs : List X) (found : List (List Match)) (k : ℕ) (x : X) (ms : List Match) (w before need count weight after : ℕ) →
    ((m : Match) → operators_in (f x m).right ≡ w) →
    length found ≡ length xs →
    k < length xs →
    x ≡ get_or xs k x →
    ms ≡ get_or found k ms →
    need ≡ min (before + operators_asked (asked_of_each f (take k xs) (take k found))) (2 ^ 64 - 1) →
    count ≡ length ms →
    weight ≡ min w (2 ^ 64 - 1) →
    after ≡ min (need + min (count * weight) (2 ^ 64 - 1)) (2 ^ 64 - 1) →
    after ≡ min (before + operators_asked (asked_of_each f (take (k + 1) xs) (take (k + 1) found))) (2 ^ 64 - 1)
need_more f xs found k x ms w before need count weight after each len l is there h c o a =
    let part = asked_of_each f (take k xs) (take k found) in
    let whole : part ++ map (f x) ms ≡ asked_of_each f (take (k + 1) xs) (take (k + 1) found) = one_more_rule f xs found k x ms ms [] part (part ++ map (f x) ms) len l is there refl refl refl in
    let sum = sym (ap operators_asked whole) ∙ operators_append part (map (f x) ms) in
    let p = product (f x) w each ms in
    let capped : min (count * weight) (2 ^ 64 - 1) ≡ min (length ms * w) (2 ^ 64 - 1) = ap (λ n. min (n * weight) (2 ^ 64 - 1)) c ∙ ap (λ n. min (length ms * n) (2 ^ 64 - 1)) o ∙ capped_product (length ms) w (2 ^ 64 - 1) in
    let a2 : after ≡ min (need + min (length ms * w) (2 ^ 64 - 1)) (2 ^ 64 - 1) = a ∙ ap (λ n. min (need + n) (2 ^ 64 - 1)) capped in
    omega (arith, a2, h, sum, p)

-- each right side of a kind has as many operators
pub kind_operators : (kind : Calc) (given : Given) → operators_in (calc_right kind given) ≡ operators_in (calc_right kind no_constants)
kind_operators C1 given = refl
kind_operators _ given = refl

pub folds_operators : (found : List Fold) → operators_asked (map fold_asked found) ≡ length found
folds_operators [] = refl
folds_operators (f ∷ found) = let e = folds_operators found in omega (arith, e)

pub all_operators : (a b c d : List Asked) → operators_asked (((a ++ b) ++ c) ++ d) ≡ operators_asked a + operators_asked b + operators_asked c + operators_asked d
all_operators a b c d =
    let x = operators_append ((a ++ b) ++ c) d in
    let y = operators_append (a ++ b) c in
    let z = operators_append a b in
    omega (arith, x, y, z)

pub operators_none : (xs : List Asked) → length xs ≡ 0 → operators_asked xs ≡ 0
operators_none [] e = refl
operators_none (x ∷ xs) e = absurd (omega (arith, e))
