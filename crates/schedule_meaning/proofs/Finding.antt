-- The first that passes, from a place on.
use Rattle.std.proofs.Common.{◌≡◌, ℕ, zero, suc, ◌+◌, ◌<◌, List, [], ◌∷◌, length, get_or, drop, ◌∙◌, ap, arith, Bool, true, false, cond, Some}
use Rattle.std.specs.Prelude.{find}

module _ {X : Type 0} (p : X → Bool) where
  pub find_here : (xs : List X) (i : ℕ) (d : X) → i < length xs → p (get_or xs i d) ≡ true → find p (drop i xs) ≡ Some (get_or xs i d)
  find_here [] i d lt t = absurd (omega arith)
  find_here (x ∷ xs) zero d lt t = ap (λ b. cond b (Some x) (find p xs)) t
  find_here (x ∷ xs) (suc i) d lt t = find_here xs i d (omega arith) t

  find_next : (xs : List X) (i : ℕ) (d : X) → i < length xs → p (get_or xs i d) ≡ false → find p (drop i xs) ≡ find p (drop (suc i) xs)
  find_next [] i d lt f = absurd (omega arith)
  find_next (x ∷ xs) zero d lt f = ap (λ b. cond b (Some x) (find p xs)) f
  find_next (x ∷ xs) (suc i) d lt f = find_next xs i d (omega arith) f

  pub find_later : (xs : List X) (i : ℕ) (d : X) → i < length xs → p (get_or xs i d) ≡ false → find p (drop i xs) ≡ find p (drop (i + 1) xs)
  find_later xs i d lt f = find_next xs i d lt f ∙ ap (λ n. find p (drop n xs)) (let e : suc i ≡ i + 1 = omega arith in e)
