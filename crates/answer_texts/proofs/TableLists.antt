-- The last item of a list, and whether an option has a value.
use Rattle.std.proofs.Common.{◌≡◌, ℕ, ◌<◌, true, false, Option, None, Some, List, [], ◌∷◌, ◌++◌, length, get_or, refl, sym, subst, arith}
use Rattle.std.specs.Prelude.{All, AllPairs, IfSome, IfNone, is_some}
use Rattle.std.proofs.lemmas.Bool.{false≢true}
use Rattle.std.proofs.lemmas.List.{get_or_push, get_or_append_left, length_push}

module _ {X : Type 0} (P : X → Type 0) (xs : List X) (x : X) (h : All P (xs ++ x ∷ [])) where
  pub all_last : P x
  all_last = (let n = length_push xs x in subst P (get_or_push xs x x (length xs) refl) (h (length xs) x (omega (arith, n))))

pub pairs_last : {X : Type 0} (R : X → X → Type 0) (xs : List X) (x : X) → AllPairs R (xs ++ x ∷ []) → (k : ℕ) (d : X)
    → k < length xs → R (get_or xs k d) x
pairs_last R xs x h k d lt =
    let n = length_push xs x in
    subst (R (get_or xs k d)) (get_or_push xs x d (length xs) refl)
    (subst (λ y. R y (get_or (xs ++ x ∷ []) (length xs) d)) (get_or_append_left xs (x ∷ []) d k lt)
    (h k (length xs) d lt (omega (arith, n))))

pub some_value : {X : Type 0} (P : X → Type 0) (o : Option X) → IfSome o P → is_some o ≡ true → (x : X) × P x
some_value P None h is = absurd (false≢true is)
some_value P (Some x) h is = (x, h)

pub no_value : {X : Type 0} (Q : Type 0) (o : Option X) → IfNone o Q → is_some o ≡ false → Q
no_value Q None h is = h
no_value Q (Some x) h is = absurd (false≢true (sym is))
