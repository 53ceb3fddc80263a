-- Forms that are printed one after another.
use Rattle.std.proofs.Common.{◌≡◌, ℕ, zero, suc, ◌+◌, ◌<◌, ◌≤◌, List, [], ◌∷◌, ◌++◌, length, map, take, get_or, refl, sym, ap, ◌∙◌, arith, append_assoc, append-nil}
use Rattle.std.specs.List.{flat_map}
use Rattle.std.proofs.lemmas.List.{take_more}
use Rattle.std.proofs.lemmas.Grind.{flat_map-append}
use Rattle.forms.specs.Printing.{Plain, plains_from, plain_text, others_of}

-- the text of the next item, after those of the items so far
pub each_more : {X : Type 0} (f : X → List ℕ) (xs : List X) (i : ℕ) (d : X) (start text new : List ℕ)
    → i < length xs → text ≡ start ++ flat_map f (take i xs) → new ≡ text ++ f (get_or xs i d) → new ≡ start ++ flat_map f (take (i + 1) xs)
each_more f xs i d start text new lt so_far more =
    more ∙ ap (λ l. l ++ f (get_or xs i d)) so_far ∙ append_assoc start (flat_map f (take i xs)) (f (get_or xs i d))
    ∙ ap (λ l. start ++ l) (sym (ap (flat_map f) (take_more xs i d lt) ∙ flat_map-append f (take i xs) (get_or xs i d ∷ []) ∙ ap (λ l. flat_map f (take i xs) ++ l) (append-nil (f (get_or xs i d)))))

-- several forms behind others are each of them behind a space
pub others_each : {X : Type 0} (f : X → Plain) (xs : List X) → others_of (plains_from (map f xs)) ≡ flat_map (λ x. 32 ∷ plain_text (f x)) xs
others_each f [] = refl
others_each f (x ∷ xs) = ap (λ l. 32 ∷ plain_text (f x) ++ l) (others_each f xs)

taken_all : {X : Type 0} (xs : List X) (i : ℕ) → length xs ≤ i → take i xs ≡ xs
taken_all [] zero h = refl
taken_all [] (suc i) h = refl
taken_all (x ∷ xs) zero h = absurd (omega arith)
taken_all (x ∷ xs) (suc i) h = ap (λ l. x ∷ l) (taken_all xs i (omega arith))

-- all of them, each behind a space
pub all_printed : {X : Type 0} (f : X → Plain) (xs : List X) (i : ℕ) (start text : List ℕ)
    → length xs ≤ i → text ≡ start ++ flat_map (λ x. 32 ∷ plain_text (f x)) (take i xs) → text ≡ start ++ others_of (plains_from (map f xs))
all_printed f xs i start text all so_far =
    so_far ∙ ap (λ l. start ++ flat_map (λ x. 32 ∷ plain_text (f x)) l) (taken_all xs i all) ∙ ap (λ l. start ++ l) (sym (others_each f xs))
