-- A fact or its refutation, found by computing.
use Rattle.std.proofs.Common.{◌≡◌, ℕ, zero, suc, ◌+◌, ◌<◌, ◌≤◌, List, [], ◌∷◌, refl, inl, inr, ◌⊎◌, arith, Bool, true, false}
use Rattle.std.specs.Prelude.{All, AllPairs, Decides, nat_lt, ◌==◌}
use Rattle.std.proofs.lemmas.Bool.{false≢true}
use Rattle.std.proofs.lemmas.Bool.Decides.{Decides-eqb, Decides-ltb}
use Rattle.std.proofs.lemmas.List.Elements.{All-nil, All-cons, All-head, All-tail}

abbrev pub Dec : Type 0 → Type 0
Dec P = P ⊎ ¬ P

pub from_false : {P : Type 0} → Decides false P → ¬ P
from_false d p = false≢true (d.1 p)

abbrev pub dec_by : {P : Type 0} (b : Bool) → Decides b P → Dec P
dec_by true d = inl (d.0 refl)
dec_by false d = inr (from_false d)

abbrev pub dec_nat : (a b : ℕ) → Dec (a ≡ b)
dec_nat a b = dec_by (a == b) (Decides-eqb a b)

abbrev pub dec_lt : (a b : ℕ) → Dec (a < b)
dec_lt a b = dec_by (nat_lt a b) (Decides-ltb a b)

pub le_from_lt : (a b : ℕ) → a < b + 1 → a ≤ b
le_from_lt a b h = omega arith

pub lt_from_le : (a b : ℕ) → ¬ (a < b + 1) → ¬ (a ≤ b)
lt_from_le a b n h = n (omega arith)

abbrev pub dec_map : {P Q : Type 0} → (P → Q) → (¬ P → ¬ Q) → Dec P → Dec Q
dec_map f g (inl p) = inl (f p)
dec_map f g (inr n) = inr (g n)

abbrev pub dec_le : (a b : ℕ) → Dec (a ≤ b)
dec_le a b = dec_map (le_from_lt a b) (lt_from_le a b) (dec_lt a (b + 1))

abbrev pub dec_and : {P Q : Type 0} → Dec P → Dec Q → Dec (P × Q)
dec_and (inl p) (inl q) = inl (p, q)
dec_and (inl p) (inr n) = inr (λ h. n h.1)
dec_and (inr n) q = inr (λ h. n h.0)

abbrev pub dec_not : {P : Type 0} → Dec P → Dec (¬ P)
dec_not (inl p) = inr (λ n. n p)
dec_not (inr n) = inl n

module _ {X : Type 0} (P : X → Type 0) (d : (x : X) → Dec (P x)) where
  abbrev pub dec_all : (xs : List X) → Dec (All P xs)
  dec_all [] = inl (All-nil P)
  dec_all (x ∷ xs) = dec_map (λ h. All-cons P x xs h.0 h.1) (λ n h. n (All-head P x xs h, All-tail P x xs h)) (dec_and (d x) (dec_all xs))

-- ---- pairs

module _ {X : Type 0} (R : X → X → Type 0) where
  pub pairs_cons : (x : X) (xs : List X) → All (R x) xs → AllPairs R xs → AllPairs R (x ∷ xs)
  pairs_cons x xs each pairs zero zero d lt len = absurd (omega arith)
  pairs_cons x xs each pairs zero (suc j) d lt len = each j d (omega arith)
  pairs_cons x xs each pairs (suc i) zero d lt len = absurd (omega arith)
  pairs_cons x xs each pairs (suc i) (suc j) d lt len = pairs i j d (omega arith) (omega arith)

  pub pairs_head : (x : X) (xs : List X) → AllPairs R (x ∷ xs) → All (R x) xs
  pairs_head x xs pairs k d lt = pairs 0 (suc k) d (omega arith) (omega arith)

  pub pairs_tail : (x : X) (xs : List X) → AllPairs R (x ∷ xs) → AllPairs R xs
  pairs_tail x xs pairs i j d lt len = pairs (suc i) (suc j) d (omega arith) (omega arith)

  pub pairs_nil : AllPairs R []
  pairs_nil i j d lt len = absurd (omega arith)

  abbrev pub dec_pairs : ((x y : X) → Dec (R x y)) → (xs : List X) → Dec (AllPairs R xs)
  dec_pairs d [] = inl pairs_nil
  dec_pairs d (x ∷ xs) =
      dec_map (λ h. pairs_cons x xs h.0 h.1) (λ n h. n (pairs_head x xs h, pairs_tail x xs h)) (dec_and (dec_all (R x) (d x) xs) (dec_pairs d xs))

abbrev pub holds : {P : Type 0} → Dec P → Bool
holds (inl p) = true
holds (inr n) = false

-- what is decided to hold, holds
pub sure : {P : Type 0} (d : Dec P) → holds d ≡ true → P
sure (inl p) e = p
sure (inr n) e = absurd (false≢true e)
