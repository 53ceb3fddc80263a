-- The loop that looks at one clause: no free literal so far, or one.
use Rattle.std.proofs.Common.{◌≡◌, ℕ, ◌+◌, ◌<◌, Bool, true, false, not, List, [], ◌∷◌, length, take, get_or, refl, sym, ap, ◌∙◌, subst, ◌⊎◌, inl, inr, Option, Some, None}
use Rattle.std.specs.List.{All, Contains}
use Rattle.std.proofs.lemmas.List.{take_more}
use Rattle.std.proofs.lemmas.List.Elements.{All-more, All-weaker, Contains-append_left, Contains-push}
use Rattle.cnf_core.specs.declared.literal.Lit.{Lit}
use Rattle.cnf_core.specs.Values.{Partial, IsUnit, IsUnassigned, IsFalse}

other : (b p : Bool) → (b ≡ p → ⊥) → b ≡ not p
other true true differ = absurd (differ refl)
other true false differ = refl
other false true differ = refl
other false false differ = absurd (differ refl)

-- a value that doesn't make the literal true makes it false
pub false-value : (s : Partial) (l : Lit) (b : Bool) → s l.var ≡ Some b → (b ≡ l.positive → ⊥) → IsFalse s l
false-value s l b is differ = is ∙ ap Some (other b l.positive differ)

-- what the loop knows of the literals before an index: none was free, and all are false; or one is free, and the others are false
abbrev pub UnitSoFar : Partial → List Lit → Option Lit → Type 0
UnitSoFar s front None = All (IsFalse s) front
UnitSoFar s front (Some l) = IsUnit s front l

-- the step of the loop, at a literal that is false
pub unit-false : (s : Partial) (c : List Lit) (i : ℕ) (d : Lit) (o : Option Lit) → i < length c → UnitSoFar s (take i c) o → IsFalse s (get_or c i d) → UnitSoFar s (take (i + 1) c) o
unit-false s c i d None few h f = All-more (IsFalse s) c i d few h f
unit-false s c i d (Some l) few h f =
    record {
      among = subst (λ (xs : List Lit). Contains xs l) (sym (take_more c i d few)) (Contains-append_left (take i c) (get_or c i d ∷ []) l h.among);
      free = h.free;
      others = All-more (λ m. (m ≡ l) ⊎ IsFalse s m) c i d few h.others (inr f);
    }

-- at the first literal that is free
pub unit-found : (s : Partial) (c : List Lit) (i : ℕ) (d : Lit) → i < length c → UnitSoFar s (take i c) None → IsUnassigned s (get_or c i d) → UnitSoFar s (take (i + 1) c) (Some (get_or c i d))
unit-found s c i d few h f =
    let l = get_or c i d in
    record {
      among = subst (λ (xs : List Lit). Contains xs l) (sym (take_more c i d few)) (Contains-push (take i c) l);
      free = f;
      others = All-more (λ m. (m ≡ l) ⊎ IsFalse s m) c i d few (All-weaker (IsFalse s) (λ m. (m ≡ l) ⊎ IsFalse s m) (λ m p. inr p) (take i c) h) (inl refl);
    }

-- at the free literal again
pub unit-again : (s : Partial) (c : List Lit) (i : ℕ) (d l : Lit) → i < length c → UnitSoFar s (take i c) (Some l) → l ≡ get_or c i d → UnitSoFar s (take (i + 1) c) (Some (get_or c i d))
unit-again s c i d l few h e =
    subst (λ (m : Lit). UnitSoFar s (take (i + 1) c) (Some m)) e
    (record {
      among = subst (λ (xs : List Lit). Contains xs l) (sym (take_more c i d few)) (Contains-append_left (take i c) (get_or c i d ∷ []) l h.among);
      free = h.free;
      others = All-more (λ m. (m ≡ l) ⊎ IsFalse s m) c i d few h.others (inl (sym e));
    })
