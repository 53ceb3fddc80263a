-- A clause is unit, false or open, and no two of them.
use Rattle.std.proofs.Common.{◌≡◌, Bool, true, false, not, List, sym, ◌∙◌, ◌⊎◌, inl, inr, Some, None, subst}
use Rattle.std.specs.List.{Contains}
use Rattle.std.proofs.lemmas.List.Elements.{All-contains}
use Rattle.cnf_core.specs.declared.literal.Lit.{Lit}
use Rattle.cnf_core.specs.Values.{Partial, IsUnit, IsUnassigned, IsHeld, IsFalse, IsFalseClause, IsOpenClause}

none≢some : {b : Bool} → None ≡ Some b → ⊥
none≢some e = cc

not-opposite : (b : Bool) → Some b ≡ Some (not b) → ⊥
not-opposite true e = cc
not-opposite false e = cc

held-not_false : (s : Partial) (l : Lit) → IsHeld s l → IsFalse s l → ⊥
held-not_false s l h f = not-opposite l.positive (sym h ∙ f)

pub unit-not_false : (s : Partial) (c : List Lit) (l : Lit) → IsUnit s c l → IsFalseClause s c → ⊥
unit-not_false s c l u f = none≢some (sym u.free ∙ All-contains (IsFalse s) c l f u.among)

pub open-not_false : (s : Partial) (c : List Lit) → IsOpenClause s c → IsFalseClause s c → ⊥
open-not_false s c (inl (l, there, held)) f = held-not_false s l held (All-contains (IsFalse s) c l f there)
open-not_false s c (inr (l, m, there, there', differ, free, free')) f = none≢some (sym free ∙ All-contains (IsFalse s) c l f there)

-- a literal without a value is the one of a unit clause
only : (s : Partial) (c : List Lit) (l m : Lit) → IsUnit s c l → Contains c m → IsUnassigned s m → m ≡ l
only s c l m u there free =
    elim (All-contains (λ x. (x ≡ l) ⊎ IsFalse s x) c m u.others there) [
      | inl same ↦ same
      | inr false' ↦ absurd (none≢some (sym free ∙ false'))
    ]

pub open-not_unit : (s : Partial) (c : List Lit) → IsOpenClause s c → (l : Lit) → IsUnit s c l → ⊥
open-not_unit s c (inl (m, there, held)) l u =
    elim (All-contains (λ x. (x ≡ l) ⊎ IsFalse s x) c m u.others there) [
      | inl same ↦ none≢some (sym u.free ∙ subst (IsHeld s) same held)
      | inr false' ↦ held-not_false s m held false'
    ]
open-not_unit s c (inr (m, n, there, there', differ, free, free')) l u = differ (only s c l m u there free ∙ sym (only s c l n u there' free'))
