-- Values that agree on a clause's variables say the same of it.
use Rattle.std.proofs.Common.{◌≡◌, List, get_or, sym, ◌∙◌, inl, inr}
use Rattle.std.specs.List.{Contains}
use Rattle.std.proofs.lemmas.List.{get_or_default}
use Rattle.cnf_core.specs.declared.literal.Lit.{Lit}
use Rattle.cnf_core.specs.Values.{Partial, IsUnit, IsFalseClause, IsOpenClause}

pub unit-agrees : (p q : Partial) (c : List Lit) (l : Lit) → ((m : Lit) → Contains c m → p m.var ≡ q m.var) → IsUnit p c l → IsUnit q c l
unit-agrees p q c l same u =
    record {
      among = u.among;
      free = sym (same l u.among) ∙ u.free;
      others = λ k d few. elim (u.others k d few) [
        | inl is ↦ inl is
        | inr false' ↦ inr (sym (same (get_or c k d) (k, few, get_or_default c k (get_or c k d) d few)) ∙ false')
      ];
    }

pub false-agrees : (p q : Partial) (c : List Lit) → ((m : Lit) → Contains c m → p m.var ≡ q m.var) → IsFalseClause p c → IsFalseClause q c
false-agrees p q c same f = λ k d few. sym (same (get_or c k d) (k, few, get_or_default c k (get_or c k d) d few)) ∙ f k d few

pub open-agrees : (p q : Partial) (c : List Lit) → ((m : Lit) → Contains c m → p m.var ≡ q m.var) → IsOpenClause p c → IsOpenClause q c
open-agrees p q c same o =
    elim o [
      | inl one ↦ (let (l, there, h) = one in inl (l, there, sym (same l there) ∙ h))
      | inr two ↦ (let (l, m, in-l, in-m, differ, free-l, free-m) = two in inr (l, m, in-l, in-m, differ, sym (same l in-l) ∙ free-l, sym (same m in-m) ∙ free-m))
    ]
