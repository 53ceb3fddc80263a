-- Families are compared by their variant.
use Rattle.std.proofs.Common.{◌≡◌, ◌≢◌, Bool, true, false, List, [], ◌∷◌, map, cond, refl, sym, ap, ap₂, ◌∙◌}
use Rattle.std.specs.Bool.{Decides}
use Rattle.std.proofs.lemmas.Slice.Eq.{slice_eq-Decides}
use lib.Pointwise.{pointwise}
use Rattle.axiom_library.specs.Families.{all_families}
use Rattle.axiom_library.specs.declared.families.Family.{Family}
use Rattle.axiom_library.specs.declared.families.Family.TheVariants.{Bytes, Products, Sums, Halves, Extensions, Rounding, Comparisons, Minima, Carries, Masks, Fields, Constants, Unaligned}
use Rattle.axiom_library.specs.contracts.families.FamilyPartialEq.TheImpl.{eq-value}
use Rattle.axiom_library.specs.contracts.families.FamilyPartialEq.TheImpl.Laws.{lawful}

abbrev same_family : Family → Family → Bool
same_family = eq-value.it

-- the first family beside which `true` stands
marked : List Bool → List Family → Family
marked [] fs = Bytes
marked (b ∷ bs) [] = Bytes
marked (b ∷ bs) (f ∷ fs) = cond b f (marked bs fs)

marked_itself : (a : Family) → marked (map (same_family a) all_families) all_families ≡ a
unfolding marked
marked_itself Bytes = refl
marked_itself Products = refl
marked_itself Sums = refl
marked_itself Halves = refl
marked_itself Extensions = refl
marked_itself Rounding = refl
marked_itself Comparisons = refl
marked_itself Minima = refl
marked_itself Carries = refl
marked_itself Masks = refl
marked_itself Fields = refl
marked_itself Constants = refl
marked_itself Unaligned = refl

same_itself : (a : Family) → same_family a a ≡ true
same_itself Bytes = refl
same_itself Products = refl
same_itself Sums = refl
same_itself Halves = refl
same_itself Extensions = refl
same_itself Rounding = refl
same_itself Comparisons = refl
same_itself Minima = refl
same_itself Carries = refl
same_itself Masks = refl
same_itself Fields = refl
same_itself Constants = refl
same_itself Unaligned = refl

both : (x y : Bool) → (x ≡ true → y ≡ true) → (y ≡ true → x ≡ true) → x ≡ y
both true y to back = sym (to refl)
both false true to back = back refl
both false false to back = refl

as_other : (a b : Family) → same_family a b ≡ true → (z : Family) → same_family a z ≡ same_family b z
as_other a b e z = both (same_family a z) (same_family b z)
    (λ t. lawful.laws.trans b a z (lawful.laws.symm b a ∙ e) t)
    (λ t. lawful.laws.trans a b z e t)

rows : (a b : Family) → same_family a b ≡ true → (fs : List Family) → map (same_family a) fs ≡ map (same_family b) fs
rows a b e [] = refl
rows a b e (f ∷ fs) = ap₂ (λ (x : Bool) (xs : List Bool). x ∷ xs) (as_other a b e f) (rows a b e fs)

families_same : (a b : Family) → Decides (same_family a b) (a ≡ b)
families_same a b = (
  λ e. sym (marked_itself a) ∙ ap (λ bs. marked bs all_families) (rows a b e all_families) ∙ marked_itself b,
  λ e. ap (same_family a) (sym e) ∙ same_itself a,
)

pub lists_same : (xs ys : List Family) (r : Bool) → r ≡ pointwise same_family xs ys → Decides r (xs ≡ ys)
lists_same = slice_eq-Decides families_same
