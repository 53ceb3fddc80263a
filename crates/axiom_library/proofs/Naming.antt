-- Families are found by their names.
use Rattle.std.proofs.Common.{◌≡◌, ℕ, Bool, true, false, cond, List, [], ◌∷◌, Some, find, bytes_eq, refl, sym, ap, subst, ◌∙◌}
use Rattle.std.proofs.lemmas.Option.{none-some, same_Some}
use Rattle.std.proofs.lemmas.Slice.Eq.{bytes_eq-Decides}
use Rattle.axiom_library.specs.Families.{all_families}
use Rattle.axiom_library.specs.Names.{family_name, family_named}
use Rattle.axiom_library.specs.declared.families.Family.{Family}
use Rattle.axiom_library.specs.declared.families.Family.TheVariants.{Bytes}

pub found : (family : Family) → family_named (family_name family) ≡ Some family
unfolding family_named
found Bytes = refl
found _ = refl

-- the family that a name finds among several has that name
pub own_in : (name : List ℕ) (among : List Family) (family : Family)
    → find (λ f. bytes_eq (family_name f) name) among ≡ Some family → family_name family ≡ name
own_in name [] family e = absurd (none-some family e)
own_in name (one ∷ others) family e = step (bytes_eq (family_name one) name) refl e (own_in name others family)
  where
    step : (b : Bool) → bytes_eq (family_name one) name ≡ b
        → cond b (Some one) (find (λ f. bytes_eq (family_name f) name) others) ≡ Some family
        → (find (λ f. bytes_eq (family_name f) name) others ≡ Some family → family_name family ≡ name) → family_name family ≡ name
    step true same e rest =
        subst (λ f. family_name f ≡ name) (same_Some one family e) ((bytes_eq-Decides (family_name one) name).0 same)
    step false other e rest = rest e

pub own : (name : List ℕ) (family : Family) → family_named name ≡ Some family → name ≡ family_name family
unfolding family_named
own name family e = sym (own_in name all_families family e)

pub differ : (family other : Family) → family_name family ≡ family_name other → family ≡ other
differ family other e = same_Some family other (sym (found family) ∙ ap family_named e ∙ found other)
