-- What the loops over families and kinds make is what a library asks for.
use Rattle.std.proofs.Common.{◌≡◌, ℕ, ◌+◌, ◌<◌, ◌++◌, Bool, true, false, cond, if◌then◌else◌, List, [], ◌∷◌, length, get_or, take, filter, flat_map, refl, ap}
use Rattle.std.proofs.lemmas.List.Elements.{filter_more}
use Rattle.axiom_base.specs.declared.kinds.Calc.{Calc}
use Rattle.axiom_library.specs.Asked.{option_axioms, equations_of, asked_axioms, asked_equations, family_of_kind, is_asked}
use Rattle.axiom_library.specs.Families.{all_families}
use Rattle.axiom_library.specs.Libraries.{has_family}
use Rattle.axiom_library.specs.declared.libraries.Library.{Library}

of_kept :
    {X Y : Type 0} (p : X → Bool) (f : X → List Y) (xs : List X) →
    flat_map (λ x. if p x then f x else []) xs ≡ flat_map f (filter p xs)
of_kept p f [] = refl
of_kept p f (x ∷ xs) = step (p x) (of_kept p f xs)
  where
    step :
        (b : Bool) →
        flat_map (λ y. if p y then f y else []) xs ≡ flat_map f (filter p xs) →
        (if b then f x else []) ++ flat_map (λ y. if p y then f y else []) xs
        ≡ flat_map f (cond b (x ∷ filter p xs) (filter p xs))
    step true rest = ap (λ ys. f x ++ ys) rest
    step false rest = rest

pub axioms_asked :
    (library : Library) →
    flat_map (λ family. if has_family library family then option_axioms family else []) all_families
    ≡ asked_axioms library
axioms_asked library = of_kept (has_family library) option_axioms all_families

pub equations_asked :
    (library : Library) →
    flat_map (λ family. if has_family library family then equations_of family else []) all_families
    ≡ asked_equations library
equations_asked library = of_kept (has_family library) equations_of all_families

abbrev those : Library → List Calc → List Calc
those library kinds = filter (λ kind. is_asked library (family_of_kind kind)) kinds

pub kinds_more :
    (library : Library) (kinds : List Calc) (i : ℕ) (d : Calc) →
    i < length kinds →
    those library (take (i + 1) kinds)
    ≡ those library (take i kinds)
    ++ cond (is_asked library (family_of_kind (get_or kinds i d))) (get_or kinds i d ∷ []) []
kinds_more library kinds i d l = filter_more (λ kind. is_asked library (family_of_kind kind)) kinds i d l
