-- What holds of each rule of each family holds of what a library asks for.
use Rattle.std.proofs.Common.{List, [], ◌∷◌, flat_map}
use Rattle.std.specs.Prelude.{All}
use Rattle.std.proofs.lemmas.List.Elements.{All-nil, All-append}
use Rattle.goal_meaning.specs.Views.{AxiomTree}
use Rattle.axiom_library.specs.Families.{axioms_of}
use Rattle.axiom_library.specs.Libraries.{families_of}
use Rattle.axiom_library.specs.Asked.{option_axioms, asked_axioms}
use Rattle.axiom_library.specs.declared.families.Family.{Family}
use Rattle.axiom_library.specs.declared.families.Family.TheVariants as families
use Rattle.axiom_library.specs.declared.libraries.Library.{Library}

pub of_all :
    {X : Type 0} (P : X → Type 0) (f : Family → List X) →
    ((family : Family) → All P (f family)) →
    (fs : List Family) →
    All P (flat_map f fs)
of_all P f each [] = All-nil P
of_all P f each (one ∷ others) = All-append P (f one) (flat_map f others) (each one) (of_all P f each others)

option_axioms_are :
    (P : AxiomTree → Type 0) →
    ((family : Family) → All P (axioms_of family)) →
    (family : Family) →
    All P (option_axioms family)
option_axioms_are P each families.Sums = All-nil P
option_axioms_are P each families.Bytes = each families.Bytes
option_axioms_are P each families.Products = each families.Products
option_axioms_are P each families.Halves = each families.Halves
option_axioms_are P each families.Extensions = each families.Extensions
option_axioms_are P each families.Rounding = each families.Rounding
option_axioms_are P each families.Comparisons = each families.Comparisons
option_axioms_are P each families.Minima = each families.Minima
option_axioms_are P each families.Carries = each families.Carries
option_axioms_are P each families.Masks = each families.Masks
option_axioms_are P each families.Fields = each families.Fields
option_axioms_are P each families.Constants = each families.Constants
option_axioms_are P each families.Unaligned = each families.Unaligned

pub axioms_are :
    (P : AxiomTree → Type 0) →
    ((family : Family) → All P (axioms_of family)) →
    (library : Library) →
    All P (asked_axioms library)
axioms_are P each library = of_all P option_axioms (option_axioms_are P each) (families_of library)
