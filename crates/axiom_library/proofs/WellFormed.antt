-- Each axiom of the library is well formed: family by family, its axioms pass the test.
use Rattle.std.proofs.Common.{◌≡◌, true, List, [], refl, arith}
use Rattle.std.specs.Prelude.{All, Contains}
use Rattle.std.specs.List.{list_all}
use Rattle.std.proofs.lemmas.List.Sums.{AllPass-from_list_all}
use Rattle.goal_meaning.specs.Names.{word_named}
use Rattle.goal_meaning.specs.WellFormed.{IsAxiom}
use Rattle.goal_meaning.specs.declared.goals.DeclaredOp.{DeclaredOp}
use Rattle.axiom_library.specs.Families.{axioms_of, all_families, IsApart}
use Rattle.axiom_library.specs.declared.families.Family.{Family}
use Rattle.axiom_library.specs.declared.families.Family.TheVariants as families
use Rattle.axiom_library.proofs.Plain.{fits, well_formed}

family_fits : (family : Family) → list_all fits (axioms_of family) ≡ true
unfolding word_named
family_fits families.Bytes = refl
family_fits families.Products = refl
family_fits families.Sums = refl
family_fits families.Halves = refl
family_fits families.Extensions = refl
family_fits families.Rounding = refl
family_fits families.Comparisons = refl
family_fits families.Minima = refl
family_fits families.Carries = refl
family_fits families.Masks = refl
family_fits families.Fields = refl
family_fits families.Constants = refl
family_fits families.Unaligned = refl

pub family_is_well_formed : (declared : List DeclaredOp) (family : Family) → All (λ a. IsApart declared a → IsAxiom declared a) (axioms_of family)
family_is_well_formed declared family = λ k d l. well_formed declared _ (AllPass-from_list_all fits (axioms_of family) (family_fits family) k d l)

-- where no operator is declared, none has the name of a variable
pub family_is_well_formed_alone : (family : Family) → All (IsAxiom []) (axioms_of family)
family_is_well_formed_alone family = λ k d l. family_is_well_formed [] family k d l (λ i e m. refl)

pub among_all : (family : Family) → Contains all_families family
among_all families.Bytes = (0, omega arith, refl)
among_all families.Products = (1, omega arith, refl)
among_all families.Sums = (2, omega arith, refl)
among_all families.Halves = (3, omega arith, refl)
among_all families.Extensions = (4, omega arith, refl)
among_all families.Rounding = (5, omega arith, refl)
among_all families.Comparisons = (6, omega arith, refl)
among_all families.Minima = (7, omega arith, refl)
among_all families.Carries = (8, omega arith, refl)
among_all families.Masks = (9, omega arith, refl)
among_all families.Fields = (10, omega arith, refl)
among_all families.Constants = (11, omega arith, refl)
among_all families.Unaligned = (12, omega arith, refl)
