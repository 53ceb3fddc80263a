-- The families that the program writes, since a text can have what they do. The others are mostly rules that no text
-- can have. Source: this project.
use Rattle.std.specs.Prelude.{ℕ, List, [], ◌∷◌, Option, find, bytes_eq}
use Rattle.axiom_library.specs.Names.{family_name}
use Rattle.axiom_library.specs.declared.families.Family.{Family}
use Rattle.axiom_library.specs.declared.families.Family.TheVariants.{Bytes, Products, Sums, Halves, Extensions, Rounding, Comparisons, Minima, Carries}

abbrev pub written_families : List Family
written_families =
    Bytes ∷ Products ∷ Sums ∷ Halves ∷ Extensions ∷ Rounding ∷ Comparisons ∷ Minima ∷ Carries ∷ []

-- the one of this name
unfoldable pub written_named : List ℕ → Option Family
written_named name = find (λ family. bytes_eq (family_name family) name) written_families
