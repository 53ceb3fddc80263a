-- A library: which families are asked for. Source: this project.
use Rattle.std.specs.Prelude.{Bool, true, false, List, [], ◌∷◌, filter}
use Rattle.axiom_library.specs.Families.{all_families}
use Rattle.axiom_library.specs.declared.families.Family.{Family}
use Rattle.axiom_library.specs.declared.families.Family.TheVariants as families
use Rattle.axiom_library.specs.declared.libraries.Library.{Library}

abbrev pub has_family : Library → Family → Bool
has_family library families.Bytes = library.bytes
has_family library families.Products = library.products
has_family library families.Sums = library.sums
has_family library families.Halves = library.halves
has_family library families.Extensions = library.extensions
has_family library families.Rounding = library.rounding
has_family library families.Comparisons = library.comparisons
has_family library families.Minima = library.minima
has_family library families.Carries = library.carries
has_family library families.Masks = library.masks
has_family library families.Fields = library.fields
has_family library families.Constants = library.constants
has_family library families.Unaligned = library.unaligned

-- the families that are asked for, in the order of all families
abbrev pub families_of : Library → List Family
families_of library = filter (has_family library) all_families

-- the library with one more family
abbrev pub with_family : Library → Family → Library
with_family library families.Bytes = record library { bytes = true }
with_family library families.Products = record library { products = true }
with_family library families.Sums = record library { sums = true }
with_family library families.Halves = record library { halves = true }
with_family library families.Extensions = record library { extensions = true }
with_family library families.Rounding = record library { rounding = true }
with_family library families.Comparisons = record library { comparisons = true }
with_family library families.Minima = record library { minima = true }
with_family library families.Carries = record library { carries = true }
with_family library families.Masks = record library { masks = true }
with_family library families.Fields = record library { fields = true }
with_family library families.Constants = record library { constants = true }
with_family library families.Unaligned = record library { unaligned = true }

-- with each of these
abbrev pub with_families : Library → List Family → Library
with_families library [] = library
with_families library (family ∷ others) = with_families (with_family library family) others

-- nothing is asked for
abbrev pub no_library : Library
no_library = record {
  bytes = false;
  products = false;
  sums = false;
  halves = false;
  extensions = false;
  rounding = false;
  comparisons = false;
  minima = false;
  carries = false;
  masks = false;
  fields = false;
  constants = false;
  unaligned = false;
}

-- the library of these families, whatever their order
abbrev pub library_of : List Family → Library
library_of asked = with_families no_library asked

-- all families but one, whose axiom matches every sum and feeds itself
abbrev pub all_but_halves : Library
all_but_halves = record {
  bytes = true;
  products = true;
  sums = true;
  halves = false;
  extensions = true;
  rounding = true;
  comparisons = true;
  minima = true;
  carries = true;
  masks = true;
  fields = true;
  constants = true;
  unaligned = true;
}
