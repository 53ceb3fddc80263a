-- The names of the families. Source: this project.
use Rattle.std.specs.Prelude.{ℕ, List, Option, codes, find, bytes_eq}
use Rattle.axiom_library.specs.Families.{all_families}
use Rattle.axiom_library.specs.declared.families.Family.{Family}
use Rattle.axiom_library.specs.declared.families.Family.TheVariants as families

abbrev pub family_name : Family → List ℕ
family_name families.Bytes = codes "bytes"
family_name families.Products = codes "products"
family_name families.Sums = codes "sums"
family_name families.Halves = codes "halves"
family_name families.Extensions = codes "extensions"
family_name families.Rounding = codes "rounding"
family_name families.Comparisons = codes "comparisons"
family_name families.Minima = codes "minima"
family_name families.Carries = codes "carries"
family_name families.Masks = codes "masks"
family_name families.Fields = codes "fields"
family_name families.Constants = codes "constants"
family_name families.Unaligned = codes "unaligned"

-- the family of this name
unfoldable pub family_named : List ℕ → Option Family
family_named name = find (λ family. bytes_eq (family_name family) name) all_families
