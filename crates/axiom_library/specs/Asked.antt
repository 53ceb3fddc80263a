-- The rules that a library asks for beside those that serve every text: axioms, equations over a memory, and kinds of
-- computed rules. Source: this project; what an axiom is comes from Denali (PLDI 2002).
use Rattle.std.specs.Prelude.{Bool, false, List, [], flat_map, filter, Option, None, Some}
use Rattle.goal_meaning.specs.Views.{AxiomTree}
use Rattle.axiom_base.specs.Rewrites.{Rewrite}
use Rattle.axiom_base.specs.Schemes.{further_kinds}
use Rattle.axiom_base.specs.declared.kinds.Calc.{Calc}
use Rattle.axiom_base.specs.declared.kinds.Calc.TheVariants.{C13, C14, C15, C16, C17, C18, C19, C20, C21, C22, C23, C24, C25, C26, C27, C28, C29, C30, C31, C32, C33, C34, C35, C36, C37}
use Rattle.axiom_library.specs.Families.{axioms_of}
use Rattle.axiom_library.specs.Libraries.{has_family, families_of}
use Rattle.axiom_library.specs.Unaligned.{unaligned_equations}
use Rattle.axiom_library.specs.declared.families.Family.{Family}
use Rattle.axiom_library.specs.declared.families.Family.TheVariants as families
use Rattle.axiom_library.specs.declared.libraries.Library.{Library}

-- ---- of one family

-- the axiom of sums, which matches every sum and feeds itself, is for texts alone: here a computed rule does its work
abbrev pub option_axioms : Family → List AxiomTree
option_axioms families.Sums = []
option_axioms family = axioms_of family

-- those that no text can have, since a text's variables are words
abbrev pub equations_of : Family → List Rewrite
equations_of families.Unaligned = unaligned_equations
equations_of _ = []

-- the family that a kind of computed rules is of; the others serve every text
abbrev pub family_of_kind : Calc → Option Family
family_of_kind C13 = Some families.Masks
family_of_kind C14 = Some families.Masks
family_of_kind C15 = Some families.Masks
family_of_kind C16 = Some families.Masks
family_of_kind C17 = Some families.Sums
family_of_kind C18 = Some families.Fields
family_of_kind C19 = Some families.Fields
family_of_kind C20 = Some families.Fields
family_of_kind C21 = Some families.Products
family_of_kind C22 = Some families.Products
family_of_kind C23 = Some families.Products
family_of_kind C24 = Some families.Products
family_of_kind C25 = Some families.Products
family_of_kind C26 = Some families.Fields
family_of_kind C27 = Some families.Fields
family_of_kind C28 = Some families.Fields
family_of_kind C29 = Some families.Fields
family_of_kind C30 = Some families.Fields
family_of_kind C31 = Some families.Fields
family_of_kind C32 = Some families.Products
family_of_kind C33 = Some families.Products
family_of_kind C34 = Some families.Products
family_of_kind C35 = Some families.Constants
family_of_kind C36 = Some families.Constants
family_of_kind C37 = Some families.Constants
family_of_kind _ = None

-- ---- of a library

-- the axioms, in the order of the families
abbrev pub asked_axioms : Library → List AxiomTree
asked_axioms library = flat_map option_axioms (families_of library)

abbrev pub asked_equations : Library → List Rewrite
asked_equations library = flat_map equations_of (families_of library)

abbrev pub is_asked : Library → Option Family → Bool
is_asked library None = false
is_asked library (Some family) = has_family library family

-- the kinds, in the order of their numbers
abbrev pub asked_kinds : Library → List Calc
asked_kinds library = filter (λ kind. is_asked library (family_of_kind kind)) further_kinds
