-- The library's axioms, family by family. In each row the left side comes first. Each is true for all words. The choice
-- is this project's, by what the instructions of the Alpha Architecture Handbook, version 4, do in fewest cycles. Some
-- families have other rules instead: `Asked` says which.
use Rattle.std.specs.Prelude.{ℕ, ◌≡◌, ◌-◌, false, List, [], ◌∷◌, ◌++◌, flat_map, All, Contains}
use Rattle.word_ops.specs.declared.operates.Operate.{Operate}
use Rattle.word_ops.specs.declared.operates.Operate.TheVariants.{Addl, Addq, And, Bic, Bis, Cmpeq, Cmple, Cmplt, Cmpule, Cmpult, Extbl, Extll, Extwl, Insbl, Insll, Inswl, Mulq, S4addq, S4subq, S8addq, Sextb, Sextw, Sll, Sra, Srl, Subq, Xor, Zapnot}
use Rattle.word_ops.specs.declared.operators.WordOp.TheVariants.{Neg, Not, Storeb}
use Rattle.word_ops.specs.declared.sorts.Op.{Op}
use Rattle.word_terms.specs.Tree.{Tree}
use Rattle.word_terms.specs.Building.{w1, w3, o1, o2, constant}
use Rattle.text_core.specs.Names.{is_among}
use Rattle.goal_meaning.specs.Names.{names_of_declared}
use Rattle.goal_meaning.specs.Views.{AxiomTree}
use Rattle.goal_meaning.specs.declared.goals.DeclaredOp.{DeclaredOp}
use Rattle.axiom_library.specs.Shapes.{over_x, over_xy, over_xym, over_abcd, repeated, swapped, four_stored, byte_of, four_times}
use Rattle.axiom_library.specs.declared.families.Family.{Family}
use Rattle.axiom_library.specs.declared.families.Family.TheVariants as families

-- ---- bytes put together one by one

-- t with bytes number n, n - 1, n - 2 and n - 3 of x put in, from byte `at` on
abbrev pub four_bytes : Tree Op → ℕ → Tree Op → ℕ → Tree Op
four_bytes t at x n = four_stored t at (byte_of x n) (byte_of x (n - 1)) (byte_of x (n - 2)) (byte_of x (n - 3))

-- four bytes side by side
abbrev pub packed : Tree Op → Tree Op → Tree Op → Tree Op → Tree Op
packed a b c d =
    o2 Bis (o2 Bis (o2 And a (constant 255)) (o2 Insbl b (constant 1)))
    (o2 Bis (o2 Insbl c (constant 2)) (o2 Insbl d (constant 3)))

-- the low four bytes of x in the other order, and all eight
abbrev pub swapped_4 : Tree Op → Tree Op
swapped_4 x =
    o2 Bis (o2 Bis (o2 Extbl x (constant 3)) (o2 Insbl x (constant 3)))
    (o2 Bis (o2 Zapnot (o2 Srl x (constant 8)) (constant 2)) (o2 Insbl (o2 Srl x (constant 8)) (constant 2)))

abbrev pub swapped_8 : Tree Op → Tree Op
swapped_8 x =
    swapped 8 85 170 (swapped 16 51 204 (o2 Bis (o2 Srl x (constant 32)) (o2 Sll x (constant 32))))

abbrev pub packing : AxiomTree
packing = over_abcd (λ a b c d. (four_stored (constant 0) 0 a b c d, packed a b c d))

abbrev pub swapping_4 : AxiomTree
swapping_4 = over_x (λ x. (four_bytes (constant 0) 0 x 3, swapped_4 x))

abbrev pub swapping_8 : AxiomTree
swapping_8 = over_x (λ x. (four_bytes (four_bytes (constant 0) 0 x 7) 4 x 3, swapped_8 x))

-- one byte in each of the eight places
abbrev pub spreading : AxiomTree
spreading =
    over_x (λ x. (four_stored (four_stored (constant 0) 0 x x x x) 4 x x x x, repeated Bis 32 (four_times x)))

abbrev pub byte_moves : List AxiomTree
byte_moves = packing ∷ swapping_4 ∷ swapping_8 ∷ spreading ∷ []

-- ---- products by constants, in two or three instructions

-- x times the factor is the outer operator of the inner one, of x and x, and of x
abbrev pub in_steps : ℕ → Operate → Operate → AxiomTree
in_steps factor outer inner = over_x (λ x. (o2 Mulq x (constant factor), o2 outer (o2 inner x x) x))

-- and of 0 in place of x
abbrev pub in_steps_to_0 : ℕ → Operate → Operate → AxiomTree
in_steps_to_0 factor outer inner =
    over_x (λ x. (o2 Mulq x (constant factor), o2 outer (o2 inner x x) (constant 0)))

abbrev pub small_products : List AxiomTree
small_products =
    in_steps 6 Addq S4addq
    ∷ in_steps 10 Addq S8addq
    ∷ in_steps 11 S4subq S4subq
    ∷ in_steps 25 S8addq S4subq
    ∷ in_steps_to_0 12 S4addq S4subq
    ∷ in_steps_to_0 20 S4addq S4addq
    ∷ in_steps_to_0 24 S8addq S4subq
    ∷ in_steps_to_0 36 S4addq S8addq
    ∷ in_steps_to_0 40 S8addq S4addq
    ∷ []

abbrev pub times_100 : Tree Op → Tree Op
times_100 x = o2 S4addq (o2 S8addq (o2 S4subq x x) x) (constant 0)

abbrev pub by_100 : AxiomTree
by_100 = over_x (λ x. (o2 Mulq x (constant 100), times_100 x))

-- the factor is 1 in each of the low four bytes
abbrev pub by_four_ones : AxiomTree
by_four_ones = over_x (λ x. (o2 Mulq x (constant 16843009), repeated Addq 16 (repeated Addq 8 x)))

-- and in each byte
abbrev pub by_eight_ones : AxiomTree
by_eight_ones =
    over_x (λ x. (o2 Mulq x (constant 72340172838076673), repeated Addq 32 (repeated Addq 16 (repeated Addq 8 x))))

abbrev pub large_products : List AxiomTree
large_products = by_100 ∷ by_four_ones ∷ by_eight_ones ∷ []

-- ---- sums with constants

-- an eighth below 0x7fff8000 is made by two instructions
abbrev pub by_eighth : AxiomTree
by_eighth = over_xy (λ x y. (o2 Addq x y, o2 S8addq (o2 Srl y (constant 3)) (o2 Addq x (o2 And y (constant 7)))))

abbrev pub sums : List AxiomTree
sums = by_eighth ∷ []

-- a constant is a multiple of 65536 and 16 bits with their sign; 8192 times 4 rounds to the nearest multiple
abbrev pub by_halves : AxiomTree
by_halves =
    over_xy (λ x y. (
      o2 Addq x y,
      o2 Addq (o2 Addq x (o2 Zapnot (o2 S4addq (constant 8192) y) (constant 252))) (o1 Sextw y),
    ))

abbrev pub halves : List AxiomTree
halves = by_halves ∷ []

-- ---- extensions, written as shifts or with the sign's bit

-- shifted to the left and back, by any distance
abbrev pub zero_extension : AxiomTree
zero_extension = over_xy (λ x y. (o2 Srl (o2 Sll x y) y, o2 And x (o2 Srl (w1 Not (constant 0)) y)))

abbrev pub long_extension : AxiomTree
long_extension = over_x (λ x. (o2 Sra (o2 Sll x (constant 32)) (constant 32), o2 Addl x (constant 0)))

-- the bits of the mask with the sign's bit changed, less that bit
abbrev pub by_sign : ℕ → ℕ → Operate → AxiomTree
by_sign mask sign extend =
    over_x (λ x. (o2 Subq (o2 Xor (o2 And x (constant mask)) (constant sign)) (constant sign), o1 extend x))

abbrev pub extensions : List AxiomTree
extensions = zero_extension ∷ long_extension ∷ by_sign 255 128 Sextb ∷ by_sign 65535 32768 Sextw ∷ []

-- ---- rounding to a multiple of a power of 2

-- shifted to the right and back, by any distance
abbrev pub round_down : AxiomTree
round_down =
    over_xy (λ x y. (o2 Sll (o2 Srl x y) y, o2 And x (w1 Not (o2 Subq (o2 Sll (constant 1) y) (constant 1)))))

abbrev pub less_remainder : AxiomTree
less_remainder = over_xy (λ x y. (o2 Subq x (o2 And x y), o2 Bic x y))

-- x rounded up by its negative
abbrev pub round_up : ℕ → AxiomTree
round_up mask =
    over_x (λ x. (o2 Addq x (o2 And (w1 Neg x) (constant mask)), o2 Bic (o2 Addq x (constant mask)) (constant mask)))

abbrev pub rounding : List AxiomTree
rounding = round_down ∷ less_remainder ∷ round_up 3 ∷ round_up 7 ∷ round_up 15 ∷ []

-- ---- comparisons

-- a comparison equal to 0, and with its low bit changed, is the other one with the operands exchanged
abbrev pub opposite : Operate → Operate → AxiomTree
opposite op other = over_xy (λ x y. (o2 Cmpeq (o2 op x y) (constant 0), o2 other y x))

abbrev pub changed : Operate → Operate → AxiomTree
changed op other = over_xy (λ x y. (o2 Xor (o2 op x y) (constant 1), o2 other y x))

abbrev pub negated_comparisons : List AxiomTree
negated_comparisons =
    opposite Cmpult Cmpule
    ∷ opposite Cmpule Cmpult
    ∷ opposite Cmplt Cmple
    ∷ opposite Cmple Cmplt
    ∷ changed Cmpult Cmpule
    ∷ changed Cmpule Cmpult
    ∷ changed Cmplt Cmple
    ∷ changed Cmple Cmplt
    ∷ []

abbrev pub no_difference : Operate → AxiomTree
no_difference op = over_xy (λ x y. (o2 Cmpeq (o2 op x y) (constant 0), o2 Cmpeq x y))

abbrev pub with_0 : Operate → ℕ → Operate → AxiomTree
with_0 op word comparison = over_x (λ x. (o2 op x (constant word), o2 comparison x (constant 0)))

abbrev pub equalities : List AxiomTree
equalities = no_difference Subq ∷ no_difference Xor ∷ with_0 Srl 63 Cmplt ∷ with_0 Cmpult 1 Cmpeq ∷ []

-- ---- minima, maxima and absolute values, written with masks

-- x is negative: all bits of the mask are 1
abbrev pub negative_mask : AxiomTree
negative_mask = over_x (λ x. (w1 Neg (o2 Cmplt x (constant 0)), o2 Sra x (constant 63)))

abbrev pub negative_mask_less_1 : AxiomTree
negative_mask_less_1 = over_x (λ x. (o2 Subq (o2 Cmple (constant 0) x) (constant 1), o2 Sra x (constant 63)))

-- a comparison as a mask is the other one with the operands exchanged, less 1
abbrev pub mask_of : Operate → Operate → AxiomTree
mask_of op other = over_xy (λ x y. (w1 Neg (o2 op x y), o2 Subq (o2 other y x) (constant 1)))

-- x where the bit of the mask is 1, else y
abbrev pub chosen : AxiomTree
chosen = over_xym (λ x y m. (o2 Bis (o2 And x m) (o2 Bic y m), o2 Xor y (o2 And (o2 Xor x y) m)))

-- the larger of x and 0
abbrev pub not_below_0 : AxiomTree
not_below_0 = over_x (λ x. (o2 And x (w1 Neg (o2 Cmple (constant 0) x)), o2 Bic x (o2 Sra x (constant 63))))

abbrev pub minima : List AxiomTree
minima =
    negative_mask
    ∷ negative_mask_less_1
    ∷ mask_of Cmpult Cmpule
    ∷ mask_of Cmplt Cmple
    ∷ chosen
    ∷ not_below_0
    ∷ []

-- ---- carries and borrows

-- the carry of x + y
abbrev pub carry : Tree Op → Tree Op → Tree Op
carry x y = o2 Cmpult (o2 Addq x y) x

abbrev pub carry_by_other : AxiomTree
carry_by_other = over_xy (λ x y. (carry x y, o2 Cmpult (o2 Addq x y) y))

abbrev pub carry_by_not : AxiomTree
carry_by_not = over_xy (λ x y. (carry x y, o2 Cmpult (w1 Not x) y))

-- the carry out of the highest bit: both have it, or one has it and the sum doesn't
abbrev pub carry_of_bits : AxiomTree
carry_of_bits =
    over_xy (λ x y. (
      o2 Srl (o2 Bis (o2 And x y) (o2 Bic (o2 Bis x y) (o2 Addq x y))) (constant 63),
      carry x y,
    ))

-- the borrow into the highest bit: y alone has it, or they are the same there and the difference has it
abbrev pub borrow_of_bits : AxiomTree
borrow_of_bits =
    over_xy (λ x y. (
      o2 Srl (o2 Bis (o2 Bic y x) (o2 Bic (o2 Subq x y) (o2 Xor x y))) (constant 63),
      o2 Cmpult x y,
    ))

abbrev pub carries : List AxiomTree
carries = carry_by_other ∷ carry_by_not ∷ carry_of_bits ∷ borrow_of_bits ∷ []

-- ---- fields at bit 0, and a byte put into 0

-- the field that the operator takes, or puts, at offset 0 is the bytes of the mask
abbrev pub field_at_0 : Operate → ℕ → AxiomTree
field_at_0 op mask = over_x (λ x. (o2 op x (constant 0), o2 Zapnot x (constant mask)))

-- and a single byte is the low eight bits
abbrev pub byte_at_0 : Operate → ℕ → AxiomTree
byte_at_0 op word = over_x (λ x. (o2 op x (constant word), o2 And x (constant 255)))

abbrev pub stored_in_0 : AxiomTree
stored_in_0 = over_x (λ x. (w3 Storeb (constant 0) (constant 0) x, o2 And x (constant 255)))

abbrev pub fields : List AxiomTree
fields =
    byte_at_0 Insbl 0
    ∷ byte_at_0 Extbl 0
    ∷ byte_at_0 Zapnot 1
    ∷ field_at_0 Insll 15
    ∷ field_at_0 Extll 15
    ∷ field_at_0 Inswl 3
    ∷ field_at_0 Extwl 3
    ∷ stored_in_0
    ∷ []

-- ---- the library

abbrev pub axioms_of : Family → List AxiomTree
axioms_of families.Bytes = byte_moves
axioms_of families.Products = small_products ++ large_products
axioms_of families.Sums = sums
axioms_of families.Halves = halves
axioms_of families.Extensions = extensions
axioms_of families.Rounding = rounding
axioms_of families.Comparisons = negated_comparisons ++ equalities
axioms_of families.Minima = minima
axioms_of families.Carries = carries
axioms_of families.Masks = []
axioms_of families.Fields = fields
axioms_of families.Constants = []
axioms_of families.Unaligned = []

abbrev pub all_families : List Family
all_families =
    families.Bytes
    ∷ families.Products
    ∷ families.Sums
    ∷ families.Halves
    ∷ families.Extensions
    ∷ families.Rounding
    ∷ families.Comparisons
    ∷ families.Minima
    ∷ families.Carries
    ∷ families.Masks
    ∷ families.Fields
    ∷ families.Constants
    ∷ families.Unaligned
    ∷ []

-- the axioms of all families
abbrev pub library : List AxiomTree
library = flat_map axioms_of all_families

-- the axiom is one of the library
abbrev pub IsOfLibrary : AxiomTree → Type 0
IsOfLibrary a = (family : Family) × Contains (axioms_of family) a

-- no declared operator has the name of a variable of the axiom
abbrev pub IsApart : List DeclaredOp → AxiomTree → Type 0
IsApart declared a = All (λ name. is_among (names_of_declared declared) name ≡ false) a.variables
