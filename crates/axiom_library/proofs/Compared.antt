-- Comparisons negated, and written by other operators.
use Rattle.std.proofs.Common.{◌≡◌, ℕ, ℤ, Bool, true, false, not, int_lt, ◌==◌, ◌^◌, ◌/◌, sym, ap, ◌∙◌, arith, bit_xor}
use Rattle.std.specs.Prelude.{int_le, nat_lt, nat_le}
use Rattle.std.specs.Int.{cast_signed, w64}
use Rattle.std.specs.Int.Bits.{xor_add_and}
use Rattle.std.proofs.lemmas.Bool.Decides.{nat_tests, same_from_decides, Decides-like, Decides-eqb}
use Rattle.std.proofs.lemmas.Int.{ints}
use Rattle.std.proofs.lemmas.Nat.{and_le_l, and_le_r}
use Rattle.word_ops.specs.Words.{IsWord}
use Rattle.axiom_base.proofs.Logic.{xor_of_itself}
use Rattle.word_ops.specs.Values.{flag, cmpeq, cmpult, cmpule, cmplt, cmple, subq, xor, srl}

-- ---- negations, of any test

flag_negated : (s t : Bool) → s ≡ not t → flag (flag s == 0) ≡ flag t
flag_negated s true e = ap (λ b. flag (flag b == 0)) e
flag_negated s false e = ap (λ b. flag (flag b == 0)) e

flag_changed : (s t : Bool) → s ≡ not t → bit_xor (flag s) 1 ≡ flag t
flag_changed s true e = ap (λ b. bit_xor (flag b) 1) e
flag_changed s false e = ap (λ b. bit_xor (flag b) 1) e

below_or_not : (x y : ℕ) → nat_lt x y ≡ not (nat_le y x)
below_or_not x y = grind (arith, nat_tests)

pub up_to_or_not : (x y : ℕ) → nat_le x y ≡ not (nat_lt y x)
up_to_or_not x y = grind (arith, nat_tests)

less_or_not : (x y : ℤ) → int_lt x y ≡ not (int_le y x)
less_or_not x y = grind (arith, ints)

pub at_most_or_not : (x y : ℤ) → int_le x y ≡ not (int_lt y x)
at_most_or_not x y = grind (arith, ints)

pub cmpult_opposite : (x y : ℕ) → cmpeq (cmpult x y) 0 ≡ cmpule y x
unfolding cmpeq cmpult cmpule
cmpult_opposite x y = flag_negated (nat_lt x y) (nat_le y x) (below_or_not x y)

pub cmpule_opposite : (x y : ℕ) → cmpeq (cmpule x y) 0 ≡ cmpult y x
unfolding cmpeq cmpult cmpule
cmpule_opposite x y = flag_negated (nat_le x y) (nat_lt y x) (up_to_or_not x y)

pub cmplt_opposite : (x y : ℕ) → cmpeq (cmplt x y) 0 ≡ cmple y x
unfolding cmpeq cmplt cmple
cmplt_opposite x y = flag_negated _ _ (less_or_not (cast_signed w64 x) (cast_signed w64 y))

pub cmple_opposite : (x y : ℕ) → cmpeq (cmple x y) 0 ≡ cmplt y x
unfolding cmpeq cmplt cmple
cmple_opposite x y = flag_negated _ _ (at_most_or_not (cast_signed w64 x) (cast_signed w64 y))

pub cmpult_changed : (x y : ℕ) → xor (cmpult x y) 1 ≡ cmpule y x
unfolding xor cmpult cmpule
cmpult_changed x y = flag_changed (nat_lt x y) (nat_le y x) (below_or_not x y)

pub cmpule_changed : (x y : ℕ) → xor (cmpule x y) 1 ≡ cmpult y x
unfolding xor cmpult cmpule
cmpule_changed x y = flag_changed (nat_le x y) (nat_lt y x) (up_to_or_not x y)

pub cmplt_changed : (x y : ℕ) → xor (cmplt x y) 1 ≡ cmple y x
unfolding xor cmplt cmple
cmplt_changed x y = flag_changed _ _ (less_or_not (cast_signed w64 x) (cast_signed w64 y))

pub cmple_changed : (x y : ℕ) → xor (cmple x y) 1 ≡ cmplt y x
unfolding xor cmplt cmple
cmple_changed x y = flag_changed _ _ (at_most_or_not (cast_signed w64 x) (cast_signed w64 y))

-- ---- equalities

pub no_subq : (x y : ℕ) → IsWord x → IsWord y → cmpeq (subq x y) 0 ≡ cmpeq x y
unfolding cmpeq subq
no_subq x y h k = grind (arith, nat_tests)

-- where no bit differs, the sum is twice what both have
no_bit_differs : (x y : ℕ) → xor x y ≡ 0 → x ≡ y
unfolding xor
no_bit_differs x y e = omega (arith, e, xor_add_and x y, and_le_l x y, and_le_r x y)

pub no_xor : (x y : ℕ) → cmpeq (xor x y) 0 ≡ cmpeq x y
unfolding cmpeq
no_xor x y =
    ap flag
    (same_from_decides (xor x y == 0) (x == y)
    (Decides-like (xor x y == 0) (no_bit_differs x y) (λ e. ap (λ z. xor z y) e ∙ xor_of_itself y) (Decides-eqb (xor x y) 0))
    (Decides-eqb x y))

pub cmpult_1 : (x : ℕ) → cmpult x 1 ≡ cmpeq x 0
unfolding cmpult cmpeq
cmpult_1 x = grind (arith, nat_tests)

below_0 : (x : ℕ) → IsWord x → int_lt (cast_signed w64 x) (cast_signed w64 0) ≡ nat_le (2 ^ 63) x
below_0 x h = grind (arith, nat_tests, ints)

pub srl_63 : (x : ℕ) → IsWord x → srl x 63 ≡ cmplt x 0
unfolding srl cmplt
srl_63 x h = high ∙ ap flag (sym (below_0 x h))
  where
    high : x / 2 ^ 63 ≡ flag (nat_le (2 ^ 63) x)
    high = grind (arith, nat_tests)
