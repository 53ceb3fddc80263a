-- A displacement_of added to a base, as an instruction does it and as the operator does it.
use Rattle.std.proofs.Common.{◌≡◌, ℕ, ◌+◌, ◌*◌, ◌%◌, ◌^◌, ◌∙◌, ap, arith}
use Rattle.std.proofs.lemmas.Bool.Decides.{nat_tests}
use Rattle.std.proofs.lemmas.Int.{ints}
use Rattle.std.specs.Int.{cast_signed, cast_unsigned, w16, w64}
use Rattle.word_ops.specs.Values.{lda, ldah, sign_extended}
use Rattle.alpha_machine.specs.Steps.{address}

extended : (c : ℕ) → cast_unsigned w64 (cast_signed w16 (c % 2 ^ 16)) ≡ sign_extended 16 c
unfolding sign_extended
extended c = grind (arith, nat_tests, ints)

pub lda_is : (x c : ℕ) → address x 1 (cast_signed w16 (c % 2 ^ 16)) ≡ lda x c
unfolding lda
lda_is x c = ap (λ e. (x + 1 * e) % 2 ^ 64) (extended c) ∙ ap (λ e. (x + e) % 2 ^ 64) (let e : 1 * sign_extended 16 c ≡ sign_extended 16 c = omega arith in e)

pub ldah_is : (x c : ℕ) → address x 65536 (cast_signed w16 (c % 2 ^ 16)) ≡ ldah x c
unfolding ldah
ldah_is x c = ap (λ e. (x + 65536 * e) % 2 ^ 64) (extended c)
