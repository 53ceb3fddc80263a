-- What an operator gives at a constant that meets a condition: the laws of the computed rules on numbers.
use Rattle.std.proofs.Common.{◌≡◌, ℕ, ◌+◌, ◌-◌, ◌*◌, ◌%◌, ◌^◌, ◌≤◌, sym, ap, ◌∙◌, arith}
use Rattle.std.proofs.lemmas.Bool.Decides.{nat_tests}
use Rattle.word_ops.specs.Words.{IsWord}
use Rattle.word_ops.specs.Values.{addq, subq, mulq, sll, lda, ldah, sign_extended}
use Rattle.word_ops.proofs.OperatorBits.{sign_extended-lt}
use Rattle.axiom_base.specs.Conditions.{IsDisplacement}

pub sign_extended_displacement : (c : ℕ) → IsWord c → IsDisplacement c → sign_extended 16 c ≡ c
unfolding sign_extended
sign_extended_displacement c f s = grind (arith, nat_tests)

pub addq_is_lda : (x c : ℕ) → IsWord c → IsDisplacement c → addq x c ≡ lda x c
unfolding addq lda
addq_is_lda x c f s = ap (λ e. (x + e) % 2 ^ 64) (sym (sign_extended_displacement c f s))

pub addq_is_ldah : (x c e : ℕ) → IsWord e → IsDisplacement e → c ≡ 65536 * e % 2 ^ 64 → addq x c ≡ ldah x e
unfolding addq ldah
addq_is_ldah x c e f s h = ap (λ n. (x + n) % 2 ^ 64) h ∙ omega (arith, sign_extended_displacement e f s)

pub word_is_lda : (c : ℕ) → IsWord c → IsDisplacement c → c ≡ lda 0 c
unfolding lda
word_is_lda c f s = omega (arith, sign_extended_displacement c f s)

pub word_is_ldah : (c e : ℕ) → IsWord e → IsDisplacement e → c ≡ 65536 * e % 2 ^ 64 → c ≡ ldah 0 e
unfolding ldah
word_is_ldah c e f s h = omega (arith, sign_extended_displacement e f s, h)

pub word_is_lda_of_rest : (c : ℕ) → IsWord c → c ≡ lda (subq c (sign_extended 16 c)) c
unfolding lda subq sign_extended
word_is_lda_of_rest c f = grind (arith, nat_tests)

pub mulq_is_sll : (x c e : ℕ) → e ≤ 63 → c ≡ 2 ^ e → mulq x c ≡ sll x e
unfolding mulq sll
mulq_is_sll x c e l h = (let d : e ≡ e % 64 = omega arith in ap (λ n. x * n % 2 ^ 64) (h ∙ ap (λ n. 2 ^ n) d))

pub mulq_is_sll_less : (x c e : ℕ) → e ≤ 63 → c + 1 ≡ 2 ^ e → IsWord x → mulq x c ≡ subq (sll x e) x
unfolding mulq subq sll
mulq_is_sll_less x c e l h f = (let d : e % 64 ≡ e = omega arith in
    let p : x * 2 ^ (e % 64) ≡ x * c + x = ap (λ n. x * 2 ^ n) d ∙ ap (λ n. x * n) (sym h) ∙ omega arith in
    sym (ap (λ n. (n % 2 ^ 64 + (2 ^ 64 - x)) % 2 ^ 64) p ∙ omega arith))

pub mulq_is_sll_more : (x c e : ℕ) → e ≤ 63 → c ≡ 2 ^ e + 1 → mulq x c ≡ addq (sll x e) x
unfolding mulq addq sll
mulq_is_sll_more x c e l h = (let d : e % 64 ≡ e = omega arith in
    let p : x * c ≡ x * 2 ^ (e % 64) + x = ap (λ n. x * n) h ∙ ap (λ n. x * (2 ^ n + 1)) (sym d) ∙ omega arith in
    ap (λ n. n % 2 ^ 64) p ∙ omega arith)

-- the two parts of a constant, each added by its instruction
pub addq_is_lda_of_ldah : (x c e : ℕ) → IsWord c → IsWord e → IsDisplacement e → subq c (sign_extended 16 c) ≡ 65536 * e % 2 ^ 64 → addq x c ≡ lda (ldah x e) c
unfolding addq subq lda ldah
addq_is_lda_of_ldah x c e f g s h = omega (arith, f, sign_extended_displacement e g s, sign_extended-lt 16 c (omega arith), h)
