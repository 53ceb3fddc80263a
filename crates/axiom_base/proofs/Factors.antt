-- Products with a constant, by a factor of it.
use Rattle.std.proofs.Common.{◌≡◌, ℕ, ◌+◌, ◌-◌, ◌*◌, ◌%◌, ◌^◌, ◌<◌, ◌≤◌, sym, ap, ◌∙◌, arith, ⊎_elim}
use Rattle.std.proofs.lemmas.Bool.{cases_lt}
use Rattle.std.proofs.lemmas.Nat.{mul-mod_first}
use Rattle.std.proofs.Math.Nat.{mul_assoc, mul-le-mul}
use Rattle.std.proofs.Math.Pow.{pow_mono}
use Rattle.word_ops.specs.Words.{IsWord}
use Rattle.word_ops.specs.Values.{addq, subq, mulq, neg, sll, s4addq, s4subq, s8addq, s8subq}
use Rattle.axiom_base.specs.Conditions.{IsOddTimesPower}

-- a word's power of two is one of its bits
pub few_zeros : (n e f : ℕ) → n ≤ 2 ^ 64 → IsOddTimesPower n e f → f < 64
few_zeros n e f l h = ⊎_elim (λ m. m) (λ m.
    let p : 2 ^ 64 ≤ 2 ^ f = pow_mono {i = 64} {j = f} m in
    let q : 3 * 2 ^ f ≤ e * 2 ^ f = mul-le-mul h.1.1 (omega arith) in
    absurd (omega (arith, p, q, l, h.0))) (cases_lt f 64)

product_is_shifted : (x n e f : ℕ) → f < 64 → n ≡ e * 2 ^ f → sll (mulq x e) f ≡ x * n % 2 ^ 64
unfolding mulq sll
product_is_shifted x n e f l h =
    (let d : f % 64 ≡ f = omega arith in ap (λ k. x * e % 2 ^ 64 * 2 ^ k % 2 ^ 64) d)
    ∙ mul-mod_first (x * e) (2 ^ f) (2 ^ 64)
    ∙ ap (λ k. k % 2 ^ 64) (mul_assoc x e (2 ^ f) ∙ ap (λ k. x * k) (sym h))

pub mulq_is_shifted : (x c e f : ℕ) → f < 64 → c ≡ e * 2 ^ f → mulq x c ≡ sll (mulq x e) f
unfolding mulq
mulq_is_shifted x c e f l h = sym (product_is_shifted x c e f l h)

pub mulq_is_shifted_more : (x c e f : ℕ) → f < 64 → c % 2 ≡ 1 → c - 1 ≡ e * 2 ^ f → mulq x c ≡ addq (sll (mulq x e) f) x
unfolding mulq addq
mulq_is_shifted_more x c e f l odd h =
    let s = product_is_shifted x (c - 1) e f l h in
    let d : c ≡ (c - 1) + 1 = omega (arith, odd) in
    let p : x * c ≡ x * (c - 1) + x = ap (λ n. x * n) d ∙ omega arith in
    ap (λ n. n % 2 ^ 64) p ∙ omega arith ∙ ap (λ n. (n + x) % 2 ^ 64) (sym s)

pub mulq_is_shifted_less : (x c e f : ℕ) → IsWord x → f < 64 → c + 1 ≡ e * 2 ^ f → mulq x c ≡ subq (sll (mulq x e) f) x
unfolding mulq subq
mulq_is_shifted_less x c e f w l h =
    let s = product_is_shifted x (c + 1) e f l h in
    let p : x * (c + 1) ≡ x * c + x = omega arith in
    sym (ap (λ n. (n + (2 ^ 64 - x)) % 2 ^ 64) (s ∙ ap (λ n. n % 2 ^ 64) p) ∙ omega (arith, w))

times : (k x c e : ℕ) → c ≡ k * e → x * c ≡ k * (x * e)
times k x c e h = ap (λ n. x * n) h ∙ omega arith

pub mulq_is_s4subq : (x c e : ℕ) → c ≡ 3 * e → mulq x c ≡ s4subq (mulq x e) (mulq x e)
unfolding mulq s4subq
mulq_is_s4subq x c e h = ap (λ n. n % 2 ^ 64) (times 3 x c e h) ∙ omega arith

pub mulq_is_s4addq : (x c e : ℕ) → c ≡ 5 * e → mulq x c ≡ s4addq (mulq x e) (mulq x e)
unfolding mulq s4addq
mulq_is_s4addq x c e h = ap (λ n. n % 2 ^ 64) (times 5 x c e h) ∙ omega arith

pub mulq_is_s8subq : (x c e : ℕ) → c ≡ 7 * e → mulq x c ≡ s8subq (mulq x e) (mulq x e)
unfolding mulq s8subq
mulq_is_s8subq x c e h = ap (λ n. n % 2 ^ 64) (times 7 x c e h) ∙ omega arith

pub mulq_is_s8addq : (x c e : ℕ) → c ≡ 9 * e → mulq x c ≡ s8addq (mulq x e) (mulq x e)
unfolding mulq s8addq
mulq_is_s8addq x c e h = ap (λ n. n % 2 ^ 64) (times 9 x c e h) ∙ omega arith

pub mulq_is_neg : (x c e : ℕ) → IsWord c → e ≡ 2 ^ 64 - c → mulq x c ≡ neg (mulq x e)
unfolding mulq neg
mulq_is_neg x c e w h =
    let d : c + e ≡ 2 ^ 64 = omega (arith, w, h) in
    let p : x * c + x * e ≡ x * 2 ^ 64 = (let q : x * c + x * e ≡ x * (c + e) = omega arith in q ∙ ap (λ n. x * n) d) in
    omega (arith, p)
