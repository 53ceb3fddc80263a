-- The values of the variables that stand for constants.
use Rattle.std.proofs.Common.{◌≡◌, ℕ, zero, suc, ◌+◌, ◌<◌, List, [], ◌∷◌, length, get_or, sym, ap, subst, arith}
use Rattle.std.specs.Prelude.{Contains}
use Rattle.word_ops.specs.Worlds.{Value, word}
use Rattle.word_ops.specs.Meanings.{as_word}
use Rattle.axiom_base.specs.Rewrites.{Rewrite, AreValuesFor}
use Rattle.axiom_base.specs.Computed.{constants_from}
use Rattle.axiom_base.proofs.Variables.{value_at_number}

pub contains_constant : (k : ℕ) (cs : List ℕ) (i : ℕ) → i < length cs → Contains {X = ℕ × ℕ} (constants_from k cs) (k + i, get_or cs i 0)
contains_constant k [] i l = absurd (omega (arith, l))
contains_constant k (c ∷ cs) zero l =
    let e : k ≡ k + 0 = omega arith in subst (λ n. Contains {X = ℕ × ℕ} (constants_from k (c ∷ cs)) (n, c)) e (0, omega arith, λ i. (k, c))
contains_constant k (c ∷ cs) (suc i) l =
    let h = contains_constant (k + 1) cs i (omega (arith, l)) in
    let e : k + 1 + i ≡ k + suc i = omega arith in
    subst (λ n. Contains {X = ℕ × ℕ} (constants_from k (c ∷ cs)) (n, get_or cs i 0)) e (suc h.0, omega (arith, h.1), h.2)

-- constants stand for variables of these numbers
pub constants_are_from : (k : ℕ) (cs : List ℕ) (n c : ℕ) → Contains {X = ℕ × ℕ} (constants_from k cs) (n, c) → (i : ℕ) × (i < length cs) × (n ≡ k + i) × (c ≡ get_or cs i 0)
constants_are_from k [] n c h = absurd (omega (arith, h.1))
constants_are_from k (d ∷ cs) n c (zero, l, e) =
    let a : k ≡ n = ap (λ (p : ℕ × ℕ). p.0) e in
    let b : d ≡ c = ap (λ (p : ℕ × ℕ). p.1) e in
    (0, omega arith, omega (arith, a), sym b)
constants_are_from k (d ∷ cs) n c (suc i, l, e) =
    let h = constants_are_from (k + 1) cs n c (i, omega (arith, l), e) in
    (suc h.0, omega (arith, h.1), omega (arith, h.2), h.3)

pub constant_value : (r : Rewrite) (values : List Value) (k : ℕ) (cs : List ℕ) → AreValuesFor r values → r.constants ≡ constants_from k cs →
    (i : ℕ) → i < length cs → value_at_number values (k + i) ≡ word (get_or cs i 0)
constant_value r values k cs fits e i l =
    fits.constants (k + i) (get_or cs i 0) (subst (λ xs. Contains xs (k + i, get_or cs i 0)) (sym e) (contains_constant k cs i l))

pub constant_word : (r : Rewrite) (values : List Value) (k : ℕ) (cs : List ℕ) → AreValuesFor r values → r.constants ≡ constants_from k cs →
    (i : ℕ) → i < length cs → as_word (value_at_number values (k + i)) ≡ get_or cs i 0
constant_word r values k cs fits e i l = ap as_word (constant_value r values k cs fits e i l)
