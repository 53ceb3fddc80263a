-- What a memory holds after a write.
use Rattle.std.proofs.Common.{◌≡◌, ℕ, zero, suc, ◌^◌, ◌<◌, ◌≢◌, Bool, true, false, cond, ◌==◌, Option, None, Some, refl, sym, ap, subst, ◌∙◌, arith, ◌⊎◌, ⊎_elim, inl, inr}
use Rattle.std.specs.Ordering.{nat_cmp, eq_by_cmp}
use Rattle.std.specs.Cmp.{nat_cmp_total}
use Rattle.std.specs.FinMap.{empty, get, insert, remove, get-empty, get-insert, get-remove, same_map, nat_cmp-IsAntisymmetric}
use Rattle.std.specs.Option.{unwrap_or}
use Rattle.std.proofs.lemmas.Bool.Decides.{nat_tests}
use Rattle.word_ops.specs.Memory.{Memory, IsMemory, word_at, put_word}

pub word_at-put_word_same : (m : Memory) (p v : ℕ) → word_at (put_word m p v) p ≡ v
unfolding word_at put_word
word_at-put_word_same m p v = grind (arith, nat_tests, get-insert nat_cmp_total m p v p, get-remove nat_cmp_total m p p)

pub word_at-put_word_other : (m : Memory) (p v q : ℕ) → q ≢ p → word_at (put_word m p v) q ≡ word_at m q
unfolding word_at put_word
word_at-put_word_other m p v q h = grind (arith, nat_tests, get-insert nat_cmp_total m p v q, get-remove nat_cmp_total m p q)

pub get-put_word : (m : Memory) (p v q : ℕ) → get (put_word m p v) q ≡ cond (eq_by_cmp nat_cmp q p) (cond (v == 0) None (Some v)) (get m q)
unfolding put_word
get-put_word m p v q = elim (v == 0) as (λ b. get (cond b (remove m p) (insert m p v)) q ≡ cond (eq_by_cmp nat_cmp q p) (cond b None (Some v)) (get m q)) [
  | true ↦ get-remove nat_cmp_total m p q
  | false ↦ get-insert nat_cmp_total m p v q
]

twice : {A : Type 0} (b : Bool) (x y z : A) → cond b x (cond b y z) ≡ cond b x z
twice true x y z = refl
twice false x y z = refl

pub put_word-put_word : (m : Memory) (p v w : ℕ) → put_word (put_word m p v) p w ≡ put_word m p w
put_word-put_word m p v w = same_map nat_cmp_total nat_cmp-IsAntisymmetric _ _ (λ q.
    get-put_word (put_word m p v) p w q ∙ ap (cond (eq_by_cmp nat_cmp q p) (cond (w == 0) None (Some w))) (get-put_word m p v q)
    ∙ twice (eq_by_cmp nat_cmp q p) _ _ _ ∙ sym (get-put_word m p w q))

none_some : (v : ℕ) → None ≡ Some v → ⊥
none_some v e = cc

pub IsMemory-empty : IsMemory empty
IsMemory-empty = record { words = λ p v e. absurd (none_some v (sym (get-empty nat_cmp p) ∙ e)) }

some_is : (v w : ℕ) → cond (v == 0) None (Some v) ≡ Some w → (0 < w) × (v ≡ w)
some_is zero w e = absurd (none_some w e)
some_is (suc v) w e = let f : Some (suc v) ≡ Some w = grind (arith, nat_tests) in let g : suc v ≡ w = cc in (omega arith, g)

pub IsMemory-put_word : (m : Memory) (p v : ℕ) → IsMemory m → p < 2 ^ 61 → v < 2 ^ 64 → IsMemory (put_word m p v)
IsMemory-put_word m p v h l f = record {
  words = λ q w e. ⊎_elim
      (λ (s : eq_by_cmp nat_cmp q p ≡ true). let at : cond (v == 0) None (Some v) ≡ Some w = ap (λ b. cond b (cond (v == 0) None (Some v)) (get m q)) (sym s) ∙ sym (get-put_word m p v q) ∙ e in
      let same : q ≡ p = grind (arith, nat_tests) in
      let is = some_is v w at in
      (is.0, subst (λ n. n < 2 ^ 64) is.1 f, omega arith))
      (λ (s : eq_by_cmp nat_cmp q p ≡ false). h.words q w (ap (λ b. cond b (cond (v == 0) None (Some v)) (get m q)) (sym s) ∙ sym (get-put_word m p v q) ∙ e))
      (true_or_false (eq_by_cmp nat_cmp q p));
}
  where
    true_or_false : (b : Bool) → (b ≡ true) ⊎ (b ≡ false)
    true_or_false true = inl refl
    true_or_false false = inr refl

-- memories with the same word at each place are equal
word_of_get : (o r : Option ℕ) → ((v : ℕ) → o ≡ Some v → 0 < v) → ((v : ℕ) → r ≡ Some v → 0 < v) → unwrap_or o 0 ≡ unwrap_or r 0 → o ≡ r
word_of_get None None h k e = refl
word_of_get None (Some w) h k e = let l = k w refl in absurd (omega arith)
word_of_get (Some v) None h k e = let l = h v refl in absurd (omega arith)
word_of_get (Some v) (Some w) h k e = ap Some e

pub same_memory : (m n : Memory) → IsMemory m → IsMemory n → ((p : ℕ) → word_at m p ≡ word_at n p) → m ≡ n
unfolding word_at
same_memory m n h k e = same_map nat_cmp_total nat_cmp-IsAntisymmetric m n (λ q.
    word_of_get (get m q) (get n q) (λ v s. (h.words q v s).0) (λ v s. (k.words q v s).0) (e q))

pub word_at-lt : (m : Memory) (p : ℕ) → IsMemory m → word_at m p < 2 ^ 64
unfolding word_at
word_at-lt m p h = bounded (get m p) (λ v e. (h.words p v e).1)
  where
    bounded : (o : Option ℕ) → ((v : ℕ) → o ≡ Some v → v < 2 ^ 64) → unwrap_or o 0 < 2 ^ 64
    bounded None h = omega arith
    bounded (Some v) h = h v refl
