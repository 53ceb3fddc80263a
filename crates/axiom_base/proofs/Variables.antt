-- What the values of a rule's variables are.
use Rattle.std.proofs.Common.{◌≡◌, ℕ, ◌<◌, List, [], ◌∷◌, length, get_or, refl, ap, subst, arith}
use Rattle.word_ops.specs.Words.{IsWord}
use Rattle.word_ops.specs.Worlds.{Value, word, memory, IsValue}
use Rattle.word_ops.specs.declared.sorts.Sort.{Sort}
use Rattle.word_ops.specs.declared.sorts.Sort.TheVariants as sorts
use Rattle.word_ops.specs.Meanings.{as_word}
use Rattle.word_terms.specs.Sorting.{sort_at}
use Rattle.axiom_base.specs.Rewrites.{Rewrite, AreValuesFor}

abbrev pub value_at_number : List Value → ℕ → Value
value_at_number values n = get_or values n (word 0)

pub has_its_sort : (r : Rewrite) (values : List Value) → AreValuesFor r values → (n : ℕ) → n < length r.variables → IsValue (sort_at r.variables n) (value_at_number values n)
has_its_sort r values fits n l = fits.sorts n (omega (arith, fits.count))

of_sort : (s : Sort) (v : Value) → s ≡ sorts.Word → IsValue s v → IsValue sorts.Word v
of_sort s v e h = subst (λ t. IsValue t v) e h

value_is_word : (v : Value) → IsValue sorts.Word v → word (as_word v) ≡ v
value_is_word (word n) h = refl
value_is_word (memory m) h = absurd h

value_in_range : (v : Value) → IsValue sorts.Word v → IsWord (as_word v)
value_in_range (word n) h = h
value_in_range (memory m) h = absurd h

-- the value of a variable of words
pub is_word : (r : Rewrite) (values : List Value) → AreValuesFor r values → (n : ℕ) → n < length r.variables → sort_at r.variables n ≡ sorts.Word → word (as_word (value_at_number values n)) ≡ value_at_number values n
is_word r values fits n l e = value_is_word _ (of_sort _ _ e (has_its_sort r values fits n l))

pub in_range : (r : Rewrite) (values : List Value) → AreValuesFor r values → (n : ℕ) → n < length r.variables → sort_at r.variables n ≡ sorts.Word → IsWord (as_word (value_at_number values n))
in_range r values fits n l e = value_in_range _ (of_sort _ _ e (has_its_sort r values fits n l))

-- of the one variable, a word
pub x_is_word : {r : Rewrite} {values : List Value} → AreValuesFor r values → r.variables ≡ sorts.Word ∷ [] → word (as_word (value_at_number values 0)) ≡ value_at_number values 0
x_is_word {r} {values} fits e = is_word r values fits 0 (let l : length r.variables ≡ 1 = ap length e in omega arith) (ap (λ s. sort_at s 0) e)

pub x_in_range : {r : Rewrite} {values : List Value} → AreValuesFor r values → r.variables ≡ sorts.Word ∷ [] → IsWord (as_word (value_at_number values 0))
x_in_range {r} {values} fits e = in_range r values fits 0 (let l : length r.variables ≡ 1 = ap length e in omega arith) (ap (λ s. sort_at s 0) e)

-- of the last of three variables, a word
pub v_is_word : {r : Rewrite} {values : List Value} → AreValuesFor r values → r.variables ≡ sorts.Memory ∷ sorts.Word ∷ sorts.Word ∷ [] → word (as_word (value_at_number values 2)) ≡ value_at_number values 2
v_is_word {r} {values} fits e = is_word r values fits 2 (let l : length r.variables ≡ 3 = ap length e in omega arith) (ap (λ s. sort_at s 2) e)
