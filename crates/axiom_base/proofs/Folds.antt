-- Folding is true, and each side of a fold is well formed.
use Rattle.std.proofs.Common.{◌≡◌, ℕ, zero, suc, ◌+◌, ◌<◌, ◌≤◌, List, [], ◌∷◌, length, get_or, refl, ap, ◌∙◌, inl, inr, arith}
use Rattle.std.specs.Prelude.{All}
use Rattle.std.proofs.lemmas.Bool.{cases_lt}
use Rattle.word_ops.specs.Words.{IsWord}
use Rattle.word_ops.specs.Operators.{arity_of, value_of, value_at}
use Rattle.word_ops.specs.Meanings.{meaning, as_word, word_operand}
use Rattle.word_ops.specs.Worlds.{World, Value, word}
use Rattle.word_ops.specs.declared.operators.WordOp.{WordOp}
use Rattle.word_ops.specs.declared.sorts.Op.{Op}
use Rattle.word_ops.specs.declared.sorts.Op.TheVariants.{Word}
use Rattle.word_ops.specs.declared.sorts.Sort.TheVariants as sorts
use Rattle.word_terms.specs.Keys.{op_signature}
use Rattle.word_terms.specs.Tree.{each_value}
use Rattle.word_terms.specs.Sorting.{tree_count, sort_at, HaveSorts, OccursInOne}
use Rattle.axiom_base.specs.Rewrites.{IsTrueIn, IsUsable}
use Rattle.axiom_base.specs.Computed.{fold_rewrite, words_for, variables_from}
use Rattle.axiom_base.proofs.Variables.{value_at_number}
use Rattle.axiom_base.proofs.ConstantValues.{constants_are_from, constant_word}

-- the operands of a fold are its constants; past them each is 0
operand_is : (meaning_of : Op → List Value → Value) (values : ℕ → Value) (k : ℕ) (cs : List ℕ) →
    ((i : ℕ) → i < length cs → as_word (values (k + i)) ≡ get_or cs i 0) →
    (i : ℕ) → word_operand (each_value meaning_of values (variables_from k cs)) i ≡ get_or cs i 0
operand_is meaning_of values k [] h i = refl
operand_is meaning_of values k (c ∷ cs) h zero = let e : k ≡ k + 0 = omega arith in ap (λ n. as_word (values n)) e ∙ h 0 (omega arith)
operand_is meaning_of values k (c ∷ cs) h (suc i) =
    operand_is meaning_of values (k + 1) cs (λ j l. let e : k + 1 + j ≡ k + suc j = omega arith in ap (λ n. as_word (values n)) e ∙ h (suc j) (omega (arith, l))) i

pub fold_is_true : (world : World) (names : ℕ → List ℕ) (op : WordOp) (cs : List ℕ) → length cs ≡ arity_of op → IsTrueIn world names (fold_rewrite op cs)
fold_is_true world names op cs count = λ values fits.
    let at = operand_is (meaning world names) (value_at_number values) 0 cs (constant_word (fold_rewrite op cs) values 0 cs fits refl) in
    ap word
    (ap (λ n. value_at op n (word_operand (each_value (meaning world names) (value_at_number values) (variables_from 0 cs)) 1) (word_operand (each_value (meaning world names) (value_at_number values) (variables_from 0 cs)) 2)) (at 0)
    ∙ ap (λ n. value_at op (get_or cs 0 0) n (word_operand (each_value (meaning world names) (value_at_number values) (variables_from 0 cs)) 2)) (at 1)
    ∙ ap (λ n. value_at op (get_or cs 0 0) (get_or cs 1 0) n) (at 2))

-- ---- sides

pub words_length : (cs : List ℕ) → length (words_for cs) ≡ length cs
words_length [] = refl
words_length (c ∷ cs) = let e = words_length cs in omega (arith, e)

word_at : (cs : List ℕ) (n : ℕ) → sort_at (words_for cs) n ≡ sorts.Word
word_at [] n = refl
word_at (c ∷ cs) zero = refl
word_at (c ∷ cs) (suc n) = word_at cs n

variables_count : (k : ℕ) (cs : List ℕ) → tree_count (variables_from k cs) ≡ length cs
variables_count k [] = refl
variables_count k (c ∷ cs) = let e = variables_count (k + 1) cs in omega (arith, e)

-- the variables from k on are words of the whole list
variables_sorts : (all : List ℕ) (op : WordOp) (at k : ℕ) (cs : List ℕ) → k + length cs ≤ length all → HaveSorts op_signature (words_for all) (Word op) at (variables_from k cs)
variables_sorts all op at k [] l = tt
variables_sorts all op at k (c ∷ cs) l = ((omega (arith, l, words_length all), word_at all k), variables_sorts all op (at + 1) (k + 1) cs (omega (arith, l)))

variables_occur : (n k : ℕ) (cs : List ℕ) → k ≤ n → n < k + length cs → OccursInOne n (variables_from k cs)
variables_occur n k [] a b = absurd (omega (arith, a, b))
variables_occur n k (c ∷ cs) a b =
    elim (cases_lt k n) [
      | inl l ↦ inr (variables_occur n (k + 1) cs (omega (arith, l)) (omega (arith, b)))
      | inr l ↦ inl (omega (arith, a, l))
    ]

pub fold_usable : ((op : WordOp) (vs : List ℕ) → All IsWord vs → IsWord (value_of op vs)) →
    (op : WordOp) (cs : List ℕ) → All IsWord cs → length cs ≡ arity_of op → IsUsable (fold_rewrite op cs)
fold_usable in_range op cs words count = record {
  sort = sorts.Word;
  left = (refl, tt, variables_count 0 cs ∙ count, variables_sorts cs op 0 0 cs (omega arith));
  right = (refl, in_range op cs words, refl, tt);
  all = λ n l. variables_occur n 0 cs (omega arith) (omega (arith, l, words_length cs));
  constants = λ n c h. let b = constants_are_from 0 cs n c h in omega (arith, b.1, b.2, words_length cs);
  grounded = inl tt;
}
