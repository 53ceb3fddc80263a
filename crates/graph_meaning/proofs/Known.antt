-- What is known of the classes of a graph, where it is true.
use Rattle.std.proofs.Common.{◌≡◌, ℕ, ◌/◌, ◌<◌, ◌≤◌, List, [], ◌∷◌, length, refl, sym, ◌∙◌, ap, subst, inl, inr, arith, Bool, true, false, get_or, min}
use Rattle.std.specs.Prelude.{Contains, ◌==◌, ◌&&◌, ◌||◌, nat_le, slice_index}
use Rattle.std.specs.Int.{bit_at}
use Rattle.std.proofs.lemmas.Bool.{and_parts, cases_lt, false≢true, leb-true}
use Rattle.std.proofs.lemmas.List.{ext_get_or, get_or_past}
use Rattle.std.proofs.lemmas.List.Folds.{Any-from_list_any}
use Rattle.word_ops.specs.Operators.{value_at}
use Rattle.word_ops.specs.Values.{byte_mask, lda, sign_extended}
use Rattle.word_ops.specs.Worlds.{World, Value, word}
use Rattle.word_ops.specs.Meanings.{as_word}
use Rattle.word_ops.specs.declared.operators.WordOp.{WordOp}
use Rattle.word_ops.specs.declared.operators.WordOp.TheVariants.{Lda}
use Rattle.word_ops.specs.declared.sorts.Op.{Op}
use Rattle.word_ops.specs.declared.sorts.Op.TheVariants.{Word}
use Rattle.graph_meaning.specs.Graphs.{multiple_of, AreTrueRows, IsTrueUnder}
use Rattle.graph_meaning.specs.Multiples.{wants_multiples, AreMultiplesOf, IsMultiple, HasRow, are_two, is_lda, is_sum_row, has_sum_row, is_sum_multiple}
use Rattle.graph_meaning.specs.WellFormed.{IsLaunchGraph}
use Rattle.graph_meaning.specs.declared.graphs.LaunchRow.{LaunchRow}
use Rattle.graph_meaning.specs.declared.graphs.LaunchGraph.{LaunchGraph}
use Rattle.graph_meaning.proofs.Factors.{IsTimes, lower}
use Rattle.graph_meaning.proofs.Lists.{same_number}
use Rattle.graph_meaning.proofs.Shown.{few, one_multiple}
use Rattle.graph_meaning.proofs.Sound.{one_times, add_times, extended_times, gives, sound}

-- ---- rows have one list of multiples

same_case : (rows : List LaunchRow) (ms ns : List ℕ) (b : Bool) → wants_multiples rows ≡ b → AreMultiplesOf rows ms
    → AreMultiplesOf rows ns → ms ≡ ns
same_case rows ms ns false e h j = h.unwanted e ∙ sym (j.unwanted e)
same_case rows ms ns true e h j =
    let m : length ms ≡ length rows = h.size e in
    ext_get_or 0 ms ns (m ∙ sym (j.size e))
    (λ k l. let s : k < length rows = omega arith in
    one_multiple rows k (slice_index ms k) (slice_index ns k) (h.each e k s) (j.each e k s))

pub same_multiples : (rows : List LaunchRow) (ms ns : List ℕ) → AreMultiplesOf rows ms → AreMultiplesOf rows ns
    → ms ≡ ns
same_multiples rows ms ns h j = same_case rows ms ns (wants_multiples rows) refl h j

-- ---- tests that pass

word_lda : (op : WordOp) → is_lda (Word op) ≡ true → Word op ≡ Word Lda
word_lda Lda e = refl
word_lda op e = absurd (false≢true e)

op_lda : (o : Op) → is_lda o ≡ true → o ≡ Word Lda
op_lda (Word op) e = word_lda op e
op_lda o e = absurd (false≢true e)

two_operands : (x y : ℕ) (xs : List ℕ) → are_two x y xs ≡ true → xs ≡ x ∷ y ∷ []
two_operands x y [] e = absurd (false≢true e)
two_operands x y (a ∷ []) e = absurd (false≢true e)
two_operands x y (a ∷ b ∷ []) e =
    let p = and_parts (a == x) (b == y) e in
    ap (λ n. n ∷ b ∷ []) (same_number a x p.0) ∙ ap (λ n. x ∷ n ∷ []) (same_number b y p.1)
two_operands x y (a ∷ b ∷ c ∷ xs) e = absurd (false≢true e)

-- ---- values

module _ (mask_bits : (mask i : ℕ) → i < 64 → bit_at (byte_mask mask) i ≡ bit_at mask (i / 8))
    (g : LaunchGraph) (world : World) (value : ℕ → Value) (is : IsLaunchGraph g)
    (holds : IsTrueUnder g world value) where
  abbrev pub of_class : ℕ → ℕ
  of_class class = as_word (value class)

  rows_hold : AreTrueRows world value g.rows
  rows_hold k d l = ((λ _. (get_or g.rows k d).name), holds.rows k d l)

  -- at most 3, and so
  abbrev Holds : ℕ → ℕ → Type 0
  Holds class n = (n ≤ 3) × IsTimes n (of_class class)

  nothing_holds : (class n : ℕ) → n ≡ 0 → Holds class n
  nothing_holds class n e = subst (Holds class) (sym e) (omega arith, one_times (of_class class))

  known_case : (class : ℕ) (b : Bool) → wants_multiples g.rows ≡ b → Holds class (multiple_of g class)
  known_case class false e =
      nothing_holds class (multiple_of g class)
      (ap (λ (ms : List ℕ). slice_index ms class) (is.multiples.unwanted e) ∙ get_or_past [] class 0 (omega arith))
  known_case class true e =
      elim (cases_lt class (length g.rows)) [
        | inl l ↦ (let m : IsMultiple g.rows class (multiple_of g class) = is.multiples.each e class l in
            (few g.rows m.shown, sound mask_bits g.rows world value rows_hold m.shown))
        | inr l ↦ nothing_holds class (multiple_of g class)
            (get_or_past g.multiples class 0 (let s = is.multiples.size e in omega arith))
      ]

  known : (class : ℕ) → Holds class (multiple_of g class)
  known class = known_case class (wants_multiples g.rows) refl

  pub class_times : (class n : ℕ) → n ≤ multiple_of g class → IsTimes n (of_class class)
  class_times class n l = lower (of_class class) (multiple_of g class) n l (known class).1

  both_times : (n x k : ℕ) → n ≤ min (multiple_of g x) (multiple_of g k) → IsTimes n (lda (of_class x) (of_class k))
  unfolding lda
  both_times n x k l =
      let m : multiple_of g x ≤ 3 = (known x).0 in
      let few_n : n ≤ 3 = omega arith in
      let a : IsTimes n (of_class x) = class_times x n (omega arith) in
      let b : IsTimes n (of_class k) = class_times k n (omega arith) in
      let e : min n n ≡ n = omega arith in
      subst (λ c. IsTimes c (lda (of_class x) (of_class k))) e
      (add_times n n (of_class x) (sign_extended 16 (of_class k)) few_n a (extended_times n (of_class k) few_n b))

  sum_of : (class x k : ℕ) → HasRow g.rows class (Word Lda) (x ∷ k ∷ [])
      → of_class class ≡ lda (of_class x) (of_class k)
  unfolding value_at
  sum_of class x k h = ap as_word (gives mask_bits g.rows world value rows_hold class (Word Lda) (x ∷ k ∷ []) h).1

  row_times : (n x k : ℕ) (r : LaunchRow) → Contains g.rows r → is_sum_row g n x k r ≡ true
      → IsTimes n (lda (of_class x) (of_class k))
  row_times n x k r h e =
      let all = and_parts (is_lda r.op && are_two x k r.operands) (nat_le n (multiple_of g r.class)) e in
      let sum = and_parts (is_lda r.op) (are_two x k r.operands) all.0 in
      let enough : n ≤ multiple_of g r.class = leb-true n (multiple_of g r.class) all.1 in
      let row : HasRow g.rows r.class (Word Lda) (x ∷ k ∷ []) =
      (r, h, refl, op_lda r.op sum.0, two_operands x k r.operands sum.1) in
      subst (IsTimes n) (sum_of r.class x k row) (class_times r.class n enough)

  sum_case : (n x k : ℕ) (b : Bool) → nat_le n (min (multiple_of g x) (multiple_of g k)) ≡ b
      → (b || has_sum_row g n x k) ≡ true → IsTimes n (lda (of_class x) (of_class k))
  sum_case n x k true is e = both_times n x k (leb-true n (min (multiple_of g x) (multiple_of g k)) is)
  sum_case n x k false is e =
      let h = Any-from_list_any (is_sum_row g n x k) g.rows e in row_times n x k h.1 (h.0, h.2, h.3) h.4

  pub sum_times_of : (n x k : ℕ) → is_sum_multiple g n x k ≡ true → IsTimes n (lda (of_class x) (of_class k))
  sum_times_of n x k e = sum_case n x k (nat_le n (min (multiple_of g x) (multiple_of g k))) refl e
