-- Two bytes at any address of a memory, in one word or in two. What memories hold is what `word_ops` promises, given
-- here as arguments.
use Rattle.std.proofs.Common.{◌≡◌, ◌≢◌, ℕ, ◌+◌, ◌/◌, ◌%◌, ◌^◌, ◌<◌, ◌≤◌, ◌⊎◌, inl, inr, sym, ap, ap₂, ◌∙◌, arith, ⊎_elim}
use Rattle.std.proofs.lemmas.Bool.{cases_eq, cases_lt}
use Rattle.word_ops.specs.Words.{IsWord}
use Rattle.word_ops.specs.Memory.{Memory, IsMemory, word_at, put_word, select, store, loaded, stored}
use Rattle.word_ops.specs.declared.sorts.Access.{Access}
use Rattle.word_ops.specs.declared.sorts.Access.TheVariants.{Quad, Byte}
use Rattle.word_ops.specs.Values.{addq, bis, ext_low, ext_high, ins_low, ins_high, msk_low, msk_high, sll, srl}
use Rattle.word_ops.proofs.StoredByte.{bis-lt, ins_low-lt, msk_low-lt}
use Rattle.axiom_library.proofs.TwoBytes as two

-- ---- the next byte

abbrev IsWithin : ℕ → ℕ → Type 0
IsWithin p next = (p % 8 < 7) × (next % 8 ≡ p % 8 + 1) × (next / 8 ≡ p / 8)

abbrev IsAcross : ℕ → ℕ → Type 0
IsAcross p next = (p % 8 ≡ 7) × (next % 8 ≡ 0) × (next / 8 ≢ p / 8)

where_next : (p : ℕ) → IsWord p → IsWithin p (addq p 1) ⊎ IsAcross p (addq p 1)
unfolding addq
where_next p f = ⊎_elim
    (λ (l : p % 8 < 7). inl (l, omega (arith, l, f), omega (arith, l, f)))
    (λ (l : 7 ≤ p % 8). inr (omega (arith, l), omega (arith, l, f), λ e. omega (arith, l, f, e)))
    (cases_lt (p % 8) 7)

-- ---- loads

module _ (loaded-lt : (access : Access) (m : Memory) (a : ℕ) → IsMemory m → IsWord (loaded access m a)) where
  word_at-lt : (m : Memory) (a : ℕ) → IsMemory m → IsWord (word_at m (a / 8))
  unfolding loaded select
  word_at-lt m a is = loaded-lt Quad m a is

  pub load_of_words :
      (m : Memory) (p : ℕ) →
      IsMemory m →
      IsWord p →
      bis (ext_low 2 (select m p) p) (ext_high 2 (select m (addq p 1)) p)
      ≡ bis (loaded Byte m p) (sll (loaded Byte m (addq p 1)) 8)
  unfolding loaded select
  load_of_words m p is f = elim (where_next p f) [
    | inl within ↦
        let same : word_at m (addq p 1 / 8) ≡ word_at m (p / 8) = ap (word_at m) within.2 in
        ap (λ b. bis (ext_low 2 (word_at m (p / 8)) p) (ext_high 2 b p)) same
        ∙ two.load_within p (addq p 1) (word_at m (p / 8)) (word_at-lt m p is) within.0 within.1
        ∙ ap (λ b. bis (ext_low 1 (word_at m (p / 8)) p) (sll (ext_low 1 b (addq p 1)) 8)) (sym same)
    | inr across ↦
        two.load_across p (addq p 1)
        (word_at m (p / 8)) (word_at m (addq p 1 / 8)) (word_at-lt m p is) (word_at-lt m (addq p 1) is)
        across.0 across.1
  ]

-- ---- stores

-- a word with bytes put in is a word
put-lt : (w x v a : ℕ) → IsWord (bis (msk_low w x a) (ins_low w v a))
put-lt w x v a = bis-lt (msk_low w x a) (ins_low w v a) (msk_low-lt w x a) (ins_low-lt w v a)

next-lt : (p : ℕ) → IsWord (addq p 1)
unfolding addq
next-lt p = omega arith

module _
    (loaded-lt : (access : Access) (m : Memory) (a : ℕ) → IsMemory m → IsWord (loaded access m a))
    (reads : (m : Memory) (place v : ℕ) → word_at (put_word m place v) place ≡ v)
    (others : (m : Memory) (place v other : ℕ) → other ≢ place → word_at (put_word m place v) other ≡ word_at m other)
    (again : (m : Memory) (place v w : ℕ) → put_word (put_word m place v) place w ≡ put_word m place w)
    (is_memory : (m : Memory) (place v : ℕ) → IsMemory m → place < 2 ^ 61 → IsWord v → IsMemory (put_word m place v))
    (equal : (m n : Memory) → IsMemory m → IsMemory n → ((place : ℕ) → word_at m place ≡ word_at n place) → m ≡ n)
  where
    -- words put at two places, in either order
    module _ (m : Memory) (i j x y : ℕ) (is : IsMemory m) (at_i : i < 2 ^ 61) (at_j : j < 2 ^ 61) (word_x : IsWord x) (word_y : IsWord y) (apart : j ≢ i) where
      same_word : (q : ℕ) → word_at (put_word (put_word m j y) i x) q ≡ word_at (put_word (put_word m i x) j y) q
      same_word q = elim (cases_eq q i) [
        | inl e ↦
            ap (word_at (put_word (put_word m j y) i x)) e
            ∙ reads (put_word m j y) i x
            ∙ sym (reads m i x)
            ∙ sym (others (put_word m i x) j y i (λ d. apart (sym d)))
            ∙ ap (word_at (put_word (put_word m i x) j y)) (sym e)
        | inr n ↦ elim (cases_eq q j) [
          | inl e ↦
              others (put_word m j y) i x q n
              ∙ ap (word_at (put_word m j y)) e
              ∙ reads m j y
              ∙ sym (reads (put_word m i x) j y)
              ∙ ap (word_at (put_word (put_word m i x) j y)) (sym e)
          | inr o ↦
              others (put_word m j y) i x q n
              ∙ others m j y q o
              ∙ sym (others m i x q n)
              ∙ sym (others (put_word m i x) j y q o)
        ]
      ]

      exchanged : put_word (put_word m j y) i x ≡ put_word (put_word m i x) j y
      exchanged = equal _ _
          (is_memory (put_word m j y) i x (is_memory m j y is at_j word_y) at_i word_x)
          (is_memory (put_word m i x) j y (is_memory m i x is at_i word_x) at_j word_y)
          same_word

    -- the words at p and at the next byte, with bytes of v put in
    module _ (m : Memory) (p next v : ℕ) (is : IsMemory m) (f : IsWord p) (g : IsWord next) (k : IsWord v) where
      abbrev own : ℕ
      own = word_at m (p / 8)

      abbrev beside : ℕ
      beside = word_at m (next / 8)

      abbrev low : ℕ
      low = bis (msk_low 2 own p) (ins_low 2 v p)

      abbrev one : ℕ
      one = bis (msk_low 1 own p) (ins_low 1 v p)

      abbrev Puts : Type 0
      Puts =
          put_word (put_word m (next / 8) (bis (msk_high 2 beside p) (ins_high 2 v p))) (p / 8) low
          ≡ put_word (put_word m (p / 8) one) (next / 8)
          (bis (msk_low 1 (word_at (put_word m (p / 8) one) (next / 8)) next) (ins_low 1 (srl v 8) next))

      puts_within : IsWithin p next → Puts
      puts_within within =
          ap (λ j. put_word (put_word m j (bis (msk_high 2 (word_at m j) p) (ins_high 2 v p))) (p / 8) low) within.2
          ∙ again m (p / 8) (bis (msk_high 2 own p) (ins_high 2 v p)) low
          ∙ ap (put_word m (p / 8)) (two.put_both_within p next own (word_at-lt loaded-lt m p is) v k within.0 within.1)
          ∙ sym (again m (p / 8) one (bis (msk_low 1 one next) (ins_low 1 (srl v 8) next)))
          ∙ ap (λ b. put_word (put_word m (p / 8) one) (p / 8) (bis (msk_low 1 b next) (ins_low 1 (srl v 8) next)))
          (sym (reads m (p / 8) one))
          ∙ ap (λ j. put_word (put_word m (p / 8) one) j
          (bis (msk_low 1 (word_at (put_word m (p / 8) one) j) next) (ins_low 1 (srl v 8) next))) (sym within.2)

      puts_across : IsAcross p next → Puts
      puts_across across =
          let high_is = two.put_high_across p next beside (word_at-lt loaded-lt m next is) v k across.0 across.1 in
          let low_is = two.put_low_across p next own (word_at-lt loaded-lt m p is) v k across.0 in
          let other = others m (p / 8) one (next / 8) across.2 in
          ap₂ (λ y x. put_word (put_word m (next / 8) y) (p / 8) x) high_is low_is
          ∙ exchanged m (p / 8) (next / 8) one (bis (msk_low 1 beside next) (ins_low 1 (srl v 8) next)) is
          (omega (arith, f)) (omega (arith, g)) (put-lt 1 own v p) (put-lt 1 beside (srl v 8) next) across.2
          ∙ ap (λ b. put_word (put_word m (p / 8) one) (next / 8) (bis (msk_low 1 b next) (ins_low 1 (srl v 8) next)))
          (sym other)

    pub put_of_words :
        (m : Memory) (p v : ℕ) →
        IsMemory m →
        IsWord p →
        IsWord v →
        store (store m (addq p 1) (bis (msk_high 2 (select m (addq p 1)) p) (ins_high 2 v p))) p
        (bis (msk_low 2 (select m p) p) (ins_low 2 v p))
        ≡ stored Byte (stored Byte m p v) (addq p 1) (srl v 8)
    unfolding stored store select
    put_of_words m p v is f k = elim (where_next p f) [
      | inl within ↦ puts_within m p (addq p 1) v is f (next-lt p) k within
      | inr across ↦ puts_across m p (addq p 1) v is f (next-lt p) k across
    ]
