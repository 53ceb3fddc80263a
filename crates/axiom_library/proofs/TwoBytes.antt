-- Two bytes at any address, by bytes: what operators of two bytes give, and what those of one byte do.
use Rattle.std.proofs.Common.{◌≡◌, ℕ, ◌+◌, ◌/◌, ◌%◌, ◌^◌, ◌<◌, refl, arith}
use Rattle.std.proofs.lemmas.Bool.Decides.{nat_tests}
use Rattle.word_ops.specs.Words.{IsWord}
use Rattle.word_ops.specs.Values.{bis, sll, srl, ext_low, ext_high, ins_low, ins_high, msk_low, msk_high}
use Rattle.axiom_library.proofs.ByteBits.{HasBytes, same_bytes, each_byte, own_bytes, down, up, joined, bit}
use Rattle.axiom_library.proofs.WideFields.{Bytes, lowest, moved_down, moved_up, only, without, both, high, field, taken_low, taken_high, put_low, put_high, cleared_low, cleared_high}

abbrev Same : Bytes → Bytes → Type 0
Same f g = (q : ℕ) → q < 8 → (r : ℕ) → f q r ≡ g q r

alike : {a b : ℕ} {f g : Bytes} → HasBytes a f → HasBytes b g → Same f g → a ≡ b
alike h k e = same_bytes h k
    (e 0 (omega arith)) (e 1 (omega arith)) (e 2 (omega arith)) (e 3 (omega arith))
    (e 4 (omega arith)) (e 5 (omega arith)) (e 6 (omega arith)) (e 7 (omega arith))

-- ---- loads, where f and g are the bytes of the words

abbrev by_two : ℕ → Bytes → Bytes → Bytes
by_two o f g = both (lowest 2 (moved_down o f)) (lowest 2 (moved_up (high o) g))

abbrev one_by_one : ℕ → ℕ → Bytes → Bytes → Bytes
one_by_one o next f g = both (lowest 1 (moved_down o f)) (moved_up 1 (lowest 1 (moved_down next g)))

loaded_across : (f g : Bytes) → Same (by_two 7 f g) (one_by_one 7 0 f g)
loaded_across f g = each_byte (λ q. (r : ℕ) → by_two 7 f g q r ≡ one_by_one 7 0 f g q r)
    (λ r. omega arith) (λ r. omega arith) (λ r. omega arith) (λ r. omega arith)
    (λ r. omega arith) (λ r. omega arith) (λ r. omega arith) (λ r. omega arith)

loaded_within : (f : Bytes) (o : ℕ) → o < 7 → Same (by_two o f f) (one_by_one o (o + 1) f f)
loaded_within f o l q m r = grind (arith, nat_tests)

-- ---- stores, where f and g are the bytes of the words, and v those of what is stored

abbrev put_by_two : ℕ → Bytes → Bytes → Bytes
put_by_two o f v = both (without (field 2 o) f) (only (field 2 o) (moved_up o v))

abbrev put_by_two_high : ℕ → Bytes → Bytes → Bytes
put_by_two_high o g v = both (without (field 2 o / 2 ^ 8) g) (only (field 2 o / 2 ^ 8) (moved_down (high o) v))

abbrev put_one : ℕ → Bytes → Bytes → Bytes
put_one o f v = both (without (field 1 o) f) (only (field 1 o) (moved_up o v))

put_across_low : (f v : Bytes) → Same (put_by_two 7 f v) (put_one 7 f v)
put_across_low f v = each_byte (λ q. (r : ℕ) → put_by_two 7 f v q r ≡ put_one 7 f v q r)
    (λ r. omega arith) (λ r. omega arith) (λ r. omega arith) (λ r. omega arith)
    (λ r. omega arith) (λ r. omega arith) (λ r. omega arith) (λ r. omega arith)

put_across_high : (g v : Bytes) → Same (put_by_two_high 7 g v) (put_one 0 g (moved_down 1 v))
put_across_high g v = each_byte (λ q. (r : ℕ) → put_by_two_high 7 g v q r ≡ put_one 0 g (moved_down 1 v) q r)
    (λ r. omega arith) (λ r. omega arith) (λ r. omega arith) (λ r. omega arith)
    (λ r. omega arith) (λ r. omega arith) (λ r. omega arith) (λ r. omega arith)

abbrev SamePut : Bytes → Bytes → ℕ → ℕ → Type 0
SamePut f v o q = (r : ℕ) → put_by_two o f v q r ≡ put_one (o + 1) (put_one o f v) (moved_down 1 v) q r

put_within : (f v : Bytes) (o : ℕ) → o < 7 → Same (put_by_two o f v) (put_one (o + 1) (put_one o f v) (moved_down 1 v))
put_within f v o l = each_byte (λ o. o < 7 → (q : ℕ) → q < 8 → SamePut f v o q)
    (λ _. each_byte (SamePut f v 0)
    (λ r. omega arith) (λ r. omega arith) (λ r. omega arith) (λ r. omega arith)
    (λ r. omega arith) (λ r. omega arith) (λ r. omega arith) (λ r. omega arith))
    (λ _. each_byte (SamePut f v 1)
    (λ r. omega arith) (λ r. omega arith) (λ r. omega arith) (λ r. omega arith)
    (λ r. omega arith) (λ r. omega arith) (λ r. omega arith) (λ r. omega arith))
    (λ _. each_byte (SamePut f v 2)
    (λ r. omega arith) (λ r. omega arith) (λ r. omega arith) (λ r. omega arith)
    (λ r. omega arith) (λ r. omega arith) (λ r. omega arith) (λ r. omega arith))
    (λ _. each_byte (SamePut f v 3)
    (λ r. omega arith) (λ r. omega arith) (λ r. omega arith) (λ r. omega arith)
    (λ r. omega arith) (λ r. omega arith) (λ r. omega arith) (λ r. omega arith))
    (λ _. each_byte (SamePut f v 4)
    (λ r. omega arith) (λ r. omega arith) (λ r. omega arith) (λ r. omega arith)
    (λ r. omega arith) (λ r. omega arith) (λ r. omega arith) (λ r. omega arith))
    (λ _. each_byte (SamePut f v 5)
    (λ r. omega arith) (λ r. omega arith) (λ r. omega arith) (λ r. omega arith)
    (λ r. omega arith) (λ r. omega arith) (λ r. omega arith) (λ r. omega arith))
    (λ _. each_byte (SamePut f v 6)
    (λ r. omega arith) (λ r. omega arith) (λ r. omega arith) (λ r. omega arith)
    (λ r. omega arith) (λ r. omega arith) (λ r. omega arith) (λ r. omega arith))
    (λ past. absurd (omega (arith, past)))
    o (omega arith) l

-- ---- words

module _ (p next : ℕ) where
  module _ (a b : ℕ) (f : IsWord a) (g : IsWord b) where
    pub load_across :
        p % 8 ≡ 7 →
        next % 8 ≡ 0 →
        bis (ext_low 2 a p) (ext_high 2 b p) ≡ bis (ext_low 1 a p) (sll (ext_low 1 b next) 8)
    load_across at after = alike
        (joined (taken_low p 7 at 2 (own_bytes a f)) (taken_high p 7 at 2 (own_bytes b g)))
        (joined (taken_low p 7 at 1 (own_bytes a f)) (up 1 (omega arith) (taken_low next 0 after 1 (own_bytes b g))))
        (loaded_across (bit a) (bit b))

  module _ (a : ℕ) (f : IsWord a) where
    pub load_within :
        p % 8 < 7 →
        next % 8 ≡ p % 8 + 1 →
        bis (ext_low 2 a p) (ext_high 2 a p) ≡ bis (ext_low 1 a p) (sll (ext_low 1 a next) 8)
    load_within l after = alike
        (joined (taken_low p (p % 8) refl 2 (own_bytes a f)) (taken_high p (p % 8) refl 2 (own_bytes a f)))
        (joined (taken_low p (p % 8) refl 1 (own_bytes a f))
        (up 1 (omega arith) (taken_low next (p % 8 + 1) after 1 (own_bytes a f))))
        (loaded_within (bit a) (p % 8) l)

    module _ (v : ℕ) (k : IsWord v) where
      pub put_low_across : p % 8 ≡ 7 → bis (msk_low 2 a p) (ins_low 2 v p) ≡ bis (msk_low 1 a p) (ins_low 1 v p)
      put_low_across at = alike
          (joined (cleared_low p 7 at 2 (own_bytes a f)) (put_low p 7 at 2 (own_bytes v k)))
          (joined (cleared_low p 7 at 1 (own_bytes a f)) (put_low p 7 at 1 (own_bytes v k)))
          (put_across_low (bit a) (bit v))

      pub put_high_across :
          p % 8 ≡ 7 →
          next % 8 ≡ 0 →
          bis (msk_high 2 a p) (ins_high 2 v p) ≡ bis (msk_low 1 a next) (ins_low 1 (srl v 8) next)
      put_high_across at after = alike
          (joined (cleared_high p 7 at 2 (own_bytes a f)) (put_high p 7 at 2 (own_bytes v k)))
          (joined (cleared_low next 0 after 1 (own_bytes a f))
          (put_low next 0 after 1 (down 1 (omega arith) (own_bytes v k))))
          (put_across_high (bit a) (bit v))

      pub put_both_within :
          p % 8 < 7 →
          next % 8 ≡ p % 8 + 1 →
          bis (msk_low 2 a p) (ins_low 2 v p)
          ≡ bis (msk_low 1 (bis (msk_low 1 a p) (ins_low 1 v p)) next) (ins_low 1 (srl v 8) next)
      put_both_within l after = alike
          (joined (cleared_low p (p % 8) refl 2 (own_bytes a f)) (put_low p (p % 8) refl 2 (own_bytes v k)))
          (joined
          (cleared_low next (p % 8 + 1) after 1
          (joined (cleared_low p (p % 8) refl 1 (own_bytes a f)) (put_low p (p % 8) refl 1 (own_bytes v k))))
          (put_low next (p % 8 + 1) after 1 (down 1 (omega arith) (own_bytes v k))))
          (put_within (bit a) (bit v) (p % 8) l)
