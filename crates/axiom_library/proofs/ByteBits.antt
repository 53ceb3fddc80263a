-- Which bits each byte of a word has, operator by operator; two words with the same bytes are equal.
use Rattle.std.proofs.Common.{◌≡◌, ℕ, zero, suc, ◌+◌, ◌-◌, ◌*◌, ◌/◌, ◌%◌, ◌^◌, ◌<◌, ◌≤◌, ◌≢◌, ◌⊎◌, ◌==◌, if◌then◌else◌, min, max, refl, subst, sym, ap, ◌∙◌, arith, ⊎_elim}
use Rattle.std.specs.Prelude.{nat_lt, nat_le, ◌&&◌}
use Rattle.std.specs.Int.{bit_at}
use Rattle.std.proofs.lemmas.Bool.{cases_lt}
use Rattle.std.proofs.lemmas.Bool.Decides.{nat_tests}
use Rattle.std.proofs.lemmas.Nat.{and_mask, mod_below}
use Rattle.std.proofs.lemmas.Nat.Bits.{bit_at-lt, bit_at-zero, bit_at_above}
use Rattle.word_ops.specs.Words.{IsWord}
use Rattle.word_ops.specs.Values.{and, bis, sll, srl, storeb, selectb, zapnot, ext_low, ins_low, width_mask}
use Rattle.word_ops.proofs.WordBits.{same_word, bit_at_mod_low, bit_at_mod_high, bit_at_shr, bit_at_shl_high}
use Rattle.word_ops.proofs.OperatorBits.{bit_at_sll_low, bit_at_sll_high, bit_at_srl, bit_at_bis, bit_at_zapnot, bit_at_storeb_in, bit_at_storeb_out, bit_at_width_mask_in, bit_at_width_mask_below, bit_at_width_mask_above, sll-lt, srl-lt, zapnot-lt, storeb-lt}
use Rattle.word_ops.proofs.StoredByte.{bis-lt, ins_low-lt}

-- bit r of byte q
unfoldable pub bit : ℕ → ℕ → ℕ → ℕ
bit a q r = bit_at a (8 * q + r)

pub record HasBytes (word : ℕ) (bits : ℕ → ℕ → ℕ) : Type 0 where
  pub below : IsWord word
  pub same : (q r : ℕ) → q < 8 → r < 8 → bit word q r ≡ bits q r

-- ---- two words

pub each_byte : (P : ℕ → Type 0) → P 0 → P 1 → P 2 → P 3 → P 4 → P 5 → P 6 → P 7 → (q : ℕ) → q < 8 → P q
each_byte P a b c d e f g h zero l = a
each_byte P a b c d e f g h (suc zero) l = b
each_byte P a b c d e f g h (suc (suc zero)) l = c
each_byte P a b c d e f g h (suc (suc (suc zero))) l = d
each_byte P a b c d e f g h (suc (suc (suc (suc zero)))) l = e
each_byte P a b c d e f g h (suc (suc (suc (suc (suc zero))))) l = f
each_byte P a b c d e f g h (suc (suc (suc (suc (suc (suc zero)))))) l = g
each_byte P a b c d e f g h (suc (suc (suc (suc (suc (suc (suc zero))))))) l = h
each_byte P a b c d e f g h (suc (suc (suc (suc (suc (suc (suc (suc q)))))))) l = absurd (omega arith)

bit_of_place : (a i : ℕ) → bit_at a i ≡ bit a (i / 8) (i % 8)
unfolding bit
bit_of_place a i = ap (bit_at a) (omega arith)

pub same_bytes :
    {a b : ℕ} {f g : ℕ → ℕ → ℕ} →
    HasBytes a f →
    HasBytes b g →
    ((r : ℕ) → f 0 r ≡ g 0 r) →
    ((r : ℕ) → f 1 r ≡ g 1 r) →
    ((r : ℕ) → f 2 r ≡ g 2 r) →
    ((r : ℕ) → f 3 r ≡ g 3 r) →
    ((r : ℕ) → f 4 r ≡ g 4 r) →
    ((r : ℕ) → f 5 r ≡ g 5 r) →
    ((r : ℕ) → f 6 r ≡ g 6 r) →
    ((r : ℕ) → f 7 r ≡ g 7 r) →
    a ≡ b
same_bytes {a} {b} {f} {g} h k e0 e1 e2 e3 e4 e5 e6 e7 = same_word a b h.below k.below (λ i l.
    bit_of_place a i
    ∙ h.same (i / 8) (i % 8) (omega arith) (omega arith)
    ∙ each_byte (λ q. (r : ℕ) → f q r ≡ g q r) e0 e1 e2 e3 e4 e5 e6 e7 (i / 8) (omega arith) (i % 8)
    ∙ sym (k.same (i / 8) (i % 8) (omega arith) (omega arith))
    ∙ sym (bit_of_place b i))

-- ---- words without operators

pub zero_bytes : HasBytes 0 (λ q r. 0)
unfolding bit
zero_bytes = record { below = omega arith; same = λ q r l m. bit_at-zero (8 * q + r) }

pub own_bytes : (x : ℕ) → IsWord x → HasBytes x (bit x)
own_bytes x h = record { below = h; same = λ q r l m. refl }

-- ---- a byte put in, and one taken out

same_or_not : (a b : ℕ) → (a ≡ b) ⊎ (a ≢ b)
same_or_not a b = grind arith

stored_bit : (t n b q r : ℕ) → q < 8 → r < 8 → bit (storeb t n b) q r ≡ (if q == n % 8 then bit b 0 r else bit t q r)
unfolding bit
stored_bit t n b q r l m =
    let place : (8 * q + r) / 8 ≡ q = omega arith in
    let rest : (8 * q + r) % 8 ≡ 8 * 0 + r = omega arith in
    ⊎_elim
    (λ e. bit_at_storeb_in t n b (8 * q + r) (omega arith) (omega (arith, place, e)) ∙ ap (bit_at b) rest ∙ grind (arith, nat_tests))
    (λ e. bit_at_storeb_out t n b (8 * q + r) (omega arith) (λ f. e (sym place ∙ f)) ∙ grind (arith, nat_tests))
    (same_or_not q (n % 8))

pub stored :
    {t b : ℕ} {f g : ℕ → ℕ → ℕ} (n : ℕ) →
    HasBytes t f →
    HasBytes b g →
    HasBytes (storeb t n b) (λ q r. if q == n % 8 then g 0 r else f q r)
stored {t} {b} {f} {g} n h k = record {
  below = storeb-lt t n b;
  same = λ q r l m. stored_bit t n b q r l m ∙ ap (λ v. if q == n % 8 then v else bit t q r) (k.same 0 r (omega arith) m) ∙ ap (λ v. if q == n % 8 then g 0 r else v) (h.same q r l m);
}

-- the low byte of a number, and nothing above it
low_bit : (a q r : ℕ) → r < 8 → bit (a % 2 ^ 8) q r ≡ (if q == 0 then bit a 0 r else 0)
unfolding bit
low_bit a zero r m = bit_at_mod_low a 8 (8 * 0 + r) (omega arith)
low_bit a (suc q) r m = bit_at_mod_high a 8 (8 * suc q + r) (omega arith) ∙ grind (arith, nat_tests)

pub taken : {x : ℕ} {f : ℕ → ℕ → ℕ} (n : ℕ) → HasBytes x f → HasBytes (ext_low 1 x n) (λ q r. if q == 0 then f (n % 8) r else 0)
unfolding bit ext_low
taken {x} {f} n h = record {
  below = omega (arith, mod_below (x / 2 ^ (8 * (n % 8))) 256 (omega arith));
  same = λ q r l m. low_bit (x / 2 ^ (8 * (n % 8))) q r m ∙ ap (λ v. if q == 0 then v else 0) (down_bits r ∙ h.same (n % 8) r (omega arith) m);
}
  where
    down_bits : (r : ℕ) → bit (x / 2 ^ (8 * (n % 8))) 0 r ≡ bit x (n % 8) r
    down_bits r = bit_at_shr x (8 * (n % 8)) (8 * 0 + r) ∙ ap (bit_at x) (omega arith)

selectb_is_extbl : (x n : ℕ) → selectb x n ≡ ext_low 1 x n
unfolding selectb ext_low
selectb_is_extbl x n = refl

pub selected : {x : ℕ} {f : ℕ → ℕ → ℕ} (n : ℕ) → HasBytes x f → HasBytes (selectb x n) (λ q r. if q == 0 then f (n % 8) r else 0)
selected {x} {f} n h = subst (λ w. HasBytes w (λ q r. if q == 0 then f (n % 8) r else 0)) (sym (selectb_is_extbl x n)) (taken n h)

and_255 : (x : ℕ) → and x 255 ≡ x % 2 ^ 8
unfolding and
and_255 x = and_mask x 8

pub low_byte : {x : ℕ} {f : ℕ → ℕ → ℕ} → HasBytes x f → HasBytes (and x 255) (λ q r. if q == 0 then f 0 r else 0)
low_byte {x} {f} h = record {
  below = omega (arith, and_255 x);
  same = λ q r l m. ap (λ n. bit n q r) (and_255 x) ∙ low_bit x q r m ∙ ap (λ v. if q == 0 then v else 0) (h.same 0 r (omega arith) m);
}

-- ---- bytes moved

inserted_bit :
    (w x n q r : ℕ) →
    q < 8 →
    r < 8 →
    bit (ins_low w x n) q r ≡ (if nat_le (n % 8) q && nat_lt q (n % 8 + w) then bit x (q - n % 8) r else 0)
unfolding bit ins_low
inserted_bit w x n q r l m =
    bit_at_zapnot (x * 2 ^ (8 * (n % 8)) % 2 ^ 64) (width_mask w n) (8 * q + r) (omega arith)
    ∙ ap (λ i. min (bit_at (x * 2 ^ (8 * (n % 8)) % 2 ^ 64) (8 * q + r)) (bit_at (width_mask w n) i)) place
    ∙ ⊎_elim
    (λ below. ap (min _) (bit_at_width_mask_below w n q below) ∙ grind (arith, nat_tests))
    (λ from. ⊎_elim
    (λ inside. ap (min _) (bit_at_width_mask_in w n q from inside) ∙ moved from ∙ grind (arith, nat_tests))
    (λ above. ap (min _) (bit_at_width_mask_above w n q above) ∙ grind (arith, nat_tests))
    (cases_lt q (n % 8 + w)))
    (cases_lt q (n % 8))
  where
    place : (8 * q + r) / 8 ≡ q
    place = omega arith

    moved : n % 8 ≤ q → min (bit_at (x * 2 ^ (8 * (n % 8)) % 2 ^ 64) (8 * q + r)) 1 ≡ bit_at x (8 * (q - n % 8) + r)
    moved from =
        let low = bit_at_mod_low (x * 2 ^ (8 * (n % 8))) 64 (8 * q + r) (omega arith) in
        let down = bit_at_shl_high x (8 * (n % 8)) (8 * q + r) (omega arith) in
        let back : 8 * q + r - 8 * (n % 8) ≡ 8 * (q - n % 8) + r = omega arith in
        let same = ap (bit_at x) back in
        omega (arith, low, down, same, bit_at-lt x (8 * (q - n % 8) + r))

pub inserted :
    {x : ℕ} {f : ℕ → ℕ → ℕ} (w n : ℕ) →
    HasBytes x f →
    HasBytes (ins_low w x n) (λ q r. if nat_le (n % 8) q && nat_lt q (n % 8 + w) then f (q - n % 8) r else 0)
inserted {x} {f} w n h = record {
  below = ins_low-lt w x n;
  same = λ q r l m. inserted_bit w x n q r l m ∙ ap (λ v. if nat_le (n % 8) q && nat_lt q (n % 8 + w) then v else 0) (h.same (q - n % 8) r (omega arith) m);
}

pub down : {x : ℕ} {f : ℕ → ℕ → ℕ} (k : ℕ) → k < 8 → HasBytes x f → HasBytes (srl x (8 * k)) (λ q r. if nat_lt (q + k) 8 then f (q + k) r else 0)
unfolding bit
down {x} {f} k less h = record {
  below = srl-lt x (8 * k) h.below;
  same = λ q r l m. shifted q r ∙ ⊎_elim
      (λ (inside : q + k < 8). h.same (q + k) r inside m ∙ grind (arith, nat_tests))
      (λ (outside : 8 ≤ q + k). above q r outside ∙ grind (arith, nat_tests))
      (cases_lt (q + k) 8);
}
  where
    shifted : (q r : ℕ) → bit (srl x (8 * k)) q r ≡ bit x (q + k) r
    shifted q r = bit_at_srl x (8 * k) (8 * q + r) ∙ ap (bit_at x) (omega arith)

    above : (q r : ℕ) → 8 ≤ q + k → bit x (q + k) r ≡ 0
    above q r outside = bit_at_above x 64 (8 * (q + k) + r) h.below (omega arith)

pub up : {x : ℕ} {f : ℕ → ℕ → ℕ} (k : ℕ) → k < 8 → HasBytes x f → HasBytes (sll x (8 * k)) (λ q r. if nat_lt q k then 0 else f (q - k) r)
unfolding bit
up {x} {f} k less h = record {
  below = sll-lt x (8 * k);
  same = λ q r l m. ⊎_elim
      (λ (below : q < k). low q r l m below ∙ grind (arith, nat_tests))
      (λ (from : k ≤ q). moved q r l m from ∙ h.same (q - k) r (omega arith) m ∙ grind (arith, nat_tests))
      (cases_lt q k);
}
  where
    low : (q r : ℕ) → q < 8 → r < 8 → q < k → bit (sll x (8 * k)) q r ≡ 0
    low q r l m below = bit_at_sll_low x (8 * k) (8 * q + r) (omega arith) (omega arith)

    moved : (q r : ℕ) → q < 8 → r < 8 → k ≤ q → bit (sll x (8 * k)) q r ≡ bit x (q - k) r
    moved q r l m from = bit_at_sll_high x (8 * k) (8 * q + r) (omega arith) (omega arith) ∙ ap (bit_at x) (omega arith)

-- ---- bytes kept, and words joined

pub kept : {z : ℕ} {f : ℕ → ℕ → ℕ} (mask : ℕ) → HasBytes z f → HasBytes (zapnot z mask) (λ q r. if bit_at mask q == 1 then f q r else 0)
unfolding bit
kept {z} {f} mask h = record {
  below = zapnot-lt z mask;
  same = λ q r l m. kept_bit q r l m ∙ ap (λ v. if bit_at mask q == 1 then v else 0) (h.same q r l m);
}
  where
    kept_bit : (q r : ℕ) → q < 8 → r < 8 → bit (zapnot z mask) q r ≡ (if bit_at mask q == 1 then bit z q r else 0)
    kept_bit q r l m =
        let place : (8 * q + r) / 8 ≡ q = omega arith in
        bit_at_zapnot z mask (8 * q + r) (omega arith)
        ∙ ap (λ i. min (bit_at z (8 * q + r)) (bit_at mask i)) place
        ∙ grind (arith, nat_tests, bit_at-lt mask q, bit_at-lt z (8 * q + r))

pub joined : {a b : ℕ} {f g : ℕ → ℕ → ℕ} → HasBytes a f → HasBytes b g → HasBytes (bis a b) (λ q r. max (f q r) (g q r))
unfolding bit
joined {a} {b} {f} {g} h k = record {
  below = bis-lt a b h.below k.below;
  same = λ q r l m. both q r ∙ ap (λ v. max v (bit b q r)) (h.same q r l m) ∙ ap (max (f q r)) (k.same q r l m);
}
  where
    both : (q r : ℕ) → bit (bis a b) q r ≡ max (bit a q r) (bit b q r)
    both q r = bit_at_bis a b (8 * q + r)
