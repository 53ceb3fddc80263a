-- Which bytes the operators of wide fields give at an offset.
use Rattle.std.proofs.Common.{◌≡◌, ℕ, ◌+◌, ◌-◌, ◌*◌, ◌/◌, ◌%◌, ◌^◌, ◌<◌, ◌≤◌, ◌==◌, if◌then◌else◌, min, max, subst, sym, ap, ◌∙◌, arith, ⊎_elim}
use Rattle.std.specs.Prelude.{nat_lt}
use Rattle.std.specs.Int.{bit_at}
use Rattle.std.proofs.lemmas.Bool.{cases_lt}
use Rattle.std.proofs.lemmas.Bool.Decides.{nat_tests}
use Rattle.std.proofs.lemmas.Nat.Bits.{bit_at-lt}
use Rattle.std.proofs.Math.Nat.{mod-le}
use Rattle.word_ops.specs.Values.{sll, srl, zap, zapnot, ext_low, ext_high, ins_low, ins_high, msk_low, msk_high, high_shift}
use Rattle.word_ops.proofs.WordBits.{bit_at_mod_low, bit_at_mod_high}
use Rattle.word_ops.proofs.OperatorBits.{bit_at_zap, zap-lt}
use Rattle.axiom_library.proofs.ByteBits.{HasBytes, bit, down, up, kept}

-- ---- bytes by their places, and what becomes of them

abbrev pub Bytes : Type 0
Bytes = ℕ → ℕ → ℕ

abbrev pub lowest : ℕ → Bytes → Bytes
lowest w f = λ q r. if nat_lt q w then f q r else 0

abbrev pub moved_down : ℕ → Bytes → Bytes
moved_down k f = λ q r. if nat_lt (q + k) 8 then f (q + k) r else 0

abbrev pub moved_up : ℕ → Bytes → Bytes
moved_up k f = λ q r. if nat_lt q k then 0 else f (q - k) r

abbrev pub only : ℕ → Bytes → Bytes
only mask f = λ q r. if bit_at mask q == 1 then f q r else 0

abbrev pub without : ℕ → Bytes → Bytes
without mask f = λ q r. if bit_at mask q == 1 then 0 else f q r

abbrev pub both : Bytes → Bytes → Bytes
both f g = λ q r. max (f q r) (g q r)

pub front : {x : ℕ} {f : Bytes} (w : ℕ) → HasBytes x f → HasBytes (x % 2 ^ (8 * w)) (lowest w f)
unfolding bit
front {x} {f} w h = record {
  below = omega (arith, h.below, mod-le x (2 ^ (8 * w)));
  same = λ q r l m. ⊎_elim
      (λ (inside : q < w).
      bit_at_mod_low x (8 * w) (8 * q + r) (omega arith) ∙ h.same q r l m ∙ grind (arith, nat_tests))
      (λ (outside : w ≤ q). bit_at_mod_high x (8 * w) (8 * q + r) (omega arith) ∙ grind (arith, nat_tests))
      (cases_lt q w);
}

pub cleared : {x : ℕ} {f : Bytes} (mask : ℕ) → HasBytes x f → HasBytes (zap x mask) (without mask f)
unfolding bit
cleared {x} {f} mask h = record {
  below = zap-lt x mask;
  same = λ q r l m. cleared_bit q r l m ∙ ap (λ v. if bit_at mask q == 1 then 0 else v) (h.same q r l m);
}
  where
    cleared_bit : (q r : ℕ) → q < 8 → r < 8 → bit (zap x mask) q r ≡ (if bit_at mask q == 1 then 0 else bit x q r)
    cleared_bit q r l m =
        let place : (8 * q + r) / 8 ≡ q = omega arith in
        bit_at_zap x mask (8 * q + r) (omega arith)
        ∙ ap (λ i. min (bit_at x (8 * q + r)) (1 - bit_at mask i)) place
        ∙ grind (arith, nat_tests, bit_at-lt mask q, bit_at-lt x (8 * q + r))

-- ---- the operators at an address n with offset o

-- by how many bytes the operators of high bytes shift
abbrev pub high : ℕ → ℕ
high o = (8 - o) % 8

-- the bytes of a field of w bytes at the offset, as bits
abbrev pub field : ℕ → ℕ → ℕ
field w o = (2 ^ w - 1) * 2 ^ o

module _ (n o : ℕ) (at : n % 8 ≡ o) where
  low_distance : 8 * (n % 8) ≡ 8 * o % 64
  low_distance = omega (arith, at)

  high_distance : high_shift n ≡ 8 * high o % 64
  high_distance = omega (arith, at)

  small : o < 8
  small = omega (arith, at)

  high_small : high o < 8
  high_small = omega arith

  pub taken_low : {x : ℕ} {f : Bytes} (w : ℕ) → HasBytes x f → HasBytes (ext_low w x n) (lowest w (moved_down o f))
  unfolding ext_low srl
  taken_low {x} {f} w h =
      subst (λ d. HasBytes (x / 2 ^ d % 2 ^ (8 * w)) (lowest w (moved_down o f))) (sym low_distance)
      (front w (down o small h))

  pub taken_high :
      {x : ℕ} {f : Bytes} (w : ℕ) →
      HasBytes x f →
      HasBytes (ext_high w x n) (lowest w (moved_up (high o) f))
  unfolding ext_high sll
  taken_high {x} {f} w h =
      subst (λ d. HasBytes (x * 2 ^ d % 2 ^ 64 % 2 ^ (8 * w)) (lowest w (moved_up (high o) f))) (sym high_distance)
      (front w (up (high o) high_small h))

  pub put_low : {x : ℕ} {f : Bytes} (w : ℕ) → HasBytes x f → HasBytes (ins_low w x n) (only (field w o) (moved_up o f))
  unfolding ins_low sll
  put_low {x} {f} w h =
      subst (λ d. HasBytes (zapnot (x * 2 ^ d % 2 ^ 64) (field w (n % 8))) (only (field w o) (moved_up o f)))
      (sym low_distance)
      (subst (λ e. HasBytes (zapnot (sll x (8 * o)) (field w e)) (only (field w o) (moved_up o f))) (sym at)
      (kept (field w o) (up o small h)))

  pub put_high :
      {x : ℕ} {f : Bytes} (w : ℕ) →
      HasBytes x f →
      HasBytes (ins_high w x n) (only (field w o / 2 ^ 8) (moved_down (high o) f))
  unfolding ins_high srl
  put_high {x} {f} w h =
      subst
      (λ d. HasBytes (zapnot (x / 2 ^ d) (field w (n % 8) / 2 ^ 8)) (only (field w o / 2 ^ 8) (moved_down (high o) f)))
      (sym high_distance)
      (subst
      (λ e.
      HasBytes (zapnot (srl x (8 * high o)) (field w e / 2 ^ 8)) (only (field w o / 2 ^ 8) (moved_down (high o) f)))
      (sym at)
      (kept (field w o / 2 ^ 8) (down (high o) high_small h)))

  pub cleared_low : {x : ℕ} {f : Bytes} (w : ℕ) → HasBytes x f → HasBytes (msk_low w x n) (without (field w o) f)
  unfolding msk_low
  cleared_low {x} {f} w h =
      subst (λ e. HasBytes (zap x (field w e)) (without (field w o) f)) (sym at) (cleared (field w o) h)

  pub cleared_high :
      {x : ℕ} {f : Bytes} (w : ℕ) →
      HasBytes x f →
      HasBytes (msk_high w x n) (without (field w o / 2 ^ 8) f)
  unfolding msk_high
  cleared_high {x} {f} w h =
      subst (λ e. HasBytes (zap x (field w e / 2 ^ 8)) (without (field w o / 2 ^ 8) f)) (sym at)
      (cleared (field w o / 2 ^ 8) h)
