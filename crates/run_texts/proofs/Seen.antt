-- The places that were given, marked in a memory.
use Rattle.std.proofs.Common.{◌≡◌, ◌≢◌, ℕ, ◌/◌, List, [], ◌∷◌, ◌++◌, length, get_or, refl, sym, ap, subst, ◌∙◌, arith, ◌==◌, Bool, true, false}
use Rattle.std.specs.Prelude.{All}
use Rattle.std.specs.FinMap.{empty, get-empty}
use Rattle.std.specs.Option.{unwrap_or}
use Rattle.std.specs.Ordering.{nat_cmp}
use Rattle.std.proofs.lemmas.Bool.Decides.{nat_tests}
use Rattle.std.proofs.lemmas.List.Elements.{All-push, All-nil}
use Rattle.word_ops.specs.Memory.{Memory, word_at, put_word}
use Rattle.text_core.specs.LineTexts.{Words}
use Rattle.run_texts.specs.declared.texts.PlaceWord.{PlaceWord}
use Rattle.run_texts.specs.declared.texts.RunText.{RunText}
use Rattle.run_texts.specs.RunTexts.{IsRunText}
use Rattle.run_texts.specs.RunFaults.{word_count}
use Rattle.run_texts.specs.SoFar.{AreSeen, IsRunTextTo}
use Rattle.run_texts.proofs.Lists.{all_front, all_last}
use Rattle.run_texts.proofs.LastLines.{made}
use Rattle.run_texts.proofs.Fronts.{no_lines}

pub is_fresh : (places : List PlaceWord) (seen : Memory) (place : ℕ) → AreSeen places seen → word_at seen place ≡ 0 → All (λ q. q.address / 8 ≢ place) places
is_fresh places seen place h none k d lt e =
    let one : word_at seen ((get_or places k d).address / 8) ≡ 1 = h.given k d lt in
    let zero : 0 ≡ 1 = sym none ∙ ap (word_at seen) (sym e) ∙ one in
    absurd (omega (arith, zero))

pub not_fresh : (places : List PlaceWord) (seen : Memory) (place n : ℕ) → AreSeen places seen → n ≡ word_at seen place → n ≢ 0 → All (λ q. q.address / 8 ≢ place) places → ⊥
not_fresh places seen place n h is some fresh = some (is ∙ h.others place fresh)

pub none_seen : AreSeen [] empty
unfolding word_at
none_seen =
    record {
      given = All-nil (λ (p : PlaceWord). word_at empty (p.address / 8) ≡ 1);
      others = λ place h. ap (λ o. unwrap_or o 0) (get-empty nat_cmp place);
    }

module _ (put : (m : Memory) (place v : ℕ) → word_at (put_word m place v) place ≡ v)
    (others : (m : Memory) (place v other : ℕ) → other ≢ place → word_at (put_word m place v) other ≡ word_at m other) where
  kept : (seen : Memory) (place q : ℕ) → word_at seen q ≡ 1 → word_at (put_word seen place 1) q ≡ 1
  kept seen place q one = by_place (q == place) refl
    where
      by_place : (b : Bool) → (q == place) ≡ b → word_at (put_word seen place 1) q ≡ 1
      by_place true e =
          let same : q ≡ place = grind (arith, nat_tests, e) in
          ap (word_at (put_word seen place 1)) same ∙ put seen place 1
      by_place false e =
          let apart : q ≢ place = grind (arith, nat_tests, e) in
          others seen place 1 q apart ∙ one

  pub seen_more : (places : List PlaceWord) (seen : Memory) (p : PlaceWord) → AreSeen places seen → AreSeen (places ++ p ∷ []) (put_word seen (p.address / 8) 1)
  seen_more places seen p h =
      record {
        given = All-push (λ (q : PlaceWord). word_at (put_word seen (p.address / 8) 1) (q.address / 8) ≡ 1) places p
            (λ k d lt. kept seen (p.address / 8) ((get_or places k d).address / 8) (h.given k d lt)) (put seen (p.address / 8) 1);
        others = λ place fresh.
            others seen (p.address / 8) 1 place (λ e. all_last (λ (q : PlaceWord). q.address / 8 ≢ place) places p fresh (sym e))
            ∙ h.others place (all_front (λ (q : PlaceWord). q.address / 8 ≢ place) places p fresh);
      }

pub start_read : (lines : List Words) (run : RunText) → run.words ≡ [] → run.registers ≡ [] → run.places ≡ [] → IsRunTextTo lines 0 run
start_read lines run e f g =
    let w : length run.words ≡ 0 = ap length e in
    let p : length run.places ≡ 0 = ap length g in
    record {
      is = subst (λ ws. IsRunText (word_count lines) [] (made ws run.registers run.places)) (sym e)
          (subst (λ rs. IsRunText (word_count lines) [] (made [] rs run.places)) (sym f)
          (subst (λ ps. IsRunText (word_count lines) [] (made [] [] ps)) (sym g) (no_lines (word_count lines))));
      within = record { words = omega arith; places = omega arith };
    }

pub seen_start : (places : List PlaceWord) (seen : Memory) → places ≡ [] → seen ≡ empty → AreSeen places seen
seen_start places seen e f = subst (λ ps. AreSeen ps seen) (sym e) (subst (AreSeen []) (sym f) none_seen)
