-- The lines at the front of a program are a program, and a program goes on with a line.
use Rattle.std.proofs.Common.{◌≡◌, ◌≢◌, ℕ, zero, suc, ◌+◌, ◌<◌, ◌≤◌, ◌/◌, List, [], ◌∷◌, ◌++◌, length, map, take, refl, sym, ap, subst, ◌∙◌, append_assoc, append-nil, arith, inl, inr, ◌⊎◌, Some}
use Rattle.std.specs.Prelude.{All, slice_get}
use Rattle.std.specs.Str.Parse.{digits_value}
use Rattle.std.proofs.lemmas.List.{length_push, map_push, take_all, take-append-le}
use Rattle.std.proofs.lemmas.List.Elements.{All-push, All-nil}
use Rattle.std.proofs.lemmas.List.Quantifiers.{all_pairs_push}
use Rattle.word_ops.specs.Words.{IsWord}
use Rattle.text_core.specs.LineTexts.{Words}
use Rattle.alpha_machine.specs.Runs.{MayStandAt}
use Rattle.run_texts.specs.declared.texts.RegisterWord.{RegisterWord}
use Rattle.run_texts.specs.declared.texts.PlaceWord.{PlaceWord}
use Rattle.run_texts.specs.declared.texts.RunText.{RunText}
use Rattle.run_texts.specs.RunTexts.{IsRunText, IsHexWord, program_word_words, register_words, place_words}
use Rattle.run_texts.specs.LineReading.{IsWordLine, IsRegisterLine, IsPlaceLine}
use Rattle.run_texts.proofs.Lists.{snoc_view, push_third, get_pushed}
use Rattle.run_texts.proofs.LastLines.{made, LastLine, word, register, place, last_line}

-- a program of fewer lines, with no more words and no more places
pub record Front (count : ℕ) (lines : List Words) (run : RunText) : Type 0 where
  pub front : RunText
  pub is : IsRunText count lines front
  pub words : length front.words ≤ length run.words
  pub places : length front.places ≤ length run.places

abbrev pub Cuts : ℕ → ℕ → ℕ → Type 0
Cuts count k m = (lines : List Words) → length lines ≡ m + k → (run : RunText) → IsRunText count lines run → Front count (take m lines) run

fewer : (count k m : ℕ) → Cuts count k m → (front : List Words) (line : Words) → length front ≡ m + k → (run : RunText)
    → LastLine count front line run.words run.registers run.places → Front count (take m front) run
fewer count k m again front line n run (word vs w e1 e2 e3 is st r) =
    let f = again front n (made vs [] []) r in
    let more = length_push vs w in
    let e = ap length e1 in
    record { front = f.front; is = f.is; words = (let le = f.words in omega arith); places = (let le = f.places in omega arith) }
fewer count k m again front line n run (register qs q e1 e2 is al r) =
    let f = again front n (made run.words qs []) r in
    record { front = f.front; is = f.is; words = f.words; places = (let le = f.places in omega arith) }
fewer count k m again front line n run (place qs q e1 is al r) =
    let f = again front n (made run.words run.registers qs) r in
    let more = length_push qs q in
    let e = ap length e1 in
    record { front = f.front; is = f.is; words = f.words; places = (let le = f.places in omega arith) }

cut_last : (count k m : ℕ) → Cuts count k m → (lines : List Words) → length lines ≡ m + suc k → (run : RunText) → IsRunText count lines run
    → (lines ≡ []) ⊎ ((front : List Words) × (line : Words) × (lines ≡ front ++ line ∷ [])) → Front count (take m lines) run
cut_last count k m again lines size run h (inl e) = (let z = ap length e in absurd (omega arith))
cut_last count k m again lines size run h (inr v) =
    let n : length v.0 ≡ m + k = (let more = length_push v.0 v.1 in let e = ap length v.2 in omega arith) in
    let cut : take m lines ≡ take m v.0 = ap (take m) v.2 ∙ take-append-le m v.0 (v.1 ∷ []) (omega arith) in
    subst (λ l. Front count l run) (sym cut)
    (fewer count k m again v.0 v.1 n run (last_line count v.0 v.1 run.words run.registers run.places (subst (λ l. IsRunText count l run) v.2 h)))

pub front_of : (count k m : ℕ) → Cuts count k m
front_of count zero m lines size run h =
    record { front = run; is = subst (λ l. IsRunText count l run) (sym (take_all m lines (omega arith))) h; words = omega arith; places = omega arith }
front_of count (suc k) m lines size run h = cut_last count k m (front_of count k m) lines size run h (snoc_view lines)

module _ (count : ℕ) where
  -- ---- one line more

  pub with_word : (lines : List Words) (line : Words) (run : RunText) (w : ℕ) → run.registers ≡ [] → run.places ≡ [] → IsRunText count lines run
      → IsWordLine line w → MayStandAt count (length run.words) w → IsRunText count (lines ++ line ∷ []) (made (run.words ++ w ∷ []) run.registers run.places)
  with_word lines line run w none bare h is stands =
      let a : List Words = map program_word_words h.digits in
      let rest : List Words = map register_words run.registers ++ map place_words run.places in
      let empty : rest ≡ [] = ap (λ l. map register_words l ++ map place_words run.places) none ∙ ap (map place_words) bare in
      let behind : lines ≡ a = h.is ∙ ap (λ l. a ++ l) empty ∙ append-nil a in
      record {
        digits = h.digits ++ is.digits ∷ [];
        is = ap (λ l. l ++ line ∷ []) behind ∙ ap (λ l. a ++ l ∷ []) is.is ∙ sym (map_push program_word_words h.digits is.digits)
            ∙ sym (append-nil (map program_word_words (h.digits ++ is.digits ∷ []))) ∙ ap (λ l. map program_word_words (h.digits ++ is.digits ∷ []) ++ l) (sym empty);
        hex = All-push IsHexWord h.digits is.digits h.hex is.hex;
        words = ap (λ l. l ++ w ∷ []) h.words ∙ ap (λ n. map (digits_value 16) h.digits ++ n ∷ []) is.value ∙ sym (map_push (digits_value 16) h.digits is.digits);
        stand = λ at v there. standing at v (get_pushed run.words w at v there);
        registers = h.registers;
        places = h.places;
      }
    where
      standing : (at v : ℕ) → (slice_get run.words at ≡ Some v) ⊎ ((at ≡ length run.words) × (v ≡ w)) → MayStandAt count at v
      standing at v (inl there) = h.stand at v there
      standing at v (inr e) = subst (λ n. MayStandAt count n v) (sym e.0) (subst (MayStandAt count (length run.words)) (sym e.1) stands)

  pub with_register : (lines : List Words) (line : Words) (run : RunText) (r : RegisterWord) → run.places ≡ [] → IsRunText count lines run
      → IsRegisterLine line r → All (λ q. q.register ≢ r.register) run.registers
      → IsRunText count (lines ++ line ∷ []) (made run.words (run.registers ++ r ∷ []) run.places)
  with_register lines line run r bare h is fresh =
      let a : List Words = map program_word_words h.digits in
      let b : List Words = map register_words run.registers in
      let empty : map place_words run.places ≡ [] = ap (map place_words) bare in
      let behind : lines ≡ a ++ b = h.is ∙ ap (λ l. a ++ (b ++ l)) empty ∙ ap (λ l. a ++ l) (append-nil b) in
      let bs : List Words = map register_words (run.registers ++ r ∷ []) in
      record {
        digits = h.digits;
        is = ap (λ l. l ++ line ∷ []) behind ∙ ap (λ l. (a ++ b) ++ l ∷ []) is.is ∙ append_assoc a b (register_words r ∷ [])
            ∙ ap (λ l. a ++ l) (sym (map_push register_words run.registers r) ∙ sym (append-nil bs) ∙ ap (λ l. bs ++ l) (sym empty));
        hex = h.hex;
        words = h.words;
        stand = h.stand;
        registers = record {
          each = All-push (λ (q : RegisterWord). (q.register < 31) × IsWord q.word) run.registers r h.registers.each (is.low, is.small);
          once = all_pairs_push (λ (q s : RegisterWord). q.register ≢ s.register) run.registers r h.registers.once fresh;
        };
        places = h.places;
      }

  pub with_place : (lines : List Words) (line : Words) (run : RunText) (p : PlaceWord) → IsRunText count lines run
      → IsPlaceLine line p → All (λ q. q.address / 8 ≢ p.address / 8) run.places
      → IsRunText count (lines ++ line ∷ []) (made run.words run.registers (run.places ++ p ∷ []))
  with_place lines line run p h is fresh =
      let a : List Words = map program_word_words h.digits in
      let b : List Words = map register_words run.registers in
      let c : List Words = map place_words run.places in
      record {
        digits = h.digits;
        is = ap (λ l. l ++ line ∷ []) h.is ∙ ap (λ l. (a ++ (b ++ c)) ++ l ∷ []) is.is ∙ sym (push_third a b c (place_words p))
            ∙ ap (λ l. a ++ (b ++ l)) (sym (map_push place_words run.places p));
        hex = h.hex;
        words = h.words;
        stand = h.stand;
        registers = h.registers;
        places = record {
          each = All-push (λ (q : PlaceWord). IsWord q.address × IsWord q.word) run.places p h.places.each (is.address, is.word);
          once = all_pairs_push (λ (q s : PlaceWord). q.address / 8 ≢ s.address / 8) run.places p h.places.once fresh;
        };
      }

  pub no_lines : IsRunText count [] (made [] [] [])
  no_lines =
      record {
        digits = [];
        is = refl;
        hex = All-nil IsHexWord;
        words = refl;
        stand = λ at w there. cc;
        registers = record { each = All-nil (λ (q : RegisterWord). (q.register < 31) × IsWord q.word); once = λ i j d less lt. absurd (omega arith) };
        places = record { each = All-nil (λ (q : PlaceWord). IsWord q.address × IsWord q.word); once = λ i j d less lt. absurd (omega arith) };
      }
