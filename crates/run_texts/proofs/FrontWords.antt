-- The lines at the front that begin with `word` are those of the program's words.
use Rattle.std.proofs.Common.{◌≡◌, ℕ, zero, suc, ◌+◌, ◌<◌, ◌≤◌, arith, List, [], ◌∷◌, ◌++◌, length, map, get_or, refl, sym, ap, ◌∙◌, codes, Bool, true, false, cond}
use Rattle.std.specs.Prelude.{bytes_eq}
use Rattle.std.proofs.lemmas.Slice.Eq.{bytes_eq-Decides}
use Rattle.std.specs.Str.Parse.{digits_value}
use Rattle.std.proofs.lemmas.List.{length-map}
use borrow.Author.Count.{below_more}
use Rattle.text_core.specs.Lines.{Line, line_at, line_word}
use Rattle.text_core.specs.LineTexts.{Words, words_of_lines}
use Rattle.run_texts.proofs.FirstFaults.{line_words, line_count}
use Rattle.run_texts.specs.declared.texts.RegisterWord.{RegisterWord}
use Rattle.run_texts.specs.declared.texts.PlaceWord.{PlaceWord}
use Rattle.run_texts.specs.declared.texts.RunText.{RunText}
use Rattle.run_texts.specs.RunTexts.{IsRunText, program_word_words, register_words, place_words}
use Rattle.run_texts.specs.RunFaults.{word_count, begins_with_word}

front_words : (ds : List (List ℕ)) (rs : List RegisterWord) (ps : List PlaceWord)
    → word_count (map program_word_words ds ++ (map register_words rs ++ map place_words ps)) ≡ length ds
front_words [] [] [] = refl
front_words [] [] (p ∷ ps) = refl
front_words [] (r ∷ rs) ps = refl
front_words (d ∷ ds) rs ps = (let more = front_words ds rs ps in let e : 1 + length ds ≡ suc (length ds) = omega arith in ap (λ n. 1 + n) more ∙ e)

pub count_is : (count : ℕ) (lines : List Words) (run : RunText) → IsRunText count lines run → word_count lines ≡ length run.words
count_is count lines run h =
    ap word_count h.is ∙ front_words h.digits run.registers run.places
    ∙ sym (ap length h.words ∙ length-map h.digits (digits_value 16))

pub begins : (line : Words) → get_or line 0 [] ≡ codes "word" → begins_with_word line ≡ true
begins [] e = cc
begins (w ∷ ws) e = ap (λ v. bytes_eq v (codes "word")) e

pub begins_not : (line : Words) → (get_or line 0 [] ≡ codes "word" → ⊥) → begins_with_word line ≡ false
begins_not [] never = refl
begins_not (w ∷ ws) never = by_test (bytes_eq w (codes "word")) refl
  where
    by_test : (b : Bool) → bytes_eq w (codes "word") ≡ b → bytes_eq w (codes "word") ≡ false
    by_test false e = e
    by_test true e = absurd (never ((bytes_eq-Decides w (codes "word")).0 e))

-- the first line that doesn't begin with `word`, or the end of the lines
pub count_stops : (lines : List Words) (n : ℕ) → n ≤ length lines → ((k : ℕ) → k < n → begins_with_word (get_or lines k []) ≡ true)
    → (n < length lines → begins_with_word (get_or lines n []) ≡ false) → n ≡ word_count lines
count_stops [] n within before here = omega arith
count_stops (l ∷ lines) zero within before here = sym (ap (λ b. cond b (1 + word_count lines) 0) (here (omega arith)))
count_stops (l ∷ lines) (suc n) within before here =
    let more : n ≡ word_count lines = count_stops lines n (omega arith) (λ k lt. before (suc k) (omega arith)) (λ lt. here (omega arith)) in
    let next : suc n ≡ 1 + word_count lines = omega arith in
    next ∙ sym (ap (λ b. cond b (1 + word_count lines) 0) (before 0 (omega arith)))

module _ (lines : List Line) where
  abbrev pub BeginSo : ℕ → Type 0
  BeginSo n = (k : ℕ) → k < n → begins_with_word (get_or (words_of_lines lines) k []) ≡ true

  pub goes_on : (n : ℕ) → BeginSo n → line_word lines n 0 ≡ codes "word" → BeginSo (n + 1)
  goes_on n before here = below_more (λ k. begins_with_word (get_or (words_of_lines lines) k []) ≡ true) n before (ap begins_with_word (line_words lines n) ∙ begins (line_at lines n).words here)

  pub stops_at : (n : ℕ) → n < length lines → BeginSo n → (line_word lines n 0 ≡ codes "word" → ⊥) → n ≡ word_count (words_of_lines lines)
  stops_at n lt before never =
      count_stops (words_of_lines lines) n (let size = line_count lines in omega arith) before
      (λ low. ap begins_with_word (line_words lines n) ∙ begins_not (line_at lines n).words never)

  pub stops_end : (n : ℕ) → length lines ≤ n → n ≤ length lines → BeginSo n → n ≡ word_count (words_of_lines lines)
  stops_end n all within before =
      count_stops (words_of_lines lines) n (let size = line_count lines in omega arith) before
      (λ low. (let size = line_count lines in absurd (omega arith)))
