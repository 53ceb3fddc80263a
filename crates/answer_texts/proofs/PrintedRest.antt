-- What the rest of a text of lines is behind a part of it.
use Rattle.std.proofs.Common.{◌≡◌, ◌≢◌, ◌⊎◌, ℕ, suc, ◌+◌, ◌-◌, ◌<◌, ◌≤◌, List, [], ◌∷◌, ◌++◌, length, take, drop, get_or, inl, inr, sym, ap, ◌∙◌, arith, add-one, length-append, length-drop}
use Rattle.std.specs.Prelude.{⊤}
use Rattle.std.proofs.Math.ListN.{drop_of_length-le}
use Rattle.std.proofs.Math.Seq.{drop-cons, take-append_seam, drop-append_seam}
use Rattle.std.proofs.lemmas.Bool.{cases_lt}
use Rattle.std.proofs.lemmas.List.{take-map, drop-map, drop-drop, length-map}
use Rattle.text_core.specs.Lines.{Line, line_at, line_word}
use Rattle.text_core.specs.LineTexts.{Words, words_of_lines}
use Rattle.launch_graph.specs.LineFormats.{words_between, words_from}
use Rattle.answer_texts.proofs.PartsSame.{head_same, rest_same}

-- the lines from one number on have these words
pub record IsRest (lines : List Line) (from : ℕ) (words : List Words) : Type 0 where
  pub within : from ≤ length lines
  pub are : words_from lines from ≡ words

-- a line that begins with the word isn't the first
abbrev pub BeginsNot : List ℕ → List Words → Type 0
BeginsNot first [] = ⊤
BeginsNot first (words ∷ behind) = get_or words 0 [] ≢ first

module _ (lines : List Line) where
  -- the first line of the rest, and the rest behind it
  pub record IsAhead (from : ℕ) (words : Words) (behind : List Words) : Type 0 where
    pub low : from < length lines
    pub here : (line_at lines from).words ≡ words
    pub rest : IsRest lines (from + 1) behind

  ahead_by : (from : ℕ) (words : Words) (behind : List Words) → (from < length lines) ⊎ (length lines ≤ from)
      → words_from lines from ≡ words ∷ behind → IsAhead from words behind
  ahead_by from words behind (inl low) e =
      let d : Line = record { place = 0; words = [] } in
      let both : (line_at lines from).words ∷ words_from lines (suc from) ≡ words ∷ behind =
      sym (ap words_of_lines (drop-cons lines from d low)) ∙ e in
      record {
        low = low;
        here = head_same (line_at lines from).words words (words_from lines (suc from)) behind both;
        rest = record {
          within = omega (arith, low);
          are = ap (λ n. words_from lines n) (add-one from)
              ∙ rest_same (line_at lines from).words words (words_from lines (suc from)) behind both;
        };
      }
  ahead_by from words behind (inr high) e =
      absurd (let none : [] ≡ words ∷ behind = sym (ap words_of_lines (drop_of_length-le lines high)) ∙ e in cc)

  pub ahead : (from : ℕ) (words : Words) (behind : List Words) → IsRest lines from (words ∷ behind)
      → IsAhead from words behind
  ahead from words behind a = ahead_by from words behind (cases_lt from (length lines)) a.are

  pub rest_ends : (from : ℕ) → IsRest lines from [] → from ≡ length lines
  rest_ends from a =
      let size : length (words_from lines from) ≡ length lines - from =
      length-map (drop from lines) (λ (l : Line). l.words) ∙ length-drop from lines in
      let none : length (words_from lines from) ≡ 0 = ap length a.are in
      let within = a.within in
      omega (arith, size, none, within)

  pub not_begins : (first : List ℕ) (from : ℕ) (behind : List Words) → IsRest lines from behind → BeginsNot first behind
      → from < length lines → line_word lines from 0 ≢ first
  not_begins first from [] a never low = absurd (let end = rest_ends from a in omega (arith, end, low))
  not_begins first from (words ∷ behind) a never low =
      λ e. never (sym (ap (λ (ws : Words). get_or ws 0 []) (ahead from words behind a).here) ∙ e)

  -- some lines of the rest, and the rest behind them
  pub record AreAhead (from : ℕ) (words behind : List Words) : Type 0 where
    pub low : from + length words ≤ length lines
    pub here : words_between lines from (from + length words) ≡ words
    pub rest : IsRest lines (from + length words) behind

  pub all_ahead : (from : ℕ) (words behind : List Words) → IsRest lines from (words ++ behind) → AreAhead from words behind
  all_ahead from words behind a =
      let n : ℕ = length words in
      let size : length (words_from lines from) ≡ length lines - from =
      length-map (drop from lines) (λ (l : Line). l.words) ∙ length-drop from lines in
      let both : length (words_from lines from) ≡ n + length behind = ap length a.are ∙ length-append words behind in
      let within = a.within in
      let low : from + n ≤ length lines = omega (arith, size, both, within) in
      let count : from + n - from ≡ n = omega arith in
      record {
        low = low;
        here = ap (λ k. words_of_lines (take k (drop from lines))) count
            ∙ sym (take-map (λ (l : Line). l.words) n (drop from lines)) ∙ ap (take n) a.are
            ∙ take-append_seam words behind;
        rest = record {
          within = low;
          are = sym (ap words_of_lines (drop-drop n from lines)) ∙ sym (drop-map (λ (l : Line). l.words) n (drop from lines))
              ∙ ap (drop n) a.are ∙ drop-append_seam words behind;
        };
      }
