-- Lines of one kind, read one after another: one more of them, their end, and a bad one.
use Rattle.std.proofs.Common.{◌≡◌, ℕ, ◌+◌, ◌<◌, ◌≤◌, List, Option, [], ◌∷◌, ◌++◌, length, map, refl, sym, ap, subst, ◌∙◌, arith}
use Rattle.std.specs.Prelude.{All, MatchOption}
use Rattle.std.proofs.lemmas.List.{get_or_push, length_push, map_push}
use Rattle.std.proofs.lemmas.List.Elements.{All-head, All-nil, All-push}
use Rattle.text_core.specs.Faults.{IsFaultBy}
use Rattle.text_core.specs.Lines.{Line, line_at, line_word}
use Rattle.text_core.specs.LineTexts.{Words}
use Rattle.text_core.specs.declared.faults.TextFault.{TextFault}
use Rattle.text_core.specs.declared.faults.TextFault.TheVariants as faults
use Rattle.launch_graph.proofs.Between.{between_more, between_none}
use Rattle.answer_texts.specs.LineParts.{IsBadOrMissingLine, AreLinesTo, AreLinesOf, HasBadLine}

module _ {X : Type 0} (words_of : X → Words) (Fit : List X → Type 0) (lines : List Line) (from : ℕ) where
  pub no_lines : from ≤ length lines → Fit [] → AreLinesTo words_of Fit lines from from []
  no_lines within fit = record { order = omega arith; within = within; words = between_none lines from; fit = fit }

  pub more_lines : (at : ℕ) (xs : List X) (x : X) → AreLinesTo words_of Fit lines from at xs → at < length lines
      → (line_at lines at).words ≡ words_of x → Fit (xs ++ x ∷ []) → AreLinesTo words_of Fit lines from (at + 1) (xs ++ x ∷ [])
  more_lines at xs x h lt is fit =
      let o : from ≤ at = h.order in
      record {
        order = omega arith;
        within = omega arith;
        words =
            between_more lines from at h.order lt
            ∙ ap (λ (ws : List Words). ws ++ (line_at lines at).words ∷ []) h.words
            ∙ ap (λ (w : Words). map words_of xs ++ w ∷ []) is ∙ sym (map_push words_of xs x);
        fit = fit;
      }

  module _ (first : List ℕ) (at : ℕ) (xs : List X) (h : AreLinesTo words_of Fit lines from at xs) where
    -- behind the last line of the text, no line stands
    pub lines_end : length lines ≤ at → AreLinesOf first words_of Fit lines from at xs
    lines_end end = record { so_far = h; ends = λ lt. absurd (omega arith) }

    -- the next line begins with another word
    pub lines_stop : (line_word lines at 0 ≡ first → ⊥) → AreLinesOf first words_of Fit lines from at xs
    lines_stop never = record { so_far = h; ends = λ lt. never }

    -- the next line begins with the word, and is that of no value that fits
    pub bad_next : (fault : TextFault) → at < length lines → line_word lines at 0 ≡ first
        → ((x : X) → (line_at lines at).words ≡ words_of x → Fit (xs ++ x ∷ []) → ⊥)
        → IsFaultBy (IsBadOrMissingLine lines at) fault → IsFaultBy (HasBadLine first words_of Fit lines from) fault
    bad_next (faults.Fault fault) lt begins none bad =
        record { at = at; before = xs; so_far = h; within = lt; begins = begins; none = none; fault = bad }
    bad_next faults.Memory lt begins none bad = tt

-- the value of a line by itself, if it has one
abbrev pub ReadsLine : {X : Type 0} (words_of : X → Words) (Fit : List X → Type 0) (words : Words) → Option X → Type 0
ReadsLine {X} words_of Fit words found =
    MatchOption found ((x : X) → words ≡ words_of x → Fit (x ∷ []) → ⊥) (λ x. (words ≡ words_of x) × Fit (x ∷ []))

-- where each value fits by itself
module _ {X : Type 0} (P : X → Type 0) (xs : List X) (x : X) where
  pub fits_alone : All P (xs ++ x ∷ []) → All P (x ∷ [])
  fits_alone h =
      let n = length_push xs x in
      All-push P [] x (All-nil P) (subst P (get_or_push xs x x (length xs) refl) (h (length xs) x (omega arith)))

  pub fits_behind : All P xs → All P (x ∷ []) → All P (xs ++ x ∷ [])
  fits_behind h one = All-push P xs x h (All-head P x [] one)
