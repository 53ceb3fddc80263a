-- One more line is clean.
use Rattle.std.proofs.Common.{◌≡◌, ℕ, suc, ◌+◌, ◌-◌, ◌<◌, ◌≤◌, List, [], ◌∷◌, ◌++◌, length, take, drop, get_or, sym, ap, subst, ◌∙◌, arith, inl, inr}
use Rattle.std.proofs.lemmas.Bool.{cases_lt}
use Rattle.std.proofs.lemmas.List.{length_push, get_or-drop, take-append-le, get_or_append_left, get_or_push, take_all, take_more, length-drop}
use Rattle.text_core.specs.Lines.{Line, line_at}
use Rattle.launch_graph.specs.declared.row_lines.RowLine.{RowLine}
use Rattle.launch_graph.specs.LineFormats.{words_between}
use Rattle.launch_graph.specs.GraphLines.{rows_words}
use Rattle.launch_graph.specs.GraphStages.{start, rows, Step, header, row, ReachesStage, stay, go}
use Rattle.launch_graph.specs.RowLines.{IsRowLine}
use Rattle.launch_graph.specs.LineFaults.{AreRowLines}
use Rattle.launch_graph.specs.CleanLines.{EachRow, no_rows, IsGoodRow, IsClean}
use Rattle.launch_graph.proofs.Stages.{join}
use Rattle.launch_graph.proofs.Between.{between_more, between_one}
use Rattle.launch_graph.proofs.Blocks.{each_push}

module _ {version : ℕ} (lines : List Line) (from count : ℕ) (all : List RowLine) where
  pub clean_start : from < length lines → (line_at lines from).words ≡ rows_words count → count ≤ 1000000
      → AreRowLines (take count (drop (from + 1) lines)) all → IsClean version lines from count all [] (from + 1) (rows count)
  clean_start low is few are =
      record {
        low = low;
        header_is = is;
        few = few;
        each = no_rows;
        all_are = are;
        good = λ i d lt. absurd (omega arith);
        reaches = subst (λ ws. ReachesStage version start ws (rows count)) (sym (between_one lines from low)) (go (header count few is) stay);
        order = omega arith;
        within = omega arith;
        most = omega arith;
        whole = inl (omega arith);
        classes = λ j low less. absurd (omega arith);
      }

  module _ (before : List RowLine) (at : ℕ) (c : IsClean version lines from count all before at (rows (count - length before)))
      (one : RowLine) (lt : at < length lines) (here : at ≡ from + 1 + length before) (more : length before < count)
      (is : IsRowLine (line_at lines at).words one) (good : IsGoodRow count all before one) where
    pushed : length (before ++ one ∷ []) ≡ length before + 1
    pushed = length_push before one

    pub row_step : Step version (rows (count - length before)) (line_at lines at).words (rows (count - length (before ++ one ∷ [])))
    row_step =
        let n : length (before ++ one ∷ []) ≡ length before + 1 = pushed in
        let k : count - length before ≡ suc (count - length (before ++ one ∷ [])) = omega arith in
        subst (λ m. Step version (rows m) (line_at lines at).words (rows (count - length (before ++ one ∷ [])))) (sym k) (row one is)

    each_more : EachRow (take (length (before ++ one ∷ [])) (drop (from + 1) lines)) (before ++ one ∷ [])
    each_more =
        let d : Line = record { place = 0; words = [] } in
        let left : length (drop (from + 1) lines) ≡ length lines - (from + 1) = length-drop (from + 1) lines in
        let found : get_or (drop (from + 1) lines) (length before) d ≡ line_at lines at =
        get_or-drop (from + 1) lines (length before) d ∙ ap (λ n. line_at lines n) (sym here) in
        subst (λ ls. EachRow ls (before ++ one ∷ []))
        (sym (ap (λ n. take n (drop (from + 1) lines)) pushed
        ∙ take_more (drop (from + 1) lines) (length before) d (omega arith)
        ∙ ap (λ l. take (length before) (drop (from + 1) lines) ++ l ∷ []) found))
        (each_push (take (length before) (drop (from + 1) lines)) before (line_at lines at) one c.each is)

    good_more : (i : ℕ) (d : RowLine) → i < length (before ++ one ∷ [])
        → IsGoodRow count all (take i (before ++ one ∷ [])) (get_or (before ++ one ∷ []) i d)
    good_more i d low =
        let n : length (before ++ one ∷ []) ≡ length before + 1 = pushed in
        elim (cases_lt i (length before)) [
          | inl less ↦
              subst (λ r. IsGoodRow count all (take i (before ++ one ∷ [])) r) (sym (get_or_append_left before (one ∷ []) d i less))
              (subst (λ rs. IsGoodRow count all rs (get_or before i d)) (sym (take-append-le i before (one ∷ []) (omega arith))) (c.good i d less))
          | inr le ↦
              (let same : length before ≡ i = omega arith in
              subst (λ r. IsGoodRow count all (take i (before ++ one ∷ [])) r) (sym (get_or_push before one d i same))
              (subst (λ rs. IsGoodRow count all rs one)
              (sym (take-append-le i before (one ∷ []) (omega arith) ∙ take_all i before le)) good))
        ]

    pub clean_row : IsClean version lines from count all (before ++ one ∷ []) (at + 1) (rows (count - length (before ++ one ∷ [])))
    clean_row =
        let n : length (before ++ one ∷ []) ≡ length before + 1 = pushed in
        record {
          low = c.low;
          header_is = c.header_is;
          few = c.few;
          each = each_more;
          all_are = c.all_are;
          good = good_more;
          reaches =
              subst (λ ws. ReachesStage version start ws (rows (count - length (before ++ one ∷ [])))) (sym (between_more lines from at (omega arith) lt))
              (join (words_between lines from at) ((line_at lines at).words ∷ []) start (rows (count - length before)) (rows (count - length (before ++ one ∷ []))) c.reaches (go row_step stay));
          order = omega arith;
          within = omega arith;
          most = omega arith;
          whole = inl (omega arith);
          classes = λ j low less. absurd (omega arith);
        }
