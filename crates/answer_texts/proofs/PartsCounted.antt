-- A number of lines of a refutation is read in one way.
use Rattle.std.proofs.Common.{◌≡◌, ◌⊎◌, ℕ, ◌+◌, ◌<◌, List, [], length, get_or, inl, inr, sym, ap, subst, ◌∙◌, arith}
use Rattle.std.proofs.lemmas.List.{same_lists, get_or_past}
use Rattle.cnf_core.specs.declared.line.Line.{Line as Row}
use Rattle.cnf_core.specs.declared.line.Lines.{Lines}
use Rattle.refutation_check.specs.LineWords.{AreLinesAt, IsFirstBadLine, IsLineOf}
use Rattle.text_core.specs.Lines.{Line, line_at}
use Rattle.text_core.specs.LineTexts.{Words}
use Rattle.answer_texts.specs.AnswerParts.{AreCounted, IsCountedFault}
use Rattle.answer_texts.specs.LineParts.{IsBadOrMissingLine}
use Rattle.answer_texts.proofs.PartsOnce.{IsOneReading, one_bad_line}

-- words are one line at most
abbrev pub WordsAreOneLine : Type 0
WordsAreOneLine = (words : Words) (line other : Row) → IsLineOf words line → IsLineOf words other → line ≡ other

lines_of : List Row → Lines
lines_of rows = record { lines = rows }

pub same_lines_of : (a b : Lines) → a.lines ≡ b.lines → a ≡ b
unfolding lines_of
same_lines_of a b e = ap lines_of e

-- no line of a refutation stands behind the last line of the text
none_past : (lines : List Line) (at : ℕ) (row : Row) → at ≡ length lines → IsLineOf (line_at lines at).words row → ⊥
none_past lines at row end is =
    let d : Line = record { place = 0; words = [] } in
    let gone : get_or lines at d ≡ d = get_or_past lines at d (omega (arith, end)) in
    let none = subst (λ (l : Line). IsLineOf l.words row) gone is in
    let size = ap length none.words in
    absurd (omega (arith, size))

module _ (lines : List Line) (one : WordsAreOneLine) where
  never_bad : (at : ℕ) (row : Row) → IsLineOf (line_at lines at).words row
      → (at ≡ length lines) ⊎ ((at < length lines) × ((line : Row) → IsLineOf (line_at lines at).words line → ⊥)) → ⊥
  never_bad at row is (inl end) = none_past lines at row end is
  never_bad at row is (inr bad) = bad.1 row is

  none_of : Row
  none_of = record { id = 0; lits = []; hints = [] }

  bad_apart : (count from at : ℕ) (rows : List Row) → AreLinesAt lines from count rows
      → IsFirstBadLine lines from count at → ⊥
  bad_apart count from at rows are bad =
      never_bad (from + at) (get_or rows at none_of) (are.each at none_of bad.among).1 bad.bad

  not_sooner : (count from at other : ℕ) → IsFirstBadLine lines from count at → IsFirstBadLine lines from count other
      → at < other → ⊥
  not_sooner count from at other a b lt = (let row = b.before at lt in never_bad (from + at) row.0 row.1 a.bad)

  one_bad : (count from at other : ℕ) → IsFirstBadLine lines from count at → IsFirstBadLine lines from count other
      → at ≡ other
  one_bad count from at other a b =
      let before : ¬ (at < other) = not_sooner count from at other a b in
      let behind : ¬ (other < at) = not_sooner count from other at b a in
      omega (arith, before, behind)

  same_rows : (count from : ℕ) (xs ys : List Row) → AreLinesAt lines from count xs → AreLinesAt lines from count ys
      → xs ≡ ys
  same_rows count from xs ys a b =
      let left = a.size in
      let right = b.size in
      same_lists xs ys (left ∙ sym right)
      (λ k d lt. one (line_at lines (from + k)).words (get_or xs k d) (get_or ys k d)
      (a.each k d (omega (arith, left, lt))).1 (b.each k d (omega (arith, left, lt))).1)

  pub counted_once : (count : ℕ) → IsOneReading (AreCounted lines count) (IsCountedFault lines count)
  counted_once count = record {
    once = λ from next other x y a b.
        (a.behind ∙ sym b.behind, same_lines_of x y (same_rows count from x.lines y.lines a.are b.are));
    apart = λ from next place x kind a f. bad_apart count from f.at x.lines a.are f.first;
    first = λ from place other kind another f g.
        one_bad_line lines (from + f.at) place other kind another f.fault
        (subst (λ n. IsBadOrMissingLine lines (from + n) other another) (sym (one_bad count from f.at g.at f.first g.first))
        g.fault);
  }
