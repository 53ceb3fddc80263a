-- A printed answer with lines behind it is read back.
use Rattle.std.proofs.Common.{◌≡◌, ℕ, zero, suc, ◌+◌, List, [], ◌∷◌, ◌++◌, length, take, get_or, refl, sym, ap, subst, ◌∙◌, arith, length-append, Option}
use Rattle.std.specs.Prelude.{All}
use Rattle.std.specs.List.{AllZip, flat_map}
use Rattle.std.proofs.Math.Seq.{get_or-append_seam, take-append_seam}
use Rattle.std.proofs.lemmas.Grind.{flat_map-append}
use Rattle.std.proofs.lemmas.List.{get_or_append_left, length-map}
use Rattle.std.proofs.lemmas.List.Concat.{flat_map-cons}
use Rattle.std.proofs.lemmas.List.Elements.{All-append}
use Rattle.answer_texts.specs.AnswerLines.{answer_bytes, answer_lines}
use Rattle.answer_texts.specs.ReadAnswers.{ReadsAnswer}
use Rattle.answer_texts.specs.declared.answers.AnswerText.{AnswerText}
use Rattle.answer_texts.proofs.PartsBetween.{between_all}
use Rattle.answer_texts.proofs.PartsPrintedGoals.{has_answer}
use Rattle.answer_texts.proofs.PrintedClaims.{LinesAreAmong}
use Rattle.answer_texts.proofs.PrintedRest.{IsRest, ahead, all_ahead}
use Rattle.denali_run.proofs.LineWords.{NumbersAreWords, each_line}
use Rattle.denali_run.proofs.LinesApart.{PrintedAreLines, words_placed}
use Rattle.text_core.specs.LineTexts.{CanBeLine, Words, line_text, lines_text, placed_lines}
use Rattle.text_core.specs.Lines.{HasLines, Line, line_at}
use Rattle.least_launch.specs.TailLines.{goal_tail_lines, tail_lines, tail_words}
use Rattle.least_launch.specs.TailParts.{no_goals}
use Rattle.least_launch.specs.TailedAnswers.{IsTailAt, ReadsTailed}
use Rattle.least_launch.specs.declared.tails.Tail.{Tail}
use Rattle.least_launch.proofs.SaidPrinted.{LinesCanBe, RowsAreLines, tails_can}
use Rattle.least_launch.proofs.TailLinesRead.{IsPrintableOf, tails_stand}
use Rattle.least_launch.proofs.Untailed.{Untailed, answer_untailed}

-- ---- printed lines

word_at : (place : ℕ) (ws : List Words) (k : ℕ) → (line_at (placed_lines place ws) k).words ≡ get_or ws k []
word_at place [] k = refl
word_at place (w ∷ ws) zero = refl
word_at place (w ∷ ws) (suc k) = word_at (place + length (line_text w)) ws k

-- a line stands behind the text of those before it
place_at : (place : ℕ) (ws : List Words) (w : Words) (vs : List Words)
    → (line_at (placed_lines place (ws ++ w ∷ vs)) (length ws)).place ≡ place + length (lines_text ws)
place_at place [] w vs = (let none : length (lines_text []) ≡ 0 = refl in omega (arith, none))
place_at place (v ∷ ws) w vs =
    let later = place_at (place + length (line_text v)) ws w vs in
    let size = ap length (flat_map-cons line_text v ws) in
    let both = length-append (line_text v) (lines_text ws) in
    omega (arith, later, size, both)

module _ (front : List Words) (rest : List Words) where
  abbrev lines : List Line
  lines = placed_lines 0 (front ++ tail_words ∷ rest)

  all_lines : length lines ≡ length front + (1 + length rest)
  all_lines =
      let size = length-map lines (λ (l : Line). l.words) in
      let same = ap (λ (ws : List Words). length ws) (words_placed 0 (front ++ tail_words ∷ rest)) in
      let both = length-append front (tail_words ∷ rest) in
      omega (arith, size, same, both)

  -- the first line that is `tail` stands behind lines none of which is
  tail_there : All Untailed front → IsTailAt lines (length front)
  tail_there none = record {
    within = (let size = all_lines in omega (arith, size));
    is = word_at 0 (front ++ tail_words ∷ rest) (length front) ∙ get_or-append_seam front tail_words rest [];
    first = λ other lt is.
        none other [] lt
        (sym (get_or_append_left front (tail_words ∷ rest) [] other lt)
        ∙ sym (word_at 0 (front ++ tail_words ∷ rest) other) ∙ is);
  }

  -- the bytes in front of it are those of the lines before it
  front_bytes : (behind : List ℕ)
      → take (line_at lines (length front)).place (lines_text front ++ behind)
      ≡ lines_text front
  front_bytes behind =
      let there : (line_at lines (length front)).place ≡ length (lines_text front) =
      (let e = place_at 0 front tail_words rest in omega (arith, e)) in
      ap (λ n. take n (lines_text front ++ behind)) there ∙ take-append_seam (lines_text front) behind

  -- and behind it stand all others
  behind_tail : IsRest lines (length front + 1) rest
  behind_tail =
      let all : IsRest lines 0 (front ++ tail_words ∷ rest) =
      record { within = omega arith; are = words_placed 0 (front ++ tail_words ∷ rest) } in
      let at : IsRest lines (length front) (tail_words ∷ rest) =
      subst (λ n. IsRest lines n (tail_words ∷ rest))
      (let e : 0 + length front ≡ length front = omega arith in e)
      (all_ahead lines 0 front (tail_words ∷ rest) all).rest in
      (ahead lines (length front) tail_words rest at).rest

-- the lines of a text that says an answer are those that the answer prints
front_can : LinesCanBe → (a : AnswerText) → ReadsAnswer (answer_bytes a) a → All CanBeLine (answer_lines a)
front_can each_can a reads =
    let words = has_answer reads.lines (length reads.lines) a reads.says in
    subst (All CanBeLine) (sym (between_all reads.lines) ∙ words.words_are)
    (each_can 0 reads.lines (answer_bytes a) reads.split)

pub reads_tailed : PrintedAreLines → LinesAreAmong → NumbersAreWords → RowsAreLines → LinesCanBe → (a : AnswerText)
    → ReadsAnswer (answer_bytes a) a → (said : List (Option Tail)) → AllZip IsPrintableOf a.goals said
    → ReadsTailed (answer_bytes a ++ lines_text (tail_lines said)) a said
reads_tailed printed among number rows each_can a reads said fine =
    let front : List Words = answer_lines a in
    let rest : List Words = flat_map goal_tail_lines said in
    let can = All-append CanBeLine front (tail_words ∷ rest) (front_can each_can a reads)
    (each_line (tails_can number rows each_can a.goals said fine)) in
    record {
      lines = placed_lines 0 (front ++ tail_words ∷ rest);
      split = subst (λ (t : List ℕ). HasLines t (placed_lines 0 (front ++ tail_words ∷ rest)))
          (flat_map-append line_text front (tail_words ∷ rest)) (printed 0 (front ++ tail_words ∷ rest) can);
      at = length front;
      begins = tail_there front rest (answer_untailed a);
      front = subst (λ (t : List ℕ). ReadsAnswer t a) (sym (front_bytes front rest (lines_text (tail_words ∷ rest))))
          reads;
      says = tails_stand (placed_lines 0 (front ++ tail_words ∷ rest)) among (length front + 1) (length front + 1) [] []
          a.goals
          said no_goals fine (behind_tail front rest);
    }
