-- What is said of a goal behind an answer is read in one way.
use Rattle.std.proofs.Common.{◌≡◌, ℕ, ◌<◌, ◌^◌, List, Some, None, refl, sym, ap, ◌∙◌, arith, decimal, get_or, []}
use Rattle.answer_texts.proofs.PartsCounted.{WordsAreOneLine, counted_once}
use Rattle.answer_texts.proofs.PartsKinds.{number_same}
use Rattle.answer_texts.proofs.PartsOnce.{IsOneReading, leads_once, line_once, says_once}
use Rattle.answer_texts.proofs.PartsSame.{byte_same}
use Rattle.answer_texts.specs.AnswerParts.{AreCounted, IsCountedFault}
use Rattle.answer_texts.specs.LineParts.{IsNoLine, IsOneLine, Leads, NoFault, Says, in_first}
use Rattle.answer_texts.specs.declared.answers.Claim.{Claim}
use Rattle.answer_texts.specs.declared.answers.Claim.TheVariants as claims
use Rattle.text_core.specs.LineTexts.{Words}
use Rattle.text_core.specs.Lines.{Line}
use Rattle.least_launch.specs.TailLines.{least_words, large_words, spent_words}
use Rattle.least_launch.specs.TailParts.{GoalTailFault, GoalTailPart, IsTailLine, OneTailFault, OneTailPart, TailRest, TailRestFault}
use Rattle.least_launch.specs.declared.tails.Tail.TheVariants as tails
use Rattle.least_launch.specs.declared.tails.TailLine.{TailLine}
use Rattle.least_launch.specs.declared.tails.TailLine.TheVariants as lines_of

-- ---- one line

least_is_no_most : (words ls ms : Words) → words ≡ ls → words ≡ ms → get_or (get_or ls 0 []) 0 0 ≡ 108
    → get_or (get_or ms 0 []) 0 0 ≡ 109 → ⊥
least_is_no_most words ls ms a b p q =
    let h : ◌≡◌ {A = ℕ} 108 109 = sym p ∙ byte_same 0 0 ls ms (sym a ∙ b) ∙ q in
    absurd (omega (arith, h))

spent_is_no_size : (words ls ms : Words) → words ≡ ls → words ≡ ms → get_or (get_or ls 2 []) 1 0 ≡ 112
    → get_or (get_or ms 2 []) 1 0 ≡ 105 → ⊥
spent_is_no_size words ls ms a b p q =
    let h : ◌≡◌ {A = ℕ} 112 105 = sym p ∙ byte_same 2 1 ls ms (sym a ∙ b) ∙ q in
    absurd (omega (arith, h))

-- the number at a place of words that are equal, where both are below 2^31
low_number : (k m n : ℕ) (ws vs words : Words) → m < 2 ^ 31 → n < 2 ^ 31 → words ≡ ws → words ≡ vs
    → get_or ws k [] ≡ decimal m → get_or vs k [] ≡ decimal n → m ≡ n
low_number k m n ws vs words lt less a b p q =
    number_same k m n ws vs (omega (arith, lt)) (omega (arith, less)) (sym a ∙ b) p q

pub tail_line_once : (words : Words) (x y : TailLine) → IsTailLine words x → IsTailLine words y → x ≡ y
tail_line_once words (lines_of.Least m c) (lines_of.Least n d) a b =
    ap (λ i. lines_of.Least i c)
    (low_number 1 m n (least_words m c) (least_words n d) words a.0 b.0 a.3 b.3 refl refl)
    ∙ ap (lines_of.Least n) (low_number 2 c d (least_words m c) (least_words n d) words a.1 b.1 a.3 b.3 refl refl)
tail_line_once words (lines_of.Least m c) (lines_of.Spent n d) a b =
    absurd (least_is_no_most words (least_words m c) (spent_words n d) a.3 b.3 refl refl)
tail_line_once words (lines_of.Least m c) (lines_of.Size n v d) a b =
    absurd (least_is_no_most words (least_words m c) (large_words n v d) a.3 b.4 refl refl)
tail_line_once words (lines_of.Spent m c) (lines_of.Least n d) a b =
    absurd (least_is_no_most words (least_words n d) (spent_words m c) b.3 a.3 refl refl)
tail_line_once words (lines_of.Spent m c) (lines_of.Spent n d) a b =
    ap (λ i. lines_of.Spent i c)
    (low_number 1 m n (spent_words m c) (spent_words n d) words a.1 b.1 a.3 b.3 refl refl)
    ∙ ap (lines_of.Spent n) (low_number 3 c d (spent_words m c) (spent_words n d) words a.2 b.2 a.3 b.3 refl refl)
tail_line_once words (lines_of.Spent m c) (lines_of.Size n v d) a b =
    absurd (spent_is_no_size words (spent_words m c) (large_words n v d) a.3 b.4 refl refl)
tail_line_once words (lines_of.Size m v c) (lines_of.Least n d) a b =
    absurd (least_is_no_most words (least_words n d) (large_words m v c) b.3 a.4 refl refl)
tail_line_once words (lines_of.Size m v c) (lines_of.Spent n d) a b =
    absurd (spent_is_no_size words (spent_words n d) (large_words m v c) b.3 a.4 refl refl)
tail_line_once words (lines_of.Size m v c) (lines_of.Size n w d) a b =
    let same = sym a.4 ∙ b.4 in
    ap (λ i. lines_of.Size i v c)
    (low_number 1 m n (large_words m v c) (large_words n w d) words a.1 b.1 a.4 b.4 refl refl)
    ∙ ap (λ i. lines_of.Size n i c)
    (number_same 3 v w (large_words m v c) (large_words n w d) a.2 b.2 same refl refl)
    ∙ ap (lines_of.Size n w) (number_same 4 c d (large_words m v c) (large_words n w d) a.3 b.3 same refl refl)

-- ---- one goal

module _ (lines : List Line) (one : WordsAreOneLine) where
  rest_once : (first : TailLine) → IsOneReading (TailRest lines first) (TailRestFault lines first)
  rest_once (lines_of.Least launches count) =
      leads_once (AreCounted lines count) (IsCountedFault lines count) (λ read. Says (tails.Least launches read))
      (λ read. NoFault)
      (counted_once lines one count) (λ from middle read is. says_once (tails.Least launches read))
  rest_once (lines_of.Spent launches count) =
      leads_once (AreCounted lines count) (IsCountedFault lines count) (λ read. Says (tails.Spent launches read))
      (λ read. NoFault)
      (counted_once lines one count) (λ from middle read is. says_once (tails.Spent launches read))
  rest_once (lines_of.Size launches vars clauses) = says_once (tails.Size launches vars clauses)

  one_tail_once : IsOneReading (OneTailPart lines) (OneTailFault lines)
  one_tail_once =
      leads_once (IsOneLine IsTailLine lines) (IsNoLine IsTailLine lines) (TailRest lines) (TailRestFault lines)
      (line_once IsTailLine lines tail_line_once) (λ from middle first is. rest_once first)

  some_tail_once : IsOneReading (Leads (OneTailPart lines) (λ tail. Says (Some tail))) (OneTailFault lines)
  some_tail_once =
      let both = leads_once (OneTailPart lines) (OneTailFault lines) (λ tail. Says (Some tail)) (λ tail. NoFault)
      one_tail_once (λ from middle tail is. says_once (Some tail)) in
      record {
        once = both.once;
        apart = λ from next place x kind a f. both.apart from next place x kind a (in_first f);
        first = one_tail_once.first;
      }

  pub goal_tail_once : (claim : Claim) → IsOneReading (GoalTailPart lines claim) (GoalTailFault lines claim)
  goal_tail_once (claims.Scheduled k schedule words places) = some_tail_once
  goal_tail_once (claims.NoWorld class a b) = says_once None
  goal_tail_once (claims.Missing k) = says_once None
  goal_tail_once (claims.SpentConflicts k lemmas) = says_once None
  goal_tail_once (claims.SpentSize k vars clauses) = says_once None
