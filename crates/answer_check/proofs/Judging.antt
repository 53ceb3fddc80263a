-- Goals one after another, with their verdicts and lines.
use Rattle.std.proofs.Common.{◌≡◌, ℕ, ◌+◌, ◌<◌, Bool, true, false, List, [], ◌∷◌, ◌++◌, length, take, get_or, refl, sym, ap, subst, ◌∙◌, append-nil}
use Rattle.std.specs.Prelude.{◌||◌}
use Rattle.std.specs.List.{AllZip, list_any}
use Rattle.std.proofs.lemmas.List.{take_more}
use Rattle.std.proofs.lemmas.List.Concat.{flat_map-cons}
use Rattle.std.proofs.lemmas.List.Folds.{list_any-append}
use Rattle.std.proofs.lemmas.Grind.{flat_map-append}
use Rattle.answer_texts.specs.declared.answers.Claimed.{Claimed}
use Rattle.cycle_encoding.specs.declared.encodings.Encoding.{Encoding}
use Rattle.machine_table.specs.declared.tables.Table.{Table}
use Rattle.text_core.specs.LineTexts.{Words, line_text, lines_text}
use Rattle.answer_check.specs.Reports.{IsJudged, IsCheckReportOn, is_rejection, verdict_lines, verdict_words}
use Rattle.answer_check.specs.declared.verdicts.Verdict.{Verdict}

one_more : (P : Claimed → Verdict → Type 0) (cs : List Claimed) (vs : List Verdict) (c : Claimed) (v : Verdict)
    → AllZip P cs vs → P c v → AllZip P (cs ++ c ∷ []) (vs ++ v ∷ [])
one_more P [] [] c v z p = (p, tt)
one_more P [] (w ∷ vs) c v z p = absurd z
one_more P (d ∷ cs) [] c v z p = absurd z
one_more P (d ∷ cs) (w ∷ vs) c v z p = (z.0, one_more P cs vs c v z.1 p)

more_lines : (P : Claimed → Verdict → Type 0) (cs : List Claimed) (vs : List Verdict) (c : Claimed) (v : Verdict)
    → AllZip P cs vs → verdict_lines (cs ++ c ∷ []) (vs ++ v ∷ []) ≡ verdict_lines cs vs ++ verdict_words c v ∷ []
more_lines P [] [] c v z = refl
more_lines P [] (w ∷ vs) c v z = absurd z
more_lines P (d ∷ cs) [] c v z = absurd z
more_lines P (d ∷ cs) (w ∷ vs) c v z = ap (λ (t : List Words). verdict_words d w ∷ t) (more_lines P cs vs c v z.1)

last_line : (lines : List Words) (words : Words)
    → lines_text (lines ++ words ∷ []) ≡ lines_text lines ++ line_text words
last_line lines words =
    flat_map-append line_text lines (words ∷ [])
    ∙ ap (λ t. lines_text lines ++ t) (flat_map-cons line_text words [] ∙ append-nil (line_text words))

or_false : (a b : Bool) → (a || (b || false)) ≡ (a || b)
or_false true b = refl
or_false false true = refl
or_false false false = refl

-- the report on goals, after one more
pub reported : (e : Encoding) (table : Table) (goals : List Claimed) (bytes new : List ℕ) (before after : Bool) (c : Claimed)
    (v : Verdict) → IsCheckReportOn e table goals bytes before → IsJudged e table c v → new ≡ bytes ++ line_text (verdict_words c v)
    → after ≡ (before || is_rejection v) → IsCheckReportOn e table (goals ++ c ∷ []) new after
reported e table goals bytes new before after c v so_far judged printed told = record {
  verdicts = so_far.verdicts ++ v ∷ [];
  judged = one_more (IsJudged e table) goals so_far.verdicts c v so_far.judged judged;
  is = printed ∙ ap (λ t. t ++ line_text (verdict_words c v)) so_far.is
      ∙ sym (ap lines_text (more_lines (IsJudged e table) goals so_far.verdicts c v so_far.judged)
      ∙ last_line (verdict_lines goals so_far.verdicts) (verdict_words c v));
  rejects = told ∙ ap (λ b. b || is_rejection v) so_far.rejects
      ∙ sym (list_any-append is_rejection so_far.verdicts (v ∷ [])
      ∙ or_false (list_any is_rejection so_far.verdicts) (is_rejection v));
}

-- whether some goal is rejected, after one more
pub rejected_before : (before after b : Bool) → before ≡ true → after ≡ before → after ≡ (before || b)
rejected_before before after b was is = is ∙ was ∙ sym (ap (λ x. x || b) was)

pub rejected_now : (before after b : Bool) → before ≡ false → after ≡ b → after ≡ (before || b)
rejected_now before after b was is = is ∙ sym (ap (λ x. x || b) was)

-- the next goal, as it is taken from all of them
pub reported_next : (e : Encoding) (table : Table) (goals shown : List Claimed) (i : ℕ) (bytes new : List ℕ) (before after : Bool)
    (c : Claimed) (v : Verdict) → shown ≡ goals → i < length shown → c ≡ get_or shown i c
    → IsCheckReportOn e table (take i goals) bytes before → IsJudged e table c v → new ≡ bytes ++ line_text (verdict_words c v)
    → after ≡ (before || is_rejection v) → IsCheckReportOn e table (take (i + 1) goals) new after
reported_next e table goals shown i bytes new before after c v same lt is so_far judged printed told =
    subst (λ (gs : List Claimed). IsCheckReportOn e table gs new after)
    (ap (λ (x : Claimed). take i goals ++ x ∷ []) (subst (λ (gs : List Claimed). c ≡ get_or gs i c) same is)
    ∙ sym (take_more goals i c (subst (λ (gs : List Claimed). i < length gs) same lt)))
    (reported e table (take i goals) bytes new before after c v so_far judged printed told)
