-- Goals one after another, with what is said of them, their verdicts and lines.
use Rattle.std.proofs.Common.{◌≡◌, ℕ, zero, suc, ◌+◌, ◌<◌, ◌≤◌, Bool, true, false, List, [], ◌∷◌, ◌++◌, length, take, get_or, refl, sym, ap, subst, ◌∙◌, append-nil, length-append, arith, Option}
use Rattle.std.specs.Prelude.{◌||◌, All, IfSome, IsTrue, is_some}
use Rattle.std.specs.List.{list_any}
use Rattle.std.proofs.lemmas.List.{get_or-append-add, get_or_append_left, take_all, take_more}
use Rattle.std.proofs.lemmas.List.Concat.{flat_map-cons}
use Rattle.std.proofs.lemmas.List.Folds.{list_any-append}
use Rattle.std.proofs.lemmas.Grind.{flat_map-append}
use Rattle.answer_texts.specs.declared.answers.Claim.{Claim}
use Rattle.answer_texts.specs.declared.answers.Claim.TheVariants as claims
use Rattle.answer_texts.specs.declared.answers.Claimed.{Claimed}
use Rattle.cycle_encoding.specs.declared.encodings.Encoding.{Encoding}
use Rattle.machine_table.specs.declared.tables.Table.{Table}
use Rattle.text_core.specs.LineTexts.{Words, line_text, lines_text}
use Rattle.text_core.specs.Lines.{Line}
use Rattle.least_launch.specs.LeastChecks.{AreTailJudged, IsTailJudged, IsTailReportOn, is_tail_rejection, tail_verdict_lines, tail_verdict_words}
use Rattle.least_launch.specs.TailParts.{AreTails, GoalTailPart, more, no_goals}
use Rattle.least_launch.specs.TailVerdicts.{HaveTheirTails, HasFewLines, HasItsTail, ClaimsSchedule}
use Rattle.least_launch.specs.declared.tails.Tail.{Tail}
use Rattle.least_launch.specs.declared.verdicts.TailVerdict.{TailVerdict}

module _ (e : Encoding) (table : Table) where
  one_more : (cs : List Claimed) (ts : List (Option Tail)) (vs : List TailVerdict) (c : Claimed) (t : Option Tail)
      (v : TailVerdict)
      → AreTailJudged e table cs ts vs → IsTailJudged e table c t v
      → AreTailJudged e table (cs ++ c ∷ []) (ts ++ t ∷ []) (vs ++ v ∷ [])
  one_more [] [] [] c t v z p = (p, tt)
  one_more [] [] (w ∷ vs) c t v z p = absurd z
  one_more [] (u ∷ ts) vs c t v z p = absurd z
  one_more (d ∷ cs) [] vs c t v z p = absurd z
  one_more (d ∷ cs) (u ∷ ts) [] c t v z p = absurd z
  one_more (d ∷ cs) (u ∷ ts) (w ∷ vs) c t v z p = (z.0, one_more cs ts vs c t v z.1 p)

  more_lines : (cs : List Claimed) (ts : List (Option Tail)) (vs : List TailVerdict) (c : Claimed) (v : TailVerdict)
      → AreTailJudged e table cs ts vs
      → tail_verdict_lines (cs ++ c ∷ []) (vs ++ v ∷ []) ≡ tail_verdict_lines cs vs ++ tail_verdict_words c v ∷ []
  more_lines [] [] [] c v z = refl
  more_lines [] [] (w ∷ vs) c v z = absurd z
  more_lines [] (u ∷ ts) vs c v z = absurd z
  more_lines (d ∷ cs) [] vs c v z = absurd z
  more_lines (d ∷ cs) (u ∷ ts) [] c v z = absurd z
  more_lines (d ∷ cs) (u ∷ ts) (w ∷ vs) c v z =
      ap (λ (t : List Words). tail_verdict_words d w ∷ t) (more_lines cs ts vs c v z.1)

  last_line : (lines : List Words) (words : Words)
      → lines_text (lines ++ words ∷ []) ≡ lines_text lines ++ line_text words
  last_line lines words =
      flat_map-append line_text lines (words ∷ [])
      ∙ ap (λ t. lines_text lines ++ t) (flat_map-cons line_text words [] ∙ append-nil (line_text words))

  or_false : (a b : Bool) → (a || (b || false)) ≡ (a || b)
  or_false true b = refl
  or_false false true = refl
  or_false false false = refl

  -- the report on goals, after one more
  reported : (goals : List Claimed) (said : List (Option Tail)) (bytes new : List ℕ) (before after : Bool) (c : Claimed)
      (t : Option Tail) (v : TailVerdict) → IsTailReportOn e table goals said bytes before → IsTailJudged e table c t v
      → new ≡ bytes ++ line_text (tail_verdict_words c v) → after ≡ (before || is_tail_rejection v)
      → IsTailReportOn e table (goals ++ c ∷ []) (said ++ t ∷ []) new after
  reported goals said bytes new before after c t v so_far judged printed told = record {
    verdicts = so_far.verdicts ++ v ∷ [];
    judged = one_more goals said so_far.verdicts c t v so_far.judged judged;
    is = printed ∙ ap (λ x. x ++ line_text (tail_verdict_words c v)) so_far.is
        ∙ sym (ap lines_text (more_lines goals said so_far.verdicts c v so_far.judged)
        ∙ last_line (tail_verdict_lines goals so_far.verdicts) (tail_verdict_words c v));
    rejects = told ∙ ap (λ b. b || is_tail_rejection v) so_far.rejects
        ∙ sym (list_any-append is_tail_rejection so_far.verdicts (v ∷ [])
        ∙ or_false (list_any is_tail_rejection so_far.verdicts) (is_tail_rejection v));
  }

  -- the next goal, as it is taken from all of them
  pub reported_next : (goals : List Claimed) (said : List (Option Tail)) (i : ℕ) (bytes new : List ℕ)
      (before after : Bool)
      (c : Claimed) (t : Option Tail) (v : TailVerdict) → i < length goals → i < length said → c ≡ get_or goals i c
      → t ≡ get_or said i t
      → IsTailReportOn e table (take i goals) (take i said) bytes before → IsTailJudged e table c t v
      → new ≡ bytes ++ line_text (tail_verdict_words c v) → after ≡ (before || is_tail_rejection v)
      → IsTailReportOn e table (take (i + 1) goals) (take (i + 1) said) new after
  reported_next goals said i bytes new before after c t v lt lt' is is' so_far judged printed told =
      subst (λ (gs : List Claimed). IsTailReportOn e table gs (take (i + 1) said) new after)
      (ap (λ (x : Claimed). take i goals ++ x ∷ []) is ∙ sym (take_more goals i c lt))
      (subst (λ (ts : List (Option Tail)). IsTailReportOn e table (take i goals ++ c ∷ []) ts new after)
      (ap (λ (x : Option Tail). take i said ++ x ∷ []) is' ∙ sym (take_more said i t lt'))
      (reported (take i goals) (take i said) bytes new before after c t v so_far judged printed told))

  -- all goals
  pub reported_all : (goals : List Claimed) (said : List (Option Tail)) (i : ℕ) (bytes : List ℕ) (rejected : Bool)
      → length goals ≤ i → length goals ≡ length said
      → IsTailReportOn e table (take i goals) (take i said) bytes rejected
      → IsTailReportOn e table goals said bytes rejected
  reported_all goals said i bytes rejected end same so_far =
      subst (λ (gs : List Claimed). IsTailReportOn e table gs said bytes rejected) (take_all i goals end)
      (subst (λ (ts : List (Option Tail)). IsTailReportOn e table (take i goals) ts bytes rejected)
      (take_all i said (omega (arith, end, same))) so_far)

pub rejected_before : (before after b : Bool) → before ≡ true → after ≡ before → after ≡ (before || b)
rejected_before before after b was is = is ∙ was ∙ sym (ap (λ x. x || b) was)

pub rejected_now : (before after b : Bool) → before ≡ false → after ≡ b → after ≡ (before || b)
rejected_now before after b was is = is ∙ sym (ap (λ x. x || b) was)

-- ---- what is said of goals

pub said_at : (goals : List Claimed) (said : List (Option Tail)) (i : ℕ) (c : Claimed) (t : Option Tail)
    → HaveTheirTails goals said
    → i < length goals → c ≡ get_or goals i c → t ≡ get_or said i t → HasItsTail c t
said_at [] said i c t h lt is is' = absurd (omega (arith, lt))
said_at (d ∷ goals) [] i c t h lt is is' = absurd h
said_at (d ∷ goals) (u ∷ said) zero c t h lt is is' =
    subst (λ (x : Claimed). HasItsTail x t) (sym is) (subst (λ (o : Option Tail). HasItsTail d o) (sym is') h.0)
said_at (d ∷ goals) (u ∷ said) (suc i) c t h lt is is' = said_at goals said i c t h.1 (omega (arith, lt)) is is'

pub as_many_said : (goals : List Claimed) (said : List (Option Tail)) → HaveTheirTails goals said
    → length goals ≡ length said
as_many_said [] [] h = refl
as_many_said [] (u ∷ said) h = absurd h
as_many_said (d ∷ goals) [] h = absurd h
as_many_said (d ∷ goals) (u ∷ said) h = (let rest = as_many_said goals said h.1 in omega (arith, rest))

said_more : (goals : List Claimed) (said : List (Option Tail)) (c : Claimed) (t : Option Tail)
    → HaveTheirTails goals said → HasItsTail c t
    → HaveTheirTails (goals ++ c ∷ []) (said ++ t ∷ [])
said_more [] [] c t h one = (one, tt)
said_more [] (u ∷ said) c t h one = absurd h
said_more (d ∷ goals) [] c t h one = absurd h
said_more (d ∷ goals) (u ∷ said) c t h one = (h.0, said_more goals said c t h.1 one)

scheduled_said : (lines : List Line) (claim : Claim) (from to : ℕ) (tail : Option Tail)
    → GoalTailPart lines claim from to tail
    → ClaimsSchedule claim → IsTrue (is_some tail)
scheduled_said lines (claims.Scheduled k schedule words places) from to tail part so =
    subst (λ (o : Option Tail). IsTrue (is_some o)) (sym part.second.is) refl
scheduled_said lines (claims.NoWorld class a b) from to tail part so = absurd so
scheduled_said lines (claims.Missing k) from to tail part so = absurd so
scheduled_said lines (claims.SpentConflicts k lemmas) from to tail part so = absurd so
scheduled_said lines (claims.SpentSize k vars clauses) from to tail part so = absurd so

module _ {X : Type 0} (P : X → Type 0) (xs : List X) (x : X) where
  before_last : All P (xs ++ x ∷ []) → All P xs
  before_last h k d lt =
      let long = length-append xs (x ∷ []) in
      subst P (get_or_append_left xs (x ∷ []) d k lt) (h k d (omega (arith, lt, long)))

  last_one : All P (xs ++ x ∷ []) → P x
  last_one h =
      let long = length-append xs (x ∷ []) in
      subst P (get_or-append-add xs (x ∷ []) 0 x) (h (length xs + 0) x (omega (arith, long)))

abbrev pub HasFew : Option Tail → Type 0
HasFew tail = IfSome tail HasFewLines

-- the lines behind an answer say something of each goal that is scheduled
pub are_said : (lines : List Line) (from : ℕ) (to : ℕ) (goals : List Claimed) (said : List (Option Tail))
    → AreTails lines from to goals said → All HasFew said → HaveTheirTails goals said
are_said lines from _ _ _ no_goals few = tt
are_said lines from to _ _ (more {middle = m} {goals = gs} {said = ts} g t before part) few =
    said_more gs ts g t
    (are_said lines from m gs ts before (before_last HasFew ts t few))
    (record {
      some = scheduled_said lines g.claim m to t part;
      few = last_one HasFew ts t few;
    })
