-- Lines that begin with what is said of goals say it.
use Rattle.std.proofs.Common.{◌≡◌, ℕ, ◌+◌, ◌<◌, ◌≤◌, ◌^◌, List, [], ◌∷◌, ◌++◌, length, map, take, drop, refl, sym, ap, subst, ◌∙◌, append_assoc, append-nil, Option, Some, None}
use Rattle.std.specs.Prelude.{All}
use Rattle.std.specs.List.{AllZip, flat_map}
use Rattle.std.proofs.lemmas.List.{length-map, length-take-le, map-append, take-append-drop}
use Rattle.std.proofs.lemmas.List.Concat.{flat_map-cons}
use Rattle.answer_texts.specs.AnswerParts.{AreCounted}
use Rattle.answer_texts.specs.Printable.{AreReadable}
use Rattle.answer_texts.specs.declared.answers.Claim.{Claim}
use Rattle.answer_texts.specs.declared.answers.Claim.TheVariants as claims
use Rattle.answer_texts.specs.declared.answers.Claimed.{Claimed}
use Rattle.answer_texts.proofs.PrintedClaims.{LinesAreAmong}
use Rattle.answer_texts.proofs.PrintedParts.{StandsBefore, leads_stands, line_stands, says_stands}
use Rattle.answer_texts.proofs.PrintedRest.{IsRest, all_ahead, rest_ends}
use Rattle.cnf_core.specs.declared.line.Lines.{Lines}
use Rattle.refutation_check.specs.LineWords.{AreLinesAt, IsReadableLine, line_words}
use Rattle.text_core.specs.LineTexts.{Words, words_of_lines}
use Rattle.text_core.specs.Lines.{Line}
use Rattle.least_launch.specs.TailLines.{goal_tail_lines, large_words, least_words, one_tail_lines, spent_words}
use Rattle.least_launch.specs.TailParts.{AreTails, GoalTailPart, IsTailLine, OneTailPart, more}
use Rattle.least_launch.specs.declared.tails.Tail.{Tail}
use Rattle.least_launch.specs.declared.tails.Tail.TheVariants as tails
use Rattle.least_launch.specs.declared.tails.TailLine.TheVariants as lines_of

-- what is said is within the limits of the format
abbrev pub IsPrintableTail : Tail → Type 0
IsPrintableTail (tails.Least launches read) =
    (launches < 2 ^ 31) × (launches ≡ 0 → length read.lines ≡ 0) × AreReadable read
IsPrintableTail (tails.Spent launches read) = (1 ≤ launches) × (launches < 2 ^ 31) × AreReadable read
IsPrintableTail (tails.Size launches vars clauses) =
    (1 ≤ launches) × (launches < 2 ^ 31) × (vars < 2 ^ 64) × (clauses < 2 ^ 64)

-- of a claimed schedule something is said, and of other claims nothing
abbrev pub IsPrintableFor : Claim → Option Tail → Type 0
IsPrintableFor (claims.Scheduled k schedule words places) None = ⊥
IsPrintableFor (claims.Scheduled k schedule words places) (Some tail) = IsPrintableTail tail
IsPrintableFor claim None = Unit {0}
IsPrintableFor claim (Some tail) = ⊥

abbrev pub IsPrintableOf : Claimed → Option Tail → Type 0
IsPrintableOf c tail = IsPrintableFor c.claim tail

module _ (lines : List Line) (among : LinesAreAmong) where
  rows_stand : (behind : List Words) (from : ℕ) (read : Lines) → All IsReadableLine read.lines
      → IsRest lines from (map line_words read.lines ++ behind)
      → StandsBefore lines behind (AreCounted lines (length read.lines)) from read
  rows_stand behind from read each a =
      let front : List Words = words_of_lines (take from lines) in
      let size : length front ≡ from =
      length-map (take from lines) (λ (l : Line). l.words) ∙ length-take-le from lines a.within in
      let whole : words_of_lines lines ≡ front ++ (map line_words read.lines ++ behind) =
      ap words_of_lines (sym (take-append-drop from lines))
      ∙ map-append (λ (l : Line). l.words) (take from lines) (drop from lines) ∙ ap (λ l. front ++ l) a.are in
      record {
        next = from + length read.lines;
        is = record {
          within = a.within;
          are = subst (λ n. AreLinesAt lines n (length read.lines) read.lines) size
              (among lines front behind read.lines each whole);
          behind = refl;
        };
        rest = subst (λ n. IsRest lines (from + n) behind) (length-map read.lines line_words)
            (all_ahead lines from (map line_words read.lines) behind a).rest;
      }

  tail_stands : (behind : List Words) (from : ℕ) (tail : Tail) → IsPrintableTail tail
      → IsRest lines from (one_tail_lines tail ++ behind) → StandsBefore lines behind (OneTailPart lines) from tail
  tail_stands behind from (tails.Least launches read) fine a =
      let count : ℕ = length read.lines in
      let rows : List Words = map line_words read.lines ++ behind in
      leads_stands lines _ _ rows behind from (lines_of.Least launches count) (tails.Least launches read)
      (line_stands lines IsTailLine rows from (least_words launches count) (lines_of.Least launches count)
      (fine.0, fine.2.few, fine.1, refl) a)
      (λ middle rest.
      leads_stands lines _ _ behind behind middle read (tails.Least launches read)
      (rows_stand behind middle read fine.2.each rest)
      (λ end last. says_stands lines behind end (tails.Least launches read) last))
  tail_stands behind from (tails.Spent launches read) fine a =
      let count : ℕ = length read.lines in
      let rows : List Words = map line_words read.lines ++ behind in
      leads_stands lines _ _ rows behind from (lines_of.Spent launches count) (tails.Spent launches read)
      (line_stands lines IsTailLine rows from (spent_words launches count) (lines_of.Spent launches count)
      (fine.0, fine.1, fine.2.few, refl) a)
      (λ middle rest.
      leads_stands lines _ _ behind behind middle read (tails.Spent launches read)
      (rows_stand behind middle read fine.2.each rest)
      (λ end last. says_stands lines behind end (tails.Spent launches read) last))
  tail_stands behind from (tails.Size launches vars clauses) fine a =
      leads_stands lines _ _ behind behind from (lines_of.Size launches vars clauses) (tails.Size launches vars clauses)
      (line_stands lines IsTailLine behind from (large_words launches vars clauses)
      (lines_of.Size launches vars clauses)
      (fine.0, fine.1, fine.2, fine.3, refl) a)
      (λ end last. says_stands lines behind end (tails.Size launches vars clauses) last)

  goal_stands : (behind : List Words) (from : ℕ) (claim : Claim) (tail : Option Tail) → IsPrintableFor claim tail
      → IsRest lines from (goal_tail_lines tail ++ behind)
      → StandsBefore lines behind (GoalTailPart lines claim) from tail
  goal_stands behind from (claims.Scheduled k schedule words places) None fine a = absurd fine
  goal_stands behind from (claims.Scheduled k schedule words places) (Some tail) fine a =
      leads_stands lines _ _ behind behind from tail (Some tail) (tail_stands behind from tail fine a)
      (λ end last. says_stands lines behind end (Some tail) last)
  goal_stands behind from (claims.NoWorld class m n) None fine a = says_stands lines behind from None a
  goal_stands behind from (claims.NoWorld class m n) (Some tail) fine a = absurd fine
  goal_stands behind from (claims.Missing k) None fine a = says_stands lines behind from None a
  goal_stands behind from (claims.Missing k) (Some tail) fine a = absurd fine
  goal_stands behind from (claims.SpentConflicts k lemmas) None fine a = says_stands lines behind from None a
  goal_stands behind from (claims.SpentConflicts k lemmas) (Some tail) fine a = absurd fine
  goal_stands behind from (claims.SpentSize k vars clauses) None fine a = says_stands lines behind from None a
  goal_stands behind from (claims.SpentSize k vars clauses) (Some tail) fine a = absurd fine

  -- what is said of some goals, and behind it what is said of all others up to the end
  pub tails_stand : (from at : ℕ) (done : List Claimed) (told : List (Option Tail)) (goals : List Claimed)
      (said : List (Option Tail)) → AreTails lines from at done told → AllZip IsPrintableOf goals said
      → IsRest lines at (flat_map goal_tail_lines said)
      → AreTails lines from (length lines) (done ++ goals) (told ++ said)
  tails_stand from at done told [] [] so_far fine a =
      subst (λ n. AreTails lines from n (done ++ []) (told ++ [])) (rest_ends lines at a)
      (subst (λ (gs : List Claimed). AreTails lines from at gs (told ++ [])) (sym (append-nil done))
      (subst (λ (ts : List (Option Tail)). AreTails lines from at done ts) (sym (append-nil told)) so_far))
  tails_stand from at done told [] (t ∷ said) so_far fine a = absurd fine
  tails_stand from at done told (c ∷ goals) [] so_far fine a = absurd fine
  tails_stand from at done told (c ∷ goals) (t ∷ said) so_far fine a =
      let behind : List Words = flat_map goal_tail_lines said in
      let here = goal_stands behind at c.claim t fine.0
      (subst (IsRest lines at) (flat_map-cons goal_tail_lines t said) a) in
      subst (λ (gs : List Claimed). AreTails lines from (length lines) gs (told ++ t ∷ said))
      (append_assoc done (c ∷ []) goals)
      (subst (λ (ts : List (Option Tail)). AreTails lines from (length lines) ((done ++ c ∷ []) ++ goals) ts)
      (append_assoc told (t ∷ []) said)
      (tails_stand from here.next (done ++ c ∷ []) (told ++ t ∷ []) goals said (more c t so_far here.is) fine.1
      here.rest))
