-- What is read is well-formed.
use Rattle.std.proofs.Common.{◌≡◌, ◌≢◌, ℕ, zero, suc, ◌-◌, ◌<◌, ◌≤◌, ◌^◌, List, [], ◌∷◌, length, refl, sym, ap, subst, ◌∙◌, arith, codes, Bool, Option}
use Rattle.std.specs.Prelude.{All, IsTrue}
use Rattle.std.proofs.lemmas.Bool.{false≢true}
use Rattle.std.proofs.lemmas.List.{length-map}
use Rattle.std.proofs.lemmas.List.Elements.{All-nil, All-push, All-head, All-tail}
use Rattle.cnf_core.specs.declared.line.Lines.{Lines}
use Rattle.graph_meaning.specs.declared.graphs.LaunchGraph.{LaunchGraph}
use Rattle.machine_table.specs.Tables.{IsTable, ev6}
use Rattle.machine_table.specs.declared.tables.Table.{Table}
use Rattle.text_core.specs.Lines.{Line, HasLines, line_length, text_length}
use Rattle.text_core.specs.LineTexts.{Words, CanBeLine, words_of_lines}
use Rattle.answer_texts.specs.AnswerLines.{refuted_below}
use Rattle.answer_texts.specs.AnswerParts.{TableRest, CountedPart, BelowPart, IsClaimLine, ClaimRest, ClaimPart, BodyRest, GoalPart, AreGoals, no_goals, more, claimed_of, AnswerPart}
use Rattle.answer_texts.specs.LineParts.{AreLinesOf}
use Rattle.answer_texts.specs.ReadAnswers.{ReadsAnswer}
use Rattle.answer_texts.proofs.UnpinnedGraphs.{unpinned_at}
use Rattle.answer_texts.specs.WellFormed.{FitsClaim, HasRefutation, nothing_less, refuted, IsClaimed, no_world, worked, IsAnswer}
use Rattle.answer_texts.specs.declared.answers.AnswerText.{AnswerText}
use Rattle.answer_texts.specs.declared.answers.Claim.{Claim}
use Rattle.answer_texts.specs.declared.answers.Claim.TheVariants as claims
use Rattle.answer_texts.specs.declared.answers.Claimed.{Claimed}
use Rattle.answer_texts.specs.declared.parts.Body.{Body}
use Rattle.answer_texts.specs.declared.parts.BodyLine.{BodyLine}
use Rattle.answer_texts.specs.declared.parts.BodyLine.TheVariants as bodies
use Rattle.answer_texts.specs.declared.parts.ClaimLine.{ClaimLine}
use Rattle.answer_texts.specs.declared.parts.ClaimLine.TheVariants as lines_of
use Rattle.answer_texts.specs.declared.parts.TableLine.{TableLine}
use Rattle.answer_texts.specs.declared.parts.TableLine.TheVariants as tables
use Rattle.answer_texts.proofs.PartsBetween.{between_length}
use Rattle.answer_texts.proofs.PartsPrinted.{has_counted}
use Rattle.answer_texts.proofs.PartsTables.{part_is_table}

-- ---- lines have a byte at least

some_words : (words : Words) → words ≢ [] → 1 ≤ line_length words
some_words [] some = absurd (some refl)
some_words (word ∷ words) some = omega arith

few_lines : (lines : List Line) → All CanBeLine (words_of_lines lines) → length lines ≤ text_length lines
few_lines [] each = omega arith
few_lines (line ∷ lines) each =
    let first = some_words line.words (All-head CanBeLine line.words (words_of_lines lines) each).some in
    let rest = few_lines lines (All-tail CanBeLine line.words (words_of_lines lines) each) in
    omega (arith, first, rest)

-- a claim that isn't of a goal without a world
abbrev pub IsWorked : Claim → Type 0
IsWorked claim = (class a b : ℕ) → claim ≢ claims.NoWorld class a b

-- a claim with the lines that it needs
pub record IsShown (c : Claim × Option Lines) : Type 0 where
  pub worked_out : IsWorked c.0
  pub fits : FitsClaim c.0
  pub refutation : HasRefutation (refuted_below c.0) c.1

module _ (lines : List Line) (few : length lines < 2 ^ 29) where
  few_values : {X : Type 0} (first : List ℕ) (words_of : X → Words) (Fit : List X → Type 0) (from next : ℕ) (xs : List X)
      → AreLinesOf first words_of Fit lines from next xs → length xs < 2 ^ 29
  few_values first words_of Fit from next xs a =
      let within = a.so_far.within in
      let size : next - from ≡ length xs =
      sym (between_length lines from next a.so_far.order within) ∙ ap length a.so_far.words ∙ length-map xs words_of in
      omega (arith, within, few, size)

  few_read : (first : List ℕ) (cycles from next : ℕ) (read : Lines) → CountedPart lines first cycles from next read
      → length read.lines < 2 ^ 29
  few_read first cycles from next read a =
      let within = (has_counted lines first cycles from next read a).within in
      let behind = a.second.behind in
      let size = a.second.are.size in
      omega (arith, within, behind, size, few)

  below_refuted : (k from next : ℕ) (read : Option Lines) → BelowPart lines k from next read → HasRefutation k read
  below_refuted zero from next read a = subst (HasRefutation zero) (sym a.is) nothing_less
  below_refuted (suc j) from next read a =
      subst (HasRefutation (suc j)) (sym a.second.is)
      (refuted (few_read (codes "refute") j from a.middle a.said a.first) (omega arith))

  module _ (version : ℕ) (table : Table) where
    rest_shown : (g : LaunchGraph) (first : ClaimLine) (words : Words) (from next : ℕ) (c : Claim × Option Lines)
        → IsClaimLine words first → ClaimRest lines table g first from next c → IsShown c
    rest_shown g (lines_of.Scheduled k) words from next c is b =
        subst IsShown (sym b.second.second.second.second.is)
        (record {
          worked_out = λ class m n e. cc;
          fits = (is.low, few_values _ _ _ from b.middle b.said b.first);
          refutation = below_refuted k b.second.second.middle b.second.second.second.middle b.second.second.second.said
              b.second.second.second.first;
        })
    rest_shown g (lines_of.Missing k) words from next c is b =
        subst IsShown (sym b.second.is)
        (record {
          worked_out = λ class m n e. cc;
          fits = is.low;
          refutation = refuted (few_read (codes "refute") k from b.middle b.said b.first) (omega arith);
        })
    rest_shown g (lines_of.Conflicts k) words from next c is b =
        subst IsShown (sym b.second.second.is)
        (record {
          worked_out = λ class m n e. cc;
          fits = (is.low, few_read (codes "lemmas") k b.middle b.second.middle b.second.said b.second.first);
          refutation = below_refuted k from b.middle b.said b.first;
        })
    rest_shown g (lines_of.Size k vars clauses) words from next c is b =
        subst IsShown (sym b.second.is)
        (record {
          worked_out = λ class m n e. cc;
          fits = is.0.low;
          refutation = below_refuted k from b.middle b.said b.first;
        })

    claim_shown : (g : LaunchGraph) (from next : ℕ) (c : Claim × Option Lines) → ClaimPart lines table g from next c
        → IsShown c
    claim_shown g from next c a = rest_shown g a.said _ a.middle next c a.first.is a.second

    rest_claimed : (name : List ℕ) (first : BodyLine) (from next : ℕ) (body : Body)
        → BodyRest lines version table first from next body → IsClaimed version (claimed_of name body)
    rest_claimed name (bodies.NoWorld class m n) from next body b =
        subst (λ (x : Body). IsClaimed version (claimed_of name x)) (sym b.is) (no_world refl refl refl)
    rest_claimed name (bodies.Rounds rounds stop) from next body b =
        let shown = claim_shown b.said b.middle b.second.middle b.second.said b.second.first in
        subst (λ (x : Body). IsClaimed version (claimed_of name x)) (sym b.second.second.is)
        (worked shown.worked_out refl b.first.well_formed (unpinned_at lines version from b.middle b.said b.first) shown.fits
        shown.refutation)

    goal_claimed : (from next : ℕ) (c : Claimed) → GoalPart lines version table from next c → IsClaimed version c
    goal_claimed from next c a =
        let body = a.second in
        subst (IsClaimed version) (sym body.second.second.is)
        (rest_claimed a.said body.first.said body.first.middle body.middle body.said body.first.second)

    goals_claimed : (from : ℕ) {next : ℕ} {goals : List Claimed} → AreGoals lines version table from next goals
        → All (IsClaimed version) goals
    goals_claimed from no_goals = All-nil (IsClaimed version)
    goals_claimed from (more {middle = m} {next = n} {goals = gs} {goal = g} are fewer is) =
        All-push (IsClaimed version) gs g (goals_claimed from are) (goal_claimed m n g is)

-- ---- answers

built_in_same : (lines : List Line) (first : TableLine) (from next : ℕ) (read : Table × Bool)
    → TableRest lines first from next read → IsTrue read.1 → read.0 ≡ ev6
built_in_same lines tables.BuiltIn from next read a is = ap (λ (p : Table × Bool). p.0) a.is
built_in_same lines tables.Own from next read a is =
    absurd (false≢true (subst IsTrue (ap (λ (p : Table × Bool). p.1) a.second.is) is))

pub answer_well_formed : IsTable ev6 → (lines : List Line) → length lines < 2 ^ 29 → (from next : ℕ) (answer : AnswerText)
    → AnswerPart lines from next answer → IsAnswer answer
answer_well_formed built lines few from next answer a =
    let table = a.second.second.first in
    let goals = a.second.second.second.second in
    subst IsAnswer (sym goals.second.is)
    (record {
      encoding = a.second.first.is.known;
      table = part_is_table lines built a.second.middle a.second.second.middle a.second.second.said table;
      built_in = built_in_same lines table.said table.middle a.second.second.middle a.second.second.said table.second;
      goals = goals_claimed lines few a.said a.second.second.said.0 a.second.second.second.middle goals.first.are;
    })

pub read_well_formed : IsTable ev6 → ((text : List ℕ) (lines : List Line) → HasLines text lines → length text ≡ text_length lines)
    → ((lines : List Line) (text : List ℕ) → HasLines text lines → All CanBeLine (words_of_lines lines))
    → (text : List ℕ) (answer : AnswerText) → length text < 2 ^ 29 → ReadsAnswer text answer → IsAnswer answer
read_well_formed built whole each text answer small a =
    let size = whole text a.lines a.split in
    let lines = few_lines a.lines (each a.lines text a.split) in
    answer_well_formed built a.lines (omega (arith, size, lines, small)) 0 (length a.lines) answer a.says
