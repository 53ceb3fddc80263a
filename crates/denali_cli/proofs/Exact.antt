-- The rows of the replies exclude one another.
use Rattle.std.proofs.Common.{◌≡◌, ℕ, ◌<◌, ◌≤◌, ◌^◌, ◌⊎◌, ◌↔◌, Bool, true, false, List, [], ◌∷◌, length, Option, None, Some, fold, refl, sym, ap, subst, ◌∙◌, inl, inr, arith, nat_lt, cond}
use Rattle.std.specs.Prelude.{IfSome, IsSomeAnd}
use Rattle.std.specs.Option.{option_map}
use Rattle.answer_texts.specs.ReadAnswers.{IsAnswerFault, ReadsAnswer}
use Rattle.answer_texts.specs.declared.answers.AnswerText.{AnswerText}
use Rattle.goal_reader.specs.Grammar.{IsFirstTextFault, Reads}
use Rattle.goal_meaning.specs.Views.{InputTree}
use Rattle.run_texts.specs.RunFaults.{IsRunFault, ReadsRun}
use Rattle.run_texts.specs.declared.texts.RunText.{RunText}
use Rattle.text_core.specs.declared.faults.Kind.{Kind}
use Rattle.reports.specs.Statuses.{greater, status_code}
use Rattle.denali_run.specs.GeneratedAnswers.{IsGeneratedLine}
use Rattle.denali_run.specs.TextAnswers.{greatest_status, status_of}
use Rattle.denali_run.specs.declared.results.Answered.{Answered}
use Rattle.denali_run.specs.declared.results.Answered.TheVariants.{Scheduled, Nowhere, SpentConflicts, SpentSize, NoWorld}
use Rattle.reports.specs.declared.statuses.Status.{Status}
use Rattle.reports.specs.declared.statuses.Status.TheVariants.{Done, Missing, ReadFault, Spent}
use Rattle.least_launch.specs.LeastAnswers.{some_is_most}
use Rattle.least_launch.specs.TailedAnswers.{IsTailedFault, ReadsTailed}
use Rattle.least_launch.specs.declared.tails.Tail.{Tail}
use Rattle.proc_goal.specs.ProcGrammar.{IsFirstProcFault, ReadsProc}
use Rattle.proc_goal.specs.Views.{ProcTree}
use Rattle.answer_texts.specs.declared.answers.Claimed.{Claimed}
use Rattle.dimacs.specs.GoalClauses.{AreClausesAt, AreClausesOf, given, no_goal, of_goal, too_large, without_graph}
use Rattle.cycle_encoding.specs.declared.encodings.Encoding.{Encoding}
use Rattle.machine_table.specs.declared.tables.Table.{Table}
use Rattle.refute_trim.specs.TrimmedAnswers.{IsTrimReport, rejected, trimmed}
use Rattle.code_improve.specs.CycleCounts.{count_status}
use Rattle.code_improve.specs.declared.counting.CycleCount.{CycleCount}
use Rattle.code_improve.specs.declared.counting.CycleCount.TheVariants.{Fewest, Over, Spent as SpentOn}
use Rattle.code_lift.specs.LiftGrammar.{IsFirstLiftFault, ReadsLifts}
use Rattle.code_lift.specs.Views.{LiftsTree}
use Rattle.denali_cli.specs.Outcomes.{IsReported}
use Rattle.denali_cli.specs.Replies.{IsFaultFor, IsPastLimit, IsReadFor, IsWithinLimit, Reply, Reports, answered}
use Rattle.denali_cli.specs.Replies.{fault_line, faulty, limit_of, too_long, too_long_line}
use Rattle.code_check.specs.CodeGrammar.{CheckedTree, IsFirstCodesFault, ReadsCodes}
use Rattle.denali_cli.specs.Commands.{Command, Solve, SolveLeast, Proc, Check, CheckLeast, Trim, Verify, Run, Gen, Cnf, Lift, Improve, ImproveLeast, Cycles}
use Rattle.denali_cli.specs.Formats.{Format, IsFormatFault, IsReadAs, format_of, limit}
use Rattle.denali_cli.specs.declared.commands.Format.TheVariants as formats
use Rattle.denali_cli.specs.VerifiedTexts.{told_status}

-- ---- the status of results

result_reports : (r : Answered) → IsReported (status_of r)
result_reports (Scheduled f) = tt
result_reports (Nowhere m) = tt
result_reports (SpentConflicts t) = tt
result_reports (SpentSize l) = tt
result_reports (NoWorld class a b) = tt

one_reports : (b : Bool) (one other : Status) → IsReported one → IsReported other → IsReported (cond b other one)
one_reports true one other h k = k
one_reports false one other h k = h

all_report : (s : Status) (rs : List Answered) → IsReported s → IsReported (fold (λ s r. greater s (status_of r)) s rs)
all_report s [] h = h
all_report s (r ∷ rs) h =
    all_report (greater s (status_of r)) rs
    (one_reports (nat_lt (status_code s) (status_code (status_of r))) s (status_of r) h (result_reports r))

-- the status of counts of cycles
count_reports : (c : CycleCount) → IsReported (count_status c)
count_reports (Fewest k) = tt
count_reports (Over k) = tt
count_reports (SpentOn k) = tt

counts_report : (s : Status) (cs : List CycleCount) → IsReported s → IsReported (fold (λ s c. greater s (count_status c)) s cs)
counts_report s [] h = h
counts_report s (c ∷ cs) h =
    counts_report (greater s (count_status c)) cs
    (one_reports (nat_lt (status_code s) (status_code (count_status c))) s (count_status c) h (count_reports c))

-- the status of results of which something is said
least_reports : (some : Bool) (s : Status) → IsReported s → IsReported (cond some (greater s Spent) s)
least_reports true s h = one_reports (nat_lt (status_code s) (status_code Spent)) s Spent h tt
least_reports false s h = h

-- the status of the line of a generated goal
line_reports : (size : ℕ) (r : Answered) (bytes : List ℕ) (status : Status) → IsGeneratedLine size r bytes status → IsReported status
line_reports size (Scheduled f) bytes status h = subst IsReported (sym h.1) tt
line_reports size (SpentConflicts t) bytes status h = subst IsReported (sym h.1) tt
line_reports size (SpentSize l) bytes status h = subst IsReported (sym h.1) tt
line_reports size (Nowhere m) bytes status h = absurd h
line_reports size (NoWorld class a b) bytes status h = absurd h

-- the status of a trimmed answer
trim_reports : (a : AnswerText) (bytes : List ℕ) {status : Status} → IsTrimReport a bytes status → IsReported status
trim_reports a bytes (trimmed whole is) = tt
trim_reports a bytes (rejected at goals each there bad is) = tt

-- the status of clauses
clauses_of_report : {e : Encoding} {table : Table} {c : Claimed} {k : ℕ} {bytes : List ℕ} {status : Status}
    → AreClausesOf e table c k bytes status → IsReported status
clauses_of_report (given graph formula within is done) = subst IsReported (sym done) tt
clauses_of_report (too_large graph formula passes is missing) = subst IsReported (sym missing) tt
clauses_of_report (without_graph none is missing) = subst IsReported (sym missing) tt

clauses_report : {a : AnswerText} {at k : ℕ} {bytes : List ℕ} {status : Status} → AreClausesAt a at k bytes status
    → IsReported status
clauses_report (of_goal there are) = clauses_of_report are
clauses_report (no_goal past is missing) = subst IsReported (sym missing) tt

-- the status of codes
told_reports : (unknown no_world : Bool) → IsReported (told_status unknown no_world)
told_reports true true = tt
told_reports false true = tt
told_reports true false = tt
told_reports false false = tt

-- the status of a report
pub reports_report : (command : Command) (text written : List ℕ) (status : Status) → Reports command text written status
    → IsReported status
reports_report (Solve s) text written status a = subst IsReported (sym a.status_is) (all_report Done a.results tt)
reports_report (SolveLeast s) text written status a =
    subst IsReported (sym a.status_is)
    (least_reports (some_is_most a.said) (greatest_status a.results) (all_report Done a.results tt))
reports_report (Proc s) text written status a =
    subst IsReported (sym a.answers.status_is) (all_report Done a.answers.results tt)
reports_report Check text written status a = subst IsReported (sym a.status_is) (one_reports a.rejected Done Missing tt tt)
reports_report CheckLeast text written status a =
    subst IsReported (sym a.status_is) (one_reports a.rejected Done Missing tt tt)
reports_report Trim text written status a = trim_reports a.answer written a.report
reports_report (Verify rounds nodes library) text written status a =
    subst IsReported (sym a.status_is) (told_reports a.unknown a.no_world)
reports_report Run text written status a = subst IsReported (sym a.done) tt
reports_report (Gen size) text written status a = line_reports size a.answered written status a.line
reports_report (Cnf goal cycles) text written status a = clauses_report a.clauses
reports_report Lift text written status a = subst IsReported (sym a.status_is) tt
reports_report (Improve s) text written status a = subst IsReported (sym a.status_is) (all_report Done a.results tt)
reports_report (ImproveLeast s) text written status a =
    subst IsReported (sym a.status_is)
    (least_reports (some_is_most a.said) (greatest_status a.results) (all_report Done a.results tt))
reports_report (Cycles cycles conflicts) text written status a =
    subst IsReported (sym a.status_is) (counts_report Done a.counts tt)

-- what was reported on has a reading
reports_read : (command : Command) (text written : List ℕ) (status : Status) → Reports command text written status
    → IsReadFor command text
reports_read (Solve s) text written status a = (a.input, a.reads)
reports_read (SolveLeast s) text written status a = (a.input, a.reads)
reports_read (Proc s) text written status a = (a.proc, a.reads)
reports_read Check text written status a = (a.answer, a.reads)
reports_read CheckLeast text written status a = (a.answer, a.said, a.reads)
reports_read Trim text written status a = (a.answer, a.reads)
reports_read (Verify rounds nodes library) text written status a = (a.told.checked, a.told.reads)
reports_read Run text written status a = (a.program, a.reads)
reports_read (Gen size) text written status a = tt
reports_read (Cnf goal cycles) text written status a = (a.answer, a.reads)
reports_read Lift text written status a = (a.lifts, a.reads)
reports_read (Improve s) text written status a = (a.lifts, a.reads)
reports_read (ImproveLeast s) text written status a = (a.lifts, a.reads)
reports_read (Cycles cycles conflicts) text written status a = (a.lifts, a.reads)

fault_is_none : (status : Status) → status ≡ ReadFault → IsReported status → ⊥
fault_is_none status is reported = subst IsReported is reported

-- ---- rows

past_and_within : (command : Command) (text : List ℕ) → IsPastLimit command text → IsWithinLimit command text → ⊥
past_and_within command text past within =
    let short = within past.0 past.1 in let long = past.2 in absurd (omega (arith, short, long))

one_limit : {m n : ℕ} → Some m ≡ Some n → m ≡ n
one_limit e = cc

-- A text with a reading has no fault, and one first fault at most.
pub record Laws : Type 0 where
  pub goals_apart : (text : List ℕ) (input : InputTree) (place : ℕ) (kind : Kind) → Reads text input
      → IsFirstTextFault text place kind → ⊥
  pub goals_once : (text : List ℕ) (place other : ℕ) (kind another : Kind) → IsFirstTextFault text place kind
      → IsFirstTextFault text other another → (place ≡ other) × (kind ≡ another)
  pub answers_apart : (text : List ℕ) (answer : AnswerText) (place : ℕ) (kind : Kind) → ReadsAnswer text answer
      → IsAnswerFault text place kind → ⊥
  pub answers_once : (text : List ℕ) (place other : ℕ) (kind another : Kind) → IsAnswerFault text place kind
      → IsAnswerFault text other another → (place ≡ other) × (kind ≡ another)
  pub codes_apart : (text : List ℕ) (checked : CheckedTree) (place : ℕ) (kind : Kind) → length text < 2 ^ 29
      → ReadsCodes text checked → IsFirstCodesFault text place kind → ⊥
  pub codes_once : (text : List ℕ) (place other : ℕ) (kind another : Kind) → IsFirstCodesFault text place kind
      → IsFirstCodesFault text other another → (place ≡ other) × (kind ≡ another)
  pub tails_apart : (text : List ℕ) (answer : AnswerText) (said : List (Option Tail)) (place : ℕ) (kind : Kind)
      → ReadsTailed text answer said → IsTailedFault text place kind → ⊥
  pub tails_once : (text : List ℕ) (place other : ℕ) (kind another : Kind) → IsTailedFault text place kind
      → IsTailedFault text other another → (place ≡ other) × (kind ≡ another)
  pub procs_apart : (text : List ℕ) (proc : ProcTree) (place : ℕ) (kind : Kind) → ReadsProc text proc
      → IsFirstProcFault text place kind → ⊥
  pub procs_once : (text : List ℕ) (place other : ℕ) (kind another : Kind) → IsFirstProcFault text place kind
      → IsFirstProcFault text other another → (place ≡ other) × (kind ≡ another)
  pub programs_apart : (text : List ℕ) (run : RunText) (place : ℕ) (kind : Kind) → ReadsRun text run
      → IsRunFault text place kind → ⊥
  pub programs_once : (text : List ℕ) (place other : ℕ) (kind another : Kind) → IsRunFault text place kind
      → IsRunFault text other another → (place ≡ other) × (kind ≡ another)
  pub lifts_apart : (text : List ℕ) (lifts : LiftsTree) (place : ℕ) (kind : Kind) → ReadsLifts text lifts
      → IsFirstLiftFault text place kind → ⊥
  pub lifts_once : (text : List ℕ) (place other : ℕ) (kind another : Kind) → IsFirstLiftFault text place kind
      → IsFirstLiftFault text other another → (place ≡ other) × (kind ≡ another)

module _ (laws : Laws) where
  few_bytes : (text : List ℕ) → length text ≤ 1048576 → length text < 2 ^ 29
  few_bytes text le = omega (arith, le)

  apart_as : (format : Format) (text : List ℕ) (place : ℕ) (kind : Kind) → length text ≤ limit format
      → IsReadAs format text → IsFormatFault format text place kind → ⊥
  apart_as formats.Goals text place kind short read first = laws.goals_apart text read.0 place kind read.1 first
  apart_as formats.Proc text place kind short read first = laws.procs_apart text read.0 place kind read.1 first
  apart_as formats.Answer text place kind short read first = laws.answers_apart text read.0 place kind read.1 first
  apart_as formats.TailedAnswer text place kind short read first =
      laws.tails_apart text read.0 read.1 place kind read.2 first
  apart_as formats.Codes text place kind short read first =
      laws.codes_apart text read.0 place kind (few_bytes text short) read.1 first
  apart_as formats.Program text place kind short read first = laws.programs_apart text read.0 place kind read.1 first
  apart_as formats.Lifts text place kind short read first = laws.lifts_apart text read.0 place kind read.1 first

  apart_in : (o : Option Format) (text : List ℕ) (place : ℕ) (kind : Kind)
      → ((most : ℕ) → option_map limit o ≡ Some most → length text ≤ most)
      → IfSome o (λ format. IsReadAs format text) → IsSomeAnd o (λ format. IsFormatFault format text place kind) → ⊥
  apart_in None text place kind within read first = absurd first
  apart_in (Some format) text place kind within read first =
      apart_as format text place kind (within (limit format) refl) read first

  apart : (command : Command) (text : List ℕ) (place : ℕ) (kind : Kind) → IsWithinLimit command text
      → IsReadFor command text → IsFaultFor command text place kind → ⊥
  apart command text place kind within read first = apart_in (format_of command) text place kind within read first

  once_as : (format : Format) (text : List ℕ) (place other : ℕ) (kind another : Kind)
      → IsFormatFault format text place kind → IsFormatFault format text other another → (place ≡ other) × (kind ≡ another)
  once_as formats.Goals text place other kind another f g = laws.goals_once text place other kind another f g
  once_as formats.Proc text place other kind another f g = laws.procs_once text place other kind another f g
  once_as formats.Answer text place other kind another f g = laws.answers_once text place other kind another f g
  once_as formats.TailedAnswer text place other kind another f g = laws.tails_once text place other kind another f g
  once_as formats.Codes text place other kind another f g = laws.codes_once text place other kind another f g
  once_as formats.Program text place other kind another f g = laws.programs_once text place other kind another f g
  once_as formats.Lifts text place other kind another f g = laws.lifts_once text place other kind another f g

  once_in : (o : Option Format) (text : List ℕ) (place other : ℕ) (kind another : Kind)
      → IsSomeAnd o (λ format. IsFormatFault format text place kind)
      → IsSomeAnd o (λ format. IsFormatFault format text other another) → (place ≡ other) × (kind ≡ another)
  once_in None text place other kind another f g = absurd f
  once_in (Some format) text place other kind another f g = once_as format text place other kind another f g

  once : (command : Command) (text : List ℕ) (place other : ℕ) (kind another : Kind)
      → IsFaultFor command text place kind → IsFaultFor command text other another
      → (place ≡ other) × (kind ≡ another)
  once command text place other kind another f g = once_in (format_of command) text place other kind another f g

  module _ (command : Command) (text written : List ℕ) (status : Status) where
    abbrev HasFault : Type 0
    HasFault = (place : ℕ) × (kind : Kind) × IsFaultFor command text place kind

    abbrev IsRead : Type 0
    IsRead = IsWithinLimit command text × IsReadFor command text

    no_answer : Reports command text written status → IsWithinLimit command text → (IsPastLimit command text ⊎ HasFault) → ⊥
    no_answer a within (inl past) = past_and_within command text past within
    no_answer a within (inr f) = apart command text f.0 f.1 within (reports_read command text written status a) f.2

    pub fault : Reply command text written status → (status ≡ ReadFault) ↔ (IsPastLimit command text ⊎ HasFault)
    fault (too_long limit has long line is) = (λ e. inl (limit, has, long), λ h. is)
    fault (faulty place kind within first line is) = (λ e. inr (place, kind, first), λ h. is)
    fault (answered within a) = (
      λ e. absurd (fault_is_none status e (reports_report command text written status a)),
      λ h. absurd (no_answer a within h),
    )

    pub reported : Reply command text written status → IsReported status ↔ IsRead
    reported (too_long limit has long line is) = (
      λ r. absurd (fault_is_none status is r),
      λ h. absurd (past_and_within command text (limit, has, long) h.0),
    )
    reported (faulty place kind within first line is) = (
      λ r. absurd (fault_is_none status is r),
      λ h. absurd (apart command text place kind within h.1 first),
    )
    reported (answered within a) = (
      λ r. (within, reports_read command text written status a),
      λ h. reports_report command text written status a,
    )

    pub either : Reply command text written status → IsReported status ⊎ (status ≡ ReadFault)
    either (too_long limit has long line is) = inr is
    either (faulty place kind within first line is) = inr is
    either (answered within a) = inl (reports_report command text written status a)

    pub line_where_past : Reply command text written status → (limit : ℕ) → limit_of command ≡ Some limit
        → limit < length text → written ≡ too_long_line limit
    line_where_past (too_long other has long line is) limit asked past =
        line ∙ ap too_long_line (one_limit (sym has ∙ asked))
    line_where_past (faulty place kind within first line is) limit asked past =
        absurd (past_and_within command text (limit, asked, past) within)
    line_where_past (answered within a) limit asked past =
        absurd (past_and_within command text (limit, asked, past) within)

    pub line_of_fault : Reply command text written status → (place : ℕ) (kind : Kind) → IsWithinLimit command text
        → IsFaultFor command text place kind → written ≡ fault_line place kind
    line_of_fault (too_long limit has long line is) place kind within first =
        absurd (past_and_within command text (limit, has, long) within)
    line_of_fault (faulty other another _ found line is) place kind within first =
        let same = once command text other place another kind found first in
        line ∙ ap (λ n. fault_line n another) same.0 ∙ ap (fault_line place) same.1
    line_of_fault (answered _ a) place kind within first =
        absurd (apart command text place kind within (reports_read command text written status a) first)

    pub answers : Reply command text written status → IsWithinLimit command text → IsReadFor command text
        → Reports command text written status
    answers (too_long limit has long line e) within read =
        absurd (past_and_within command text (limit, has, long) within)
    answers (faulty place kind _ first line e) within read = absurd (apart command text place kind within read first)
    answers (answered _ a) within read = a
