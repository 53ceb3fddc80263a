-- Trimmed again, an answer stays.
use Rattle.std.proofs.Common.{◌≡◌, ℕ, List, [], ◌∷◌, refl, sym, ap, subst, ◌∙◌}
use Rattle.std.specs.Prelude.{Option, Some}
use Rattle.std.specs.List.{AllZip}
use Rattle.std.proofs.lemmas.Option.{none-some, same_Some}
use Rattle.answer_check.specs.Reports.{encoding_named}
use Rattle.answer_texts.specs.AnswerLines.{answer_bytes}
use Rattle.answer_texts.specs.ReadAnswers.{ReadsAnswer}
use Rattle.answer_texts.specs.declared.answers.AnswerText.{AnswerText}
use Rattle.answer_texts.specs.declared.answers.Claimed.{Claimed}
use Rattle.cnf_core.specs.declared.line.Lines.{Lines}
use Rattle.cycle_encoding.specs.declared.encodings.Encoding.{Encoding}
use Rattle.reports.specs.declared.statuses.Status.{Status}
use Rattle.reports.specs.declared.statuses.Status.TheVariants.{Done}
use Rattle.machine_table.specs.declared.tables.Table.{Table}
use Rattle.refute_trim.specs.Trimmed.{AllButLastAreHints}
use Rattle.refute_trim.specs.TrimmedAnswers.{AreTrimmedLines, IsTrimReport, IsTrimmedAnswer, IsTrimmedGoal, TrimsText, needed, no_lines, rejected, trimmed}
use Rattle.refute_trim.proofs.Again.{again}
use Rattle.refute_trim.proofs.Hints.{all_but_last}

-- ---- a goal

hints_of : {e : Encoding} {table : Table} {c : Claimed} {refute : Option Lines} (lines : Lines) → AreTrimmedLines e table c refute → refute ≡ Some lines → AllButLastAreHints lines.lines
hints_of lines (no_lines none) is = absurd (none-some lines is)
hints_of lines (needed {f} {lines = old} {new} to within right t) is =
    subst (λ (l : Lines). AllButLastAreHints l.lines) (same_Some new lines is) (all_but_last f old.lines new.lines right.accepted t)

same_lines : (old new : Lines) → new.lines ≡ old.lines → new ≡ old
same_lines old new e = λ i. record { lines = e i }

lines_again : {e : Encoding} {table : Table} {c d : Claimed} {refute : Option Lines} → AreTrimmedLines e table d refute → AreTrimmedLines e table c d.refute → refute ≡ d.refute
lines_again (no_lines none) first = sym none
lines_again (needed {f} {lines} {new} to within right t) first =
    ap Some (same_lines lines new (again f lines.lines new.lines right.accepted (hints_of lines first to.refute) t)) ∙ sym to.refute

goal_again : (e : Encoding) (table : Table) (c d x : Claimed) → IsTrimmedGoal e table c d → IsTrimmedGoal e table d x → x ≡ d
goal_again e table c d x first second =
    let was : AreTrimmedLines e table c d.refute = subst (AreTrimmedLines e table c) (sym (ap (λ (y : Claimed). y.refute) first.is)) first.trimmed in
    second.is ∙ ap (λ (r : Option Lines). record d { refute = r }) (lines_again second.trimmed was)

goals_again : (e : Encoding) (table : Table) (cs ds xs : List Claimed) → AllZip (IsTrimmedGoal e table) cs ds → AllZip (IsTrimmedGoal e table) ds xs → xs ≡ ds
goals_again e table cs [] [] z w = refl
goals_again e table cs [] (x ∷ xs) z w = absurd w
goals_again e table cs (d ∷ ds) [] z w = absurd w
goals_again e table [] (d ∷ ds) (x ∷ xs) z w = absurd z
goals_again e table (c ∷ cs) (d ∷ ds) (x ∷ xs) z w =
    let first = goal_again e table c d x z.0 w.0 in
    let rest = goals_again e table cs ds xs z.1 w.1 in
    λ i. first i ∷ rest i

-- ---- an answer

answer_again : (a new more : AnswerText) → IsTrimmedAnswer a new → IsTrimmedAnswer new more → more ≡ new
answer_again a new more first second =
    let kept = record a { goals = first.goals } in
    let next : IsTrimmedAnswer kept more = subst (λ (x : AnswerText). IsTrimmedAnswer x more) first.is second in
    next.is
    ∙ ap (λ (gs : List Claimed). record a { goals = gs }) (goals_again (encoding_named a.encoding) a.table a.goals first.goals next.goals first.each next.each)
    ∙ sym first.is

-- ---- a text

second_report : (new : AnswerText) (bytes more : List ℕ) {status : Status} → bytes ≡ answer_bytes new → ((other : AnswerText) → IsTrimmedAnswer new other → other ≡ new) → IsTrimReport new more status → status ≡ Done → more ≡ bytes
second_report new bytes more printed stays (trimmed {new = other} whole is) done = is ∙ ap answer_bytes (stays other whole) ∙ sym printed
second_report new bytes more printed stays (rejected at goals each there bad is) done = absurd (let e = done in cc)

module _ (alone : (text : List ℕ) (answer other : AnswerText) → ReadsAnswer text answer → ReadsAnswer text other → answer ≡ other) (is_read : (text bytes : List ℕ) → TrimsText text bytes Done → (answer : AnswerText) × (new : AnswerText) × ReadsAnswer text answer × IsTrimmedAnswer answer new × ReadsAnswer bytes new) where
  pub text_again : (text bytes more : List ℕ) → TrimsText text bytes Done → TrimsText bytes more Done → more ≡ bytes
  text_again text bytes more first second =
      let r = is_read text bytes first in
      let a = r.0 in
      let new = r.1 in
      let same : second.answer ≡ new = alone bytes second.answer new second.reads r.4 in
      let printed : bytes ≡ answer_bytes new = second.text_is ∙ ap answer_bytes same in
      second_report new bytes more printed (λ other whole. answer_again a new other r.3 whole)
      (subst (λ (x : AnswerText). IsTrimReport x more Done) same second.report) refl
