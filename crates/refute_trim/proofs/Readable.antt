-- A trimmed answer can be printed where the answer could.
use Rattle.std.proofs.Common.{◌≡◌, ℕ, zero, suc, ◌-◌, ◌≤◌, List, [], ◌∷◌, map, length, get_or, refl, sym, ap, subst, ◌∙◌, inl, inr, arith}
use Rattle.std.specs.Prelude.{Option, Some, All, IsSomeAnd}
use Rattle.std.specs.List.{AllZip}
use Rattle.std.proofs.lemmas.Bool.{cases_lt}
use Rattle.std.proofs.lemmas.List.Elements.{All-cons, All-head, All-map, All-tail, All-weaker}
use Rattle.std.proofs.lemmas.Option.{get_or_from_slice_get, none-some, slice_get-get_or, slice_get_within}
use Rattle.answer_check.specs.Reports.{encoding_named}
use Rattle.answer_texts.specs.AnswerLines.{answer_bytes, refuted_below}
use Rattle.answer_texts.specs.Printable.{AreLinesBelow, AreReadable, IsPrintable, IsPrintableGoal, no_world, worked}
use Rattle.answer_texts.specs.ReadAnswers.{ReadsAnswer}
use Rattle.answer_texts.specs.declared.answers.AnswerText.{AnswerText}
use Rattle.answer_texts.specs.declared.answers.Claimed.{Claimed}
use Rattle.cnf_core.specs.Formula.{Formula}
use Rattle.cnf_core.specs.Refutation.{AreAccepted}
use Rattle.cnf_core.specs.declared.line.Line.{Line}
use Rattle.cnf_core.specs.declared.line.Lines.{Lines}
use Rattle.cycle_encoding.specs.declared.encodings.Encoding.{Encoding}
use Rattle.reports.specs.declared.statuses.Status.{Status}
use Rattle.reports.specs.declared.statuses.Status.TheVariants.{Done}
use Rattle.machine_table.specs.declared.tables.Table.{Table}
use Rattle.refutation_check.specs.LineWords.{IsId, IsIdLiteral, IsReadableLine}
use Rattle.refute_trim.specs.Trimmed.{AreTrimmed, new_number}
use Rattle.refute_trim.specs.TrimmedAnswers.{AreTrimmedLines, IsTrimReport, IsTrimmedAnswer, IsTrimmedGoal, TrimsText, needed, no_lines, rejected, trimmed}
use Rattle.refute_trim.proofs.Hints.{needed_within, place_needed, zip_long, zip_right}
use Rattle.refute_trim.proofs.Places.{below_at, below_most, number_at_least, number_at_most}

-- ---- lines

module _ (f : Formula) (lines new : List Line) (accepted : AreAccepted f lines) (t : AreTrimmed (length f.clauses) lines new) where
  abbrev n : ℕ
  n = length f.clauses

  fewer : length new ≤ length lines
  fewer =
      let long = zip_long n t.places t.places lines new t.from in
      elim (cases_lt 0 (length t.places)) [
        | inr none ↦ omega (arith, long, none)
        | inl some ↦ (
            let k = length t.places - 1 in
            let p = get_or t.places k 0 in
            let there = slice_get-get_or t.places k 0 (omega (arith, some)) in
            let within = needed_within lines p (place_needed f lines new accepted t k p there) in
            let at = below_at t.places t.rising k p there in
            let low = below_most t.places p t.rising in
            omega (arith, long, some, within, at, low))
      ]

  readable_line : (old line : Line) → line.lits ≡ old.lits → line.id ≡ new_number n t.places old.id → line.hints ≡ map (new_number n t.places) old.hints → IsReadableLine old → IsReadableLine line
  readable_line old line lits id hints r = record {
    id = (let most = number_at_most n t.places old.id t.rising in let low = r.id in omega (arith, id, most, low));
    lits = subst (All IsIdLiteral) (sym lits) r.lits;
    hints = subst (All IsId) (sym hints)
        (All-map IsId (new_number n t.places) old.hints
        (All-weaker IsId (λ h. IsId (new_number n t.places h))
        (λ h is. (number_at_least n t.places h is.0, (let most = number_at_most n t.places h t.rising in let low = is.1 in omega (arith, most, low)))) old.hints r.hints));
  }

  readable_lines : All IsReadableLine lines → All IsReadableLine new
  readable_lines each k d l =
      let line = get_or new k d in
      let z = zip_right n t.places t.places lines new t.from k line (slice_get-get_or new k d l) in
      let p = z.0 in
      let from = z.2 in
      let old : IsReadableLine from.old =
      subst IsReadableLine (get_or_from_slice_get lines p from.old from.old from.there) (each p from.old (slice_get_within lines p from.old from.there)) in
      readable_line from.old line from.renumbered.lemma from.renumbered.id from.renumbered.hints old

pub readable : (f : Formula) (lines new : Lines) → AreAccepted f lines.lines → AreTrimmed (length f.clauses) lines.lines new.lines → AreReadable lines → AreReadable new
readable f lines new accepted t r = record {
  few = (let less = fewer f lines.lines new.lines accepted t in let few = r.few in omega (arith, less, few));
  each = readable_lines f lines.lines new.lines accepted t r.each;
}

-- ---- goals

below_new : (k : ℕ) (refute : Option Lines) (lines new : Lines) → refute ≡ Some lines → (AreReadable lines → AreReadable new) → AreLinesBelow k refute → AreLinesBelow k (Some new)
below_new zero refute lines new is f below = absurd (none-some lines (sym below ∙ is))
below_new (suc k) refute lines new is f below = f (subst (λ (o : Option Lines). IsSomeAnd o AreReadable) is below)

printable_goal : {e : Encoding} {version : ℕ} {table : Table} {c : Claimed} {refute : Option Lines} → IsPrintableGoal version table c → AreTrimmedLines e table c refute
    → IsPrintableGoal version table (record c { refute = refute })
printable_goal (no_world name class a b) (no_lines none) = no_world name class a b
printable_goal (no_world name class a b) (needed {lines} to within right t) = absurd (none-some lines to.refute)
printable_goal (worked {claim} name good unpinned rows rounds claimed below) (no_lines none) =
    worked name good unpinned rows rounds claimed (subst (AreLinesBelow (refuted_below claim)) none below)
printable_goal (worked {claim} {refute} name good unpinned rows rounds claimed below) (needed {f} {lines} {new} to within right t) =
    worked name good unpinned rows rounds claimed
    (below_new (refuted_below claim) refute lines new to.refute (readable f lines new right.accepted t) below)

printable_goals : (e : Encoding) (version : ℕ) (table : Table) (cs ds : List Claimed) → AllZip (IsTrimmedGoal e table) cs ds → All (IsPrintableGoal version table) cs
    → All (IsPrintableGoal version table) ds
printable_goals e version table [] [] z all = all
printable_goals e version table [] (d ∷ ds) z all = absurd z
printable_goals e version table (c ∷ cs) [] z all = absurd z
printable_goals e version table (c ∷ cs) (d ∷ ds) z all =
    let goal = z.0 in
    All-cons (IsPrintableGoal version table) d ds
    (subst (IsPrintableGoal version table) (sym goal.is) (printable_goal (All-head (IsPrintableGoal version table) c cs all) goal.trimmed))
    (printable_goals e version table cs ds z.1 (All-tail (IsPrintableGoal version table) c cs all))

as_many : (P : Claimed → Claimed → Type 0) (cs ds : List Claimed) → AllZip P cs ds → length cs ≡ length ds
as_many P [] [] z = refl
as_many P [] (d ∷ ds) z = absurd z
as_many P (c ∷ cs) [] z = absurd z
as_many P (c ∷ cs) (d ∷ ds) z = ap suc (as_many P cs ds z.1)

-- ---- answers

pub printable_trimmed : (a new : AnswerText) → IsPrintable a → IsTrimmedAnswer a new → IsPrintable new
printable_trimmed a new p t =
    let e = encoding_named a.encoding in
    let many = as_many (IsTrimmedGoal e a.table) a.goals t.goals t.each in
    let some = p.few.0 in
    let most = p.few.1 in
    subst IsPrintable (sym t.is) (record {
      encoding = p.encoding;
      table = p.table;
      names = p.names;
      built_in = p.built_in;
      few = (omega (arith, many, some), omega (arith, many, most));
      goals = printable_goals e a.version a.table a.goals t.goals t.each p.goals;
    })

module _ (read : (answer : AnswerText) → IsPrintable answer → ReadsAnswer (answer_bytes answer) answer) (printable : (text : List ℕ) (answer : AnswerText) → ReadsAnswer text answer → IsPrintable answer) where
  by_report : (a : AnswerText) (text bytes : List ℕ) {status : Status} → ReadsAnswer text a → IsTrimReport a bytes status → status ≡ Done → (answer : AnswerText) × (new : AnswerText) × ReadsAnswer text answer × IsTrimmedAnswer answer new × ReadsAnswer bytes new
  by_report a text bytes reads (trimmed {new} whole printed) done =
      (a, new, reads, whole, subst (λ b. ReadsAnswer b new) (sym printed) (read new (printable_trimmed a new (printable text a reads) whole)))
  by_report a text bytes reads (rejected at goals each there bad printed) done = absurd (let e = done in cc)

  pub trimmed_is_read : (text bytes : List ℕ) → TrimsText text bytes Done → (answer : AnswerText) × (new : AnswerText) × ReadsAnswer text answer × IsTrimmedAnswer answer new × ReadsAnswer bytes new
  trimmed_is_read text bytes t = by_report t.answer text bytes t.reads t.report refl
