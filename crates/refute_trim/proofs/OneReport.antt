-- A text has one report at most when its refutations are trimmed.
use Rattle.std.proofs.Common.{◌≡◌, ℕ, zero, suc, ◌<◌, List, [], ◌∷◌, take, length, refl, sym, ap, subst, ◌∙◌, inl, inr, arith}
use Rattle.std.specs.Prelude.{Option, Some, slice_get}
use Rattle.std.specs.List.{AllZip}
use Rattle.std.proofs.lemmas.Bool.{cases_lt}
use Rattle.std.proofs.lemmas.Option.{none-some, same_Some}
use Rattle.answer_check.specs.Reports.{encoding_named, verdict_words}
use Rattle.answer_check.specs.declared.verdicts.Verdict.{Verdict}
use Rattle.answer_texts.specs.AnswerLines.{answer_bytes, refuted_cycles}
use Rattle.answer_texts.specs.ReadAnswers.{ReadsAnswer}
use Rattle.answer_texts.specs.declared.answers.AnswerText.{AnswerText}
use Rattle.answer_texts.specs.declared.answers.Claimed.{Claimed}
use Rattle.cnf_core.specs.Formula.{Formula}
use Rattle.cnf_core.specs.Refutation.{IsEmptyOnlyLast, IsFirstRefusal, Refutes}
use Rattle.cnf_core.specs.declared.line.Line.{Line}
use Rattle.cnf_core.specs.declared.line.Lines.{Lines}
use Rattle.cycle_encoding.specs.CycleFormula.{Listed}
use Rattle.cycle_encoding.specs.Encodings.{AreListed}
use Rattle.cycle_encoding.specs.Plans.{IsTooLarge}
use Rattle.cycle_encoding.specs.declared.encodings.Encoding.{Encoding}
use Rattle.reports.specs.declared.statuses.Status.{Status}
use Rattle.graph_meaning.specs.declared.graphs.LaunchGraph.{LaunchGraph}
use Rattle.machine_table.specs.declared.tables.Table.{Table}
use Rattle.order_encoding.specs.WholeFormula.{IsFormulaOf, whole_formula}
use Rattle.text_core.specs.LineTexts.{line_text}
use Rattle.refute_trim.specs.Trimmed.{AreTrimmed}
use Rattle.refute_trim.specs.TrimmedAnswers.{AreToRefute, AreTrimmedGoals, AreTrimmedLines, IsRejectedGoal, IsTrimReport, IsTrimmedGoal, TrimsText, needed, no_lines, refused, rejected, too_large, trimmed}
use Rattle.refute_trim.proofs.Alone.{one_way}

-- what the laws of the crates below say
pub record Laws : Type 0 where
  pub one_list : (e : Encoding) (g : LaunchGraph) (table : Table) (k : ℕ) (l m : Listed) → AreListed e g table k l → AreListed e g table k m → l ≡ m
  pub once : (f : Formula) (lines : List Line) (line other why because : ℕ) → IsFirstRefusal (IsEmptyOnlyLast lines) f lines line why → IsFirstRefusal (IsEmptyOnlyLast lines) f lines other because → (line ≡ other) × (why ≡ because)
  pub apart : (f : Formula) (lines : List Line) (line why : ℕ) → Refutes f lines → IsFirstRefusal (IsEmptyOnlyLast lines) f lines line why → ⊥
  pub one_answer : (text : List ℕ) (answer other : AnswerText) → ReadsAnswer text answer → ReadsAnswer text other → answer ≡ other

-- ---- places of lists

taken_at : (n at : ℕ) (cs : List Claimed) (c : Claimed) → at < n → slice_get cs at ≡ Some c → slice_get (take n cs) at ≡ Some c
taken_at zero at cs c lt there = absurd (omega (arith, lt))
taken_at (suc n) at [] c lt there = absurd (none-some c there)
taken_at (suc n) zero (x ∷ cs) c lt there = there
taken_at (suc n) (suc at) (x ∷ cs) c lt there = taken_at n at cs c (omega (arith, lt)) there

zipped_at : (P : Claimed → Claimed → Type 0) (cs ds : List Claimed) (at : ℕ) (c : Claimed) → AllZip P cs ds → slice_get cs at ≡ Some c → (d : Claimed) × P c d
zipped_at P [] ds at c z there = absurd (none-some c there)
zipped_at P (x ∷ cs) [] at c z there = absurd z
zipped_at P (x ∷ cs) (d ∷ ds) zero c z there = (d, subst (λ y. P y d) (same_Some x c there) z.0)
zipped_at P (x ∷ cs) (d ∷ ds) (suc at) c z there = zipped_at P cs ds at c z.1 there

same_lines : (one other : Lines) → one.lines ≡ other.lines → one ≡ other
same_lines one other e = λ i. record { lines = e i }

module _ (laws : Laws) where
  -- ---- a goal

  module _ {e : Encoding} {table : Table} {c : Claimed} {f h : Formula} {lines others : Lines} (x : AreToRefute e table c f lines) (y : AreToRefute e table c h others) where
    same_formula : f ≡ h
    same_formula =
        let graph : x.graph ≡ y.graph = same_Some x.graph y.graph (sym x.printed ∙ y.printed) in
        let k = refuted_cycles c.claim in
        let a : IsFormulaOf e y.graph table k f = subst (λ g. IsFormulaOf e g table k f) graph x.formula in
        let b = y.formula in
        a.is ∙ ap (whole_formula y.graph table k) (laws.one_list e y.graph table k a.lists b.lists a.listed b.listed) ∙ sym b.is

    same_refutation : lines ≡ others
    same_refutation = same_Some lines others (sym x.refute ∙ y.refute)

  trimmed_once : {e : Encoding} {table : Table} {c : Claimed} {one other : Option Lines} → AreTrimmedLines e table c one → AreTrimmedLines e table c other → one ≡ other
  trimmed_once (no_lines none) (no_lines also) = refl
  trimmed_once (no_lines none) (needed {lines} to within right t) = absurd (none-some lines (sym none ∙ to.refute))
  trimmed_once (needed {lines} to within right t) (no_lines none) = absurd (none-some lines (sym none ∙ to.refute))
  trimmed_once (needed {f} {lines} {new} to within right t) (needed {f = h} {lines = others} {new = other} by_other low refutes s) =
      let moved : AreTrimmed (length f.clauses) others.lines other.lines = subst (λ (x : Formula). AreTrimmed (length x.clauses) others.lines other.lines) (same_formula by_other to) s in
      let again : AreTrimmed (length f.clauses) lines.lines other.lines = subst (λ (l : Lines). AreTrimmed (length f.clauses) l.lines other.lines) (same_refutation by_other to) moved in
      ap Some (same_lines new other (one_way (length f.clauses) lines.lines new.lines other.lines t again))

  goal_once : (e : Encoding) (table : Table) (c d x : Claimed) → IsTrimmedGoal e table c d → IsTrimmedGoal e table c x → d ≡ x
  goal_once e table c d x one other = one.is ∙ ap (λ (r : Option Lines). record c { refute = r }) (trimmed_once one.trimmed other.trimmed) ∙ sym other.is

  rejected_once : {e : Encoding} {table : Table} {c : Claimed} {v w : Verdict} → IsRejectedGoal e table c v → IsRejectedGoal e table c w → v ≡ w
  rejected_once (too_large {f} to passes) (too_large {f = h} by_other also) =
      let same = same_formula to by_other in
      let vars = passes.1 ∙ ap (λ (x : Formula). x.vars) same ∙ sym also.1 in
      let clauses = passes.2 ∙ ap (λ (x : Formula). length x.clauses) same ∙ sym also.2 in
      cc
  rejected_once (too_large to passes) (refused by_other within first) = absurd (within (subst IsTooLarge (same_formula to by_other) passes.0))
  rejected_once (refused to within first) (too_large by_other passes) = absurd (within (subst IsTooLarge (same_formula by_other to) passes.0))
  rejected_once (refused {f} {lines} {line} {why} to within first) (refused {f = h} {lines = others} {line = other} {why = because} by_other low second) =
      let moved : IsFirstRefusal (IsEmptyOnlyLast lines.lines) f lines.lines other because =
      subst (λ (l : Lines). IsFirstRefusal (IsEmptyOnlyLast l.lines) f l.lines other because) (same_refutation by_other to)
      (subst (λ (x : Formula). IsFirstRefusal (IsEmptyOnlyLast others.lines) x others.lines other because) (same_formula by_other to) second) in
      let same = laws.once f lines.lines line other why because first moved in
      let at = same.0 in
      let reason = same.1 in
      cc

  never_both : {e : Encoding} {table : Table} {c : Claimed} {refute : Option Lines} {v : Verdict} → AreTrimmedLines e table c refute → IsRejectedGoal e table c v → ⊥
  never_both (no_lines none) (too_large {lines} to passes) = none-some lines (sym none ∙ to.refute)
  never_both (no_lines none) (refused {lines} to within first) = none-some lines (sym none ∙ to.refute)
  never_both (needed to within right t) (too_large by_other passes) = within (subst IsTooLarge (same_formula by_other to) passes.0)
  never_both (needed {f} {lines} to within right t) (refused {f = h} {lines = others} {line} {why} by_other low first) =
      laws.apart f lines.lines line why right
      (subst (λ (l : Lines). IsFirstRefusal (IsEmptyOnlyLast l.lines) f l.lines line why) (same_refutation by_other to)
      (subst (λ (x : Formula). IsFirstRefusal (IsEmptyOnlyLast others.lines) x others.lines line why) (same_formula by_other to) first))

  -- ---- all goals

  goals_once : (e : Encoding) (table : Table) (cs ds xs : List Claimed) → AllZip (IsTrimmedGoal e table) cs ds → AllZip (IsTrimmedGoal e table) cs xs → ds ≡ xs
  goals_once e table [] [] [] z w = refl
  goals_once e table [] [] (x ∷ xs) z w = absurd w
  goals_once e table [] (d ∷ ds) xs z w = absurd z
  goals_once e table (c ∷ cs) [] xs z w = absurd z
  goals_once e table (c ∷ cs) (d ∷ ds) [] z w = absurd w
  goals_once e table (c ∷ cs) (d ∷ ds) (x ∷ xs) z w =
      let first = goal_once e table c d x z.0 w.0 in
      let rest = goals_once e table cs ds xs z.1 w.1 in
      λ i. first i ∷ rest i

  -- a goal among those that are trimmed isn't rejected
  not_among : (a : AnswerText) (cs ds : List Claimed) (at : ℕ) (c : Claimed) {v : Verdict} → AreTrimmedGoals a cs ds → slice_get cs at ≡ Some c → IsRejectedGoal (encoding_named a.encoding) a.table c v → ⊥
  not_among a cs ds at c each there bad =
      let found = zipped_at (IsTrimmedGoal (encoding_named a.encoding) a.table) cs ds at c each there in
      let goal = found.1 in
      never_both goal.trimmed bad

  -- ---- reports

  report_once : (a : AnswerText) (bytes others : List ℕ) {status other : Status} → IsTrimReport a bytes status → IsTrimReport a others other → (bytes ≡ others) × (status ≡ other)
  report_once a bytes others (trimmed {new} whole is) (trimmed {new = kept} also is_also) =
      let goals = goals_once (encoding_named a.encoding) a.table a.goals whole.goals also.goals whole.each also.each in
      let same : new ≡ kept = whole.is ∙ ap (λ (gs : List Claimed). record a { goals = gs }) goals ∙ sym also.is in
      (is ∙ ap answer_bytes same ∙ sym is_also, refl)
  report_once a bytes others (trimmed whole is) (rejected at goals {c} each there bad printed) = absurd (not_among a a.goals whole.goals at c whole.each there bad)
  report_once a bytes others (rejected at goals {c} each there bad printed) (trimmed whole is) = absurd (not_among a a.goals whole.goals at c whole.each there bad)
  report_once a bytes others (rejected at goals {c} {v} each there bad printed) (rejected place before {c = d} {v = w} each_too there_too bad_too printed_too) =
      elim (cases_lt at place) [
        | inl lt ↦ absurd (not_among a (take place a.goals) before at c each_too (taken_at place at a.goals c lt there) bad)
        | inr le ↦ elim (cases_lt place at) [
          | inl gt ↦ absurd (not_among a (take at a.goals) goals place d each (taken_at at place a.goals d gt there_too) bad_too)
          | inr ge ↦ (
              let same_place : place ≡ at = omega (arith, le, ge) in
              let same : d ≡ c = same_Some d c (sym there_too ∙ ap (slice_get a.goals) same_place ∙ there) in
              let verdict : w ≡ v = rejected_once (subst (λ (x : Claimed). IsRejectedGoal (encoding_named a.encoding) a.table x w) same bad_too) bad in
              let told : verdict_words d w ≡ verdict_words c v = ap (λ (x : Claimed). verdict_words x w) same ∙ ap (verdict_words c) verdict in
              (printed ∙ ap line_text (sym told) ∙ sym printed_too, refl))
        ]
      ]

  pub text_once : (text bytes others : List ℕ) (status other : Status) → TrimsText text bytes status → TrimsText text others other → (bytes ≡ others) × (status ≡ other)
  text_once text bytes others status other one two =
      let same : two.answer ≡ one.answer = laws.one_answer text two.answer one.answer two.reads one.reads in
      report_once one.answer bytes others one.report (subst (λ (x : AnswerText). IsTrimReport x others other) same two.report)
