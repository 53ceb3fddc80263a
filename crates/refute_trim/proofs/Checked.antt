-- What `check` says of trimmed goals.
use Rattle.std.proofs.Common.{◌≡◌, ℕ, Bool, true, false, List, [], ◌∷◌, length, refl, sym, ap, subst, ◌∙◌, arith}
use Rattle.std.specs.Prelude.{Option, IfSome, IsTrue, is_some, ◌||◌}
use Rattle.std.proofs.lemmas.Bool.{false≢true}
use Rattle.std.specs.List.{AllZip, list_any}
use Rattle.answer_check.specs.Reports.{IsCheckReport, IsJudged, encoding_named, is_rejection, verdict_lines, verdict_words}
use Rattle.answer_check.specs.Verdicts.{IsOutcome, IsVerdict, seen, tested}
use Rattle.answer_check.specs.declared.verdicts.Verdict.{Verdict}
use Rattle.answer_check.specs.declared.verdicts.Verdict.TheVariants.{Holds, Seen, Broken, Listing, Size, Refutation, Lemmas}
use Rattle.answer_texts.specs.AnswerLines.{refuted_cycles}
use Rattle.answer_texts.specs.declared.answers.AnswerText.{AnswerText}
use Rattle.answer_texts.specs.declared.answers.Claimed.{Claimed}
use Rattle.cnf_core.specs.Formula.{Formula}
use Rattle.cnf_core.specs.Refutation.{Refutes}
use Rattle.cnf_core.specs.declared.line.Line.{Line}
use Rattle.cnf_core.specs.declared.line.Lines.{Lines}
use Rattle.cycle_encoding.specs.Plans.{IsTooLarge}
use Rattle.cycle_encoding.specs.Allocations.{allocation_of}
use Rattle.cycle_encoding.specs.declared.encodings.Encoding.{Encoding}
use Rattle.machine_table.specs.declared.tables.Table.{Table}
use Rattle.text_core.specs.LineTexts.{Words, lines_text}
use Rattle.refute_trim.specs.Trimmed.{AreTrimmed}
use Rattle.refute_trim.specs.TrimmedAnswers.{AreTrimmedLines, IsTrimmedAnswer, IsTrimmedGoal, needed, no_lines}
use Rattle.refute_trim.proofs.Accepted.{ids}
use Rattle.refute_trim.proofs.Refuting.{refutes}

-- ---- a verdict that holds

-- two formulas that the same lines refute have as many clauses
same_count : (f g : Formula) (lines : List Line) → Refutes f lines → Refutes g lines → length f.clauses ≡ length g.clauses
same_count f g lines rf rg =
    let none : Line = record { id = 0; lits = []; hints = [] } in
    let first = rf.some in
    let a = ids f lines rf.accepted 0 none (omega (arith, first)) in
    let b = ids g lines rg.accepted 0 none (omega (arith, first)) in
    omega (arith, a, b)

still_refute : (f g : Formula) (lines new : List Line) → Refutes f lines → AreTrimmed (length f.clauses) lines new → Refutes g lines → Refutes g new
still_refute f g lines new rf t rg =
    let ours : AreTrimmed (length g.clauses) lines new = subst (λ n. AreTrimmed n lines new) (same_count f g lines rf rg) t in
    refutes g lines new rg.accepted ours rg

refuting : {e : Encoding} {table : Table} {c : Claimed} {refute : Option Lines} (g : Formula) → AreTrimmedLines e table c refute → IfSome c.refute (λ (l : Lines). Refutes g l.lines) → IfSome refute (λ (l : Lines). Refutes g l.lines)
refuting g (no_lines none) h = tt
refuting g (needed {f} {lines} {new} to within right t) h =
    still_refute f g lines.lines new.lines right t (subst (λ (o : Option Lines). IfSome o (λ (l : Lines). Refutes g l.lines)) to.refute h)

within_limits : {e : Encoding} {table : Table} {c : Claimed} {refute : Option Lines} (g : Formula) → AreTrimmedLines e table c refute → (IsTrue (is_some c.refute) → ¬ IsTooLarge g) → IsTrue (is_some refute) → ¬ IsTooLarge g
within_limits g (no_lines none) h some = absurd (false≢true some)
within_limits g (needed {lines} to within right t) h some = h (ap (λ (o : Option Lines). is_some o) to.refute)

holds_with : (e : Encoding) (table : Table) (c : Claimed) (refute : Option Lines) (v : Verdict) → AreTrimmedLines e table c refute → IsVerdict e table c v → v ≡ Holds → IsVerdict e table (record c { refute = refute }) v
holds_with e table c refute v lines (seen claim is) holds = seen claim is
holds_with e table c refute v lines (tested {g} {clauses_for} printed formulas o) holds =
    let was : IsOutcome table (allocation_of e) g clauses_for c Holds = subst (IsOutcome table (allocation_of e) g clauses_for c) holds o in
    let f = clauses_for (refuted_cycles c.claim) in
    tested {g = g} {clauses_for = clauses_for} printed formulas
    (subst (IsOutcome table (allocation_of e) g clauses_for (record c { refute = refute })) (sym holds)
    (was.0, was.1, within_limits f lines was.2, was.3, refuting f lines was.4, was.5))

seen_with : (e : Encoding) (table : Table) (c : Claimed) (refute : Option Lines) (v : Verdict) → IsVerdict e table c v → v ≡ Seen → IsVerdict e table (record c { refute = refute }) v
seen_with e table c refute v (seen claim is) nothing = seen claim is
seen_with e table c refute v (tested {g} {clauses_for} printed formulas o) nothing = absurd (subst (IsOutcome table (allocation_of e) g clauses_for c) nothing o)

-- ---- a goal's verdict and its line

judged_with : (e : Encoding) (table : Table) (c : Claimed) (refute : Option Lines) (v : Verdict) → AreTrimmedLines e table c refute → is_rejection v ≡ false → IsJudged e table c v → IsJudged e table (record c { refute = refute }) v
judged_with e table c refute Holds lines kept j = record {
  verdict = holds_with e table c refute Holds lines j.verdict refl;
  sound = λ holds. (let s = j.sound holds in record { graph = s.graph; printed = s.printed; clauses_for = s.clauses_for; formulas = s.formulas; claim = s.claim });
}
judged_with e table c refute Seen lines kept j = record {
  verdict = seen_with e table c refute Seen j.verdict refl;
  sound = λ holds. absurd (let is = holds in cc);
}
judged_with e table c refute (Broken launch rule) lines kept j = absurd (false≢true (sym kept))
judged_with e table c refute Listing lines kept j = absurd (false≢true (sym kept))
judged_with e table c refute (Size vars clauses) lines kept j = absurd (false≢true (sym kept))
judged_with e table c refute (Refutation k line why) lines kept j = absurd (false≢true (sym kept))
judged_with e table c refute (Lemmas k line why) lines kept j = absurd (false≢true (sym kept))

words_with : (c : Claimed) (refute : Option Lines) (v : Verdict) → verdict_words (record c { refute = refute }) v ≡ verdict_words c v
words_with c refute Holds = refl
words_with c refute Seen = refl
words_with c refute (Broken launch rule) = refl
words_with c refute Listing = refl
words_with c refute (Size vars clauses) = refl
words_with c refute (Refutation k line why) = refl
words_with c refute (Lemmas k line why) = refl

-- ---- all goals

neither : (a b : Bool) → (a || b) ≡ false → (a ≡ false) × (b ≡ false)
neither true b is = absurd (false≢true (sym is))
neither false b is = (refl, is)

judged_all : (e : Encoding) (table : Table) (cs ds : List Claimed) (vs : List Verdict) → AllZip (IsTrimmedGoal e table) cs ds → AllZip (IsJudged e table) cs vs → list_any is_rejection vs ≡ false → AllZip (IsJudged e table) ds vs
judged_all e table [] [] vs z j kept = j
judged_all e table [] (d ∷ ds) vs z j kept = absurd z
judged_all e table (c ∷ cs) [] vs z j kept = absurd z
judged_all e table (c ∷ cs) (d ∷ ds) [] z j kept = absurd j
judged_all e table (c ∷ cs) (d ∷ ds) (v ∷ vs) z j kept =
    let t = z.0 in
    let none = neither (is_rejection v) (list_any is_rejection vs) kept in
    (subst (λ (x : Claimed). IsJudged e table x v) (sym t.is) (judged_with e table c t.refute v t.trimmed none.0 j.0), judged_all e table cs ds vs z.1 j.1 none.1)

same_verdict_lines : (e : Encoding) (table : Table) (cs ds : List Claimed) (vs : List Verdict) → AllZip (IsTrimmedGoal e table) cs ds → verdict_lines ds vs ≡ verdict_lines cs vs
same_verdict_lines e table [] [] vs z = refl
same_verdict_lines e table [] (d ∷ ds) vs z = absurd z
same_verdict_lines e table (c ∷ cs) [] vs z = absurd z
same_verdict_lines e table (c ∷ cs) (d ∷ ds) [] z = refl
same_verdict_lines e table (c ∷ cs) (d ∷ ds) (v ∷ vs) z =
    let t = z.0 in
    let first : verdict_words d v ≡ verdict_words c v = ap (λ (x : Claimed). verdict_words x v) t.is ∙ words_with c t.refute v in
    ap (λ (w : Words). w ∷ verdict_lines ds vs) first ∙ ap (λ (t : List Words). verdict_words c v ∷ t) (same_verdict_lines e table cs ds vs z.1)

-- an answer whose claims are all accepted is accepted with its refutations trimmed, and the same lines say so
pub still_accepted : (a new : AnswerText) (bytes : List ℕ) → IsTrimmedAnswer a new → IsCheckReport a bytes false → IsCheckReport new bytes false
still_accepted a new bytes t r =
    let e = encoding_named a.encoding in
    subst (λ (x : AnswerText). IsCheckReport x bytes false) (sym t.is) (record {
      verdicts = r.verdicts;
      judged = judged_all e a.table a.goals t.goals r.verdicts t.each r.judged (sym r.rejects);
      is = r.is ∙ ap lines_text (sym (same_verdict_lines e a.table a.goals t.goals r.verdicts t.each));
      rejects = r.rejects;
    })
