-- The lines of an answer and of the trimmed one, goal by goal.
use Rattle.std.proofs.Common.{◌≡◌, ℕ, List, [], ◌∷◌, ◌++◌, refl, sym, ap, subst, ◌∙◌, append_assoc}
use Rattle.std.specs.Prelude.{Option, None, Some, All}
use Rattle.std.specs.List.{AllZip, flat_map}
use Rattle.std.proofs.lemmas.List.Concat.{flat_map-cons}
use Rattle.std.proofs.lemmas.List.Elements.{All-cons, All-nil}
use Rattle.answer_check.specs.Reports.{encoding_named}
use Rattle.answer_texts.specs.AnswerLines.{answer_bytes, claim_part, end_words, goal_lines, goal_words, graph_part, head_lines, lemmas_part, refute_part, refuted_cycles}
use Rattle.answer_texts.specs.declared.answers.AnswerText.{AnswerText}
use Rattle.answer_texts.specs.declared.answers.Claimed.{Claimed}
use Rattle.cnf_core.specs.declared.line.Lines.{Lines}
use Rattle.cycle_encoding.specs.declared.encodings.Encoding.{Encoding}
use Rattle.reports.specs.declared.statuses.Status.{Status}
use Rattle.reports.specs.declared.statuses.Status.TheVariants.{Done}
use Rattle.machine_table.specs.declared.tables.Table.{Table}
use Rattle.text_core.specs.LineTexts.{Words, lines_text}
use Rattle.refute_trim.specs.OtherLines.{DifferInRefutations, GoalParts, IsTrimmedTo, needed_lines, new_lines, no_refutation, old_lines}
use Rattle.refute_trim.specs.TrimmedAnswers.{AreTrimmedLines, IsTrimReport, IsTrimmedGoal, TrimsText, needed, no_lines, rejected, trimmed}

left : {e : Encoding} {table : Table} {c : Claimed} {refute : Option Lines} → AreTrimmedLines e table c refute → IsTrimmedTo c.refute refute
left (no_lines none) = subst (λ o. IsTrimmedTo o None) (sym none) no_refutation
left (needed {new} to within right t) = subst (λ o. IsTrimmedTo o (Some new)) (sym to.refute) (needed_lines t)

abbrev front_of : Table → Claimed → List Words
front_of table c = goal_words c.name ∷ (graph_part c.rounds c.stop c.graph ++ claim_part table c.graph c.claim)

abbrev back_of : Claimed → List Words
back_of c = lemmas_part c.claim ++ (end_words ∷ [])

abbrev parts_of : Table → Claimed → Option Lines → GoalParts
parts_of table c refute = record {
  front = front_of table c;
  cycles = refuted_cycles c.claim;
  old = c.refute;
  new = refute;
  back = back_of c;
}

-- a goal's lines with any refutation
lines_with : (table : Table) (c : Claimed) (refute : Option Lines) → goal_lines table (record c { refute = refute }) ≡ front_of table c ++ (refute_part (refuted_cycles c.claim) refute ++ back_of c)
lines_with table c refute =
    ap (λ (t : List Words). goal_words c.name ∷ t)
    (sym (append_assoc (graph_part c.rounds c.stop c.graph) (claim_part table c.graph c.claim) (refute_part (refuted_cycles c.claim) refute ++ back_of c)))

record AreSplit (table : Table) (goals others : List Claimed) : Type 0 where
  parts : List GoalParts
  old : flat_map (goal_lines table) goals ≡ flat_map old_lines parts
  new : flat_map (goal_lines table) others ≡ flat_map new_lines parts
  each : All (λ (p : GoalParts). IsTrimmedTo p.old p.new) parts

split : (e : Encoding) (table : Table) (cs ds : List Claimed) → AllZip (IsTrimmedGoal e table) cs ds → AreSplit table cs ds
split e table [] [] z = record { parts = []; old = refl; new = refl; each = All-nil (λ (p : GoalParts). IsTrimmedTo p.old p.new) }
split e table [] (d ∷ ds) z = absurd z
split e table (c ∷ cs) [] z = absurd z
split e table (c ∷ cs) (d ∷ ds) z =
    let goal = z.0 in
    let rest = split e table cs ds z.1 in
    let parts = parts_of table c goal.refute in
    record {
      parts = parts ∷ rest.parts;
      old = flat_map-cons (goal_lines table) c cs
          ∙ ap (λ (t : List Words). t ++ flat_map (goal_lines table) cs) (lines_with table c c.refute)
          ∙ ap (λ (t : List Words). old_lines parts ++ t) rest.old
          ∙ sym (flat_map-cons old_lines parts rest.parts);
      new = flat_map-cons (goal_lines table) d ds
          ∙ ap (λ (x : Claimed). goal_lines table x ++ flat_map (goal_lines table) ds) goal.is
          ∙ ap (λ (t : List Words). t ++ flat_map (goal_lines table) ds) (lines_with table c goal.refute)
          ∙ ap (λ (t : List Words). new_lines parts ++ t) rest.new
          ∙ sym (flat_map-cons new_lines parts rest.parts);
      each = All-cons (λ (p : GoalParts). IsTrimmedTo p.old p.new) parts rest.parts (left goal.trimmed) rest.each;
    }

by_report : (a : AnswerText) (text bytes : List ℕ) {status : Status} → text ≡ answer_bytes a → IsTrimReport a bytes status → status ≡ Done → DifferInRefutations text bytes
by_report a text bytes is (trimmed whole printed) done =
    let head = head_lines a.version a.encoding a.table a.builtin a.library in
    let s = split (encoding_named a.encoding) a.table a.goals whole.goals whole.each in
    record {
      head = head;
      goals = s.parts;
      old = is ∙ ap (λ (t : List Words). lines_text (head ++ t)) s.old;
      new = printed ∙ ap answer_bytes whole.is ∙ ap (λ (t : List Words). lines_text (head ++ t)) s.new;
      trimmed = s.each;
    }
by_report a text bytes is (rejected at goals each there bad printed) done = absurd (let e = done in cc)

pub only_refutations : (text bytes : List ℕ) → TrimsText text bytes Done → DifferInRefutations text bytes
only_refutations text bytes t = by_report t.answer text bytes t.text_is t.report refl
