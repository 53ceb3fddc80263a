-- Goals one after another, with their lines trimmed.
use Rattle.std.proofs.Common.{◌≡◌, ℕ, ◌+◌, ◌<◌, ◌≤◌, List, [], ◌∷◌, ◌++◌, length, take, get_or, refl, sym, ap, subst, ◌∙◌, append_assoc, append-nil}
use Rattle.std.specs.Prelude.{Some}
use Rattle.std.specs.List.{AllZip, flat_map}
use Rattle.std.proofs.lemmas.List.{take_all, take_more}
use Rattle.std.proofs.lemmas.List.Concat.{flat_map-cons}
use Rattle.std.proofs.lemmas.Grind.{flat_map-append}
use Rattle.std.proofs.lemmas.Option.{slice_get-get_or}
use Rattle.answer_check.specs.Reports.{encoding_named, verdict_words}
use Rattle.answer_check.specs.declared.verdicts.Verdict.{Verdict}
use Rattle.answer_texts.specs.AnswerLines.{goal_lines, head_lines}
use Rattle.answer_texts.specs.declared.answers.AnswerText.{AnswerText}
use Rattle.answer_texts.specs.declared.answers.Claimed.{Claimed}
use Rattle.reports.specs.declared.statuses.Status.TheVariants.{Done, Missing}
use Rattle.machine_table.specs.declared.tables.Table.{Table}
use Rattle.text_core.specs.LineTexts.{line_text, lines_text}
use Rattle.refute_trim.specs.Outcomes.{IsPutTrimmed}
use Rattle.refute_trim.specs.TrimmedAnswers.{AreTrimmedGoals, IsRejectedGoal, IsTrimReport, IsTrimmedGoal, trimmed, rejected}

one_more : (P : Claimed → Claimed → Type 0) (cs ds : List Claimed) (c d : Claimed) → AllZip P cs ds → P c d → AllZip P (cs ++ c ∷ []) (ds ++ d ∷ [])
one_more P [] [] c d z p = (p, tt)
one_more P [] (y ∷ ds) c d z p = absurd z
one_more P (x ∷ cs) [] c d z p = absurd z
one_more P (x ∷ cs) (y ∷ ds) c d z p = (z.0, one_more P cs ds c d z.1 p)

-- the first goals are trimmed, and the text has the head and their lines
pub record AreTrimmedTo (a : AnswerText) (at : ℕ) (text : List ℕ) : Type 0 where
  pub goals : List Claimed
  pub each : AreTrimmedGoals a (take at a.goals) goals
  pub is : text ≡ lines_text (head_lines a.version a.encoding a.table a.builtin a.library) ++ lines_text (flat_map (goal_lines a.table) goals)

pub trimmed_none : (a : AnswerText) (text : List ℕ) → text ≡ lines_text (head_lines a.version a.encoding a.table a.builtin a.library) → AreTrimmedTo a 0 text
trimmed_none a text is = record {
  goals = [];
  each = tt;
  is = is ∙ sym (append-nil (lines_text (head_lines a.version a.encoding a.table a.builtin a.library)));
}

goal_behind : (table : Table) (goals : List Claimed) (c : Claimed) → lines_text (flat_map (goal_lines table) (goals ++ c ∷ [])) ≡ lines_text (flat_map (goal_lines table) goals) ++ lines_text (goal_lines table c)
goal_behind table goals c =
    ap lines_text (flat_map-append (goal_lines table) goals (c ∷ []) ∙ ap (λ t. flat_map (goal_lines table) goals ++ t) (flat_map-cons (goal_lines table) c [] ∙ append-nil (goal_lines table c)))
    ∙ flat_map-append line_text (flat_map (goal_lines table) goals) (goal_lines table c)

pub trimmed_more : (a : AnswerText) (shown : List Claimed) (at : ℕ) (text new : List ℕ) (c : Claimed) → shown ≡ a.goals → at < length shown → c ≡ get_or shown at c → AreTrimmedTo a at text → IsPutTrimmed (encoding_named a.encoding) a.table c text new → AreTrimmedTo a (at + 1) new
trimmed_more a shown at text new c same lt is so_far put =
    let head = lines_text (head_lines a.version a.encoding a.table a.builtin a.library) in
    let d = record c { refute = put.refute } in
    let here : c ≡ get_or a.goals at c = subst (λ (gs : List Claimed). c ≡ get_or gs at c) same is in
    let within : at < length a.goals = subst (λ (gs : List Claimed). at < length gs) same lt in
    let next : take (at + 1) a.goals ≡ take at a.goals ++ c ∷ [] = take_more a.goals at c within ∙ ap (λ (x : Claimed). take at a.goals ++ x ∷ []) (sym here) in
    record {
      goals = so_far.goals ++ d ∷ [];
      each = subst (λ (cs : List Claimed). AreTrimmedGoals a cs (so_far.goals ++ d ∷ [])) (sym next)
          (one_more (IsTrimmedGoal (encoding_named a.encoding) a.table) (take at a.goals) so_far.goals c d so_far.each (record { refute = put.refute; trimmed = put.trimmed; is = refl }));
      is = put.is ∙ ap (λ t. t ++ lines_text (goal_lines a.table d)) so_far.is
          ∙ append_assoc head (lines_text (flat_map (goal_lines a.table) so_far.goals)) (lines_text (goal_lines a.table d))
          ∙ ap (λ t. head ++ t) (sym (goal_behind a.table so_far.goals d));
    }

pub trimmed_all : (a : AnswerText) (at : ℕ) (text : List ℕ) → length a.goals ≤ at → AreTrimmedTo a at text → IsTrimReport a text Done
trimmed_all a at text end all =
    trimmed {new = record a { goals = all.goals }}
    (record {
      goals = all.goals;
      each = subst (λ (cs : List Claimed). AreTrimmedGoals a cs all.goals) (take_all at a.goals end) all.each;
      is = refl;
    })
    (all.is ∙ sym (flat_map-append line_text (head_lines a.version a.encoding a.table a.builtin a.library) (flat_map (goal_lines a.table) all.goals)))

pub rejected_at : (a : AnswerText) (shown : List Claimed) (at : ℕ) (text bytes : List ℕ) (c : Claimed) (v : Verdict) → shown ≡ a.goals → at < length shown → c ≡ get_or shown at c → AreTrimmedTo a at text → IsRejectedGoal (encoding_named a.encoding) a.table c v → bytes ≡ line_text (verdict_words c v) → IsTrimReport a bytes Missing
rejected_at a shown at text bytes c v same lt is so_far bad printed =
    let here : c ≡ get_or a.goals at c = subst (λ (gs : List Claimed). c ≡ get_or gs at c) same is in
    let within : at < length a.goals = subst (λ (gs : List Claimed). at < length gs) same lt in
    rejected at so_far.goals so_far.each (slice_get-get_or a.goals at c within ∙ ap Some (sym here)) bad printed
