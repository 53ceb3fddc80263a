-- A text is one program or has one first fault.
use Rattle.std.proofs.Common.{◌≡◌, ℕ, ◌<◌, ◌≤◌, List, length, sym, ap, subst, ◌∙◌, arith}
use Rattle.std.proofs.lemmas.List.{take_all}
use Rattle.text_core.specs.Lines.{Line, HasLines, IsFirstLineFault, line_at}
use Rattle.text_core.specs.LineTexts.{Words, words_of_lines}
use Rattle.text_core.specs.declared.faults.Kind.{Kind}
use Rattle.run_texts.specs.declared.texts.RunText.{RunText}
use Rattle.run_texts.specs.RunTexts.{IsRunText}
use Rattle.run_texts.specs.RunFaults.{word_count, IsWithinLimits, IsRunFaultAt, bad_line, past_limit, IsFirstRunFault, IsRunFault, of_lines, of_run, ReadsRun}
use Rattle.run_texts.specs.Reports.{CanRun}
use Rattle.run_texts.specs.SoFar.{IsRunTextTo}
use Rattle.run_texts.proofs.LastLines.{made}
use Rattle.run_texts.proofs.FirstFaults.{same_run, no_fault_before}
use Rattle.run_texts.proofs.FrontWords.{count_is}

same_program : (run other : RunText) → run.words ≡ other.words → run.registers ≡ other.registers → run.places ≡ other.places → run ≡ other
same_program run other e f g =
    ap (λ ws. made ws run.registers run.places) e ∙ ap (λ rs. made other.words rs run.places) f ∙ ap (λ ps. made other.words other.registers ps) g

-- the lines that were all read are the program
pub whole_read : (text : List ℕ) (lines : List Line) (run : RunText) → HasLines text lines → (n : ℕ) → length (words_of_lines lines) ≤ n
    → IsRunTextTo (words_of_lines lines) n run → ReadsRun text run
whole_read text lines run split n all h =
    let is : IsRunText (word_count (words_of_lines lines)) (words_of_lines lines) run =
    subst (λ l. IsRunText (word_count (words_of_lines lines)) l run) (take_all n (words_of_lines lines) all) h.is in
    record {
      lines = lines;
      split = split;
      is = subst (λ k. IsRunText k (words_of_lines lines) run) (count_is (word_count (words_of_lines lines)) (words_of_lines lines) run is) is;
      within = h.within;
    }

counted : (lines : List Words) (run : RunText) → IsRunText (length run.words) lines run → IsRunText (word_count lines) lines run
counted lines run h = subst (λ k. IsRunText k lines run) (sym (count_is (length run.words) lines run h)) h

pub read_can_run : (text : List ℕ) (run : RunText) → ReadsRun text run → CanRun run
read_can_run text run h =
    record {
      few = (let few = h.within.words in omega arith);
      stand = h.is.stand;
      registers = λ k d lt. (h.is.registers.each k d lt).0;
    }

module _ (one_lines : (text : List ℕ) (lines others : List Line) → HasLines text lines → HasLines text others → lines ≡ others)
    (apart_lines : (text : List ℕ) (lines : List Line) (place : ℕ) (kind : Kind) → HasLines text lines → IsFirstLineFault text place kind → ⊥)
    (first_lines : (text : List ℕ) (place other : ℕ) (kind another : Kind) → IsFirstLineFault text place kind → IsFirstLineFault text other another → (place ≡ other) × (kind ≡ another)) where
  pub one_reading : (text : List ℕ) (run other : RunText) → ReadsRun text run → ReadsRun text other → run ≡ other
  one_reading text run other h g =
      let same : g.lines ≡ h.lines = one_lines text g.lines h.lines g.split h.split in
      let l : List Words = words_of_lines h.lines in
      let there : IsRunText (word_count l) l other =
      subst (λ (ls : List Line). IsRunText (word_count (words_of_lines ls)) (words_of_lines ls) other) same (counted (words_of_lines g.lines) other g.is) in
      let e = same_run (word_count l) l run other (counted l run h.is) there in
      same_program run other e.0 e.1 e.2

  no_line_fault : (lines : List Line) (run : RunText) → IsRunText (length run.words) (words_of_lines lines) run → IsWithinLimits run
      → (place : ℕ) (kind : Kind) → IsFirstRunFault lines place kind → ⊥
  no_line_fault lines run h within place kind f =
      no_fault_before (words_of_lines lines) (length (words_of_lines lines)) run (omega arith)
      (record {
        is = subst (λ l. IsRunText (word_count (words_of_lines lines)) l run) (sym (take_all (length (words_of_lines lines)) (words_of_lines lines) (omega arith))) (counted (words_of_lines lines) run h);
        within = within;
      }) f.at kind (among f.found) f.found
    where
      among : IsRunFaultAt (words_of_lines lines) f.at kind → f.at < length (words_of_lines lines)
      among (bad_line lt before never is) = lt
      among (past_limit lt there past is) = lt

  pub no_fault : (text : List ℕ) (run : RunText) (place : ℕ) (kind : Kind) → ReadsRun text run → IsRunFault text place kind → ⊥
  no_fault text run place kind h (of_lines f) = apart_lines text h.lines place kind h.split f
  no_fault text run place kind h (of_run {lines = ls} split f) =
      let same : h.lines ≡ ls = one_lines text h.lines ls h.split split in
      no_line_fault ls run (subst (λ l. IsRunText (length run.words) (words_of_lines l) run) same h.is) h.within place kind f

  same_kind : (lines : List Words) (at : ℕ) (kind another : Kind) → IsRunFaultAt lines at kind → IsRunFaultAt lines at another → kind ≡ another
  same_kind lines at kind another (bad_line lt before never is) (bad_line lt' before' never' is') = is ∙ sym is'
  same_kind lines at kind another (bad_line lt before never is) (past_limit {run = longer} lt' there past is') = absurd (never longer there)
  same_kind lines at kind another (past_limit {run = longer} lt there past is) (bad_line lt' before never is') = absurd (never longer there)
  same_kind lines at kind another (past_limit lt there past is) (past_limit lt' there' past' is') = is ∙ sym is'

  one_line_fault : (lines : List Line) (place other : ℕ) (kind another : Kind) → IsFirstRunFault lines place kind → IsFirstRunFault lines other another → (place ≡ other) × (kind ≡ another)
  one_line_fault lines place other kind another f g =
      let low : f.at ≤ g.at = f.earliest g.at another g.found in
      let high : g.at ≤ f.at = g.earliest f.at kind f.found in
      let same : g.at ≡ f.at = omega arith in (
        f.placed ∙ ap (λ n. (line_at lines n).place) (sym same) ∙ sym g.placed,
        same_kind (words_of_lines lines) f.at kind another f.found (subst (λ n. IsRunFaultAt (words_of_lines lines) n another) same g.found),
      )

  pub one_fault : (text : List ℕ) (place other : ℕ) (kind another : Kind) → IsRunFault text place kind → IsRunFault text other another → (place ≡ other) × (kind ≡ another)
  one_fault text place other kind another (of_lines f) (of_lines g) = first_lines text place other kind another f g
  one_fault text place other kind another (of_lines f) (of_run {lines = ls} split g) = absurd (apart_lines text ls place kind split f)
  one_fault text place other kind another (of_run {lines = ls} split f) (of_lines g) = absurd (apart_lines text ls other another split g)
  one_fault text place other kind another (of_run {lines = ls} split f) (of_run {lines = ms} split' g) =
      one_line_fault ls place other kind another f
      (subst (λ l. IsFirstRunFault l other another) (one_lines text ms ls split' split) g)
