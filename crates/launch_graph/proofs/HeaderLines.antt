-- A graph without a header has its first fault there.
use Rattle.std.proofs.Common.{◌≡◌, ℕ, ◌+◌, ◌<◌, ◌≤◌, List, [], ◌∷◌, length, sym, subst, arith, inl, inr}
use Rattle.std.proofs.lemmas.Bool.{cases_eq}
use Rattle.text_core.specs.Faults.{IsFaultBy}
use Rattle.text_core.specs.Lines.{Line, line_at}
use Rattle.text_core.specs.LineTexts.{Words, SaysNone}
use Rattle.text_core.specs.declared.faults.Kind.{Kind}
use Rattle.text_core.specs.declared.faults.Kind.TheVariants.{BadLine}
use Rattle.text_core.specs.declared.faults.TextFault.{TextFault}
use Rattle.launch_graph.specs.GraphStages.{Stage, start, Step, header, ReachesStage, stay, go}
use Rattle.launch_graph.specs.GraphTexts.{BeginsWithGraph}
use Rattle.launch_graph.specs.LineFaults.{IsFirstFaultOf, bad_line, missing, bad_row, bad_class, wrong_class}
use Rattle.launch_graph.specs.LineFormats.{GoesOn, words_between}
use Rattle.launch_graph.specs.LineReading.{IsHeaderLine}
use Rattle.launch_graph.specs.RowsRead.{IsFaultOfLine}
use Rattle.launch_graph.proofs.Between.{between_none, between_one}
use Rattle.launch_graph.proofs.FirstFaults.{GraphFault}
use Rattle.launch_graph.proofs.GraphRuns.{goes_text, text_goes, text_run, IsDone, never_begun}
use Rattle.launch_graph.proofs.Stages.{one_stage}

nothing : (lines : List Line) (from : ℕ) → words_between lines from from ≡ []
nothing lines from = between_none lines from

module _ (version : ℕ) (lines : List Line) (from : ℕ) (le : from ≤ length lines) where
  not_before : (other : ℕ) (kind : Kind) → GraphFault version lines from other kind → from ≤ other
  not_before other kind (bad_line low lt goes never) = low
  not_before other kind (missing end goes never) = omega arith
  not_before other kind (bad_row {first = first} {number = number} low block is at_is goes bad) = (let e : other ≡ first + number = at_is in omega arith)
  not_before other kind (bad_class {first = first} {number = number} low block is at_is goes bad) = (let e : other ≡ first + number = at_is in omega arith)
  not_before other kind (wrong_class low block behind high none goes is wrong) = omega arith

  goes_here : GoesOn (BeginsWithGraph version) (words_between lines from from)
  goes_here = goes_text (words_between lines from from) start (subst (λ ws. ReachesStage version start ws start) (sym (nothing lines from)) stay)

  first_here : (fault : TextFault) → GraphFault version lines from from BadLine → IsFaultOfLine lines from BadLine fault
      → IsFaultBy (IsFirstFaultOf version lines from) fault
  first_here fault found f =
      subst (IsFaultBy (IsFirstFaultOf version lines from)) (sym f.is)
      (record {
        at = from;
        found = found;
        placed = f.placed;
        earliest = λ other another h.
            (let low : from ≤ other = not_before other another h in
            elim (cases_eq from other) [
              | inl same ↦ inr (same, omega arith)
              | inr apart ↦ inl (omega arith)
            ]);
      })

  pub no_line_first : (fault : TextFault) → from ≡ length lines → IsFaultOfLine lines from BadLine fault
      → IsFaultBy (IsFirstFaultOf version lines from) fault
  no_line_first fault end f =
      first_here fault
      (missing end goes_here
      (λ text.
      (let r = text_run (words_between lines from from) text in
      let run = subst (λ ws. ReachesStage version start ws r.0) (nothing lines from) r.1 in
      never_begun (subst IsDone (one_stage [] start r.0 start run stay) r.2))))
      f

  no_header_step : (words : Words) → SaysNone IsHeaderLine words → (t : Stage) → Step version start words t → ⊥
  no_header_step words none t (header count few is) = none count (record { few = few; is = is })

  no_header_run : (words : Words) → SaysNone IsHeaderLine words → (t : Stage) → ReachesStage version start (words ∷ []) t → ⊥
  no_header_run words none t (go {t = a} step more) = no_header_step words none a step

  pub no_header_first : (fault : TextFault) → from < length lines → SaysNone IsHeaderLine (line_at lines from).words
      → IsFaultOfLine lines from BadLine fault → IsFaultBy (IsFirstFaultOf version lines from) fault
  no_header_first fault lt none f =
      first_here fault
      (bad_line (omega arith) lt goes_here
      (λ goes.
      (let g = text_goes (words_between lines from (from + 1)) goes in
      no_header_run (line_at lines from).words none g.0 (subst (λ ws. ReachesStage version start ws g.0) (between_one lines from lt) g.1))))
      f
