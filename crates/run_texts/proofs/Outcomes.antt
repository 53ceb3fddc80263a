-- What reading a text answers.
use Rattle.std.proofs.Common.{◌≡◌, ℕ, List, length, ap, ◌∙◌, refl, inl, inr, ◌⊎◌, Result, Ok, Err, arith}
use Rattle.std.specs.Prelude.{IfOk, IfErr}
use Rattle.text_core.specs.Faults.{IsFaultBy}
use Rattle.text_core.specs.Lines.{Line, HasLines}
use Rattle.text_core.specs.LineTexts.{words_of_lines}
use Rattle.text_core.specs.declared.faults.Kind.{Kind}
use Rattle.text_core.specs.declared.faults.TextFault.{TextFault}
use Rattle.text_core.specs.declared.faults.TextFault.TheVariants as answers
use Rattle.run_texts.specs.declared.texts.RunText.{RunText}
use Rattle.run_texts.specs.RunFaults.{IsFirstRunFault, IsRunFault, of_run, ReadsRun}
use Rattle.run_texts.specs.SoFar.{IsRunTextTo}
use Rattle.run_texts.proofs.FirstFaults.{line_count}
use Rattle.run_texts.proofs.Programs.{whole_read}

pub program_ok : (text : List ℕ) (lines : List Line) → HasLines text lines → (r : Result RunText TextFault)
    → IfOk r (IsRunTextTo (words_of_lines lines) (length lines)) → IfOk r (ReadsRun text)
program_ok text lines split (Ok run) h = whole_read text lines run split (length lines) (let n = line_count lines in omega arith) h
program_ok text lines split (Err f) h = h

fault_of : (text : List ℕ) (lines : List Line) → HasLines text lines → (f : TextFault) → IsFaultBy (IsFirstRunFault lines) f → IsFaultBy (IsRunFault text) f
fault_of text lines split (answers.Fault f) h = of_run split h
fault_of text lines split answers.Memory h = tt

pub program_fault : (text : List ℕ) (lines : List Line) → HasLines text lines → (r : Result RunText TextFault)
    → IfErr r (IsFaultBy (IsFirstRunFault lines)) → IfErr r (IsFaultBy (IsRunFault text))
program_fault text lines split (Ok run) h = h
program_fault text lines split (Err f) h = fault_of text lines split f h

module _ (text : List ℕ)
    (one : (run other : RunText) → ReadsRun text run → ReadsRun text other → run ≡ other)
    (apart : (run : RunText) (place : ℕ) (kind : Kind) → ReadsRun text run → IsRunFault text place kind → ⊥)
    (first : (place other : ℕ) (kind another : Kind) → IsRunFault text place kind → IsRunFault text other another → (place ≡ other) × (kind ≡ another)) where
  pub read_by : (r : Result RunText TextFault) → IfOk r (ReadsRun text) → IfErr r (IsFaultBy (IsRunFault text)) → (run : RunText) → ReadsRun text run
      → (r ≡ Ok run) ⊎ (r ≡ Err answers.Memory)
  read_by (Ok x) ok err run h = inl (ap Ok (one x run ok h))
  read_by (Err (answers.Fault f)) ok err run h = absurd (apart run f.place f.kind h err)
  read_by (Err answers.Memory) ok err run h = inr refl

  fault_at : ℕ → Kind → Result RunText TextFault
  fault_at place kind = Err (answers.Fault (record { place = place; kind = kind }))

  pub refused_by : (r : Result RunText TextFault) → IfOk r (ReadsRun text) → IfErr r (IsFaultBy (IsRunFault text)) → (place : ℕ) (kind : Kind) → IsRunFault text place kind
      → (r ≡ Err (answers.Fault (record { place = place; kind = kind }))) ⊎ (r ≡ Err answers.Memory)
  unfolding fault_at
  refused_by (Ok x) ok err place kind h = absurd (apart x place kind ok h)
  refused_by (Err (answers.Fault f)) ok err place kind h =
      let same = first f.place place f.kind kind err h in
      inl (ap (λ p. fault_at p f.kind) same.0 ∙ ap (λ k. fault_at place k) same.1)
  refused_by (Err answers.Memory) ok err place kind h = inr refl
