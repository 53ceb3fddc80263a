-- What reading a text answers.
use Rattle.std.proofs.Common.{◌≡◌, ◌⊎◌, ℕ, List, ap, ◌∙◌, refl, inl, inr, Result, Ok, Err}
use Rattle.std.specs.Prelude.{IfOk, IfErr}
use Rattle.text_core.specs.Faults.{IsFaultBy}
use Rattle.text_core.specs.declared.faults.Kind.{Kind}
use Rattle.text_core.specs.declared.faults.TextFault.{TextFault}
use Rattle.text_core.specs.declared.faults.TextFault.TheVariants as faults
use Rattle.answer_texts.specs.ReadAnswers.{IsAnswerFault, ReadsAnswer}
use Rattle.answer_texts.specs.declared.answers.AnswerText.{AnswerText}

fault_at : ℕ → Kind → Result AnswerText TextFault
fault_at place kind = Err (faults.Fault (record { place = place; kind = kind }))

module _ (text : List ℕ)
    (one : (answer other : AnswerText) → ReadsAnswer text answer → ReadsAnswer text other → answer ≡ other)
    (apart : (answer : AnswerText) (place : ℕ) (kind : Kind) → ReadsAnswer text answer → IsAnswerFault text place kind → ⊥)
    (first : (place other : ℕ) (kind another : Kind) → IsAnswerFault text place kind → IsAnswerFault text other another
    → (place ≡ other) × (kind ≡ another)) where
  pub read_by : (r : Result AnswerText TextFault) → IfOk r (ReadsAnswer text) → IfErr r (IsFaultBy (IsAnswerFault text))
      → (answer : AnswerText) → ReadsAnswer text answer → (r ≡ Ok answer) ⊎ (r ≡ Err faults.Memory)
  read_by (Ok x) ok err answer h = inl (ap Ok (one x answer ok h))
  read_by (Err (faults.Fault f)) ok err answer h = absurd (apart answer f.place f.kind h err)
  read_by (Err faults.Memory) ok err answer h = inr refl

  pub refused_by : (r : Result AnswerText TextFault) → IfOk r (ReadsAnswer text)
      → IfErr r (IsFaultBy (IsAnswerFault text)) → (place : ℕ) (kind : Kind) → IsAnswerFault text place kind
      → (r ≡ Err (faults.Fault (record { place = place; kind = kind }))) ⊎ (r ≡ Err faults.Memory)
  unfolding fault_at
  refused_by (Ok x) ok err place kind h = absurd (apart x place kind ok h)
  refused_by (Err (faults.Fault f)) ok err place kind h =
      let same = first f.place place f.kind kind err h in
      inl (ap (λ p. fault_at p f.kind) same.0 ∙ ap (λ k. fault_at place k) same.1)
  refused_by (Err faults.Memory) ok err place kind h = inr refl
