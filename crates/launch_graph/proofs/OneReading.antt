-- What reading answers where a graph has a first fault.
use Rattle.std.proofs.Common.{◌≡◌, ◌⊎◌, ℕ, List, refl, ap, ◌∙◌, inl, inr}
use Rattle.std.specs.Prelude.{IfOk, IfErr}
use Rattle.std.specs.declared.result.Result.{Result}
use Rattle.std.specs.declared.result.Result.TheVariants.{Ok, Err}
use Rattle.text_core.specs.Faults.{IsFaultBy}
use Rattle.text_core.specs.Lines.{Line}
use Rattle.text_core.specs.declared.faults.Kind.{Kind}
use Rattle.text_core.specs.declared.faults.TextFault.{TextFault}
use Rattle.text_core.specs.declared.faults.TextFault.TheVariants as faults
use Rattle.graph_meaning.specs.declared.graphs.LaunchGraph.{LaunchGraph}
use Rattle.launch_graph.specs.GraphTexts.{IsGraphOf}
use Rattle.launch_graph.specs.LineFaults.{IsFirstFaultOf}

abbrev fault_at : ℕ → Kind → Result (LaunchGraph × ℕ) TextFault
fault_at place kind = Err (faults.Fault (record { place = place; kind = kind }))

abbrev graph_to : LaunchGraph → ℕ → Result (LaunchGraph × ℕ) TextFault
graph_to g next = Ok (g, next)

module _ {version : ℕ} (lines : List Line) (from : ℕ)
    (apart : (next place : ℕ) (g : LaunchGraph) (kind : Kind) → IsGraphOf version lines from next g → IsFirstFaultOf version lines from place kind → ⊥)
    (first : (place other : ℕ) (kind another : Kind) → IsFirstFaultOf version lines from place kind → IsFirstFaultOf version lines from other another
    → (place ≡ other) × (kind ≡ another)) where
  pub refused_by : (r : Result (LaunchGraph × ℕ) TextFault) → IfOk r (λ p. IsGraphOf version lines from p.1 p.0)
      → IfErr r (IsFaultBy (IsFirstFaultOf version lines from)) → (place : ℕ) (kind : Kind) → IsFirstFaultOf version lines from place kind
      → (r ≡ fault_at place kind) ⊎ (r ≡ Err faults.Memory)
  refused_by (Ok p) ok err place kind h = absurd (apart p.1 place p.0 kind ok h)
  refused_by (Err faults.Memory) ok err place kind h = inr refl
  refused_by (Err (faults.Fault f)) ok err place kind h =
      (let same = first f.place place f.kind kind err h in
      inl (ap (λ n. fault_at n f.kind) same.0 ∙ ap (fault_at place) same.1))

module _ {version : ℕ} (lines : List Line) (from : ℕ)
    (one : (next other : ℕ) (g h : LaunchGraph) → IsGraphOf version lines from next g → IsGraphOf version lines from other h → (next ≡ other) × (g ≡ h))
    (apart : (next place : ℕ) (g : LaunchGraph) (kind : Kind) → IsGraphOf version lines from next g → IsFirstFaultOf version lines from place kind → ⊥) where
  pub read_by : (r : Result (LaunchGraph × ℕ) TextFault) → IfOk r (λ p. IsGraphOf version lines from p.1 p.0)
      → IfErr r (IsFaultBy (IsFirstFaultOf version lines from)) → (next : ℕ) (g : LaunchGraph) → IsGraphOf version lines from next g
      → (r ≡ graph_to g next) ⊎ (r ≡ Err faults.Memory)
  read_by (Ok p) ok err next g h =
      (let same = one p.1 next p.0 g ok h in
      inl (ap (λ x. graph_to x p.1) same.1 ∙ ap (graph_to g) same.0))
  read_by (Err faults.Memory) ok err next g h = inr refl
  read_by (Err (faults.Fault f)) ok err next g h = absurd (apart next f.place g f.kind h err)
