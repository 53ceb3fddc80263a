-- Graphs, rounds and why they ended, by their lines.
use Rattle.std.proofs.Common.{◌≡◌, ℕ, ◌<◌, ◌^◌, List, [], ◌∷◌, ◌++◌, refl, ap, ◌∙◌, arith, codes, decimal}
use Rattle.std.proofs.lemmas.Fmt.{decimal_injective}
use Rattle.launch_graph.specs.GraphLines.{graph_lines, said}
use Rattle.launch_graph.specs.GraphTexts.{EndsGraph}
use Rattle.graph_meaning.specs.WellFormed.{IsLaunchGraph}
use Rattle.graph_meaning.specs.declared.graphs.LaunchGraph.{LaunchGraph}
use Rattle.graph_meaning.specs.declared.stops.Stop.{Stop}
use Rattle.graph_meaning.specs.declared.stops.Stop.TheVariants.{Quiet, Rounds, Full}
use Rattle.text_core.specs.LineTexts.{Words}
use Rattle.answer_texts.specs.AnswerLines.{rounds_words, stop_name}
use Rattle.denali_run.proofs.ResultLines.{matched_lines}
use Rattle.denali_run.specs.declared.results.Matched.{Matched}
use Rattle.denali_run.proofs.SameParts.{byte_same, head_same, rest_same, cons_same}

-- well-formed graphs with the same lines are one graph
abbrev pub GraphsAreOne : Type 0
GraphsAreOne = (g h : LaunchGraph) (behind other : List Words) → IsLaunchGraph g → IsLaunchGraph h → EndsGraph behind
    → EndsGraph other → graph_lines (said g) ++ behind ≡ graph_lines (said h) ++ other → (g ≡ h) × (behind ≡ other)

one_stop : (s t : Stop) → stop_name s ≡ stop_name t → s ≡ t
one_stop Quiet Quiet e = refl
one_stop Quiet Rounds e = absurd (let h : ◌≡◌ {A = ℕ} 113 114 = byte_same 0 _ _ e in omega (arith, h))
one_stop Quiet Full e = absurd (let h : ◌≡◌ {A = ℕ} 113 102 = byte_same 0 _ _ e in omega (arith, h))
one_stop Rounds Quiet e = absurd (let h : ◌≡◌ {A = ℕ} 114 113 = byte_same 0 _ _ e in omega (arith, h))
one_stop Rounds Rounds e = refl
one_stop Rounds Full e = absurd (let h : ◌≡◌ {A = ℕ} 114 102 = byte_same 0 _ _ e in omega (arith, h))
one_stop Full Quiet e = absurd (let h : ◌≡◌ {A = ℕ} 102 113 = byte_same 0 _ _ e in omega (arith, h))
one_stop Full Rounds e = absurd (let h : ◌≡◌ {A = ℕ} 102 114 = byte_same 0 _ _ e in omega (arith, h))
one_stop Full Full e = refl

matched_of : LaunchGraph → ℕ → Stop → Matched
matched_of graph rounds stop = record { graph = graph; rounds = rounds; stop = stop }

module _ (one : GraphsAreOne) where
  -- the rounds, why they ended, the graph, and lines behind it
  pub matched_once : (m n : Matched) (r q : List Words) → IsLaunchGraph m.graph → IsLaunchGraph n.graph
      → m.rounds < 2 ^ 31 → n.rounds < 2 ^ 31
      → EndsGraph r → EndsGraph q → matched_lines m ++ r ≡ matched_lines n ++ q → (m ≡ n) × (r ≡ q)
  unfolding matched_of
  matched_once m n r q f k low less ends stops e =
      let both = cons_same (rounds_words m.rounds m.stop) (rounds_words n.rounds n.stop) (graph_lines (said m.graph) ++ r)
      (graph_lines (said n.graph) ++ q) e in
      let graphs = one m.graph n.graph r q f k ends stops both.1 in
      let numbers = rest_same (codes "rounds") (codes "rounds") (decimal m.rounds ∷ codes "stop" ∷ stop_name m.stop ∷ [])
      (decimal n.rounds ∷ codes "stop" ∷ stop_name n.stop ∷ []) both.0 in
      let rounds : m.rounds ≡ n.rounds =
      decimal_injective m.rounds n.rounds (omega arith) (omega arith)
      (head_same (decimal m.rounds) (decimal n.rounds) (codes "stop" ∷ stop_name m.stop ∷ [])
      (codes "stop" ∷ stop_name n.stop ∷ []) numbers) in
      let stop : m.stop ≡ n.stop =
      one_stop m.stop n.stop
      (head_same (stop_name m.stop) (stop_name n.stop) [] []
      (rest_same (codes "stop") (codes "stop") (stop_name m.stop ∷ []) (stop_name n.stop ∷ [])
      (rest_same (decimal m.rounds) (decimal n.rounds) (codes "stop" ∷ stop_name m.stop ∷ [])
      (codes "stop" ∷ stop_name n.stop ∷ []) numbers))) in (
        ap (λ x. matched_of x m.rounds m.stop) graphs.0 ∙ ap (λ x. matched_of n.graph x m.stop) rounds
            ∙ ap (λ x. matched_of n.graph n.rounds x) stop,
        graphs.1,
      )
