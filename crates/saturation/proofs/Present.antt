-- Terms that have classes are built without new ones, and so the merges of a start make none.
use Rattle.std.proofs.Common.{◌≡◌, ℕ, List, [], length, All, refl, sym, ap, ◌∙◌, subst, subst₂, inl, inr}
use Rattle.std.proofs.lemmas.List.Elements.{All-head, All-tail, All-weaker}
use Rattle.word_ops.specs.declared.sorts.Op.{Op}
use Rattle.word_terms.specs.Keys.{op_signature}
use Rattle.word_terms.specs.Tree.{Tree, Trees}
use Rattle.egraph.specs.Graph.{Graph, IsGraph, HasRow, read_through}
use Rattle.pattern_match.specs.Classes.{IsClass, AreClasses, at_row, classes}
use Rattle.saturation.specs.Derives.{Pair}
use Rattle.saturation.specs.Trace.{IsBuilt, AreBuilt, placed, put, none_built, one_built, IsAssumeMade, AreAssumed, none_assumed, one_assumed}
use Rattle.saturation.proofs.Graphs.{cur}
use Rattle.saturation.proofs.Classes.{one_classes}
use Rattle.saturation.proofs.Built.{built_graph, are_built_graph, are_built_classes}
use Rattle.saturation.proofs.Starting.{none_made, Placed, placed_later, assumed_graph, assumed_follows}

mutual
  pub built_there : {t : Tree Op} {g new : Graph Op} {c d : ℕ} → IsGraph op_signature g → IsBuilt [] t g c new → IsClass g [] t d → new ≡ g
  built_there is (placed l) h = refl
  built_there is (put {op} {ts} {g} {h} {new} {cs} {c} a p) (at_row {cs = ds} {c = d} are row) =
      let e : h ≡ g = are_built_there is a are in
      let now : AreClasses h [] ts (read_through h cs) = (are_built_classes [] a is (none_made g)).1 in
      let same : read_through h cs ≡ ds = one_classes h (are_built_graph [] a is).distinct [] now (subst (λ k. AreClasses k [] ts ds) (sym e) are) in
      elim p.inserted [
        | inl old ↦ old.1 ∙ e
        | inr new_row ↦ absurd (new_row.0 d (subst₂ (λ (k : Graph Op) xs. HasRow k.rows op xs d) (sym e) (sym same) row))
      ]

  are_built_there : {ts : Trees Op} {g new : Graph Op} {cs ds : List ℕ} → IsGraph op_signature g → AreBuilt [] ts g cs new → AreClasses g [] ts ds → new ≡ g
  are_built_there is none_built are = refl
  are_built_there is (one_built {t} {ts} {g} {h} {new} {c} {cs} b a) (classes {cs = ds} one more) =
      let e : h ≡ g = built_there is b one in
      are_built_there (built_graph [] b is) a (subst (λ k. AreClasses k [] ts ds) (sym e) more) ∙ e

pub assumed_made : (p : Pair) (g new : Graph Op) → IsGraph op_signature g → IsAssumeMade p g new → Placed g p.0 → Placed g p.1 → length new.current ≡ length g.current
assumed_made p g new is a first second =
    let e : a.middle ≡ g = built_there is a.built first.is in
    let f : a.made.middle ≡ a.middle = built_there (built_graph [] a.built is) a.made.built (subst (λ k. IsClass k [] p.1 (cur g second.class)) (sym e) second.is) in
    a.made.joined.merged.made ∙ ap (λ (k : Graph Op). length k.current) (f ∙ e)

pub all_assumed_made : {ps : List Pair} {g new : Graph Op} → IsGraph op_signature g → AreAssumed ps g new → All (λ (p : Pair). Placed g p.0) ps → All (λ (p : Pair). Placed g p.1) ps → length new.current ≡ length g.current
all_assumed_made is none_assumed first second = refl
all_assumed_made is (one_assumed {p} {ps} {g} {h} {new} a w) first second =
    let follows = assumed_follows p g h a is in
    let here = assumed_made p g h is a (All-head (λ (q : Pair). Placed g q.0) p ps first) (All-head (λ (q : Pair). Placed g q.1) p ps second) in
    let firsts = All-weaker (λ (q : Pair). Placed g q.0) (λ (q : Pair). Placed h q.0) (λ q k. placed_later g h follows q.0 k) ps (All-tail (λ (q : Pair). Placed g q.0) p ps first) in
    let seconds = All-weaker (λ (q : Pair). Placed g q.1) (λ (q : Pair). Placed h q.1) (λ q k. placed_later g h follows q.1 k) ps (All-tail (λ (q : Pair). Placed g q.1) p ps second) in
    all_assumed_made (assumed_graph p g h a) w firsts seconds ∙ here
