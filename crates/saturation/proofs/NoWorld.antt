-- Where a round is refused, the axioms hold in no world that makes the graph before it true.
use Rattle.std.proofs.Common.{◌≡◌, ℕ, suc, ◌<◌, List, [], ◌∷◌, map, length, get_or, Contains, All, sym, ap, ◌∙◌, arith}
use Rattle.std.proofs.lemmas.List.Elements.{All-contains, All-head, All-tail, All-weaker}
use Rattle.word_ops.specs.Worlds.{Value, World, IsWorld}
use Rattle.word_ops.specs.Meanings.{meaning, as_word}
use Rattle.word_ops.specs.declared.sorts.Op.{Op}
use Rattle.word_terms.specs.Keys.{op_signature}
use Rattle.egraph.specs.declared.rows.Row.{Row}
use Rattle.egraph.specs.Graph.{Graph, IsGraph}
use Rattle.egraph.specs.Joined.{Joined, kept, pair, symmetric, transitive, congruent}
use Rattle.saturation.specs.Trace.{Asked, MayJoin, IsRefusedMerge, IsRefused, here, after}
use Rattle.saturation.proofs.Lists.{map_agree}
use Rattle.saturation.proofs.Graphs.{cur, row_present, has_present, operands_have}
use Rattle.saturation.proofs.Built.{built_graph}
use Rattle.saturation.proofs.Follows.{join_follows}
use Rattle.saturation.proofs.Made.{made_graph, made_follows}
use Rattle.saturation.proofs.Standing.{Law, True, TrueAsk, Meeting, meeting, made_true, ask_later, constant_value}

map_at_each : {V : Type 0} (f : ℕ → V) (xs ys : List ℕ) → length xs ≡ length ys → ((k : ℕ) → k < length xs → f (get_or xs k 0) ≡ f (get_or ys k 0)) → map f xs ≡ map f ys
map_at_each f [] [] l h = λ i. []
map_at_each f [] (y ∷ ys) l h = absurd (omega arith)
map_at_each f (x ∷ xs) [] l h = absurd (omega arith)
map_at_each f (x ∷ xs) (y ∷ ys) l h = let e = h 0 (omega arith) in let t = map_at_each f xs ys (omega arith) (λ k b. h (suc k) (omega arith)) in cc

module _ (law : Law) (world : World) (is_world : IsWorld world) (names : ℕ → List ℕ) where
  abbrev M : Op → List Value → Value
  M = meaning world names

  module _ (g : Graph Op) (is : IsGraph op_signature g) (a b : ℕ) (V : ℕ → Value) (true : True law world is_world names V g) (one : V (cur g a) ≡ V (cur g b)) where
    at_each : (r : Row Op) → Contains g.rows r → map V r.operands ≡ map (λ x. V (cur g x)) r.operands
    at_each r h = map_agree V (λ x. V (cur g x)) r.operands (λ n d l. ap V (sym (has_present op_signature g is (get_or r.operands n d) (operands_have op_signature g is r h n d l))))

    -- joined classes have one value
    one_value : {x y : ℕ} → Joined g a b x y → V (cur g x) ≡ V (cur g y)
    one_value (kept x y lx ly e) = ap V e
    one_value pair = one
    one_value (symmetric j) = sym (one_value j)
    one_value (transitive j k) = one_value j ∙ one_value k
    one_value (congruent r t h k op l each) =
        let ops = map_at_each (λ x. V (cur g x)) r.operands t.operands l (λ n m. one_value (each n m)) in
        let true_r = sym (All-contains (λ (q : Row Op). V q.class ≡ M q.op (map V q.operands)) g.rows r true.rows h) in
        let true_t = sym (All-contains (λ (q : Row Op). V q.class ≡ M q.op (map V q.operands)) g.rows t true.rows k) in
        ap V (row_present op_signature g is r h) ∙ sym true_r ∙ ap (M r.op) (at_each r h ∙ ops ∙ sym (at_each t k)) ∙ ap (λ o. M o (map V t.operands)) op ∙ true_t ∙ ap V (sym (row_present op_signature g is t k))

  pub refused_at_never : (a : Asked) (g : Graph Op) (x y : ℕ) (V : ℕ → Value) → IsRefusedMerge a g x y → IsGraph op_signature g → MayJoin g a → True law world is_world names V g → TrueAsk law world is_world names V g a → ⊥
  refused_at_never a g x y V h is may true asked =
      let m : Meeting law world is_world names V a g h.middle h.class = meeting law world is_world names a g h.middle h.class V h.built is may true asked in
      let im = built_graph a.places h.built is in
      let k = h.clash in
      let W = m.values in
      let e : W (cur h.middle k.first.class) ≡ W (cur h.middle k.second.class) = one_value h.middle im h.class a.class W m.true m.one (transitive k.first_joined (symmetric k.second_joined)) in
      let vx = ap W (row_present op_signature h.middle im k.first k.first_there) ∙ constant_value law world is_world names h.middle W m.true k.first.class x (record { row = k.first; there = k.first_there; of_class = λ i. k.first.class; is = k.first_is }) in
      let vy = ap W (row_present op_signature h.middle im k.second k.second_there) ∙ constant_value law world is_world names h.middle W m.true k.second.class y (record { row = k.second; there = k.second_there; of_class = λ i. k.second.class; is = k.second_is }) in
      k.differ (ap as_word (sym vx ∙ e ∙ vy))

  pub refused_never : {asks : List Asked} {g : Graph Op} {x y : ℕ} (V : ℕ → Value) → IsRefused asks g x y → IsGraph op_signature g → All (MayJoin g) asks → True law world is_world names V g → All (TrueAsk law world is_world names V g) asks → ⊥
  refused_never V (here {a} {asks} {g} {x} {y} h) is may true asked = refused_at_never a g x y V h is (All-head (MayJoin g) a asks may) true (All-head (TrueAsk law world is_world names V g) a asks asked)
  refused_never V (after {a} {asks} {g} {h} m w) is may true asked =
      let first = made_true law world is_world names a g h V m is (All-head (MayJoin g) a asks may) true (All-head (TrueAsk law world is_world names V g) a asks asked) in
      let rest = All-tail (MayJoin g) a asks may in
      let asked_rest = All-tail (TrueAsk law world is_world names V g) a asks asked in
      refused_never first.values w (made_graph a g h m) (All-weaker (MayJoin g) (MayJoin h) (λ q k. join_follows g h (made_follows a g h m is) q k) asks rest) first.true
      (λ n d l. ask_later law world is_world names g h V first.values first.moved (get_or asks n d) (rest n d l) (asked_rest n d l))
