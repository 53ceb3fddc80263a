-- A round keeps what a graph stands for.
use Rattle.std.proofs.Common.{◌≡◌, ℕ, List, [], get_or, All, ◌∙◌, subst, arith}
use Rattle.word_ops.specs.Worlds.{Value, word, World, IsWorld}
use Rattle.word_ops.specs.Meanings.{meaning}
use Rattle.word_ops.specs.declared.sorts.Op.{Op}
use Rattle.word_terms.specs.Keys.{op_signature}
use Rattle.word_terms.specs.Tree.{Tree, Trees, none, more, value, AreBelow, EachBelow}
use Rattle.axiom_base.specs.Rewrites.{Rewrite, IsTrueIn, IsUsable}
use Rattle.egraph.specs.Graph.{Graph, IsGraph}
use Rattle.pattern_match.specs.Classes.{IsClass, AreClasses, at_variable, at_row, no_classes, classes}
use Rattle.axiom_base.specs.Schemes.{AddedRules, IsRuleOf}
use Rattle.saturation.specs.Trace.{Asked, AreAllApplied, MayJoin}
use Rattle.saturation.specs.Asking.{AsksFor}
use Rattle.saturation.proofs.Asks.{Asks, asked_may, as_asked, over_places}
use Rattle.saturation.specs.GraphStands.{RulesHold, GraphStands}
use Rattle.saturation.proofs.Graphs.{cur}
use Rattle.saturation.proofs.Classes.{class_moved}
use Rattle.saturation.proofs.Made.{all_made_follow}
use Rattle.saturation.proofs.MatchSorts.{match_may}
use Rattle.saturation.proofs.Standing.{Law, True, TrueAsk, all_made_true, match_true, class_value, value_agrees}

mutual
  pub closed_below : (g : Graph Op) (t : Tree Op) {c : ℕ} → IsClass g [] t c → AreBelow 0 t
  closed_below g t (at_variable l) = absurd (omega (arith, l))
  closed_below g t (at_row {ts} h k) = closed_each g ts h

  closed_each : (g : Graph Op) (ts : Trees Op) {cs : List ℕ} → AreClasses g [] ts cs → EachBelow 0 ts
  closed_each g none no_classes = tt
  closed_each g (more t ts) (classes h k) = (closed_below g t h, closed_each g ts k)

asked_true :
    (law : Law) (world : World) (is_world : IsWorld world) (names : ℕ → List ℕ) (V : ℕ → Value) (g : Graph Op)
    (r : Rewrite) (places : List ℕ) (a : Asked) →
    AsksFor r places a →
    TrueAsk law world is_world names V g (over_places r places a) →
    TrueAsk law world is_world names V g a
asked_true law world is_world names V g r places a asks h =
    as_asked (TrueAsk law world is_world names V g) r places a asks h (λ v e.
    subst (λ t. value (meaning world names) (λ n. V (cur g (get_or places n 0))) t ≡ V (cur g a.class)) e h)

module _ (added : AddedRules) (usable : (r : Rewrite) → IsRuleOf added r → IsUsable r) (g : Graph Op) (is : IsGraph op_signature g) (asked : List Asked) (are : Asks added g asked) where
  -- all that is asked may be made
  pub all_may : All (MayJoin g) asked
  all_may = λ n d l.
      let h = are.each n d l in
      let a = get_or asked n d in
      asked_may g h.0 h.2.0 a h.2.2 (match_may g is h.0 (usable h.0 h.1) h.2.0 a.class h.2.1)

  -- all that is asked is true
  pub all_true :
      (law : Law) (world : World) (is_world : IsWorld world) (names : ℕ → List ℕ) →
      ((r : Rewrite) → IsRuleOf added r → IsTrueIn world names r) →
      (V : ℕ → Value) →
      True law world is_world names V g →
      All (TrueAsk law world is_world names V g) asked
  all_true law world is_world names rules_hold V true = λ n d l.
      let h = are.each n d l in
      let a = get_or asked n d in
      asked_true law world is_world names V g h.0 h.2.0 a h.2.2
      (match_true law world is_world names g V is true h.0 (usable h.0 h.1) (rules_hold h.0 h.1) h.2.0 a.class h.2.1)

  module _ (law : Law) (names : ℕ → List ℕ) (equal : List (Tree Op × Tree Op)) (terms : List (Tree Op))
      (rules_hold : (world : World) → IsWorld world → RulesHold world names added equal → (r : Rewrite) → IsRuleOf added r → IsTrueIn world names r) where
    pub round_stands : (new : Graph Op) → AreAllApplied asked g new → GraphStands names added equal terms g → GraphStands names added equal terms new
    round_stands new made stands =
        let follows = all_made_follow made is in
        record {
          classes = λ t h. let k = stands.classes t h in (cur new k.0, class_moved g new (cur new) follows.rows [] k.1);
          values = λ world is_world holds.
              let k = stands.values world is_world holds in
              let asks = all_true law world is_world names (rules_hold world is_world holds) k.0 k.1 in
              let moved = all_made_true law world is_world names k.0 made is all_may k.1 asks in (
                moved.values,
                moved.true,
                λ t c h m.
                    class_value law world is_world names new moved.values moved.true [] m
                    ∙ value_agrees law world is_world names 0 (λ n. moved.values (get_or [] n 0)) (λ n. get_or [] n (word 0)) (λ n l. absurd (omega (arith, l))) t (closed_below new t m),
              );
        }
