-- What a start makes stands for its terms: values of classes under which all rows are true, through its inserts and
-- merges; and where it is refused, what is assumed holds in no world.
use Rattle.std.proofs.Common.{◌≡◌, ℕ, List, [], ◌∷◌, map, get_or, All, refl, sym, ◌∙◌, arith}
use Rattle.std.proofs.lemmas.List.Elements.{All-head, All-tail}
use Rattle.word_ops.specs.Worlds.{Value, word, World, IsWorld}
use Rattle.word_ops.specs.Meanings.{meaning}
use Rattle.word_ops.specs.declared.sorts.Op.{Op}
use Rattle.word_ops.specs.declared.sorts.Sort.{Sort}
use Rattle.word_terms.specs.Keys.{op_signature}
use Rattle.word_terms.specs.Sorting.{HasSort}
use Rattle.word_terms.specs.Tree.{Tree, value}
use Rattle.axiom_base.specs.Rewrites.{value_in}
use Rattle.egraph.specs.Graph.{Graph, IsGraph}
use Rattle.goal_meaning.specs.Views.{TwoTrees}
use Rattle.saturation.specs.AtStart.{IsSorted}
use Rattle.saturation.specs.OverLets.{AreSorted}
use Rattle.saturation.specs.GoalTerms.{assumed_pair}
use Rattle.saturation.specs.Trace.{MayJoin, IsBuilt, AreInserted, none_inserted, one_inserted, IsAssumeMade, AreAssumed, none_assumed, one_assumed, IsAssumedRefused, AreRefused, refused_here, refused_after}
use Rattle.saturation.proofs.Below.{sort_below}
use Rattle.saturation.proofs.Built.{built_graph, built_class, built_sort}
use Rattle.saturation.proofs.Graphs.{cur}
use Rattle.saturation.proofs.NoWorld.{refused_at_never}
use Rattle.saturation.proofs.Standing.{Law, True, TrueAsk, built_true, made_true, class_value, value_agrees}
use Rattle.saturation.proofs.Starting.{none_made, assumed_graph}

module _ (law : Law) (world : World) (is_world : IsWorld world) (names : ℕ → List ℕ) where
  -- some values make the graph true
  pub record Stands (g : Graph Op) : Type 0 where
    pub values : ℕ → Value
    pub true : True law world is_world names values g

  pub nothing_stands : Stands (record { rows = []; current = [] })
  nothing_stands = record { values = λ n. word 0; true = record { rows = λ k d l. absurd (omega arith); values = λ k d l. absurd (omega arith) } }

  term_stands : (t : Tree Op) (g new : Graph Op) (c : ℕ) (sort : Sort) → IsBuilt [] t g c new → IsGraph op_signature g → HasSort op_signature [] sort t → Stands g → Stands new
  term_stands t g new c sort b is s stands =
      let k = built_true law world is_world names [] [] t sort stands.values b is (none_made g) s stands.true in
      record { values = k.values; true = k.true }

  pub inserted_stands : {ts : List (Tree Op)} {g new : Graph Op} → AreInserted ts g new → IsGraph op_signature g → All IsSorted ts → Stands g → Stands new
  inserted_stands none_inserted is s stands = stands
  inserted_stands (one_inserted {t} {ts} {g} {h} {new} {c} b w) is s stands =
      let k = All-head IsSorted t ts s in
      inserted_stands w (built_graph [] b is) (All-tail IsSorted t ts s) (term_stands t g h c k.sort b is k.is stands)

  -- terms without variables have the values that they have in the world
  abbrev IsEqual : TwoTrees → Type 0
  IsEqual a = value_in world names [] a.left ≡ value_in world names [] a.right

  no_variables : (V : ℕ → Value) (f : ℕ → ℕ) (sort : Sort) (t : Tree Op) → HasSort op_signature [] sort t → value (meaning world names) (λ n. V (f n)) t ≡ value_in world names [] t
  no_variables V f sort t s = value_agrees law world is_world names 0 (λ n. V (f n)) (λ n. get_or [] n (word 0)) (λ k l. absurd (omega (arith, l))) t (sort_below [] sort t s)

  module _ (a : TwoTrees) (sorted : AreSorted a) (equal : IsEqual a) (g m : Graph Op) (c : ℕ) (b : IsBuilt [] a.left g c m) (is : IsGraph op_signature g) where
    may : MayJoin m (record { right = a.right; places = []; class = c })
    may = record {
      sort = sorted.sort;
      right = record { variables = []; count = refl; places_have = λ n l. absurd (omega (arith, l)); has_sort = sorted.right };
      class = built_sort [] [] refl sorted.sort b is (λ n l. absurd (omega (arith, l))) sorted.left;
    }

    asked : (V : ℕ → Value) → True law world is_world names V m → TrueAsk law world is_world names V m (record { right = a.right; places = []; class = c })
    asked V true =
        let k = built_class [] b is (none_made g) in
        no_variables V (λ n. cur m (get_or [] n 0)) sorted.sort a.right sorted.right ∙ sym equal
        ∙ sym (no_variables V (λ n. get_or [] n 0) sorted.sort a.left sorted.left)
        ∙ sym (class_value law world is_world names m V true [] k.1)

  assume_stands : (a : TwoTrees) (g new : Graph Op) → AreSorted a → IsEqual a → IsAssumeMade (assumed_pair a) g new → IsGraph op_signature g → Stands g → Stands new
  assume_stands a g new sorted equal h is stands =
      let first = term_stands a.left g h.middle h.class sorted.sort h.built is sorted.left stands in
      let second = made_true law world is_world names (record { right = a.right; places = []; class = h.class }) h.middle new first.values h.made (built_graph [] h.built is)
      (may a sorted equal g h.middle h.class h.built is) first.true (asked a sorted equal g h.middle h.class h.built is first.values first.true) in
      record { values = second.values; true = second.true }

  pub all_assumed_stand : (xs : List TwoTrees) {g new : Graph Op} → AreAssumed (map assumed_pair xs) g new → All AreSorted xs → All IsEqual xs → IsGraph op_signature g → Stands g → Stands new
  all_assumed_stand [] none_assumed sorted equal is stands = stands
  all_assumed_stand (x ∷ xs) (one_assumed {g} {h} a w) sorted equal is stands =
      all_assumed_stand xs w (All-tail AreSorted x xs sorted) (All-tail IsEqual x xs equal) (assumed_graph (assumed_pair x) g h a)
      (assume_stands x g h (All-head AreSorted x xs sorted) (All-head IsEqual x xs equal) a is stands)

  refused_assume : (a : TwoTrees) (g : Graph Op) (x y : ℕ) → AreSorted a → IsEqual a → IsAssumedRefused (assumed_pair a) g x y → IsGraph op_signature g → Stands g → ⊥
  refused_assume a g x y sorted equal h is stands =
      let first = term_stands a.left g h.middle h.class sorted.sort h.built is sorted.left stands in
      refused_at_never law world is_world names (record { right = a.right; places = []; class = h.class }) h.middle x y first.values h.refused (built_graph [] h.built is)
      (may a sorted equal g h.middle h.class h.built is) first.true (asked a sorted equal g h.middle h.class h.built is first.values first.true)

  pub all_refused : (xs : List TwoTrees) {g : Graph Op} {x y : ℕ} → AreRefused (map assumed_pair xs) g x y → All AreSorted xs → All IsEqual xs → IsGraph op_signature g → Stands g → ⊥
  all_refused [] w sorted equal is stands = elim w [ ]
  all_refused (a ∷ xs) (refused_here {g} {x} {y} h) sorted equal is stands = refused_assume a g x y (All-head AreSorted a xs sorted) (All-head IsEqual a xs equal) h is stands
  all_refused (a ∷ xs) (refused_after {g} {h} k w) sorted equal is stands =
      all_refused xs w (All-tail AreSorted a xs sorted) (All-tail IsEqual a xs equal) (assumed_graph (assumed_pair a) g h k)
      (assume_stands a g h (All-head AreSorted a xs sorted) (All-head IsEqual a xs equal) k is stands)
