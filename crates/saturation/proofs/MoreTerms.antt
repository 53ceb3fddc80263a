-- Terms that are inserted into a graph before any round.
use Rattle.std.proofs.Common.{◌≡◌, ℕ, List, [], ◌++◌, get_or, All, Contains, refl, sym, ◌∙◌, subst, inl, inr, arith}
use Rattle.std.proofs.lemmas.List.Elements.{All-contains, Contains-append_left, Contains-append_right, Contains-append_cases, All-contains_itself}
use Rattle.word_ops.specs.Worlds.{word}
use Rattle.word_ops.specs.declared.sorts.Op.{Op}
use Rattle.word_terms.specs.Keys.{op_signature}
use Rattle.word_terms.specs.Tree.{Tree, Trees, application}
use Rattle.axiom_base.specs.Schemes.{AddedRules}
use Rattle.egraph.specs.Graph.{Graph, IsGraph, read_through, HasRow}
use Rattle.pattern_match.specs.Classes.{IsClass, AreClasses, at_variable, at_row, no_classes, classes}
use Rattle.saturation.specs.AtStart.{IsSorted}
use Rattle.saturation.specs.Derives.{Pair, Derives, DerivesEach, given, assumed, symmetric, transitive, later, operand, congruent, by_rule, no_operands, operands}
use Rattle.saturation.specs.GraphStands.{GraphStands}
use Rattle.saturation.specs.Grown.{IsGrown}
use Rattle.saturation.specs.Trace.{IsBuilt, AreBuilt, placed, put, none_built, one_built, AreInserted}
use Rattle.saturation.proofs.Built.{built_class, built_extends}
use Rattle.saturation.proofs.Classes.{class_has, classes_have}
use Rattle.saturation.proofs.Complete.{complete_at_start}
use Rattle.saturation.proofs.Follows.{class_kept, insert_row}
use Rattle.saturation.proofs.Graphs.{cur, has_made, has_present, row_present}
use Rattle.saturation.proofs.Lists.{map_at_same}
use Rattle.saturation.proofs.RoundStands.{closed_below}
use Rattle.saturation.proofs.Standing.{Law, class_value, value_agrees}
use Rattle.saturation.proofs.Starting.{none_made, Placed, placed_later, all_placed, together_later, inserted_follows, inserted_graph, inserted_good}
use Rattle.saturation.proofs.StartStands.{inserted_stands}

-- ---- with more terms present no equality is lost

module _ (added : AddedRules) (present more : List (Tree Op)) (equal : List Pair) where
  mutual
    pub with_more : {j : ℕ} {t u : Tree Op} → Derives added present equal j t u → Derives added (present ++ more) equal j t u
    with_more (given t h) = given t (Contains-append_left present more t h)
    with_more (assumed t u h) = assumed t u h
    with_more (symmetric d) = symmetric (with_more d)
    with_more (transitive d e) = transitive (with_more d) (with_more e)
    with_more (later d) = later (with_more d)
    with_more (operand t h d) = operand t h (with_more d)
    with_more (congruent d e) = congruent (with_more d) (each_with_more e)
    with_more (by_rule r values is d e) = by_rule r values is (with_more d) (λ n c h. with_more (e n c h))

    each_with_more : {j : ℕ} {ts us : Trees Op} → DerivesEach added present equal j ts us → DerivesEach added (present ++ more) equal j ts us
    each_with_more no_operands = no_operands
    each_with_more (operands d e) = operands (with_more d) (each_with_more e)

-- ---- one term

-- one that has a class is built already
module _ (g : Graph Op) (is : IsGraph op_signature g) where
  read_same : {ts : Trees Op} {cs : List ℕ} → AreClasses g [] ts cs → read_through g cs ≡ cs
  read_same {ts} {cs} h = map_at_same (cur g) cs (λ k d l. has_present op_signature g is (get_or cs k d) (classes_have g h k d l))

  mutual
    pub built_already : {t : Tree Op} {c : ℕ} → IsClass g [] t c → IsBuilt [] t g c g
    built_already (at_variable l) = absurd (omega (arith, l))
    built_already (at_row {op} {ts} {cs} {c} h k) =
        put (are_built_already h) (record {
          inserted = inl (subst (λ xs. HasRow g.rows op xs c) (sym (read_same h)) k, refl);
          values = λ meaning value true. (value, true, λ x l. refl);
          graph = is;
        })

    are_built_already : {ts : Trees Op} {cs : List ℕ} → AreClasses g [] ts cs → AreBuilt [] ts g cs g
    are_built_already no_classes = none_built
    are_built_already (classes h k) = one_built (built_already h) (are_built_already k)

-- one that was built has the class that it was given, since that is the class of a row
pub class_of_built : {t : Tree Op} {old new : Graph Op} {c : ℕ} → IsBuilt [] t old c new → IsGraph op_signature old → IsClass new [] t c
class_of_built (placed l) is = absurd (omega (arith, l))
class_of_built (put {op} {ts} {g} {h} {new} {cs} {c} a p) is =
    let row = insert_row h op cs c new p.inserted in
    subst (IsClass new [] (application op ts)) (row_present op_signature new p.graph (record { op = op; operands = read_through h cs; class = c }) row)
    (built_class [] (put a p) is (none_made g)).1

-- and the others keep theirs
pub class_beside : {t other : Tree Op} {old new : Graph Op} {c d : ℕ} → IsBuilt [] t old c new → IsClass old [] other d → IsClass new [] other d
class_beside {old} {new} b h = class_kept old new (built_extends [] b) [] h

-- ---- the graph

module _ (added : AddedRules) (present more : List (Tree Op)) (equal : List Pair) (g new : Graph Op)
    (is : IsGraph op_signature g) (inserted : AreInserted more g new) where
  placed_at : (t : Tree Op) (c : ℕ) → IsClass g [] t c → Placed g t
  placed_at t c h =
      let has = class_has g h in
      record { class = c; made = has_made op_signature g is c has; is = subst (IsClass g [] t) (sym (has_present op_signature g is c has)) h }

  there_still : (t : Tree Op) (c : ℕ) → IsClass g [] t c → (d : ℕ) × IsClass new [] t d
  there_still t c h = let p = placed_later g new (inserted_follows inserted is) t (placed_at t c h) in (cur new p.class, p.is)

  there_now : (t : Tree Op) → Contains more t → (d : ℕ) × IsClass new [] t d
  there_now t h = let p = All-contains (Placed new) more t (all_placed inserted is) h in (cur new p.class, p.is)

  pub still_grown : IsGrown added present equal g 0 → IsGrown added (present ++ more) equal new 0
  still_grown grown =
      let good = inserted_good added (present ++ more) equal inserted is
      ((λ t u c h k. with_more added present more equal ((grown.exact t u).0 (record { class = c; first = h; second = k }))), grown.inhabited)
      (λ k d l. given (get_or more k d) (Contains-append_right present more (get_or more k d) (All-contains_itself more k d l))) in
      let inew = inserted_graph inserted is in
      record {
        distinct = inew.distinct;
        operands = inew.operands;
        inhabited = good.1;
        exact = λ t u. (
          λ h. good.0 t u h.class h.first h.second,
          λ d. complete_at_start added (present ++ more) equal new inew.distinct
              (λ v h. elim (Contains-append_cases present more v h) [
                | inl old ↦ (let o = (grown.exact v v).1 (given v old) in let k = there_still v o.class o.first in record { class = k.0; first = k.1; second = k.1 })
                | inr late ↦ (let k = there_now v late in record { class = k.0; first = k.1; second = k.1 })
              ])
              (λ v u h.
              let o = (grown.exact v u).1 (assumed v u h) in
              let has = class_has g o.first in
              let at = sym (has_present op_signature g is o.class has) in
              let p = together_later g new (inserted_follows inserted is) v u (record { class = o.class; made = has_made op_signature g is o.class has; first = subst (IsClass g [] v) at o.first; second = subst (IsClass g [] u) at o.second }) in
              record { class = cur new p.class; first = p.first; second = p.second })
              d refl,
        );
      }

  pub still_stands : Law → (names : ℕ → List ℕ) (kept : List (Tree Op)) → All IsSorted more → GraphStands names added equal kept g → GraphStands names added equal (kept ++ more) new
  still_stands law names kept sorted stands = record {
    classes = λ t h. elim (Contains-append_cases kept more t h) [
      | inl old ↦ (let k = stands.classes t old in there_still t k.0 k.1)
      | inr late ↦ there_now t late
    ];
    values = λ world is_world rules.
        let v = stands.values world is_world rules in
        let k = inserted_stands law world is_world names inserted is sorted (record { values = v.0; true = v.1 }) in (
          k.values,
          k.true,
          λ t c h at.
              class_value law world is_world names new k.values k.true [] at
              ∙ value_agrees law world is_world names 0 (λ n. k.values (get_or [] n 0)) (λ n. get_or [] n (word 0)) (λ n l. absurd (omega (arith, l))) t (closed_below new t at),
        );
  }
