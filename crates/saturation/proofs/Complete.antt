-- What holds of terms of one class as of derived equalities; and each equality that is derived at the start is in the graph.
use Rattle.std.proofs.Common.{◌≡◌, ℕ, List, [], Contains, AllPairs, subst, arith}
use Rattle.word_ops.specs.declared.sorts.Op.{Op}
use Rattle.word_terms.specs.Tree.{Tree, Trees, application, none, more}
use Rattle.axiom_base.specs.Schemes.{AddedRules}
use Rattle.egraph.specs.Graph.{Graph, Agree}
use Rattle.pattern_match.specs.Classes.{IsClass, AreClasses, at_row, no_classes, classes, HaveOneClass}
use Rattle.saturation.specs.Derives.{IsAmong, first, rest, Derives, DerivesEach, given, assumed, symmetric, transitive, later, operand, congruent, by_rule, no_operands, operands}
use Rattle.saturation.proofs.Classes.{one_class}
use Rattle.saturation.proofs.Sound.{Each, each_none, each_one, IsEquality}

-- what is derived at j is an equality that congruence does not leave
module _ (added : AddedRules) (present : List (Tree Op)) (equal : List (Tree Op × Tree Op)) (j : ℕ) where
  derives_each : {ts us : Trees Op} → Each (Derives added present equal j) ts us → DerivesEach added present equal j ts us
  derives_each each_none = no_operands
  derives_each (each_one d e) = operands d (derives_each e)

  pub derives_equality : IsEquality (Derives added present equal j)
  derives_equality = record {
    turn = λ d. symmetric d;
    join = λ d e. transitive d e;
    apply = λ d e. congruent d (derives_each e);
  }

-- one class, back and forth
module _ {O : Type 0} (g : Graph O) (apart : AllPairs (λ r t. ¬ Agree r t) g.rows) where
  pub one_back : {t u : Tree O} → HaveOneClass g [] t u → HaveOneClass g [] u t
  one_back h = record { class = h.class; first = h.second; second = h.first }

  pub one_through : {t u v : Tree O} → HaveOneClass g [] t u → HaveOneClass g [] u v → HaveOneClass g [] t v
  one_through {v} h k = record { class = h.class; first = h.first; second = subst (IsClass g [] v) (one_class g apart [] k.first h.second) k.second }

  class_among : (t : Tree O) {ts : Trees O} {cs : List ℕ} → IsAmong t ts → AreClasses g [] ts cs → (c : ℕ) × IsClass g [] t c
  class_among t first (classes {c = c} h i) = (c, h)
  class_among t (rest k) (classes h i) = class_among t k i

  of_row : {op : O} {ts : Trees O} {c : ℕ} → IsClass g [] (application op ts) c → (t : Tree O) → IsAmong t ts → (d : ℕ) × IsClass g [] t d
  of_row (at_row h k) t i = class_among t i h

  pub operand_class : {op : O} {ts : Trees O} (t : Tree O) → IsAmong t ts → HaveOneClass g [] (application op ts) (application op ts) → HaveOneClass g [] t t
  operand_class t h k = let f = of_row k.first t h in record { class = f.0; first = f.1; second = f.1 }

  -- operands with the classes of others, place by place, where the application of those has a class
  pub data Pairs : Trees O → Trees O → Type 0 where
    no_pair : Pairs none none
    one_pair : {t u : Tree O} {ts us : Trees O} → HaveOneClass g [] t u → Pairs ts us → Pairs (more t ts) (more u us)

  pairs_classes : {ts us : Trees O} {cs : List ℕ} → Pairs ts us → AreClasses g [] ts cs → AreClasses g [] us cs
  pairs_classes no_pair no_classes = no_classes
  pairs_classes (one_pair {u} p q) (classes h i) = classes (subst (IsClass g [] u) (one_class g apart [] p.first h) p.second) (pairs_classes q i)

  other : {op : O} {ts us : Trees O} {c : ℕ} → IsClass g [] (application op ts) c → Pairs ts us → IsClass g [] (application op us) c
  other (at_row h k) p = at_row (pairs_classes p h) k

  pub congruent_class : {op : O} {ts us : Trees O} → HaveOneClass g [] (application op ts) (application op ts) → Pairs ts us → HaveOneClass g [] (application op ts) (application op us)
  congruent_class h p = record { class = h.class; first = h.first; second = other h.first p }

-- at the start each given term has a class, and each pair one class, so each equality derived then is in the graph
module _ (added : AddedRules) (present : List (Tree Op)) (equal : List (Tree Op × Tree Op)) (g : Graph Op) (apart : AllPairs (λ r t. ¬ Agree r t) g.rows)
    (have : (t : Tree Op) → Contains present t → HaveOneClass g [] t t) (same : (t u : Tree Op) → Contains equal (t, u) → HaveOneClass g [] t u) where
  mutual
    pub complete_at_start : {j : ℕ} {t u : Tree Op} → Derives added present equal j t u → j ≡ 0 → HaveOneClass g [] t u
    complete_at_start (given t h) e = have t h
    complete_at_start (assumed t u h) e = same t u h
    complete_at_start (symmetric d) e = one_back g apart (complete_at_start d e)
    complete_at_start (transitive d f) e = one_through g apart (complete_at_start d e) (complete_at_start f e)
    complete_at_start (later d) e = absurd (omega arith)
    complete_at_start (operand t h d) e = operand_class g apart t h (complete_at_start d e)
    complete_at_start (congruent d f) e = congruent_class g apart (complete_at_start d e) (complete_each_at_start f e)
    complete_at_start (by_rule r values is d f) e = absurd (omega arith)

    complete_each_at_start : {j : ℕ} {ts us : Trees Op} → DerivesEach added present equal j ts us → j ≡ 0 → Pairs g apart ts us
    complete_each_at_start no_operands e = no_pair
    complete_each_at_start (operands d f) e = one_pair (complete_at_start d e) (complete_each_at_start f e)
