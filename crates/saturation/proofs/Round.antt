-- One round makes of a graph that is grown for j one that is grown for j + 1.
use Rattle.std.proofs.Common.{◌≡◌, ◌≢◌, ℕ, zero, suc, ◌+◌, ◌<◌, List, [], ◌∷◌, map, length, get_or, slice_index_or, Contains, AllPairs, All, refl, sym, ap, subst, inl, inr, arith}
use Rattle.std.proofs.lemmas.List.{get_or-map, get_or_default, length-map}
use Rattle.std.proofs.lemmas.List.Elements.{All-head, All-tail, All-contains}
use Rattle.word_ops.specs.declared.sorts.Op.{Op}
use Rattle.word_ops.specs.declared.sorts.Op.TheVariants.{Constant}
use Rattle.word_terms.specs.Keys.{op_signature}
use Rattle.word_terms.specs.Tree.{Tree, Trees, variable, application, none, more, put_in, substituted, each_substituted, AreBelow}
use Rattle.axiom_base.specs.Rewrites.{Rewrite, IsUsable}
use Rattle.word_terms.specs.Building.{constant}
use Rattle.word_terms.specs.Sorting.{Occurs, OccursInOne}
use Rattle.egraph.specs.Graph.{Graph, Agree, HasClass, HasConstant, IsGraph}
use Rattle.pattern_match.specs.Classes.{IsClass, AreClasses, at_row, no_classes, classes, HaveOneClass}
use Rattle.axiom_base.specs.Schemes.{AddedRules, IsRuleOf}
use Rattle.pattern_match.specs.Matches.{IsMatch}
use Rattle.saturation.specs.Trace.{Asked, AreAllApplied, IsRefused}
use Rattle.saturation.specs.Derives.{Derives, DerivesEach, given, assumed, symmetric, transitive, later, operand, congruent, by_rule, no_operands, operands}
use Rattle.saturation.specs.Grown.{IsGrown, AreInhabited}
use Rattle.saturation.proofs.Graphs.{cur, has_made, has_present}
use Rattle.saturation.proofs.Classes.{one_class, at_instance, from_instance, class_has, class_moved}
use Rattle.saturation.proofs.Complete.{one_back, one_through, operand_class, congruent_class, Pairs, no_pair, one_pair}
use Rattle.saturation.proofs.Follows.{Follows}
use Rattle.saturation.proofs.Made.{IsAbout, IsThere, IsJustified, all_made_graph, all_made_follow, all_there, all_made_good, refused_is_clash, constant_class}
use Rattle.saturation.specs.Asking.{AsksFor}
use Rattle.saturation.proofs.Asks.{Asks, asked_justified, asked_class}
use Rattle.saturation.proofs.Below.{sort_below}

-- the value of a variable of an instance with a class has one too
module _ (g : Graph Op) (values : List (Tree Op)) (n : ℕ) where
  mutual
    value_class : (p : Tree Op) {c : ℕ} → Occurs n p → IsClass g [] (substituted values p) c → (d : ℕ) × IsClass g [] (put_in values n) d
    value_class (variable k) {c} e h = (c, subst (λ m. IsClass g [] (put_in values m) c) (sym e) h)
    value_class (application op ts) i (at_row h k) = value_class_in ts i h

    value_class_in : (ps : Trees Op) {cs : List ℕ} → OccursInOne n ps → AreClasses g [] (each_substituted values ps) cs → (d : ℕ) × IsClass g [] (put_in values n) d
    value_class_in none i h = absurd i
    value_class_in (more p ps) i (classes h k) = elim i [ inl a ↦ value_class p a h | inr b ↦ value_class_in ps b k ]

by_cases : (Q : ℕ → Type 0) → Q 0 → ((m : ℕ) → Q (suc m)) → (k : ℕ) → Q k
by_cases Q z f zero = z
by_cases Q z f (suc m) = f m

-- a list of what there is for each number below n
collect : (n : ℕ) (P : ℕ → ℕ → Type 0) → ((k : ℕ) → k < n → (c : ℕ) × P k c) → (cs : List ℕ) × (length cs ≡ n) × ((k : ℕ) → k < n → P k (get_or cs k 0))
collect zero P f = ([], refl, λ k l. absurd (omega arith))
collect (suc n) P f =
    let h = f 0 (omega arith) in
    let t = collect n (λ k c. P (suc k) c) (λ k l. f (suc k) (omega arith)) in
    let Q : ℕ → Type 0 = λ k. k < suc n → P k (get_or (h.0 ∷ t.0) k 0) in
    (h.0 ∷ t.0, ap suc t.1, λ k. by_cases Q (λ l. h.1) (λ m l. t.2 m (omega arith)) k)

-- a class of a constant's term has the constant
pub class_constant : (g : Graph Op) (c x : ℕ) → IsClass g [] (constant x) c → HasConstant op_signature g.rows c x
class_constant g c x (at_row {cs} {c = d} no_classes k) = record { row = record { op = Constant x; operands = []; class = d }; there = k; of_class = refl; is = refl }

module _ (added : AddedRules) (present : List (Tree Op)) (equal : List (Tree Op × Tree Op)) (j : ℕ)
    (usable : (r : Rewrite) → IsRuleOf added r → IsUsable r)
    (g : Graph Op) (apart : AllPairs (λ r t. ¬ Agree r t) g.rows)
    (before : (t u : Tree Op) → Derives added present equal j t u → HaveOneClass g [] t u)
    (new : Graph Op) (apart' : AllPairs (λ r t. ¬ Agree r t) new.rows) (follows : Follows g new)
    (now : (t : Tree Op) (c : ℕ) → IsClass g [] t c → IsClass new [] t (cur new c))
    (answered : (r : Rewrite) (places : List ℕ) (c : ℕ) → IsRuleOf added r → IsMatch g r places c → IsClass new (map (cur new) places) r.right (cur new c)) where
  kept_one : {t u : Tree Op} → HaveOneClass g [] t u → HaveOneClass new [] t u
  kept_one {t} {u} h = record { class = cur new h.class; first = now t h.class h.first; second = now u h.class h.second }

  -- both instances of a rule have one class after the round
  rule_done : (r : Rewrite) (values : List (Tree Op)) → IsRuleOf added r → HaveOneClass g [] (substituted values r.left) (substituted values r.left) →
      ((n c : ℕ) → Contains r.constants (n, c) → HaveOneClass g [] (put_in values n) (constant c)) →
      HaveOneClass new [] (substituted values r.left) (substituted values r.right)
  rule_done r values is left constants =
      let w = usable r is in
      let count = length r.variables in
      let places = collect count (λ n c. IsClass g [] (put_in values n) c) (λ n l. value_class g values n r.left (w.all n l) left.first) in
      let each : (n : ℕ) → n < length places.0 → IsClass g [] (put_in values n) (get_or places.0 n 0) = λ n l. places.2 n (omega (arith, l, places.1)) in
      let match_left = from_instance g places.0 values each apart r.left {c = left.class} (subst (λ n. AreBelow n r.left) (sym places.1) (sort_below r.variables w.sort r.left w.left)) left.first in
      let have : All (HasClass g) places.0 = λ n d l. subst (HasClass g) (get_or_default places.0 n 0 d l) (class_has g (each n l)) in
      let match : IsMatch g r places.0 left.class = record {
        count = places.1;
        present = have;
        left = match_left;
        constants = λ n c h.
            let k = constants n c h in
            class_constant g (get_or places.0 n 0) c (subst (IsClass g [] (constant c)) (one_class g apart [] k.first (places.2 n (w.constants n c h))) k.second);
      } in
      let right = answered r places.0 left.class is match in
      let each' : (n : ℕ) → n < length (map (cur new) places.0) → IsClass new [] (put_in values n) (get_or (map (cur new) places.0) n 0) =
      λ n l. let b : n < length places.0 = omega (arith, l, length-map places.0 (cur new)) in
      subst (IsClass new [] (put_in values n)) (sym (get_or-map (cur new) places.0 n 0 0 b)) (now (put_in values n) (get_or places.0 n 0) (each n b)) in
      record {
        class = cur new left.class;
        first = now (substituted values r.left) left.class left.first;
        second = at_instance new (map (cur new) places.0) values each' right;
      }

  mutual
    complete_after : {k : ℕ} {t u : Tree Op} → Derives added present equal k t u → k ≡ j + 1 → HaveOneClass new [] t u
    complete_after (given t h) e = absurd (omega arith)
    complete_after (assumed t u h) e = absurd (omega arith)
    complete_after (symmetric d) e = one_back new apart' (complete_after d e)
    complete_after (transitive d f) e = one_through new apart' (complete_after d e) (complete_after f e)
    complete_after (later {j = i} {t} {u} d) e = let f : i ≡ j = omega arith in kept_one (before t u (subst (λ n. Derives added present equal n t u) f d))
    complete_after (operand t h d) e = operand_class new apart' t h (complete_after d e)
    complete_after (congruent d f) e = congruent_class new apart' (complete_after d e) (complete_each_after f e)
    complete_after (by_rule {j = i} r values is d f) e =
        let n : i ≡ j = omega arith in
        rule_done r values is
        (before (substituted values r.left) (substituted values r.left) (subst (λ k. Derives added present equal k (substituted values r.left) (substituted values r.left)) n d))
        (λ v c h. before (put_in values v) (constant c) (subst (λ k. Derives added present equal k (put_in values v) (constant c)) n (f v c h)))

    complete_each_after : {k : ℕ} {ts us : Trees Op} → DerivesEach added present equal k ts us → k ≡ j + 1 → Pairs new apart' ts us
    complete_each_after no_operands e = no_pair
    complete_each_after (operands d f) e = one_pair (complete_after d e) (complete_each_after f e)

-- ---- the round

at_place : (g : Graph Op) (c : ℕ) (cs : List ℕ) (t : Tree Op) (ts : List (Tree Op)) → IsClass g [] t c → ((m : ℕ) (d : Tree Op) → m < length cs → IsClass g [] (slice_index_or ts m d) (get_or cs m 0)) →
    (n : ℕ) (d : Tree Op) → n < length (c ∷ cs) → IsClass g [] (slice_index_or (t ∷ ts) n d) (get_or (c ∷ cs) n 0)
at_place g c cs t ts h f zero d l = h
at_place g c cs t ts h f (suc n) d l = f n d (omega arith)

-- terms of the places' classes
terms_at : (g : Graph Op) → AreInhabited g → (places : List ℕ) → All (HasClass g) places →
    (values : List (Tree Op)) × ((n : ℕ) (d : Tree Op) → n < length places → IsClass g [] (slice_index_or values n d) (get_or places n 0))
terms_at g inh [] h = ([], λ n d l. absurd (omega arith))
terms_at g inh (c ∷ cs) h =
    let t = inh c (All-head (HasClass g) c cs h) in
    let ts = terms_at g inh cs (All-tail (HasClass g) c cs h) in
    (t.0 ∷ ts.0, λ n d l. at_place g c cs t.0 ts.0 t.1 ts.1 n d l)

module _ (added : AddedRules) (present : List (Tree Op)) (equal : List (Tree Op × Tree Op)) (j : ℕ)
    (usable : (r : Rewrite) → IsRuleOf added r → IsUsable r)
    (g : Graph Op) (is : IsGraph op_signature g) (grown : IsGrown added present equal g j) (asked : List Asked) (are : Asks added g asked) where
  match_justified : (r : Rewrite) → IsRuleOf added r → (places : List ℕ) (class : ℕ) → IsMatch g r places class → IsJustified (Derives added present equal (j + 1)) g (record { right = r.right; places = places; class = class })
  match_justified r rule places class m =
      let w = usable r rule in
      let ts = terms_at g grown.inhabited places m.present in
      let left_class : IsClass g [] (substituted ts.0 r.left) class = at_instance g places ts.0 (λ n l. ts.1 n (variable n) l) m.left in
      let left : Derives added present equal j (substituted ts.0 r.left) (substituted ts.0 r.left) =
      (grown.exact (substituted ts.0 r.left) (substituted ts.0 r.left)).0 (record { class = class; first = left_class; second = left_class }) in
      let stays : (t : Tree Op) (c : ℕ) → IsClass g [] t c → IsClass g [] t (cur g c) = λ t c k. subst (IsClass g [] t) (sym (has_present op_signature g is c (class_has g k))) k in
      let consts : (n c : ℕ) → Contains r.constants (n, c) → Derives added present equal j (put_in ts.0 n) (constant c) =
      λ n c k.
      let b : n < length places = omega (arith, m.count, w.constants n c k) in
      (grown.exact (put_in ts.0 n) (constant c)).0 (record { class = get_or places n 0; first = ts.1 n (variable n) b; second = constant_class g is (get_or places n 0) c (m.constants n c k) }) in
      record {
        values = ts.0;
        left = substituted ts.0 r.left;
        stand = record {
          made = λ n d l. has_made op_signature g is (get_or places n d) (m.present n d l);
          each = λ n l. stays (put_in ts.0 n) (get_or places n 0) (ts.1 n (variable n) l);
        };
        class_made = has_made op_signature g is class (class_has g left_class);
        left_class = stays (substituted ts.0 r.left) class left_class;
        equal = by_rule r ts.0 rule left consts;
      }

  justified : (a : Asked) → (r : Rewrite) × IsRuleOf added r × ((places : List ℕ) × IsMatch g r places a.class × AsksFor r places a) → IsJustified (Derives added present equal (j + 1)) g a
  justified a h = asked_justified (Derives added present equal (j + 1)) g h.0 h.2.0 a h.2.2 (match_justified h.0 h.1 h.2.0 a.class h.2.1)

  all_justified : All (IsJustified (Derives added present equal (j + 1)) g) asked
  all_justified = λ n d l. justified (get_or asked n d) (are.each n d l)

  abouts : All (IsAbout g) asked
  abouts = λ n d l. let q = all_justified n d l in record { places = q.stand.made; class = q.class_made }

  sound_before : (t u : Tree Op) (c : ℕ) → IsClass g [] t c → IsClass g [] u c → Derives added present equal (j + 1) t u
  sound_before t u c h k = later ((grown.exact t u).0 (record { class = c; first = h; second = k }))

  pub round_is_grown : (new : Graph Op) → AreAllApplied asked g new → IsGrown added present equal new (j + 1)
  round_is_grown new made =
      let good = all_made_good added present equal (j + 1) made is (sound_before, grown.inhabited) all_justified in
      let follows = all_made_follow made is in
      let new_is = all_made_graph made is in
      let there = all_there made is abouts in
      let now : (t : Tree Op) (c : ℕ) → IsClass g [] t c → IsClass new [] t (cur new c) = λ t c h. class_moved g new (cur new) follows.rows [] h in
      let answered : (r : Rewrite) (places : List ℕ) (c : ℕ) → IsRuleOf added r → IsMatch g r places c → IsClass new (map (cur new) places) r.right (cur new c) =
      λ r places c of m. elim (are.all r of places c m) [
        | inl met ↦ class_moved g new (cur new) follows.rows places met
        | inr h ↦
            (let k = All-contains (IsThere new) asked h.0 there h.1 in
            subst (λ x. IsClass new (map (cur new) places) r.right (cur new x)) h.2 (asked_class new (cur new) r places h.0 (cur new h.0.class) h.3 k))
      ] in
      record {
        distinct = new_is.distinct;
        operands = new_is.operands;
        inhabited = good.1;
        exact = λ t u. (
          λ h. good.0 t u h.class h.first h.second,
          λ d. complete_after added present equal j usable g is.distinct (λ x y e. (grown.exact x y).1 e) new new_is.distinct follows now answered d refl,
        );
      }

  -- a refused round shows a clash
  pub round_clashes : (x y : ℕ) → IsRefused asked g x y → Derives added present equal (j + 1) (constant x) (constant y) × (x ≢ y)
  round_clashes x y refused = refused_is_clash added present equal (j + 1) refused is (sound_before, grown.inhabited) all_justified

-- a graph of the program shows that there is none
pub grown_has_no_clash : (added : AddedRules) (present : List (Tree Op)) (equal : List (Tree Op × Tree Op)) (j : ℕ) (g : Graph Op) → IsGraph op_signature g → IsGrown added present equal g j →
    (x y : ℕ) → Derives added present equal j (constant x) (constant y) → x ≡ y
grown_has_no_clash added present equal j g is grown x y d =
    let h = (grown.exact (constant x) (constant y)).1 d in
    is.constants h.class x y (class_constant g h.class x h.first) (class_constant g h.class y h.second)
