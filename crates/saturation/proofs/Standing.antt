-- Values of classes under which all rows are true, through the inserts and merges of a round.
use Rattle.std.proofs.Common.{◌≡◌, ℕ, ◌+◌, ◌<◌, ◌≤◌, List, map, length, get_or, Contains, All, refl, sym, ap, ◌∙◌, subst, inl, inr, arith}
use Rattle.std.proofs.lemmas.List.{get_or-map, length-map}
use Rattle.std.proofs.lemmas.List.Elements.{All-contains, All-head, All-tail, All-weaker, Contains-get_or, Contains-push_cases}
use Rattle.word_ops.specs.Worlds.{Value, word, World, IsWorld, IsValue}
use Rattle.word_ops.specs.Meanings.{sort_of, operand_sort, meaning, AreOperands, IsInRange}
use Rattle.word_ops.specs.declared.sorts.Op.{Op}
use Rattle.word_ops.specs.declared.sorts.Sort.{Sort}
use Rattle.word_terms.specs.Keys.{op_signature}
use Rattle.word_terms.specs.Laws.{op_constant_is_own}
use Rattle.word_terms.specs.Tree.{Tree, Trees, variable, application, none, more, value, each_value, AreBelow, EachBelow}
use Rattle.axiom_base.specs.Rewrites.{Rewrite, IsTrueIn, AreValuesFor, value_in, IsUsable}
use Rattle.word_terms.specs.Sorting.{HasSort, HaveSorts, sort_at}
use Rattle.egraph.specs.declared.rows.Row.{Row}
use Rattle.egraph.specs.Graph.{Graph, HasClass, IsGraph, HasConstant, read_through}
use Rattle.pattern_match.specs.Classes.{IsClass, AreClasses, at_variable, at_row, no_classes, classes}
use Rattle.saturation.specs.Trace.{Asked, IsPut, IsJoined, IsBuilt, AreBuilt, placed, put, none_built, one_built, IsApplied, AreAllApplied, finished, work, MayJoin}
use Rattle.pattern_match.specs.Matches.{IsMatch}
use Rattle.saturation.specs.GraphStands.{IsTrueGraph}
use Rattle.saturation.proofs.Graphs.{cur, row_made, row_present, has_made, has_present, current_has}
use Rattle.word_ops.specs.declared.sorts.Op.TheVariants.{Constant}
use Rattle.saturation.proofs.Follows.{insert_extends, join_follows}
use Rattle.saturation.proofs.Building.{made_of}
use Rattle.saturation.proofs.Made.{made_graph, made_follows}
use Rattle.saturation.proofs.Below.{sort_below}
use Rattle.saturation.proofs.MatchSorts.{match_places, match_has}
use Rattle.saturation.proofs.Built.{AreMadeIn, made_later, built_graph, are_built_graph, built_extends, are_built_extends, are_built_classes, built_class}

-- what an operator gives is in range where its operands are
abbrev pub Law : Type 0
Law = (world : World) (names : ℕ → List ℕ) (op : Op) (vs : List Value) → IsWorld world → IsInRange op → AreOperands op vs → IsValue (sort_of op) (meaning world names op vs)

module _ (law : Law) (world : World) (is_world : IsWorld world) (names : ℕ → List ℕ) where
  abbrev M : Op → List Value → Value
  M = meaning world names

  abbrev pub True : (ℕ → Value) → Graph Op → Type 0
  True V g = IsTrueGraph world names V g

  -- the value of a term's class is the term's
  module _ (g : Graph Op) (V : ℕ → Value) (true : True V g) (places : List ℕ) where
    mutual
      pub class_value : {t : Tree Op} {c : ℕ} → IsClass g places t c → V c ≡ value M (λ n. V (get_or places n 0)) t
      class_value (at_variable l) = refl
      class_value (at_row {op} {ts} {cs} {c} h k) =
          All-contains (λ (r : Row Op). V r.class ≡ M r.op (map V r.operands)) g.rows (record { op = op; operands = cs; class = c }) true.rows k ∙ ap (M op) (class_values h)

      class_values : {ts : Trees Op} {cs : List ℕ} → AreClasses g places ts cs → map V cs ≡ each_value M (λ n. V (get_or places n 0)) ts
      class_values no_classes = refl
      class_values (classes h k) = let e = class_value h in let f = class_values k in cc

  -- the values of a row's operands are in range
  operands_in_range : (g : Graph Op) → IsGraph op_signature g → (V : ℕ → Value) → All (λ (r : Row Op). IsValue (sort_of r.op) (V r.class)) g.rows → (r : Row Op) → Contains g.rows r →
      ((i : ℕ) → i < length r.operands → IsValue (operand_sort r.op i) (V (get_or r.operands i 0)))
  operands_in_range g is V values r h i l =
      let has = All-contains (λ (t : Row Op). All (HasClass g) t.operands) g.rows r is.operands h i 0 l in
      let e : operand_sort r.op i ≡ sort_of has.row.op = is.operand_sorts r has.row i h has.there l has.is in
      let v = All-contains (λ (t : Row Op). IsValue (sort_of t.op) (V t.class)) g.rows has.row values has.there in
      subst (λ s. IsValue s (V (get_or r.operands i 0))) (sym e) (subst (λ c. IsValue (sort_of has.row.op) (V c)) has.is v)

  -- values that make the old rows true have values for a new row
  are_built_made : {places : List ℕ} {ts : Trees Op} {g new : Graph Op} {cs : List ℕ} → AreBuilt places ts g cs new → IsGraph op_signature g → AreMadeIn g places → AreMadeIn new cs
  are_built_made {places} a is made = (are_built_classes places a is made).0

  pub record Later (V : ℕ → Value) (g new : Graph Op) : Type 0 where
    pub values : ℕ → Value
    pub true : True values new
    pub same : (c : ℕ) → c < length g.current → values c ≡ V c

  put_true : (g new : Graph Op) (op : Op) (cs : List ℕ) (c : ℕ) (V : ℕ → Value) → IsGraph op_signature g → AreMadeIn g cs → True V g → IsInRange op → IsPut g op cs c new → Later V g new
  put_true g new op cs c V is made true in_range p =
      let e = p.values M V true.rows in
      let W = e.0 in
      let ext = insert_extends g op cs c new p.inserted in
      let old_value : (r : Row Op) → Contains g.rows r → IsValue (sort_of r.op) (W r.class) =
      λ r h. subst (IsValue (sort_of r.op)) (sym (e.2 r.class (row_made op_signature g is r h))) (All-contains (λ (t : Row Op). IsValue (sort_of t.op) (V t.class)) g.rows r true.values h) in
      let here = read_through g cs in
      let added : Row Op = record { op = op; operands = here; class = length g.current } in
      let new_value : Contains new.rows added → IsValue (sort_of op) (W (length g.current)) =
      λ h.
      let count : length (map W here) ≡ op_signature.arity op = length-map here W ∙ All-contains (λ (t : Row Op). length t.operands ≡ op_signature.arity t.op) new.rows added p.graph.arities h in
      let each : (at : ℕ) → at < length (map W here) → IsValue (operand_sort op at) (get_or (map W here) at (word 0)) =
      λ at l.
      let lh : at < length here = omega (arith, l, length-map here W) in
      let lc : at < length cs = omega (arith, lh, length-map cs (cur g)) in
      let has : HasClass g (get_or here at 0) = subst (HasClass g) (sym (get_or-map (cur g) cs at 0 0 lc)) (current_has op_signature g is (get_or cs at 0) (made at 0 lc)) in
      let sorts : operand_sort op at ≡ sort_of has.row.op = p.graph.operand_sorts added has.row at h (ext.rows has.row has.there) lh has.is in
      let v : IsValue (sort_of has.row.op) (W (get_or here at 0)) = subst (λ x. IsValue (sort_of has.row.op) (W x)) has.is (old_value has.row has.there) in
      subst (IsValue (operand_sort op at)) (sym (get_or-map W here at 0 (word 0) lh)) (subst (λ s. IsValue s (W (get_or here at 0))) (sym sorts) v) in
      let value_is : M op (map W here) ≡ W (length g.current) = sym (All-contains (λ (t : Row Op). W t.class ≡ M t.op (map W t.operands)) new.rows added e.1 h) in
      subst (IsValue (sort_of op)) value_is (law world names op (map W here) is_world in_range (record { count = count; each = each })) in
      let all : (r : Row Op) → Contains new.rows r → IsValue (sort_of r.op) (W r.class) =
      λ r h. elim p.inserted [
        | inl old ↦ old_value r (subst (λ (k : Graph Op). Contains k.rows r) old.1 h)
        | inr fresh ↦ elim (Contains-push_cases g.rows added r (subst (λ (k : Graph Op). Contains k.rows r) fresh.2 h)) [
          | inl old ↦ old_value r old
          | inr same ↦ subst (λ (t : Row Op). IsValue (sort_of t.op) (W t.class)) same (new_value (subst (Contains new.rows) (sym same) h))
        ]
      ] in
      record {
        values = W;
        true = record { rows = e.1; values = λ k d l. all (get_or new.rows k d) (Contains-get_or new.rows k d l) };
        same = e.2;
      }

  later_through : (V : ℕ → Value) (g h new : Graph Op) → length g.current ≤ length h.current → (a : Later V g h) → Later a.values h new → Later V g new
  later_through V g h new l a b = record { values = b.values; true = b.true; same = λ c k. b.same c (omega (arith, k, l)) ∙ a.same c k }

  module _ (places : List ℕ) (variables : List Sort) where
    mutual
      pub built_true : (t : Tree Op) (sort : Sort) {g new : Graph Op} {c : ℕ} (V : ℕ → Value) → IsBuilt places t g c new → IsGraph op_signature g → AreMadeIn g places → HasSort op_signature variables sort t → True V g → Later V g new
      built_true (variable n) sort V (placed l) is made h true = record { values = V; true = true; same = λ c k. refl }
      built_true (application op ts) sort V (put {g} {h = mid} {new} {cs} {c} a p) is made h true =
          let first = are_built_true op 0 ts V a is made h.3 true in
          let m = are_built_made a is made in
          let second = put_true mid new op cs c first.values (are_built_graph places a is) m first.true h.1 p in
          later_through V g mid new (are_built_extends places a).longer first second

      are_built_true : (op : Op) (at : ℕ) (ts : Trees Op) {g new : Graph Op} {cs : List ℕ} (V : ℕ → Value) → AreBuilt places ts g cs new → IsGraph op_signature g → AreMadeIn g places → HaveSorts op_signature variables op at ts → True V g → Later V g new
      are_built_true op at none V none_built is made h true = record { values = V; true = true; same = λ c k. refl }
      are_built_true op at (more t ts) V (one_built {g} {h = mid} {new} b a) is made h true =
          let first = built_true t (operand_sort op at) V b is made h.0 true in
          let second = are_built_true op (at + 1) ts first.values a (built_graph places b is) (made_later g mid (built_extends places b) places made) h.1 first.true in
          later_through V g mid new (built_extends places b).longer first second

  -- values that make an old graph true have values for a later one, under which each class has the value that it had
  pub record Moves (V : ℕ → Value) (g new : Graph Op) : Type 0 where
    pub values : ℕ → Value
    pub true : True values new
    pub moved : (c : ℕ) → c < length g.current → values (cur new c) ≡ V (cur g c)

  join_true : (old new : Graph Op) (a b : ℕ) (V : ℕ → Value) → IsGraph op_signature old → True V old → V (cur old a) ≡ V (cur old b) → IsJoined old a b new → Moves V old new
  join_true old new a b V is true one j =
      let k = j.values M V true.rows one in
      let all : (r : Row Op) → Contains new.rows r → IsValue (sort_of r.op) (V r.class) =
      λ r h.
      let u = j.merged.from_old r h in
      let e : V (cur new u.0.class) ≡ V u.0.class = k.1 u.0.class (row_made op_signature old is u.0 u.1) ∙ ap V (row_present op_signature old is u.0 u.1) in
      let v : IsValue (sort_of u.0.op) (V (cur new u.0.class)) = subst (IsValue (sort_of u.0.op)) (sym e) (All-contains (λ (t : Row Op). IsValue (sort_of t.op) (V t.class)) old.rows u.0 true.values u.1) in
      subst (λ (t : Row Op). IsValue (sort_of t.op) (V t.class)) (sym u.2) v in
      record { values = V; true = record { rows = k.0; values = λ n d l. all (get_or new.rows n d) (Contains-get_or new.rows n d l) }; moved = k.1 }

  -- the right side has the value of the class
  abbrev pub TrueAsk : (ℕ → Value) → Graph Op → Asked → Type 0
  TrueAsk V g a = value M (λ n. V (cur g (get_or a.places n 0))) a.right ≡ V (cur g a.class)

  mutual
    pub value_agrees : (n : ℕ) (f h : ℕ → Value) → ((k : ℕ) → k < n → f k ≡ h k) → (t : Tree Op) → AreBelow n t → value M f t ≡ value M h t
    value_agrees n f h e (variable k) b = e k b
    value_agrees n f h e (application op ts) b = ap (M op) (values_agree n f h e ts b)

    values_agree : (n : ℕ) (f h : ℕ → Value) → ((k : ℕ) → k < n → f k ≡ h k) → (ts : Trees Op) → EachBelow n ts → each_value M f ts ≡ each_value M h ts
    values_agree n f h e none b = refl
    values_agree n f h e (more t ts) b = let x = value_agrees n f h e t b.0 in let y = values_agree n f h e ts b.1 in cc

  may_below : (g : Graph Op) (a : Asked) → MayJoin g a → AreBelow (length a.places) a.right
  may_below g a m = subst (λ n. AreBelow n a.right) (sym m.right.count) (sort_below m.right.variables m.sort a.right m.right.has_sort)

  -- before the merge the two classes have one value
  pub record Meeting (V : ℕ → Value) (a : Asked) (g mid : Graph Op) (class : ℕ) : Type 0 where
    pub values : ℕ → Value
    pub true : True values mid
    pub one : values (cur mid class) ≡ values (cur mid a.class)
    pub at : (x : ℕ) → x < length g.current → values (cur mid x) ≡ V (cur g x)

  pub meeting : (a : Asked) (g mid : Graph Op) (class : ℕ) (V : ℕ → Value) → IsBuilt a.places a.right g class mid → IsGraph op_signature g → MayJoin g a → True V g → TrueAsk V g a → Meeting V a g mid class
  meeting a g mid class V b is may true asked =
      let places_made = made_of g a.places a.right may.sort may.right in
      let ext = built_extends a.places b in
      let first = built_true a.places may.right.variables a.right may.sort V b is places_made may.right.has_sort true in
      let W = first.values in
      let cls = built_class a.places b is places_made in
      let at : (x : ℕ) → x < length g.current → W (cur mid x) ≡ V (cur g x) =
      λ x l. ap W (ext.same x l) ∙ first.same (cur g x) (has_made op_signature g is (cur g x) (current_has op_signature g is x l)) in
      let agree : (k : ℕ) → k < length a.places → W (get_or (map (cur mid) a.places) k 0) ≡ V (cur g (get_or a.places k 0)) =
      λ k l. ap W (get_or-map (cur mid) a.places k 0 0 l) ∙ at (get_or a.places k 0) (places_made k 0 l) in
      let right_value : W (cur mid class) ≡ V (cur g a.class) =
      class_value mid W first.true (map (cur mid) a.places) cls.1 ∙ value_agrees (length a.places) _ _ agree a.right (may_below g a may) ∙ asked in
      record { values = W; true = first.true; one = right_value ∙ sym (at a.class may.class.made); at = at }

  pub made_true : (a : Asked) (g new : Graph Op) (V : ℕ → Value) → IsApplied a g new → IsGraph op_signature g → MayJoin g a → True V g → TrueAsk V g a → Moves V g new
  made_true a g new V h is may true asked =
      let m = meeting a g h.middle h.class V h.built is may true asked in
      let ext = built_extends a.places h.built in
      let second = join_true h.middle new h.class a.class m.values (built_graph a.places h.built is) m.true m.one h.joined in
      record { values = second.values; true = second.true; moved = λ c l. second.moved c (omega (arith, l, ext.longer)) ∙ m.at c l }

  pub ask_later : (g h : Graph Op) (V W : ℕ → Value) → ((c : ℕ) → c < length g.current → W (cur h c) ≡ V (cur g c)) → (a : Asked) → MayJoin g a → TrueAsk V g a → TrueAsk W h a
  ask_later g h V W moved a may asked =
      let places_made = made_of g a.places a.right may.sort may.right in
      value_agrees (length a.places) _ _ (λ k l. moved (get_or a.places k 0) (places_made k 0 l)) a.right (may_below g a may) ∙ asked ∙ sym (moved a.class may.class.made)

  pub all_made_true : {asks : List Asked} {g new : Graph Op} (V : ℕ → Value) → AreAllApplied asks g new → IsGraph op_signature g → All (MayJoin g) asks → True V g → All (TrueAsk V g) asks → Moves V g new
  all_made_true V finished is may true asked = record { values = V; true = true; moved = λ c l. refl }
  all_made_true V (work {a} {asks} {g} {h} {new} m w) is may true asked =
      let first = made_true a g h V m is (All-head (MayJoin g) a asks may) true (All-head (TrueAsk V g) a asks asked) in
      let follows = made_follows a g h m is in
      let rest = All-tail (MayJoin g) a asks may in
      let asked_rest = All-tail (TrueAsk V g) a asks asked in
      let second = all_made_true first.values w (made_graph a g h m) (All-weaker (MayJoin g) (MayJoin h) (λ q k. join_follows g h follows q k) asks rest) first.true
      (λ n d l. ask_later g h V first.values first.moved (get_or asks n d) (rest n d l) (asked_rest n d l)) in
      record { values = second.values; true = second.true; moved = λ c l. second.moved c (omega (arith, l, follows.longer)) ∙ first.moved c l }

  -- a match of a rule that is true asks what is true
  pub constant_value : (g : Graph Op) (V : ℕ → Value) → True V g → (c x : ℕ) → HasConstant op_signature g.rows c x → V c ≡ word x
  constant_value g V true c x h =
      let e : h.row.op ≡ Constant x = op_constant_is_own h.row.op (Constant x) x h.is refl in
      ap V (sym h.of_class) ∙ All-contains (λ (r : Row Op). V r.class ≡ M r.op (map V r.operands)) g.rows h.row true.rows h.there ∙ ap (λ o. M o (map V h.row.operands)) e

  pub match_true : (g : Graph Op) (V : ℕ → Value) → IsGraph op_signature g → True V g → (r : Rewrite) → IsUsable r → IsTrueIn world names r → (places : List ℕ) (c : ℕ) → IsMatch g r places c →
      TrueAsk V g (record { right = r.right; places = places; class = c })
  match_true g V is true r u holds places c m =
      let vs = map V places in
      let count : length vs ≡ length r.variables = length-map places V ∙ m.count in
      let at : (n : ℕ) → n < length places → get_or vs n (word 0) ≡ V (get_or places n 0) = λ n l. get_or-map V places n 0 (word 0) l in
      let fits : AreValuesFor r vs = record {
        count = count;
        sorts = λ n l.
            let l' : n < length places = omega (arith, l, length-map places V) in
            let o = match_places g is r u places c m n l' in
            let has = m.present n 0 l' in
            let e : o.row.class ≡ get_or places n 0 = o.in_class ∙ has_present op_signature g is (get_or places n 0) has in
            let v : IsValue (sort_of o.row.op) (V o.row.class) = All-contains (λ (t : Row Op). IsValue (sort_of t.op) (V t.class)) g.rows o.row true.values o.there in
            subst (IsValue (sort_at r.variables n)) (ap V e ∙ sym (at n l')) (subst (λ s. IsValue s (V o.row.class)) o.sort_is v);
        constants = λ n x h. let l : n < length places = omega (arith, u.constants n x h, m.count) in at n l ∙ constant_value g V true (get_or places n 0) x (m.constants n x h);
      } in
      let same = holds vs fits in
      let left_value : V c ≡ value M (λ n. V (get_or places n 0)) r.left = class_value g V true places m.left in
      let of_left : value M (λ n. V (get_or places n 0)) r.left ≡ value_in world names vs r.left = value_agrees (length places) _ _ (λ k l. sym (at k l)) r.left (subst (λ n. AreBelow n r.left) (sym m.count) (sort_below r.variables u.sort r.left u.left)) in
      let of_right : value M (λ n. V (cur g (get_or places n 0))) r.right ≡ value_in world names vs r.right =
      value_agrees (length places) _ _ (λ k l. ap V (has_present op_signature g is (get_or places k 0) (m.present k 0 l)) ∙ sym (at k l)) r.right (subst (λ n. AreBelow n r.right) (sym m.count) (sort_below r.variables u.sort r.right u.right)) in
      let cls : cur g c ≡ c = has_present op_signature g is c (match_has g is r u places c m) in
      of_right ∙ sym same ∙ sym of_left ∙ sym left_value ∙ ap V (sym cls)
