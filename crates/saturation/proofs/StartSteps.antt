-- Steps of the calls that make the first graph of a goal.
use Rattle.std.proofs.Common.{◌≡◌, ℕ, zero, suc, ◌+◌, ◌<◌, ◌≤◌, List, [], ◌∷◌, ◌++◌, map, length, take, get_or, Option, Some, None, All, refl, sym, ap, ◌∙◌, subst, arith}
use Rattle.std.specs.List.{AllZip, flat_map}
use Rattle.std.specs.Option.{option_map_or}
use Rattle.std.proofs.lemmas.List.{get_or-map, length-map, take_more, take_all, append-nil, map-append}
use Rattle.std.proofs.lemmas.List.Concat.{flat_map-append}
use Rattle.std.proofs.lemmas.List.Elements.{All-cons, All-head, All-tail}
use Rattle.std.proofs.lemmas.Slice.Zip.{AllZip-long}
use Rattle.word_ops.specs.declared.sorts.Op.{Op}
use Rattle.word_ops.specs.declared.sorts.Sort.{Sort}
use Rattle.word_ops.specs.declared.sorts.Sort.TheVariants as sorts
use Rattle.word_terms.specs.Keys.{op_signature}
use Rattle.word_terms.specs.OperatorsIn.{operators_in}
use Rattle.word_terms.specs.Sorting.{HasSort}
use Rattle.word_terms.specs.Tree.{Tree, application, none, operands_of}
use Rattle.word_terms.specs.View.{tree_of, trees_of}
use Rattle.word_terms.specs.declared.term.Term.{Term}
use Rattle.egraph.specs.Faults.{FaultIs}
use Rattle.egraph.specs.Graph.{Graph, IsGraph, read_through}
use Rattle.egraph.specs.Sorts.{IsOfSort}
use Rattle.egraph.specs.declared.faults.MergeFault.{MergeFault}
use Rattle.egraph.specs.declared.faults.MergeFault.TheVariants as merging
use Rattle.goal_meaning.specs.Expanded.{let_values}
use Rattle.goal_meaning.specs.Views.{GoalTree, LetTree, TwoTrees, TargetTree, let_view, target_view}
use Rattle.goal_meaning.specs.declared.goals.InputReg.{InputReg}
use Rattle.goal_meaning.specs.declared.goals.Let.{Let}
use Rattle.goal_meaning.specs.declared.goals.Set.{Set}
use Rattle.goal_meaning.specs.WellFormed.{let_sorts, sort_of_tree, sorts_of_lets, sum_over, operators_of_sides, operators_of_target}
use Rattle.saturation.specs.AtStart.{most_rows_at_start, start_fault}
use Rattle.saturation.specs.OverLets.{IsSortedOver, AreSortedOver, AreSortedLets, HaveSortsIn, operators_of, CanInsertAll, CanInsertLets, CanInsertGoal, CanAssume, CanAssumeAll, AreInsertedOver, none_over, one_over, AreLetsInserted, no_let, one_let, AreTermsInserted, IsAssumeMadeOver, AreAssumedOver, none_assumed_over, one_assumed_over, AreRefusedOver, refused_here_over, refused_after_over, AssumeFaultIs, AssumeFaultOfAll, terms_over_lets}
use Rattle.saturation.specs.Derives.{Pair}
use Rattle.saturation.specs.GoalTerms.{entry_term, input_term, input_terms, assume_terms, guard_terms, set_terms, assumed_pair}
use Rattle.saturation.specs.Trace.{MayBuild, CanBuild, CanApply, IsBuilt, IsJoined, AreInserted, none_inserted, one_inserted}
use Rattle.saturation.specs.declared.faults.StartFault.{StartFault}
use Rattle.saturation.specs.declared.faults.StartFault.TheVariants.{NoWorld, Memory}
use Rattle.saturation.proofs.Built.{built_graph, built_extends, built_sort}
use Rattle.saturation.proofs.Building.{built_few}
use Rattle.saturation.proofs.Follows.{Follows, Extends, extends_itself, extends_through, extends_follows, follows_itself, follows_through, sort_follows}
use Rattle.saturation.proofs.Graphs.{cur, current_has, has_made, has_present}
use Rattle.saturation.proofs.Made.{made_graph, made_follows}
use Rattle.saturation.proofs.Mapped.{zip_push}
use Rattle.saturation.proofs.RoundSteps.{CanJoin, join_can}

-- ---- lists

-- what stands before an item, and what behind it
pub parted : {X : Type 0} (xs : List X) (k : ℕ) (d : X) → k < length xs → (behind : List X) × (xs ≡ take k xs ++ (get_or xs k d ∷ behind))
parted [] k d l = absurd (omega arith)
parted (x ∷ xs) zero d l = (xs, refl)
parted (x ∷ xs) (suc k) d l = let h = parted xs k d (omega arith) in (h.0, ap (λ ys. x ∷ ys) h.1)

pub sum_append : {X : Type 0} (f : X → ℕ) (xs ys : List X) → sum_over f (xs ++ ys) ≡ sum_over f xs + sum_over f ys
sum_append f [] ys = omega arith
sum_append f (x ∷ xs) ys = let h = sum_append f xs ys in omega (arith, h)

pub all_before : {X : Type 0} (P : X → Type 0) (xs ys : List X) → All P (xs ++ ys) → All P xs
all_before P [] ys h = λ n d l. absurd (omega arith)
all_before P (x ∷ xs) ys h = All-cons P x xs (All-head P x (xs ++ ys) h) (all_before P xs ys (All-tail P x (xs ++ ys) h))

pub all_behind : {X : Type 0} (P : X → Type 0) (xs ys : List X) → All P (xs ++ ys) → All P ys
all_behind P [] ys h = h
all_behind P (x ∷ xs) ys h = all_behind P xs ys (All-tail P x (xs ++ ys) h)

module _ {X Y : Type 0} (f : X → Y) (xs : List X) (k : ℕ) (x : X) (l : k < length xs) (is : x ≡ get_or xs k x) where
  pub in_map : k < length (map f xs)
  in_map = omega (arith, l, length-map xs f)

  pub at_map : get_or (map f xs) k (f x) ≡ f x
  at_map = get_or-map f xs k x (f x) l ∙ sym (ap f is)

pub all_map : {X Y : Type 0} (f : X → Y) (xs : List X) (k : ℕ) → length xs ≤ k → take k (map f xs) ≡ map f xs
all_map f xs k h = take_all k (map f xs) (omega (arith, h, length-map xs f))

-- the term of a let
module _ (xs : List Let) (k : ℕ) (x : Let) (l : k < length xs) (is : x ≡ get_or xs k x) where
  pub let_in_map : k < length (let_values (map let_view xs))
  let_in_map = in_map (λ (t : LetTree). t.value) (map let_view xs) k (let_view x) (in_map let_view xs k x l is) (sym (at_map let_view xs k x l is))

  pub let_at_map : get_or (let_values (map let_view xs)) k (tree_of x.value) ≡ tree_of x.value
  let_at_map = at_map (λ (t : LetTree). t.value) (map let_view xs) k (let_view x) (in_map let_view xs k x l is) (sym (at_map let_view xs k x l is))

-- the new value of a target
module _ (xs : List Set) (k : ℕ) (x : Set) (l : k < length xs) (is : x ≡ get_or xs k x) where
  pub value_in_map : k < length (set_terms (map target_view xs))
  value_in_map = in_map (λ (t : TargetTree). t.value) (map target_view xs) k (target_view x) (in_map target_view xs k x l is) (sym (at_map target_view xs k x l is))

  pub value_at_map : get_or (set_terms (map target_view xs)) k (tree_of x.value) ≡ tree_of x.value
  value_at_map = at_map (λ (t : TargetTree). t.value) (map target_view xs) k (target_view x) (in_map target_view xs k x l is) (sym (at_map target_view xs k x l is))

-- an operator without operands
pub leaf_is : (t : Tree Op) (op : Op) (items : List (Term Op)) → items ≡ [] → t ≡ application op (operands_of (trees_of items)) → t ≡ application op none
leaf_is t op items empty is = is ∙ ap (λ xs. application op (operands_of (trees_of xs))) empty

-- ---- classes and their sorts

pub zip_at : {A B : Type 0} (R : A → B → Type 0) (xs : List A) (ys : List B) (n : ℕ) (d : A) (e : B) → AllZip R xs ys → n < length xs → R (get_or xs n d) (get_or ys n e)
zip_at R [] ys n d e h l = absurd (omega (arith, l))
zip_at R (x ∷ xs) [] n d e h l = absurd h
zip_at R (x ∷ xs) (y ∷ ys) zero d e h l = h.0
zip_at R (x ∷ xs) (y ∷ ys) (suc n) d e h l = zip_at R xs ys n d e h.1 (omega (arith, l))

pub zip_to : {A B : Type 0} (R S : A → B → Type 0) (xs : List A) (ys : List B) → ((x : A) (y : B) → R x y → S x y) → AllZip R xs ys → AllZip S xs ys
zip_to R S [] [] f h = tt
zip_to R S [] (y ∷ ys) f h = absurd h
zip_to R S (x ∷ xs) [] f h = absurd h
zip_to R S (x ∷ xs) (y ∷ ys) f h = (f x y h.0, zip_to R S xs ys f h.1)

pub sorts_follow : (g new : Graph Op) → Follows g new → (cs : List ℕ) (ss : List Sort) → HaveSortsIn g cs ss → HaveSortsIn new cs ss
sorts_follow g new f cs ss h = zip_to (IsOfSort op_signature g) (IsOfSort op_signature new) cs ss (λ c s k. sort_follows g new f c s k) h

pub sorts_kept : (g new : Graph Op) → IsGraph op_signature g → Extends g new → (cs : List ℕ) (ss : List Sort) → HaveSortsIn g cs ss → HaveSortsIn new cs ss
sorts_kept g new is f cs ss h = sorts_follow g new (extends_follows op_signature g is new f) cs ss h

pub sorts_made : (g : Graph Op) (cs : List ℕ) (ss : List Sort) → HaveSortsIn g cs ss → All (λ c. c < length g.current) cs
sorts_made g [] ss h = λ n d l. absurd (omega arith)
sorts_made g (c ∷ cs) [] h = absurd h
sorts_made g (c ∷ cs) (s ∷ ss) h = All-cons (λ c. c < length g.current) c cs h.0.made (sorts_made g cs ss h.1)

-- and those that they are in at present have these sorts
pub sorts_present : (g : Graph Op) → IsGraph op_signature g → (cs : List ℕ) (ss : List Sort) → HaveSortsIn g cs ss → HaveSortsIn g (read_through g cs) ss
sorts_present g is [] [] h = tt
sorts_present g is [] (s ∷ ss) h = absurd h
sorts_present g is (c ∷ cs) [] h = absurd h
sorts_present g is (c ∷ cs) (s ∷ ss) h =
    let has = current_has op_signature g is c h.0.made in
    let one : IsOfSort op_signature g (cur g c) s = record { made = has_made op_signature g is (cur g c) has; row = h.0.row; there = h.0.there; in_class = h.0.in_class ∙ sym (has_present op_signature g is (cur g c) has); sort_is = h.0.sort_is } in
    (one, sorts_present g is cs ss h.1)

pub may_build : (g : Graph Op) (places : List ℕ) (variables : List Sort) (t : Tree Op) (sort : Sort) → HaveSortsIn g places variables → HasSort op_signature variables sort t → MayBuild g places t sort
may_build g places variables t sort h s = record {
  variables = variables;
  count = sym (AllZip-long (IsOfSort op_signature g) places variables h);
  places_have = λ n l. zip_at (IsOfSort op_signature g) places variables n 0 sorts.Word h l;
  has_sort = s;
}

-- what is built is of its sort
pub sort_of_built : (places : List ℕ) (variables : List Sort) {t : Tree Op} {g new : Graph Op} {c : ℕ} (sort : Sort) → IsBuilt places t g c new → IsGraph op_signature g → HaveSortsIn g places variables → HasSort op_signature variables sort t → IsOfSort op_signature new c sort
sort_of_built places variables {t} {g} sort b is h s =
    built_sort places variables (sym (AllZip-long (IsOfSort op_signature g) places variables h)) sort b is
    (λ n l. zip_at (IsOfSort op_signature g) places variables n 0 sorts.Word h l) s

-- ---- terms are inserted

pub inserted_append : {ts us : List (Tree Op)} {g h new : Graph Op} → AreInserted ts g h → AreInserted us h new → AreInserted (ts ++ us) g new
inserted_append none_inserted w = w
inserted_append (one_inserted b k) w = one_inserted b (inserted_append k w)

module _ (places : List ℕ) where
  pub term_can : (g : Graph Op) (t : Tree Op) → CanInsertAll g places (t ∷ []) → CanBuild g places t
  term_can g t can =
      let s = All-head (IsSortedOver can.variables) t [] can.sorted in
      record {
        graph = can.graph;
        sort = s.sort;
        may = may_build g places can.variables t s.sort can.have s.is;
        few = let f = can.few in omega (arith, f);
      }

  pub over_append : {ts us : List (Tree Op)} {g h new : Graph Op} → AreInsertedOver places ts g h → AreInsertedOver places us h new → AreInsertedOver places (ts ++ us) g new
  over_append none_over w = w
  over_append (one_over b k) w = one_over b (over_append k w)

  pub over_few : {ts : List (Tree Op)} {g new : Graph Op} → AreInsertedOver places ts g new → length new.current ≤ length g.current + operators_of ts
  over_few none_over = omega arith
  over_few (one_over b w) = let f = built_few places b in let k = over_few w in omega (arith, f, k)

  pub over_graph : {ts : List (Tree Op)} {g new : Graph Op} → AreInsertedOver places ts g new → IsGraph op_signature g → IsGraph op_signature new
  over_graph none_over is = is
  over_graph (one_over b w) is = over_graph w (built_graph places b is)

  pub over_extends : {ts : List (Tree Op)} {g new : Graph Op} → AreInsertedOver places ts g new → Extends g new
  over_extends (none_over {g}) = extends_itself g
  over_extends (one_over {t} {ts} {g} {h} {new} b w) = extends_through g h new (built_extends places b) (over_extends w)

  pub can_first : (g : Graph Op) (ts us : List (Tree Op)) → CanInsertAll g places (ts ++ us) → CanInsertAll g places ts
  can_first g ts us can = record {
    graph = can.graph;
    variables = can.variables;
    have = can.have;
    sorted = all_before (IsSortedOver can.variables) ts us can.sorted;
    few = let f = can.few in let s = sum_append operators_in ts us in omega (arith, f, s);
  }

  pub can_rest : (g h : Graph Op) (ts us : List (Tree Op)) → CanInsertAll g places (ts ++ us) → AreInsertedOver places ts g h → CanInsertAll h places us
  can_rest g h ts us can w = record {
    graph = over_graph w can.graph;
    variables = can.variables;
    have = sorts_kept g h can.graph (over_extends w) places can.variables can.have;
    sorted = all_behind (IsSortedOver can.variables) ts us can.sorted;
    few = let f = can.few in let s = sum_append operators_in ts us in let k = over_few w in omega (arith, f, s, k);
  }

  -- three lists, one behind another
  module _ (g : Graph Op) (a b c : List (Tree Op)) (can : CanInsertAll g places (a ++ b ++ c)) where
    pub first_of_three : CanInsertAll g places a
    first_of_three = can_first g a b (can_first g (a ++ b) c can)

    pub second_of_three : {h : Graph Op} → AreInsertedOver places a g h → CanInsertAll h places b
    second_of_three {h} w = can_rest g h a b (can_first g (a ++ b) c can) w

    pub third_of_three : {h k : Graph Op} → AreInsertedOver places a g h → AreInsertedOver places b h k → CanInsertAll k places c
    third_of_three {h} {k} w x = can_rest g k (a ++ b) c can (over_append w x)

  -- the next one of a list
  pub next_can : (g h : Graph Op) (ts : List (Tree Op)) (k : ℕ) (d : Tree Op) → k < length ts → CanInsertAll g places ts → AreInsertedOver places (take k ts) g h → CanInsertAll h places (get_or ts k d ∷ [])
  next_can g h ts k d l can w =
      let p = parted ts k d l in
      can_first h (get_or ts k d ∷ []) p.0 (can_rest g h (take k ts) (get_or ts k d ∷ p.0) (subst (CanInsertAll g places) p.1 can) w)

  pub one_more : {g h new : Graph Op} (ts : List (Tree Op)) (k : ℕ) (d : Tree Op) → k < length ts → AreInsertedOver places (take k ts) g h → AreInsertedOver places (get_or ts k d ∷ []) h new → AreInsertedOver places (take (k + 1) ts) g new
  one_more {g} {h} {new} ts k d l w one = subst (λ us. AreInsertedOver places us g new) (sym (take_more ts k d l)) (over_append w one)

  -- the next ones, where each item has several
  pub next_all_can : {X : Type 0} (f : X → List (Tree Op)) (g h : Graph Op) (xs : List X) (k : ℕ) (d : X) → k < length xs → CanInsertAll g places (flat_map f xs) → AreInsertedOver places (flat_map f (take k xs)) g h → CanInsertAll h places (f (get_or xs k d))
  next_all_can f g h xs k d l can w =
      let p = parted xs k d l in
      let x = get_or xs k d in
      let e : flat_map f xs ≡ flat_map f (take k xs) ++ (f x ++ flat_map f p.0) = ap (flat_map f) p.1 ∙ flat_map-append f (take k xs) (x ∷ p.0) in
      can_first h (f x) (flat_map f p.0) (can_rest g h (flat_map f (take k xs)) (f x ++ flat_map f p.0) (subst (CanInsertAll g places) e can) w)

  pub more_of : {X : Type 0} (f : X → List (Tree Op)) {g h new : Graph Op} (xs : List X) (k : ℕ) (d : X) → k < length xs → AreInsertedOver places (flat_map f (take k xs)) g h → AreInsertedOver places (f (get_or xs k d)) h new → AreInsertedOver places (flat_map f (take (k + 1) xs)) g new
  more_of f {g} {h} {new} xs k d l w one =
      let x = get_or xs k d in
      let e : flat_map f (take (k + 1) xs) ≡ flat_map f (take k xs) ++ f x =
      ap (flat_map f) (take_more xs k d l) ∙ flat_map-append f (take k xs) (x ∷ []) ∙ ap (λ ys. flat_map f (take k xs) ++ ys) (append-nil (f x)) in
      subst (λ us. AreInsertedOver places us g new) (sym e) (over_append w one)

-- ---- lets are inserted

pub lets_push : {before lets : List ℕ} {ts : List (Tree Op)} {t : Tree Op} {g h new : Graph Op} {c : ℕ} → AreLetsInserted before ts g lets h → IsBuilt lets t h c new → AreLetsInserted before (ts ++ t ∷ []) g (lets ++ c ∷ []) new
lets_push no_let b = one_let b no_let
lets_push (one_let k w) b = one_let k (lets_push w b)

pub lets_few : {before lets : List ℕ} {ts : List (Tree Op)} {g new : Graph Op} → AreLetsInserted before ts g lets new → length new.current ≤ length g.current + operators_of ts
lets_few no_let = omega arith
lets_few (one_let {before} b w) = let f = built_few before b in let k = lets_few w in omega (arith, f, k)

pub lets_graph : {before lets : List ℕ} {ts : List (Tree Op)} {g new : Graph Op} → AreLetsInserted before ts g lets new → IsGraph op_signature g → IsGraph op_signature new
lets_graph no_let is = is
lets_graph (one_let {before} b w) is = lets_graph w (built_graph before b is)

pub lets_have : {before lets : List ℕ} {ts : List (Tree Op)} {g new : Graph Op} (ss : List Sort) → AreLetsInserted before ts g lets new → IsGraph op_signature g → HaveSortsIn g before ss → AreSortedLets ss ts → HaveSortsIn new lets (sorts_of_lets ss ts)
lets_have ss no_let is h s = h
lets_have ss (one_let {before} {lets} {t} {ts} {g} {h} {new} {c} b w) is have s =
    let one = sort_of_built before ss (sort_of_tree ss t) b is have s.0 in
    lets_have (ss ++ sort_of_tree ss t ∷ []) w (built_graph before b is)
    (zip_push (IsOfSort op_signature h) before ss c (sort_of_tree ss t) (sorts_kept g h is (built_extends before b) before ss have) one) s.1

sorted_behind : (ss : List Sort) (ts us : List (Tree Op)) → AreSortedLets ss (ts ++ us) → AreSortedLets ss ts × AreSortedLets (sorts_of_lets ss ts) us
sorted_behind ss [] us h = (tt, h)
sorted_behind ss (t ∷ ts) us h = let k = sorted_behind (ss ++ sort_of_tree ss t ∷ []) ts us h.1 in ((h.0, k.0), k.1)

-- the next let
pub next_let_can : (g h : Graph Op) (ts : List (Tree Op)) (k : ℕ) (d : Tree Op) (lets : List ℕ) → k < length ts → CanInsertLets g ts → AreLetsInserted [] (take k ts) g lets h → CanBuild h lets (get_or ts k d)
next_let_can g h ts k d lets l can w =
    let p = parted ts k d l in
    let t = get_or ts k d in
    let parts = sorted_behind [] (take k ts) (t ∷ p.0) (subst (AreSortedLets []) p.1 can.sorted) in
    let ss = sorts_of_lets [] (take k ts) in
    record {
      graph = lets_graph w can.graph;
      sort = sort_of_tree ss t;
      may = may_build h lets ss t (sort_of_tree ss t) (lets_have [] w can.graph tt parts.0) parts.1.0;
      few =
          let f = can.few in
          let e = ap operators_of p.1 in
          let s = sum_append operators_in (take k ts) (t ∷ p.0) in
          let m = lets_few w in
          omega (arith, f, e, s, m);
    }

pub one_more_let : {g h new : Graph Op} (ts : List (Tree Op)) (k : ℕ) (d : Tree Op) (lets : List ℕ) (c : ℕ) → k < length ts → AreLetsInserted [] (take k ts) g lets h → IsBuilt lets (get_or ts k d) h c new → AreLetsInserted [] (take (k + 1) ts) g (lets ++ c ∷ []) new
one_more_let {g} {h} {new} ts k d lets c l w one = subst (λ us. AreLetsInserted [] us g (lets ++ c ∷ []) new) (sym (take_more ts k d l)) (lets_push w one)

-- ---- the terms of a goal

assumes_count : (xs : List TwoTrees) → operators_of (assume_terms xs) ≡ sum_over operators_of_sides xs
assumes_count [] = refl
assumes_count (x ∷ xs) = let h = assumes_count xs in omega (arith, h)

guard_count : (o : Option (Tree Op)) → operators_of (guard_terms o) ≡ option_map_or operators_in o 0
guard_count None = refl
guard_count (Some t) = omega arith

sets_count : (xs : List TargetTree) → operators_of (set_terms xs) ≡ sum_over operators_of_target xs
sets_count [] = refl
sets_count (x ∷ xs) = let h = sets_count xs in omega (arith, h)

inputs_count : (xs : List InputReg) → operators_of (input_terms xs) ≡ length xs
inputs_count [] = refl
inputs_count (x ∷ xs) = let h = inputs_count xs in omega (arith, h)

inputs_sorted : (xs : List InputReg) → All (IsSortedOver []) (input_terms xs)
inputs_sorted [] = λ n d l. absurd (omega arith)
inputs_sorted (x ∷ xs) = All-cons (IsSortedOver []) (input_term x.reg) (input_terms xs) (record { sort = sorts.Word; is = (refl, tt, refl, tt) }) (inputs_sorted xs)

module _ (goal : GoalTree) where
  -- as many rows as its terms have operators
  pub count : most_rows_at_start goal ≡ 1 + length goal.inputs + operators_of (let_values goal.lets) + operators_of (terms_over_lets goal)
  count =
      let a = sum_append operators_in (assume_terms goal.assumes ++ guard_terms goal.guard) (set_terms goal.sets) in
      let b = sum_append operators_in (assume_terms goal.assumes) (guard_terms goal.guard) in
      omega (arith, a, b, assumes_count goal.assumes, guard_count goal.guard, sets_count goal.sets)

  pub inserted_goal_few : {g new : Graph Op} {lets : List ℕ} → AreTermsInserted goal g lets new → length new.current ≤ length g.current + most_rows_at_start goal
  inserted_goal_few {g} {new} {lets} w = omega (arith, count, over_few [] w.leaves, inputs_count goal.inputs, lets_few w.named, over_few lets w.terms)

  module _ (g : Graph Op) (can : CanInsertGoal g goal) where
    leaves_can : CanInsertAll g [] (entry_term ∷ input_terms goal.inputs)
    leaves_can = record {
      graph = can.graph;
      variables = [];
      have = tt;
      sorted = All-cons (IsSortedOver []) entry_term (input_terms goal.inputs) (record { sort = sorts.Memory; is = (refl, tt, refl, tt) }) (inputs_sorted goal.inputs);
      few = let f = can.few in omega (arith, f, count, inputs_count goal.inputs);
    }

    pub entry_can : CanInsertAll g [] (entry_term ∷ [])
    unfolding leaves_can
    entry_can = can_first [] g (entry_term ∷ []) (input_terms goal.inputs) leaves_can

    pub inputs_can : {h : Graph Op} → AreInsertedOver [] (entry_term ∷ []) g h → CanInsertAll h [] (input_terms goal.inputs)
    inputs_can {h} w = can_rest [] g h (entry_term ∷ []) (input_terms goal.inputs) leaves_can w

    module _ (first : Graph Op) (leaves : AreInsertedOver [] (entry_term ∷ input_terms goal.inputs) g first) where
      pub lets_can : CanInsertLets first (let_values goal.lets)
      lets_can = record {
        graph = over_graph [] leaves can.graph;
        sorted = can.lets;
        few = let f = can.few in omega (arith, f, count, inputs_count goal.inputs, over_few [] leaves);
      }

      pub terms_can : (second : Graph Op) (lets : List ℕ) → AreLetsInserted [] (let_values goal.lets) first lets second → CanInsertAll second lets (terms_over_lets goal)
      terms_can second lets w =
          let is = over_graph [] leaves can.graph in
          record {
            graph = lets_graph w is;
            variables = let_sorts goal;
            have = lets_have [] w is tt can.lets;
            sorted = can.terms;
            few = let f = can.few in omega (arith, f, count, inputs_count goal.inputs, over_few [] leaves, lets_few w);
          }

-- ---- two sides are made equal

module _ (g : Graph Op) (lets : List ℕ) (a : TwoTrees) (can : CanAssume g lets a) where
  pub lets_made : All (λ c. c < length g.current) lets
  lets_made = sorts_made g lets can.variables can.have

  abbrev places : List ℕ
  places = read_through g lets

  present : HaveSortsIn g (read_through g lets) can.variables
  present = sorts_present g can.graph lets can.variables can.have

  pub first_can : CanBuild g (read_through g lets) a.left
  first_can = record { graph = can.graph; sort = can.sorted.sort; may = may_build g (read_through g lets) can.variables a.left can.sorted.sort present can.sorted.left; few = let f = can.few in omega (arith, f) }

  module _ (m : Graph Op) (c : ℕ) (b : IsBuilt (read_through g lets) a.left g c m) where
    make_can : CanApply m (record { right = a.right; places = read_through g lets; class = c })
    make_can = record {
      graph = built_graph places b can.graph;
      may = record {
        sort = can.sorted.sort;
        right = may_build m places can.variables a.right can.sorted.sort (sorts_kept g m can.graph (built_extends places b) places can.variables present) can.sorted.right;
        class = sort_of_built places can.variables can.sorted.sort b can.graph present can.sorted.left;
      };
      few = let f = can.few in let k = built_few places b in omega (arith, f, k);
    }

    pub second_can : CanBuild m (read_through g lets) a.right
    unfolding make_can
    second_can = record { graph = make_can.graph; sort = can.sorted.sort; may = make_can.may.right; few = make_can.few }

    module _ (n : Graph Op) (e : ℕ) (b' : IsBuilt (read_through g lets) a.right m e n) where
      pub sides_can : CanJoin n e c
      sides_can = join_can (record { right = a.right; places = places; class = c }) m n e make_can b'

      pub is_assumed : (new : Graph Op) → IsJoined n e c new → IsAssumeMadeOver lets (assumed_pair a) g new
      is_assumed new j = record { middle = m; class = c; built = b; made = record { middle = n; class = e; built = b'; joined = j } }

      pub is_refused : (fault : MergeFault) → FaultIs op_signature n e c fault → AssumeFaultIs lets (assumed_pair a) g (start_fault fault)
      is_refused (merging.NoWorld class x y) h = record { middle = m; class = c; built = b; refused = record { middle = n; class = e; built = b'; at = class; clash = h } }
      is_refused merging.Memory h = tt

-- ---- all of them

module _ (lets : List ℕ) where
  pub assumed_append : {ps qs : List Pair} {g h new : Graph Op} → AreAssumedOver lets ps g h → AreAssumedOver lets qs h new → AreAssumedOver lets (ps ++ qs) g new
  assumed_append none_assumed_over w = w
  assumed_append (one_assumed_over a k) w = one_assumed_over a (assumed_append k w)

  refused_append : {ps qs : List Pair} {g h : Graph Op} {x y : ℕ} → AreAssumedOver lets ps g h → AreRefusedOver lets qs h x y → AreRefusedOver lets (ps ++ qs) g x y
  refused_append none_assumed_over r = r
  refused_append (one_assumed_over a k) r = refused_after_over a (refused_append k r)

  assumed_few : (a : TwoTrees) (g new : Graph Op) → IsAssumeMadeOver lets (assumed_pair a) g new → length new.current ≤ length g.current + operators_of_sides a
  assumed_few a g new h = let f = built_few (read_through g lets) h.built in let k = built_few (read_through g lets) h.made.built in omega (arith, f, k, h.made.joined.merged.made)

  all_assumed_few : (xs : List TwoTrees) {g new : Graph Op} → AreAssumedOver lets (map assumed_pair xs) g new → length new.current ≤ length g.current + sum_over operators_of_sides xs
  all_assumed_few [] none_assumed_over = omega arith
  all_assumed_few (x ∷ xs) (one_assumed_over {g} {h} a w) = let f = assumed_few x g h a in let k = all_assumed_few xs w in omega (arith, f, k)

  pub over_assumed_graph : (p : Pair) (g new : Graph Op) → IsAssumeMadeOver lets p g new → IsGraph op_signature new
  over_assumed_graph p g new a = made_graph (record { right = p.1; places = read_through g lets; class = a.class }) a.middle new a.made

  pub over_assumed_follows : (p : Pair) (g new : Graph Op) → IsAssumeMadeOver lets p g new → IsGraph op_signature g → Follows g new
  over_assumed_follows p g new a is =
      let im = built_graph (read_through g lets) a.built is in
      follows_through op_signature g a.middle new is (extends_follows op_signature g is a.middle (built_extends (read_through g lets) a.built))
      (made_follows (record { right = p.1; places = read_through g lets; class = a.class }) a.middle new a.made im)

  over_all_graph : {ps : List Pair} {g new : Graph Op} → AreAssumedOver lets ps g new → IsGraph op_signature g → IsGraph op_signature new
  over_all_graph none_assumed_over is = is
  over_all_graph (one_assumed_over {p} {ps} {g} {h} a w) is = over_all_graph w (over_assumed_graph p g h a)

  over_all_follow : {ps : List Pair} {g new : Graph Op} → AreAssumedOver lets ps g new → IsGraph op_signature g → Follows g new
  over_all_follow (none_assumed_over {g}) is = follows_itself op_signature g is
  over_all_follow (one_assumed_over {p} {ps} {g} {h} {new} a w) is = follows_through op_signature g h new is (over_assumed_follows p g h a is) (over_all_follow w (over_assumed_graph p g h a))

  module _ (g h : Graph Op) (xs : List TwoTrees) (k : ℕ) (d : TwoTrees) (l : k < length xs) (w : AreAssumedOver lets (map assumed_pair (take k xs)) g h) where
    pub next_assume_can : CanAssumeAll g lets xs → CanAssume h lets (get_or xs k d)
    next_assume_can can =
        let behind = (parted xs k d l).0 in
        let all = subst (All (AreSortedOver can.variables)) (parted xs k d l).1 can.sorted in
        let sorted = all_behind (AreSortedOver can.variables) (take k xs) (get_or xs k d ∷ behind) all in
        record {
          graph = over_all_graph w can.graph;
          variables = can.variables;
          have = sorts_follow g h (over_all_follow w can.graph) lets can.variables can.have;
          sorted = All-head (AreSortedOver can.variables) (get_or xs k d) behind sorted;
          few =
              let f = can.few in
              let e = ap (sum_over operators_of_sides) (parted xs k d l).1 in
              let s = sum_append operators_of_sides (take k xs) (get_or xs k d ∷ behind) in
              let m = all_assumed_few (take k xs) w in
              omega (arith, f, e, s, m);
        }

    pub one_more_assumed : (new : Graph Op) → IsAssumeMadeOver lets (assumed_pair (get_or xs k d)) h new → AreAssumedOver lets (map assumed_pair (take (k + 1) xs)) g new
    one_more_assumed new a =
        let e : map assumed_pair (take (k + 1) xs) ≡ map assumed_pair (take k xs) ++ (assumed_pair (get_or xs k d) ∷ []) =
        ap (map assumed_pair) (take_more xs k d l) ∙ map-append assumed_pair (take k xs) (get_or xs k d ∷ []) in
        subst (λ ps. AreAssumedOver lets ps g new) (sym e) (assumed_append w (one_assumed_over a none_assumed_over))

    pub refused_next : (fault : StartFault) → AssumeFaultIs lets (assumed_pair (get_or xs k d)) h fault → AssumeFaultOfAll lets (map assumed_pair xs) g fault
    refused_next (NoWorld class a b) r =
        let behind = (parted xs k d l).0 in
        let e : map assumed_pair xs ≡ map assumed_pair (take k xs) ++ (assumed_pair (get_or xs k d) ∷ map assumed_pair behind) =
        ap (map assumed_pair) (parted xs k d l).1 ∙ map-append assumed_pair (take k xs) (get_or xs k d ∷ behind) in
        subst (λ ps. AreRefusedOver lets ps g a b) (sym e) (refused_append w (refused_here_over r))
    refused_next Memory r = tt
