-- Steps of the call that builds a term: one operand after another, and then the insert.
use Rattle.std.proofs.Common.{◌≡◌, ℕ, zero, suc, ◌+◌, ◌<◌, ◌≤◌, ◌^◌, List, [], ◌∷◌, ◌++◌, length, take, get_or, slice_index, Contains, Result, Ok, Err, IfOk, OnOk, refl, sym, ap, ◌∙◌, subst, inl, inr, arith}
use Rattle.std.proofs.lemmas.List.{get_or-map, length-map, get_or_default, length-append, take_more, take_all}
use Rattle.std.specs.declared.vec.Vec.{Vec}
use Rattle.std.specs.declared.alloc.Global.{Global}
use Rattle.std.specs.declared.alloc.AllocError.{AllocError}
use Rattle.word_ops.specs.Worlds.{Value}
use Rattle.word_ops.specs.declared.sorts.Op.{Op}
use Rattle.word_ops.specs.declared.sorts.Sort.{Sort}
use Rattle.word_ops.specs.Meanings.{sort_of, operand_sort, arity_of_op}
use Rattle.word_terms.specs.Keys.{op_signature}
use Rattle.word_terms.specs.Tree.{Tree, Trees, variable, application, operands_of}
use Rattle.word_terms.specs.View.{tree_step, tree_of, trees_of}
use Rattle.word_terms.specs.declared.term.Term.{Term, Term-F, fold-roll-Term}
use Rattle.word_terms.specs.declared.term.Term.TheVariants.{Var, App, rolls-Var, rolls-App}
use Rattle.word_terms.specs.Sorting.{HasSort, HaveSorts, tree_count}
use Rattle.egraph.specs.declared.rows.Row.{Row}
use Rattle.egraph.specs.Graph.{Graph, IsGraph, IsInserted, read_through, with_row}
use Rattle.egraph.specs.Values.{ExtendsValues}
use Rattle.word_terms.specs.OperatorsIn.{operators_in, operators_in_all}
use Rattle.egraph.specs.Sorts.{IsOfSort}
use Rattle.saturation.specs.Trace.{MayBuild, CanBuild, IsBuilt, AreBuilt, placed, put, none_built, one_built}
use Rattle.saturation.proofs.Built.{AreMadeIn, are_built_graph, are_built_extends, are_built_classes, are_built_sorts, sort_of_rows, have_later}

pub tree_of_variable : (n : ℕ) → tree_of {O = Op} (Var n) ≡ variable n
unfolding tree_of
tree_of_variable n = ap (tree_of {O = Op}) (sym (rolls-Var n)) ∙ fold-roll-Term Op (Tree Op) tree_step (Term-F.Var n)

pub tree_of_application : (op : Op) (v : Vec (Term Op) Global) → tree_of (App op v) ≡ application op (operands_of (trees_of v.items))
unfolding tree_of
tree_of_application op v = ap (tree_of {O = Op}) (sym (rolls-App op v)) ∙ fold-roll-Term Op (Tree Op) tree_step (Term-F.App op v)

insert_few : (old : Graph Op) (op : Op) (operands : List ℕ) (class : ℕ) (new : Graph Op) → IsInserted old op operands class new → length new.current ≤ length old.current + 1
insert_few old op operands class new i =
    elim i [
      | inl h ↦ (let e : length new.current ≡ length old.current = ap (λ (g : Graph Op). length g.current) h.1 in omega (arith, e))
      | inr h ↦ (let e : length new.current ≡ length (with_row old op (read_through old operands)).current = ap (λ (g : Graph Op). length g.current) h.2 in
          omega (arith, e, length-append old.current (length old.current ∷ [])))
    ]

module _ (places : List ℕ) where
  mutual
    -- no more classes are made than there are operators
    pub built_few : {t : Tree Op} {g new : Graph Op} {c : ℕ} → IsBuilt places t g c new → length new.current ≤ length g.current + operators_in t
    built_few (placed l) = omega arith
    built_few (put {op} {ts} {g} {h} {new} {cs} {c} a p) = let k = are_built_few a in omega (arith, k, insert_few h op cs c new p.inserted)

    pub are_built_few : {ts : Trees Op} {g new : Graph Op} {cs : List ℕ} → AreBuilt places ts g cs new → length new.current ≤ length g.current + operators_in_all ts
    are_built_few none_built = omega arith
    are_built_few (one_built b a) = let k = built_few b in let m = are_built_few a in omega (arith, k, m)

  pub are_built_count : {ts : Trees Op} {g new : Graph Op} {cs : List ℕ} → AreBuilt places ts g cs new → length cs ≡ tree_count ts
  are_built_count none_built = refl
  are_built_count (one_built b a) = let k = are_built_count a in omega (arith, k)

  -- one operand more
  pub are_built_push : (ts : List (Tree Op)) {t : Tree Op} {g h new : Graph Op} {cs : List ℕ} {c : ℕ} → AreBuilt places (operands_of ts) g cs h → IsBuilt places t h c new → AreBuilt places (operands_of (ts ++ t ∷ [])) g (cs ++ c ∷ []) new
  are_built_push [] none_built b = one_built b none_built
  are_built_push (u ∷ us) (one_built k a) b = one_built k (are_built_push us a b)

sort_of_place : (variables : List Sort) (op : Op) (at : ℕ) (ts : List (Tree Op)) (k : ℕ) (d : Tree Op) → k < length ts → HaveSorts op_signature variables op at (operands_of ts) → HasSort op_signature variables (operand_sort op (at + k)) (get_or ts k d)
sort_of_place variables op at [] k d l h = absurd (omega arith)
sort_of_place variables op at (t ∷ ts) zero d l h = let e : at ≡ at + 0 = omega arith in subst (λ n. HasSort op_signature variables (operand_sort op n) t) e h.0
sort_of_place variables op at (t ∷ ts) (suc k) d l h =
    let e : at + 1 + k ≡ at + suc k = omega arith in
    subst (λ n. HasSort op_signature variables (operand_sort op n) (get_or ts k d)) e (sort_of_place variables op (at + 1) ts k d (omega arith) h.1)

few_before : (ts : List (Tree Op)) (k : ℕ) (d : Tree Op) → k < length ts → operators_in_all (operands_of (take k ts)) + operators_in (get_or ts k d) ≤ operators_in_all (operands_of ts)
few_before [] k d l = absurd (omega arith)
few_before (t ∷ ts) zero d l = omega arith
few_before (t ∷ ts) (suc k) d l = let h = few_before ts k d (omega arith) in omega (arith, h)

pub made_of : (g : Graph Op) (places : List ℕ) (t : Tree Op) (sort : Sort) → MayBuild g places t sort → AreMadeIn g places
made_of g places t sort m k d l = subst (λ x. x < length g.current) (get_or_default places k 0 d l) (m.places_have k l).made

-- what the insert of an application asks
pub record CanInsert (g : Graph Op) (op : Op) (cs : List ℕ) : Type 0 where
  pub arity : length cs ≡ arity_of_op op
  pub made : AreMadeIn g cs
  pub sorts : (at : ℕ) (t : Row Op) → at < length cs → Contains g.rows t → t.class ≡ slice_index g.current (slice_index cs at) → operand_sort op at ≡ sort_of t.op
  pub few : length g.current < 2 ^ 31

module _ (places : List ℕ) (op : Op) (ts : List (Tree Op)) (g : Graph Op) (can : CanBuild g places (application op (operands_of ts))) where
  pub operand_can : (k : ℕ) (d : Tree Op) {cs : List ℕ} {h : Graph Op} → k < length ts → AreBuilt places (operands_of (take k ts)) g cs h → CanBuild h places (get_or ts k d)
  operand_can k d {h} l a =
      let m = can.may in
      let few = are_built_few places a in
      record {
        graph = are_built_graph places a can.graph;
        sort = operand_sort op (0 + k);
        may = record {
          variables = m.variables;
          count = m.count;
          places_have = have_later places m.variables m.count g h can.graph (are_built_extends places a) m.places_have;
          has_sort = sort_of_place m.variables op 0 ts k d l m.has_sort.3;
        };
        few = let c = can.few in let b = few_before ts k d l in omega (arith, few, c, b);
      }

  pub insert_can : {cs : List ℕ} {h : Graph Op} → AreBuilt places (operands_of ts) g cs h → CanInsert h op cs
  insert_can {cs} {h} a =
      let m = can.may in
      let ih = are_built_graph places a can.graph in
      let of = are_built_sorts places m.variables m.count op 0 a can.graph m.places_have m.has_sort.3 in
      record {
        arity = are_built_count places a ∙ m.has_sort.2;
        made = (are_built_classes places a can.graph (made_of g places (application op (operands_of ts)) can.sort m)).0;
        sorts = λ at t l k e.
            let z : 0 + at ≡ at = omega arith in
            sym (sort_of_rows h ih (slice_index cs at) (operand_sort op at) (subst (λ n. IsOfSort op_signature h (get_or cs at 0) (operand_sort op n)) z (of at l)) t k e);
        few = let c = can.few in let f = are_built_few places a in omega (arith, c, f);
      }

-- the answer of the insert is that of the call
pub inserted_built : (places : List ℕ) (op : Op) (ts : Trees Op) (g h new : Graph Op) (cs : List ℕ) (r : Result ℕ AllocError) → AreBuilt places ts g cs h →
    IfOk r (λ class. IsInserted h op cs class new) → OnOk r (ExtendsValues Value h new) → IsGraph op_signature new → IfOk r (λ class. IsBuilt places (application op ts) g class new)
inserted_built places op ts g h new cs (Ok c) a i v is = put a (record { inserted = i; values = v; graph = is })
inserted_built places op ts g h new cs (Err e) a i v is = tt

-- ---- over the items of a term

module _ (items : List (Term Op)) where
  pub one_more : (k : ℕ) (x : Term Op) → k < length items → x ≡ get_or items k x → take (k + 1) (trees_of items) ≡ take k (trees_of items) ++ tree_of x ∷ []
  one_more k x l is =
      let e : get_or (trees_of items) k (tree_of x) ≡ tree_of x = get_or-map tree_of items k x (tree_of x) l ∙ sym (ap tree_of is) in
      take_more (trees_of items) k (tree_of x) (omega (arith, l, length-map items (tree_of {O = Op}))) ∙ ap (λ y. take k (trees_of items) ++ y ∷ []) e

  pub all_taken : (k : ℕ) → length items ≤ k → take k (trees_of items) ≡ trees_of items
  all_taken k h = take_all k (trees_of items) (omega (arith, h, length-map items (tree_of {O = Op})))

  pub in_trees : (k : ℕ) → k < length items → k < length (trees_of items)
  in_trees k l = omega (arith, l, length-map items (tree_of {O = Op}))

  pub item_can : (g : Graph Op) (places : List ℕ) (k : ℕ) (x : Term Op) → k < length items → x ≡ get_or items k x → CanBuild g places (get_or (trees_of items) k (tree_of x)) → CanBuild g places (tree_of x)
  item_can g places k x l is h = subst (CanBuild g places) (get_or-map tree_of items k x (tree_of x) l ∙ sym (ap tree_of is)) h

-- ---- at a variable and at an application

pub variable_in : (g : Graph Op) (places : List ℕ) (term : Term Op) (n : ℕ) → CanBuild g places (tree_of term) → term ≡ Var n → n < length places
variable_in g places term n can is =
    let h : HasSort op_signature can.may.variables can.sort (variable n) = subst (HasSort op_signature can.may.variables can.sort) (ap tree_of is ∙ tree_of_variable n) can.may.has_sort in
    omega (arith, h.0, can.may.count)

pub variable_built : (g : Graph Op) (places : List ℕ) (term : Term Op) (n : ℕ) → CanBuild g places (tree_of term) → term ≡ Var n → IsBuilt places (tree_of term) g (get_or places n 0) g
variable_built g places term n can is =
    subst (λ t. IsBuilt places t g (get_or places n 0) g) (sym (ap tree_of is ∙ tree_of_variable n)) (placed (variable_in g places term n can is))

pub tree_is : (term : Term Op) (op : Op) (v : Vec (Term Op) Global) (items : List (Term Op)) → term ≡ App op v → items ≡ v.items → tree_of term ≡ application op (operands_of (trees_of items))
tree_is term op v items is e = ap tree_of is ∙ tree_of_application op v ∙ ap (λ xs. application op (operands_of (trees_of xs))) (sym e)

-- the next operand may be built; in the shape that the loop's step has
pub next_operand_can : (g h : Graph Op) (places cs : List ℕ) (term x : Term Op) (op : Op) (v : Vec (Term Op) Global) (items : List (Term Op)) (k : ℕ) →
    CanBuild g places (tree_of term) → term ≡ App op v → items ≡ v.items → AreBuilt places (operands_of (take k (trees_of items))) g cs h → k < length items → x ≡ get_or items k x →
    CanBuild h places (tree_of x)
next_operand_can g h places cs term x op v items k can is e built l at =
    item_can items h places k x l at (operand_can places op (trees_of items) g (subst (CanBuild g places) (tree_is term op v items is e) can) k (tree_of x) (in_trees items k l) built)

-- and has fewer operators
pub next_operand_smaller : (term x : Term Op) (op : Op) (v : Vec (Term Op) Global) (items : List (Term Op)) (k : ℕ) →
    term ≡ App op v → items ≡ v.items → k < length items → x ≡ get_or items k x → operators_in (tree_of x) < operators_in (tree_of term)
next_operand_smaller term x op v items k is e l at =
    let f : get_or (trees_of items) k (tree_of x) ≡ tree_of x = get_or-map tree_of items k x (tree_of x) l ∙ sym (ap tree_of at) in
    let b = few_before (trees_of items) k (tree_of x) (in_trees items k l) in
    let a : operators_in (get_or (trees_of items) k (tree_of x)) ≡ operators_in (tree_of x) = ap operators_in f in
    let w : operators_in (tree_of term) ≡ 1 + operators_in_all (operands_of (trees_of items)) = ap operators_in (tree_is term op v items is e) in
    omega (arith, a, b, w)
