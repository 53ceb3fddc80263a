-- Steps of reading a pattern's class.
use Rattle.std.proofs.Common.{◌≡◌, ℕ, zero, suc, ◌+◌, ◌<◌, ◌≤◌, List, [], ◌∷◌, ◌++◌, map, length, take, get_or, slice_index, Option, Some, None, MatchOption, All, refl, sym, ap, ◌∙◌, subst, arith, eq-eqb, nat_eq}
use Rattle.std.specs.Prelude.{IsTrue}
use Rattle.std.proofs.lemmas.Bool.Decides.{nat_tests}
use Rattle.std.proofs.lemmas.List.{take_all, length-map}
use Rattle.std.proofs.lemmas.List.Elements.{All-contains}
use Rattle.std.specs.declared.vec.Vec.{Vec}
use Rattle.std.specs.declared.alloc.Global.{Global}
use Rattle.word_ops.specs.declared.sorts.Op.{Op}
use Rattle.word_terms.specs.Keys.{op_signature}
use Rattle.word_terms.specs.Tree.{Tree, variable, application, operands_of, AreBelow}
use Rattle.word_terms.specs.View.{tree_of, trees_of}
use Rattle.word_terms.specs.declared.term.Term.{Term}
use Rattle.word_terms.specs.declared.term.Term.TheVariants.{Var, App}
use Rattle.egraph.specs.Graph.{Graph, HasClass, IsGraph, IsPresent, HasRow, LacksRow, AreMade, read_through}
use Rattle.pattern_match.specs.Classes.{IsClass, AreClasses, at_variable, at_row, no_classes, classes, CanFindClass}
use Rattle.pattern_match.specs.Bindings.{node_count}
use Rattle.pattern_match.proofs.Walking.{one_class, one_classes, are_push, below_at, variable_is, application_is, operands_smaller, in_trees, at_tree, one_more_tree, operand_smaller}
use Rattle.pattern_match.proofs.Matching.{class_has}

pub has_present : (g : Graph Op) → IsGraph op_signature g → (c : ℕ) → HasClass g c → IsPresent g c
has_present g is c has = subst (IsPresent g) has.is (All-contains (λ t. IsPresent g t.class) g.rows has.row is.classes has.there)

map_at_same : (f : ℕ → ℕ) (xs : List ℕ) → All (λ x. f x ≡ x) xs → map f xs ≡ xs
map_at_same f [] h = refl
map_at_same f (x ∷ xs) h = let e = h 0 x (omega arith) in let t = map_at_same f xs (λ k d l. h (suc k) d (omega arith)) in cc

tree_is : (p : Term Op) (op : Op) (v : Vec (Term Op) Global) (items : List (Term Op)) → p ≡ App op v → items ≡ v.items → tree_of p ≡ application op (operands_of (trees_of items))
tree_is p op v items is e = application_is p op v is ∙ ap (λ xs. application op (operands_of (trees_of xs))) (sym e)

module _ (g : Graph Op) (places : List ℕ) where
  abbrev pub Absent : Tree Op → Type 0
  Absent p = (c : ℕ) → IsClass g places p c → ⊥

  pub variable_class : (p : Term Op) (n : ℕ) → CanFindClass g places (tree_of p) → p ≡ Var n → (n < length places) × IsClass g places (tree_of p) (get_or places n 0)
  variable_class p n can is =
      let e = variable_is p n is in
      let l : AreBelow {O = Op} (length places) (variable n) = subst (AreBelow (length places)) e can.below in
      (l, subst (λ t. IsClass g places t (get_or places n 0)) (sym e) (at_variable l))

  operand_class : (ts : List (Tree Op)) (k : ℕ) (d : Tree Op) {cs : List ℕ} → k < length ts → AreClasses g places (operands_of ts) cs → (c : ℕ) × IsClass g places (get_or ts k d) c
  operand_class [] k d l h = absurd (omega arith)
  operand_class (t ∷ ts) zero d l (classes {c} h k) = (c, h)
  operand_class (t ∷ ts) (suc n) d l (classes h k) = operand_class ts n d (omega arith) k

  have_each : All (HasClass g) places → (ts : List (Tree Op)) {cs : List ℕ} → AreClasses g places (operands_of ts) cs → All (HasClass g) cs
  have_each all [] no_classes k d l = absurd (omega arith)
  have_each all (t ∷ ts) (classes h i) zero d l = class_has g places t all h
  have_each all (t ∷ ts) (classes h i) (suc k) d l = have_each all ts i k d (omega (arith, l))

  module _ (p x : Term Op) (op : Op) (v : Vec (Term Op) Global) (items : List (Term Op)) (k : ℕ) (is : p ≡ App op v) (e : items ≡ v.items) (l : k < length items) (at : x ≡ get_or items k x) where
    pub operand_can_be_read : CanFindClass g places (tree_of p) → CanFindClass g places (tree_of x)
    operand_can_be_read can =
        let b : AreBelow (length places) (application op (operands_of (trees_of items))) = subst (AreBelow (length places)) (tree_is p op v items is e) can.below in
        record { graph = can.graph; present = can.present; below = subst (AreBelow (length places)) (at_tree items k x l at) (below_at (length places) (trees_of items) k (tree_of x) b (in_trees items k x l at)) }

    pub absent_operand : Absent (tree_of x) → Absent (tree_of p)
    absent_operand absent c h = no_operand (subst (λ t. IsClass g places t c) (tree_is p op v items is e) h)
      where
        no_operand : {c : ℕ} → IsClass g places (application op (operands_of (trees_of items))) c → ⊥
        no_operand (at_row m r) = let o = operand_class (trees_of items) k (tree_of x) (in_trees items k x l at) m in absent o.0 (subst (λ t. IsClass g places t o.0) (at_tree items k x l at) o.1)

    pub next_read : (cs : List ℕ) (d : ℕ) → AreClasses g places (operands_of (take k (trees_of items))) cs → IsClass g places (tree_of x) d → AreClasses g places (operands_of (take (k + 1) (trees_of items))) (cs ++ d ∷ [])
    next_read cs d h m = subst (λ ts. AreClasses g places (operands_of ts) (cs ++ d ∷ [])) (sym (one_more_tree items k x l at)) (are_push g places (take k (trees_of items)) (tree_of x) h m)

    pub smaller_operand : node_count (tree_of x) < node_count (tree_of p)
    smaller_operand = omega (arith, operand_smaller items k x l at, operands_smaller p op v items is e)

  pub all_taken : (items : List (Term Op)) (k : ℕ) → length items ≤ k → take k (trees_of items) ≡ trees_of items
  all_taken items k h = take_all k (trees_of items) (omega (arith, h, length-map items (tree_of {O = Op})))

  module _ (p : Term Op) (op : Op) (v : Vec (Term Op) Global) (items : List (Term Op)) (is : p ≡ App op v) (e : items ≡ v.items) (can : CanFindClass g places (tree_of p)) (cs : List ℕ) (read : AreClasses g places (operands_of (trees_of items)) cs) where
    pub all_made : AreMade g.current cs
    all_made n d l = (has_present g can.graph (get_or cs n d) (have_each can.present (trees_of items) read n d l)).made

    present_already : read_through g cs ≡ cs
    present_already = map_at_same (slice_index g.current) cs (λ n d l. (has_present g can.graph (get_or cs n d) (have_each can.present (trees_of items) read n d l)).itself)

    pub read_exactly : (found : Option ℕ) → MatchOption found (LacksRow g.rows op (read_through g cs)) (HasRow g.rows op (read_through g cs)) → MatchOption found (Absent (tree_of p)) (IsClass g places (tree_of p))
    read_exactly None lacks = λ c h. absent (subst (λ t. IsClass g places t c) (tree_is p op v items is e) h)
      where
        absent : {c : ℕ} → IsClass g places (application op (operands_of (trees_of items))) c → ⊥
        absent {c} (at_row {cs = ds} m r) =
            let same : ds ≡ read_through g cs = one_classes g can.graph.distinct places m read ∙ sym present_already in
            lacks c (subst (λ xs. HasRow g.rows op xs c) same r)
    read_exactly (Some c) has =
        subst (λ t. IsClass g places t c) (sym (tree_is p op v items is e)) (at_row read (subst (λ xs. HasRow g.rows op xs c) present_already has))

-- ---- a class

module _ (g : Graph Op) (places : List ℕ) (t : Tree Op) where
  pub class_test : IsGraph op_signature g → (c d : ℕ) → IsClass g places t c → (IsTrue (nat_eq c d) → IsClass g places t d) × (IsClass g places t d → IsTrue (nat_eq c d))
  class_test is c d h = (
    λ q. (let e : c ≡ d = grind (arith, nat_tests, q) in subst (IsClass g places t) e h),
    λ k. (let e : c ≡ d = one_class g is.distinct places h k in eq-eqb c d e),
  )
