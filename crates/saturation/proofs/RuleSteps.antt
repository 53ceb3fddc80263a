-- Steps of the calls that make rules of axioms.
use Rattle.std.proofs.Common.{◌≡◌, ℕ, zero, suc, ◌+◌, ◌<◌, ◌≤◌, Bool, true, false, ◌||◌, cond, List, [], ◌∷◌, ◌++◌, map, length, take, get_or, replicate, All, refl, sym, ap, ◌∙◌, subst, arith}
use Rattle.std.specs.List.{range_with_len}
use Rattle.std.specs.declared.vec.Vec.{Vec}
use Rattle.std.specs.declared.alloc.Global.{Global}
use Rattle.std.proofs.lemmas.List.{get_or-map, length-map, length-replicate, map-append, replicate_more, take_more}
use Rattle.std.proofs.lemmas.List.FromFn.{map-range_with_len_more, length-map-range_with_len}
use Rattle.word_ops.specs.declared.sorts.Op.{Op}
use Rattle.word_ops.specs.declared.sorts.Sort.{Sort}
use Rattle.word_ops.specs.declared.sorts.Sort.TheVariants as sorts
use Rattle.word_terms.specs.Keys.{op_signature}
use Rattle.word_terms.specs.Sorting.{HasSort}
use Rattle.word_terms.specs.Tree.{Tree, variable, operands_of, substituted, AreBelow}
use Rattle.word_terms.specs.View.{tree_of, trees_of}
use Rattle.word_terms.specs.declared.term.Term.{Term}
use Rattle.word_terms.specs.declared.term.Term.TheVariants.{App}
use Rattle.axiom_base.specs.Rewrites.{Rewrite, rewrite, IsRule}
use Rattle.goal_meaning.specs.Views.{AxiomTree, axiom_view}
use Rattle.goal_meaning.specs.WellFormed.{IsAxiom, axiom_sorts}
use Rattle.goal_meaning.specs.declared.goals.Axiom.{Axiom}
use Rattle.goal_meaning.specs.declared.goals.DeclaredOp.{DeclaredOp}
use Rattle.saturation.specs.GoalTerms.{has_variable, have_variable, variables_below, renumbered, rule_of}
use Rattle.saturation.proofs.Renumbering.{count_more, count_up_to, below, axiom_is_rule}
use Rattle.saturation.proofs.StartSteps.{in_map, at_map}
use Rattle.saturation.proofs.Building.{one_more, tree_is}

right_true : (b : Bool) {c : Bool} → c ≡ true → (b || c) ≡ true
right_true true e = refl
right_true false e = e

have_at : (n : ℕ) (ts : List (Tree Op)) (k : ℕ) (d : Tree Op) → k < length ts → has_variable n (get_or ts k d) ≡ true → have_variable n (operands_of ts) ≡ true
have_at n [] k d l e = absurd (omega arith)
have_at n (t ∷ ts) zero d l e = ap (λ b. b || have_variable n (operands_of ts)) e
have_at n (t ∷ ts) (suc k) d l e = right_true (has_variable n t) (have_at n ts k d (omega arith) e)

still_false : (b : Bool) {c d : Bool} → (b || c) ≡ false → (c ≡ false → d ≡ false) → (b || d) ≡ false
still_false true e more = e
still_false false e more = more e

have_none : (n : ℕ) (ts : List (Tree Op)) (t : Tree Op) → have_variable n (operands_of ts) ≡ false → has_variable n t ≡ false → have_variable n (operands_of (ts ++ t ∷ [])) ≡ false
have_none n [] t h e = ap (λ b. b || false) e
have_none n (u ∷ us) t h e = still_false (has_variable n u) h (λ k. have_none n us t k e)

pub found_variable : (n : ℕ) (term : Term Op) (op : Op) (v : Vec (Term Op) Global) (items : List (Term Op)) (k : ℕ) (x : Term Op) → term ≡ App op v → items ≡ v.items → k < length items → x ≡ get_or items k x →
    has_variable n (tree_of x) ≡ true → true ≡ has_variable n (tree_of term)
found_variable n term op v items k x is e l at found =
    let here : get_or (trees_of items) k (tree_of x) ≡ tree_of x = get_or-map tree_of items k x (tree_of x) l ∙ sym (ap tree_of at) in
    let h = have_at n (trees_of items) k (tree_of x) (omega (arith, l, length-map items (tree_of {O = Op}))) (ap (has_variable n) here ∙ found) in
    sym (ap (has_variable n) (tree_is term op v items is e) ∙ h)

pub no_more_variables : (n : ℕ) (items : List (Term Op)) (k : ℕ) (x : Term Op) → k < length items → x ≡ get_or items k x → have_variable n (operands_of (take k (trees_of items))) ≡ false → has_variable n (tree_of x) ≡ false →
    have_variable n (operands_of (take (k + 1) (trees_of items))) ≡ false
no_more_variables n items k x l at before none =
    ap (λ ts. have_variable n (operands_of ts)) (one_more items k x l at) ∙ have_none n (take k (trees_of items)) (tree_of x) before none

-- ---- the variables of an axiom, one after another

module _ (a : AxiomTree) where
  abbrev number : ℕ → ℕ
  number n = length (variables_below a n)

  abbrev pub Numbered : List (Term Op) → ℕ → Type 0
  Numbered items k = trees_of items ≡ map (λ n. variable (number n)) (range_with_len 0 k)

  pub numbers_more : (items : List (Term Op)) (k : ℕ) (t : Term Op) → Numbered items k → tree_of t ≡ variable (number k) → Numbered (items ++ t ∷ []) (k + 1)
  numbers_more items k t before is =
      map-append tree_of items (t ∷ []) ∙ ap (λ ts. ts ++ tree_of t ∷ []) before
      ∙ ap (λ u. map (λ n. variable (number n)) (range_with_len 0 k) ++ u ∷ []) is
      ∙ sym (map-range_with_len_more (λ n. variable (number n)) 0 k k (omega arith))

  next_number : (k : ℕ) (b : Bool) → has_variable k a.left ≡ b → number (k + 1) ≡ number k + cond b 1 0
  next_number k b e = let s : k + 1 ≡ suc k = omega arith in ap number s ∙ count_more a k b e

  pub sorts_more : (k : ℕ) (xs : List Sort) → xs ≡ replicate (number k) sorts.Word → has_variable k a.left ≡ true → xs ++ sorts.Word ∷ [] ≡ replicate (number (k + 1)) sorts.Word
  sorts_more k xs is e = ap (λ ys. ys ++ sorts.Word ∷ []) is ∙ replicate_more (number k) sorts.Word ∙ ap (λ n. replicate n sorts.Word) (sym (next_number k true e))

  pub sorts_same : (k : ℕ) (xs : List Sort) → xs ≡ replicate (number k) sorts.Word → has_variable k a.left ≡ false → xs ≡ replicate (number (k + 1)) sorts.Word
  sorts_same k xs is e = let h = next_number k false e in let n : number k ≡ number (k + 1) = omega (arith, h) in is ∙ ap (λ m. replicate m sorts.Word) n

  -- the sorts are few
  pub few_sorts : (k : ℕ) (xs : List Sort) → xs ≡ replicate (number k) sorts.Word → length xs ≤ k
  few_sorts k xs is = let e = ap (λ ys. length ys) is in let h = count_up_to a k in omega (arith, e, h, length-replicate (number k) sorts.Word)

  pub sorts_count : (k : ℕ) (xs : List Sort) → xs ≡ replicate (number k) sorts.Word → length xs ≡ number k
  sorts_count k xs is = ap (λ ys. length ys) is ∙ length-replicate (number k) sorts.Word

  module _ (declared : List DeclaredOp) (is : IsAxiom declared a) (items : List (Term Op)) (k : ℕ) (all : k ≡ length a.variables) (numbered : Numbered items k) where
    many : length a.variables ≡ length items
    many = all_of ∙ length-map items (tree_of {O = Op})
      where
        all_of : length a.variables ≡ length (trees_of items)
        all_of = sym all ∙ sym (length-map-range_with_len (λ n. variable (number n)) 0 k) ∙ ap (λ ts. length ts) (sym numbered)

    pub side_below : (t : Tree Op) → HasSort op_signature (axiom_sorts a) sorts.Word t → AreBelow (length items) t
    side_below t s = subst (λ n. AreBelow n t) many (below a t sorts.Word s)

    new_side : (t u : Tree Op) → u ≡ substituted (trees_of items) t → u ≡ renumbered a t
    new_side t u e = e ∙ ap (λ ts. substituted ts t) (numbered ∙ ap (λ n. map (λ m. variable (number m)) (range_with_len 0 n)) all)

    pub rule_is : (xs : List Sort) (left right : Tree Op) → xs ≡ replicate (number k) sorts.Word → left ≡ substituted (trees_of items) a.left → right ≡ substituted (trees_of items) a.right → rewrite xs left right ≡ rule_of a
    rule_is xs left right sorted l r =
        let sorts_are : xs ≡ replicate (number (length a.variables)) sorts.Word = sorted ∙ ap (λ n. replicate (number n) sorts.Word) all in
        let left_is = new_side a.left left l in
        let right_is = new_side a.right right r in
        λ i. rewrite (sorts_are i) (left_is i) (right_is i)

    pub rule_can : (xs : List Sort) (left right : Tree Op) → xs ≡ replicate (number k) sorts.Word → left ≡ substituted (trees_of items) a.left → right ≡ substituted (trees_of items) a.right → IsRule (rewrite xs left right)
    rule_can xs left right sorted l r = subst IsRule (sym (rule_is xs left right sorted l r)) (axiom_is_rule a declared is)

-- ---- one axiom after another

module _ (xs : List Axiom) (k : ℕ) (x : Axiom) (l : k < length xs) (is : x ≡ get_or xs k x) where
  pub next_axiom : (declared : List DeclaredOp) → All (IsAxiom declared) (map axiom_view xs) → IsAxiom declared (axiom_view x)
  next_axiom declared all = subst (IsAxiom declared) (at_map axiom_view xs k x l is) (all k (axiom_view x) (in_map axiom_view xs k x l is))

  pub more_rules : (done : List Rewrite) (rule : Rewrite) → done ≡ map rule_of (take k (map axiom_view xs)) → rule ≡ rule_of (axiom_view x) → done ++ rule ∷ [] ≡ map rule_of (take (k + 1) (map axiom_view xs))
  more_rules done rule before rule_is =
      let here = take_more (map axiom_view xs) k (axiom_view x) (in_map axiom_view xs k x l is) ∙ ap (λ y. take k (map axiom_view xs) ++ y ∷ []) (at_map axiom_view xs k x l is) in
      ap (λ ys. ys ++ rule ∷ []) before ∙ ap (λ r. map rule_of (take k (map axiom_view xs)) ++ r ∷ []) rule_is
      ∙ sym (ap (map rule_of) here ∙ map-append rule_of (take k (map axiom_view xs)) (axiom_view x ∷ []))
