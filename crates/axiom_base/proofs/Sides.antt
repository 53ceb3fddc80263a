-- The sorts and the variables of a term, operand by operand; and that the sorts found in the left side of a rule are its own.
use Rattle.std.proofs.Common.{◌≡◌, ℕ, zero, suc, ◌+◌, ◌<◌, ◌≤◌, List, [], ◌∷◌, ◌++◌, length, get_or, refl, ap, sym, subst, ◌∙◌, arith, ⊎_elim, inl, inr}
use Rattle.std.proofs.lemmas.Bool.{cases_lt}
use Rattle.std.proofs.lemmas.List.{get_or-map, length-map, get_or_default, get_or_append_left, length-append, same_lists}
use Rattle.std.proofs.Math.Seq.{get_or-append_seam}
use Rattle.std.specs.declared.vec.Vec.{Vec}
use Rattle.std.specs.declared.alloc.Global.{Global}
use Rattle.word_ops.specs.declared.sorts.Op.{Op}
use Rattle.word_ops.specs.declared.sorts.Sort.{Sort}
use Rattle.word_ops.specs.declared.sorts.Sort.TheVariants as sorts
use Rattle.word_ops.specs.Meanings.{arity_of_op, sort_of, operand_sort}
use Rattle.word_terms.specs.Keys.{op_signature}
use Rattle.word_terms.specs.Signature.{HasWordConstant}
use Rattle.word_terms.specs.Tree.{Tree, Trees, variable, application, none, more, operands_of}
use Rattle.word_terms.specs.View.{tree_of, trees_of}
use Rattle.word_terms.specs.declared.term.Term.{Term}
use Rattle.word_terms.specs.declared.term.Term.TheVariants.{Var, App}
use Rattle.word_terms.specs.Sorting.{tree_count, sort_at, HasSort, HaveSorts, Occurs, OccursInOne, IsApplication}
use Rattle.axiom_base.specs.Steps.{IsSortOf}
use Rattle.axiom_base.specs.Rewrites.{IsRule, rewrite}

-- ---- trees

occurs_in_one : (n : ℕ) (ts : List (Tree Op)) (k : ℕ) (d : Tree Op) → k < length ts → Occurs n (get_or ts k d) → OccursInOne n (operands_of ts)
occurs_in_one n [] k d l h = absurd (omega arith)
occurs_in_one n (t ∷ ts) zero d l h = inl h
occurs_in_one n (t ∷ ts) (suc k) d l h = inr (occurs_in_one n ts k d (omega arith) h)

occurs_in_none : (n : ℕ) (ts : List (Tree Op)) → ((k : ℕ) (d : Tree Op) → k < length ts → Occurs n (get_or ts k d) → ⊥) → OccursInOne n (operands_of ts) → ⊥
occurs_in_none n [] never h = h
occurs_in_none n (t ∷ ts) never h = ⊎_elim
    (λ first. never 0 t (omega arith) first)
    (λ rest. occurs_in_none n ts (λ k d l. never (suc k) d (omega arith)) rest)
    h

sort_of_operand : (vs : List Sort) (op : Op) (at : ℕ) (ts : List (Tree Op)) (k : ℕ) (d : Tree Op) → k < length ts → HaveSorts op_signature vs op at (operands_of ts) → HasSort op_signature vs (operand_sort op (at + k)) (get_or ts k d)
sort_of_operand vs op at [] k d l h = absurd (omega arith)
sort_of_operand vs op at (t ∷ ts) zero d l h = let e : at ≡ at + 0 = omega arith in subst (λ n. HasSort op_signature vs (operand_sort op n) t) e h.0
sort_of_operand vs op at (t ∷ ts) (suc k) d l h =
    let e : at + 1 + k ≡ at + suc k = omega arith in
    subst (λ n. HasSort op_signature vs (operand_sort op n) (get_or ts k d)) e (sort_of_operand vs op (at + 1) ts k d (omega arith) h.1)

sorts_of_operands : (vs : List Sort) (op : Op) (at : ℕ) (ts : List (Tree Op)) → ((k : ℕ) (d : Tree Op) → k < length ts → HasSort op_signature vs (operand_sort op (at + k)) (get_or ts k d)) → HaveSorts op_signature vs op at (operands_of ts)
sorts_of_operands vs op at [] h = tt
sorts_of_operands vs op at (t ∷ ts) h =
    let e : at + 0 ≡ at = omega arith in (
      subst (λ n. HasSort op_signature vs (operand_sort op n) t) e (h 0 t (omega arith)),
      sorts_of_operands vs op (at + 1) ts (λ k d l.
          let f : at + suc k ≡ at + 1 + k = omega arith in
          subst (λ n. HasSort op_signature vs (operand_sort op n) (get_or ts k d)) f (h (suc k) d (omega arith))),
    )

count_is_length : (ts : List (Tree Op)) → tree_count (operands_of ts) ≡ length ts
count_is_length [] = refl
count_is_length (t ∷ ts) = let e = count_is_length ts in omega (arith, e)

-- ---- terms

-- what holds of each item before i, and of the item at i, holds of each before i + 1
item : (ts : List (Term Op)) (k : ℕ) (d : Tree Op) (e : Term Op) → k < length ts → tree_of (get_or ts k e) ≡ get_or (trees_of ts) k d
item ts k d e l = sym (get_or-map tree_of ts k e d l)

-- the trees of applications and of variables, as `word_terms` promises them
module _
    (applications : (op : Op) (operands : Vec (Term Op) Global) → tree_of (App op operands) ≡ application op (operands_of (trees_of operands.items)))
    (op : Op) (v : Vec (Term Op) Global) (t : Term Op) (is : t ≡ App op v)
  where
    tree_is : tree_of t ≡ application op (operands_of (trees_of v.items))
    tree_is = ap tree_of is ∙ applications op v

    pub occurs_in_operand : (n k : ℕ) (x : Term Op) → k < length v.items → x ≡ get_or v.items k x → Occurs n (tree_of x) → Occurs n (tree_of t)
    occurs_in_operand n k x l e h =
        subst (Occurs n) (sym tree_is)
        (occurs_in_one n (trees_of v.items) k (tree_of x) (let m = length-map v.items tree_of in omega (arith, m)) (subst (Occurs n) (ap tree_of e ∙ item v.items k (tree_of x) x l) h))

    pub occurs_nowhere : (n i : ℕ) → length v.items ≤ i → ((k : ℕ) (d : Term Op) → k < i → Occurs n (tree_of (get_or v.items k d)) → ⊥) → Occurs n (tree_of t) → ⊥
    occurs_nowhere n i l never h =
        occurs_in_none n (trees_of v.items)
        (λ k d m g. let b : k < length v.items = let e = length-map v.items tree_of in omega (arith, e) in
        never k t (omega arith) (subst (Occurs n) (sym (item v.items k d t b)) g))
        (subst (Occurs n) tree_is h)

    pub is_application : IsApplication (tree_of t)
    is_application = subst IsApplication (sym tree_is) tt

    pub operator_gives_sort : (vs : List Sort) (sort : Sort) → HasSort op_signature vs sort (tree_of t) → sort_of op ≡ sort
    operator_gives_sort vs sort h = (subst (HasSort op_signature vs sort) tree_is h).0

    pub operator_takes_all : (vs : List Sort) (sort : Sort) → HasSort op_signature vs sort (tree_of t) → length v.items ≡ arity_of_op op
    operator_takes_all vs sort h =
        sym (length-map v.items tree_of) ∙ sym (count_is_length (trees_of v.items)) ∙ (subst (HasSort op_signature vs sort) tree_is h).2

    pub operand_has_sort : (vs : List Sort) (sort : Sort) (k : ℕ) (x : Term Op) → k < length v.items → x ≡ get_or v.items k x → HasSort op_signature vs sort (tree_of t) → HasSort op_signature vs (operand_sort op k) (tree_of x)
    operand_has_sort vs sort k x l e h =
        let z : 0 + k ≡ k = omega arith in
        subst (HasSort op_signature vs (operand_sort op k)) (sym (ap tree_of e ∙ item v.items k (tree_of x) x l))
        (subst (λ n. HasSort op_signature vs (operand_sort op n) (get_or (trees_of v.items) k (tree_of x))) z (sort_of_operand vs op 0 (trees_of v.items) k (tree_of x) (let m = length-map v.items tree_of in omega (arith, m)) (subst (HasSort op_signature vs sort) tree_is h).3))

    pub application_has_sort : (vs : List Sort) (sort : Sort) (i : ℕ) → sort_of op ≡ sort → HasWordConstant op_signature op → length v.items ≡ arity_of_op op → length v.items ≤ i
        → ((k : ℕ) (d : Term Op) → k < i → HasSort op_signature vs (operand_sort op k) (tree_of (get_or v.items k d))) → HasSort op_signature vs sort (tree_of t)
    application_has_sort vs sort i s r c l each =
        subst (HasSort op_signature vs sort) (sym tree_is) (
          s,
          r,
          count_is_length (trees_of v.items) ∙ length-map v.items tree_of ∙ c,
          sorts_of_operands vs op 0 (trees_of v.items) (λ k d m.
              let b : k < length v.items = let e = length-map v.items tree_of in omega (arith, e) in
              let z : k ≡ 0 + k = omega arith in
              subst (λ n. HasSort op_signature vs (operand_sort op n) (get_or (trees_of v.items) k d)) z
              (subst (HasSort op_signature vs (operand_sort op k)) (item v.items k d t b) (each k t (omega arith)))),
        )

module _ (variables : (n : ℕ) → tree_of {O = Op} (Var n) ≡ variable n) (n : ℕ) (t : Term Op) (is : t ≡ Var n) where
  variable_is : tree_of t ≡ variable n
  variable_is = ap tree_of is ∙ variables n

  pub variable_is_no_application : IsApplication (tree_of t) → ⊥
  variable_is_no_application h = subst IsApplication variable_is h

  pub variable_occurs : (m : ℕ) → m ≡ n → Occurs m (tree_of t)
  variable_occurs m e = subst (Occurs m) (sym variable_is) e

  pub variable_is_that : (m : ℕ) → Occurs m (tree_of t) → m ≡ n
  variable_is_that m h = subst (Occurs m) variable_is h

  pub variable_has_sort : (vs : List Sort) (sort : Sort) → n < length vs → sort_at vs n ≡ sort → HasSort op_signature vs sort (tree_of t)
  variable_has_sort vs sort l e = subst (HasSort op_signature vs sort) (sym variable_is) (l, e)

  pub sort_of_variable : (vs : List Sort) (sort : Sort) → HasSort op_signature vs sort (tree_of t) → (n < length vs) × (sort_at vs n ≡ sort)
  sort_of_variable vs sort h = subst (HasSort op_signature vs sort) variable_is h

-- ---- the sorts found

mutual
  occurring_is_below : (vs : List Sort) (sort : Sort) (n : ℕ) (t : Tree Op) → HasSort op_signature vs sort t → Occurs n t → n < length vs
  occurring_is_below vs sort n (variable k) h e = subst (λ m. m < length vs) (sym e) h.0
  occurring_is_below vs sort n (application op ts) h o = occurring_in_one_is_below vs op 0 n ts h.3 o

  occurring_in_one_is_below : (vs : List Sort) (op : Op) (at n : ℕ) (ts : Trees Op) → HaveSorts op_signature vs op at ts → OccursInOne n ts → n < length vs
  occurring_in_one_is_below vs op at n none h o = absurd o
  occurring_in_one_is_below vs op at n (more t ts) h o = ⊎_elim
      (λ first. occurring_is_below vs (operand_sort op at) n t h.0 first)
      (λ rest. occurring_in_one_is_below vs op (at + 1) n ts h.1 rest)
      o

-- one more sort found
pub one_more_sort : (t : Tree Op) (sort : Sort) (found new : List Sort) (next : Sort) → new ≡ found ++ next ∷ [] → ((n : ℕ) → n < length found → IsSortOf t sort n (sort_at found n))
    → IsSortOf t sort (length found) next → (n : ℕ) → n < length new → IsSortOf t sort n (sort_at new n)
one_more_sort t sort found new next e each h n l = ⊎_elim
    (λ (before : n < length found). subst (IsSortOf t sort n) (sym (get_or_append_left found (next ∷ []) sorts.Word n before) ∙ ap (λ xs. sort_at xs n) (sym e)) (each n before))
    (λ (last : length found ≤ n).
    let m = ap length e ∙ length-append found (next ∷ []) in
    let same : length found ≡ n = omega (arith, m) in
    subst (λ k. IsSortOf t sort k (sort_at new k)) same
    (subst (IsSortOf t sort (length found)) (sym (get_or-append_seam found next [] sorts.Word) ∙ ap (λ xs. sort_at xs (length found)) (sym e)) h))
    (cases_lt n (length found))

module _ (left right : Tree Op) (sort : Sort) (found : List Sort)
    (each : (n : ℕ) → n < length found → IsSortOf left sort n (sort_at found n))
  where
    pub is_rule : IsApplication left → HasSort op_signature found sort left → HasSort op_signature found sort right → IsRule (rewrite found left right)
    is_rule a l r = record { application = a; sides = (sort, l, r); all = λ n h. (each n h).0; free = refl }

    -- where the sides make a rule, its sorts are those that were found
    pub found_are_its_own : (Occurs (length found) left → ⊥) → ((vs : List Sort) (s : Sort) → HasSort op_signature vs s left → sort ≡ s)
        → (vs : List Sort) → IsRule (rewrite vs left right) → HasSort op_signature found sort left × HasSort op_signature found sort right
    found_are_its_own last one vs rule =
        let s = rule.sides.0 in
        let same_sort : s ≡ sort = sym (one vs s rule.sides.1) in
        let l : HasSort op_signature vs sort left = subst (λ x. HasSort op_signature vs x left) same_sort rule.sides.1 in
        let r : HasSort op_signature vs sort right = subst (λ x. HasSort op_signature vs x right) same_sort rule.sides.2 in
        let same : vs ≡ found = sorts_are_same vs l (λ n h. rule.all n h) in
        (subst (λ x. HasSort op_signature x sort left) same l, subst (λ x. HasSort op_signature x sort right) same r)
      where
        no_shorter : (vs : List Sort) → HasSort op_signature vs sort left → length vs < length found → ⊥
        no_shorter vs l less = let m = occurring_is_below vs sort (length vs) left l (each (length vs) less).0 in absurd (omega arith)

        as_long : (vs : List Sort) → HasSort op_signature vs sort left → ((n : ℕ) → n < length vs → Occurs n left) → length vs ≡ length found
        as_long vs l all = ⊎_elim
            (λ (less : length vs < length found). absurd (no_shorter vs l less))
            (λ (enough : length found ≤ length vs). ⊎_elim
            (λ (more : length found < length vs). absurd (last (all (length found) more)))
            (λ (no_more : length vs ≤ length found). omega arith)
            (cases_lt (length found) (length vs)))
            (cases_lt (length vs) (length found))

        sorts_are_same : (vs : List Sort) → HasSort op_signature vs sort left → ((n : ℕ) → n < length vs → Occurs n left) → vs ≡ found
        sorts_are_same vs l all =
            let e = as_long vs l all in
            same_lists vs found e (λ n d h.
            let m : n < length found = omega (arith, e) in
            get_or_default vs n d sorts.Word h ∙ (each n m).1 vs l ∙ get_or_default found n sorts.Word d m)
