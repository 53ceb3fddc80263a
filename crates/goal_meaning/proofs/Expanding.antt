-- Terms without lets have the sorts of the terms that they are made from.
use Rattle.std.proofs.Common.{◌≡◌, ◌∙◌, ℕ, ◌+◌, ◌<◌, List, [], ◌∷◌, ◌++◌, length, map, slice_index_or, Option, Some, None, option_map, IfSome, All, ap, sym, subst, refl, arith, zero, suc, get_or}
use Rattle.std.specs.List.{AllZip}
use Rattle.std.proofs.lemmas.List.Elements.{All-map, All-head, All-tail}
use Rattle.word_ops.specs.declared.sorts.Op.{Op}
use Rattle.word_ops.specs.declared.sorts.Sort.{Sort}
use Rattle.word_ops.specs.declared.sorts.Sort.TheVariants as sorts
use Rattle.word_terms.specs.Keys.{op_signature}
use Rattle.word_terms.specs.Sorting.{HasSort, HaveSorts, tree_count, sort_at}
use Rattle.word_terms.specs.OperatorsIn.{EachOperator, EachOperatorOfAll}
use Rattle.word_terms.specs.Tree.{Tree, Trees, variable, application, none, more, put_in, substituted, each_substituted}
use Rattle.goal_meaning.specs.Expanded.{expanded_terms, expanded_sides, expanded_target, expanded, let_terms, let_values}
use Rattle.goal_meaning.specs.Views.{TwoTrees, TargetTree, GoalTree}
use Rattle.goal_meaning.specs.WellFormed.{IsTermOver, IsOfGoal, AreLets, IsAssume, IsTarget, IsGoal, sort_of_tree, sort_of_target, sorts_of_lets, let_sorts}
use Rattle.goal_meaning.specs.declared.goals.DeclaredOp.{DeclaredOp}
use Rattle.goal_meaning.specs.declared.goals.InputReg.{InputReg}

-- ---- a term without variables stays

mutual
  pub closed : (sort : Sort) (t : Tree Op) → HasSort op_signature [] sort t → substituted [] t ≡ t
  closed sort (variable n) h = refl
  closed sort (application op ts) h = ap (application op) (all_closed op 0 ts h.3)

  all_closed : (op : Op) (at : ℕ) (ts : Trees Op) → HaveSorts op_signature [] op at ts → each_substituted [] ts ≡ ts
  all_closed op at none h = refl
  all_closed op at (more t ts) h = ap (λ x. more x (each_substituted [] ts)) (closed (op_signature.operand_sort op at) t h.0)
      ∙ ap (more t) (all_closed op (at + 1) ts h.1)

-- ---- terms over terms without lets

push_zip : {A B : Type 0} (R : A → B → Type 0) (xs : List A) (ys : List B) (x : A) (y : B) → AllZip R xs ys → R x y
    → AllZip R (xs ++ x ∷ []) (ys ++ y ∷ [])
push_zip R [] [] x y h r = (r, tt)
push_zip R [] (b ∷ ys) x y h r = absurd h
push_zip R (a ∷ xs) [] x y h r = absurd h
push_zip R (a ∷ xs) (b ∷ ys) x y h r = (h.0, push_zip R xs ys x y h.1 r)

zip_at : {A B : Type 0} (R : A → B → Type 0) (xs : List A) (ys : List B) (n : ℕ) (d : A) (e : B) → AllZip R xs ys
    → n < length xs → R (slice_index_or xs n d) (slice_index_or ys n e)
zip_at R [] ys n d e h l = let no : ⊥ = omega arith in absurd no
zip_at R (x ∷ xs) [] n d e h l = absurd h
zip_at R (x ∷ xs) (y ∷ ys) zero d e h l = h.0
zip_at R (x ∷ xs) (y ∷ ys) (suc n) d e h l = zip_at R xs ys n d e h.1 (omega arith)

counted : (es : List (Tree Op)) (ts : Trees Op) → tree_count (each_substituted es ts) ≡ tree_count ts
counted es none = refl
counted es (more t ts) = ap (λ n. n + 1) (counted es ts)

module _ (declared : List DeclaredOp) (inputs : List InputReg) where
  abbrev Closed : Sort → Tree Op → Type 0
  Closed sort t = IsTermOver declared inputs [] sort t

  abbrev P : Op → Type 0
  P op = IsOfGoal declared inputs op

  module _ (ss : List Sort) (es : List (Tree Op)) (z : AllZip Closed ss es) where
    put : (n : ℕ) (sort : Sort) → HasSort op_signature ss sort (variable n) → Closed sort (put_in es n)
    put n sort h = subst (λ s. Closed s (put_in es n)) h.1 (zip_at Closed ss es n sorts.Word (variable n) z h.0)

    mutual
      sorted : (sort : Sort) (t : Tree Op) → HasSort op_signature ss sort t → HasSort op_signature [] sort (substituted es t)
      sorted sort (variable n) h = (put n sort h).sorted
      sorted sort (application op ts) h =
          (h.0, h.1, counted es ts ∙ h.2, all_sorted op 0 ts h.3)

      all_sorted : (op : Op) (at : ℕ) (ts : Trees Op) → HaveSorts op_signature ss op at ts
          → HaveSorts op_signature [] op at (each_substituted es ts)
      all_sorted op at none h = tt
      all_sorted op at (more t ts) h = (sorted (op_signature.operand_sort op at) t h.0, all_sorted op (at + 1) ts h.1)

    mutual
      operators : (sort : Sort) (t : Tree Op) → HasSort op_signature ss sort t → EachOperator P t → EachOperator P (substituted es t)
      operators sort (variable n) h p = (put n sort h).operators
      operators sort (application op ts) h p = (p.0, all_operators op 0 ts h.3 p.1)

      all_operators : (op : Op) (at : ℕ) (ts : Trees Op) → HaveSorts op_signature ss op at ts → EachOperatorOfAll P ts
          → EachOperatorOfAll P (each_substituted es ts)
      all_operators op at none h p = tt
      all_operators op at (more t ts) h p =
          (operators (op_signature.operand_sort op at) t h.0 p.0, all_operators op (at + 1) ts h.1 p.1)

    pub over : (sort : Sort) (t : Tree Op) → IsTermOver declared inputs ss sort t → Closed sort (substituted es t)
    over sort t h = record { sorted = sorted sort t h.sorted; operators = operators sort t h.sorted h.operators }

  pub lets_closed : (ss : List Sort) (es : List (Tree Op)) → AllZip Closed ss es → (ts : List (Tree Op))
      → AreLets declared inputs ss ts → AllZip Closed (sorts_of_lets ss ts) (expanded_terms es ts)
  lets_closed ss es z [] h = z
  lets_closed ss es z (t ∷ ts) h =
      lets_closed (ss ++ sort_of_tree ss t ∷ []) (es ++ substituted es t ∷ [])
      (push_zip Closed ss es (sort_of_tree ss t) (substituted es t) z (over ss es z (sort_of_tree ss t) t h.0)) ts h.1

-- ---- the terms of a goal

module _ (declared : List DeclaredOp) (goal : GoalTree) (is : IsGoal declared goal) where
  pub each_let : AllZip (IsTermOver declared goal.inputs []) (let_sorts goal) (let_terms goal)
  each_let = lets_closed declared goal.inputs [] [] tt (let_values goal.lets) is.lets

  pub term_closed : (sort : Sort) (t : Tree Op) → IsTermOver declared goal.inputs (let_sorts goal) sort t
      → IsTermOver declared goal.inputs [] sort (substituted (let_terms goal) t)
  term_closed sort t h = over declared goal.inputs (let_sorts goal) (let_terms goal) each_let sort t h

  pub assumes_closed : All (IsAssume declared (expanded goal)) (expanded goal).assumes
  assumes_closed = All-map (IsAssume declared (expanded goal)) (expanded_sides (let_terms goal)) goal.assumes
      (λ k d lt. (let a = is.assumes k d lt in record { sort = a.sort; left = term_closed a.sort _ a.left; right = term_closed a.sort _ a.right }))

  guard_closed : (o : Option (Tree Op)) → IfSome o (IsTermOver declared goal.inputs (let_sorts goal) sorts.Word)
      → IfSome (option_map (substituted (let_terms goal)) o) (IsTermOver declared goal.inputs [] sorts.Word)
  guard_closed None h = tt
  guard_closed (Some t) h = term_closed sorts.Word t h

  pub has_closed_guard : IfSome (expanded goal).guard (IsTermOver declared goal.inputs [] sorts.Word)
  has_closed_guard = guard_closed goal.guard is.guard

  pub sets_closed : All (IsTarget declared (expanded goal)) (expanded goal).sets
  sets_closed = All-map (IsTarget declared (expanded goal)) (expanded_target (let_terms goal)) goal.sets
      (λ k d lt. term_closed (sort_of_target (get_or goal.sets k d).name) (get_or goal.sets k d).value (is.sets k d lt))

-- ---- a goal without lets

module _ (declared : List DeclaredOp) (goal : GoalTree) (is : IsGoal declared goal) (none_let : goal.lets ≡ []) where
  no_terms : let_terms goal ≡ []
  no_terms = ap (λ ls. expanded_terms [] (let_values ls)) none_let

  no_sorts : let_sorts goal ≡ []
  no_sorts = ap (λ ls. sorts_of_lets [] (let_values ls)) none_let

  stays : (sort : Sort) (t : Tree Op) → IsTermOver declared goal.inputs (let_sorts goal) sort t → substituted (let_terms goal) t ≡ t
  stays sort t h = ap (λ es. substituted es t) no_terms ∙ closed sort t (subst (λ ss. HasSort op_signature ss sort t) no_sorts h.sorted)

  sides_stay : (xs : List TwoTrees) → All (IsAssume declared goal) xs → map (expanded_sides (let_terms goal)) xs ≡ xs
  sides_stay [] h = refl
  sides_stay (a ∷ xs) h =
      let p = All-head (IsAssume declared goal) a xs h in
      let l = stays p.sort a.left p.left in
      let r = stays p.sort a.right p.right in
      let both : expanded_sides (let_terms goal) a ≡ a =
      ap (λ t. record { left = t; right = substituted (let_terms goal) a.right }) l ∙ ap (λ t. record { left = a.left; right = t }) r in
      ap (λ b. b ∷ map (expanded_sides (let_terms goal)) xs) both ∙ ap (λ bs. a ∷ bs) (sides_stay xs (All-tail (IsAssume declared goal) a xs h))

  guard_stays : (o : Option (Tree Op)) → IfSome o (IsTermOver declared goal.inputs (let_sorts goal) sorts.Word)
      → option_map (substituted (let_terms goal)) o ≡ o
  guard_stays None h = refl
  guard_stays (Some t) h = ap Some (stays sorts.Word t h)

  targets_stay : (xs : List TargetTree) → All (IsTarget declared goal) xs → map (expanded_target (let_terms goal)) xs ≡ xs
  targets_stay [] h = refl
  targets_stay (t ∷ xs) h =
      let v = stays (sort_of_target t.name) t.value (All-head (IsTarget declared goal) t xs h) in
      let one : expanded_target (let_terms goal) t ≡ t = ap (λ x. record { name = t.name; value = x; pin = t.pin }) v in
      ap (λ b. b ∷ map (expanded_target (let_terms goal)) xs) one ∙ ap (λ bs. t ∷ bs) (targets_stay xs (All-tail (IsTarget declared goal) t xs h))

  pub is_expanded : expanded goal ≡ goal
  is_expanded =
      ap (λ xs. record { name = goal.name; inputs = goal.inputs; pool = goal.pool; lets = []; assumes = xs; guard = (expanded goal).guard; sets = (expanded goal).sets }) (sides_stay goal.assumes is.assumes)
      ∙ ap (λ g. record { name = goal.name; inputs = goal.inputs; pool = goal.pool; lets = []; assumes = goal.assumes; guard = g; sets = (expanded goal).sets }) (guard_stays goal.guard is.guard)
      ∙ ap (λ ss. record { name = goal.name; inputs = goal.inputs; pool = goal.pool; lets = []; assumes = goal.assumes; guard = goal.guard; sets = ss }) (targets_stay goal.sets is.sets)
      ∙ ap (λ ls. record { name = goal.name; inputs = goal.inputs; pool = goal.pool; lets = ls; assumes = goal.assumes; guard = goal.guard; sets = goal.sets }) (sym none_let)
