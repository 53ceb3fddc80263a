-- The axioms of a well-formed input, with the variables of their left sides numbered from 0, are rules; and they are true
-- where the axioms hold.
use Rattle.std.proofs.Common.{◌≡◌, ℕ, zero, suc, ◌+◌, ◌<◌, ◌≤◌, ◌⊎◌, Bool, true, false, ◌||◌, cond, List, [], ◌∷◌, ◌++◌, map, length, get_or, replicate, All, refl, sym, ap, ◌∙◌, subst, inl, inr, arith}
use Rattle.std.specs.List.{filter, range_with_len}
use Rattle.std.proofs.lemmas.Bool.{cases_lt}
use Rattle.std.proofs.lemmas.Bool.Decides.{eqb_tells}
use Rattle.std.proofs.lemmas.List.{get_or-map, get_or_past, length-append, length-replicate}
use Rattle.std.proofs.lemmas.List.Elements.{filter-append}
use Rattle.std.proofs.lemmas.List.FromFn.{length-map-range_with_len, get_or-map-range_with_len}
use Rattle.word_ops.specs.Meanings.{meaning, operand_sort, as_word}
use Rattle.word_ops.specs.Words.{IsWord}
use Rattle.word_ops.specs.Worlds.{Value, word, memory, World, IsValue}
use Rattle.word_ops.specs.declared.sorts.Op.{Op}
use Rattle.word_ops.specs.declared.sorts.Sort.{Sort}
use Rattle.word_ops.specs.declared.sorts.Sort.TheVariants as sorts
use Rattle.word_terms.specs.Keys.{op_signature}
use Rattle.word_terms.specs.Sorting.{HasSort, HaveSorts, Occurs, OccursInOne, IsApplication, sort_at, tree_count}
use Rattle.word_terms.specs.Tree.{Tree, Trees, variable, application, none, more, substituted, each_substituted, value, each_value, AreBelow, EachBelow}
use Rattle.axiom_base.specs.Rewrites.{IsRule, IsTrueIn, AreValuesFor}
use Rattle.goal_meaning.specs.Holds.{HoldsOfAll}
use Rattle.goal_meaning.specs.Names.{declared_name}
use Rattle.goal_meaning.specs.Views.{AxiomTree}
use Rattle.goal_meaning.specs.WellFormed.{IsAxiom}
use Rattle.goal_meaning.specs.declared.goals.DeclaredOp.{DeclaredOp}
use Rattle.saturation.specs.GoalTerms.{has_variable, have_variable, variables_below, renumbered, rule_of}
use Rattle.saturation.proofs.Below.{sort_below}

-- ---- which variables stand in a tree

right_true : (b : Bool) {c : Bool} → c ≡ true → (b || c) ≡ true
right_true true e = refl
right_true false e = e

mutual
  pub occurs_has : (n : ℕ) (t : Tree Op) → Occurs n t → has_variable n t ≡ true
  occurs_has n (variable m) e = elim (eqb_tells m n) [ inl h ↦ h.0 | inr h ↦ absurd (h.1 (sym e)) ]
  occurs_has n (application op ts) h = occurs_have n ts h

  occurs_have : (n : ℕ) (ts : Trees Op) → OccursInOne n ts → have_variable n ts ≡ true
  occurs_have n none h = absurd h
  occurs_have n (more t ts) (inl h) = ap (λ b. b || have_variable n ts) (occurs_has n t h)
  occurs_have n (more t ts) (inr h) = right_true (has_variable n t) (occurs_have n ts h)

one_is_true : (b c : Bool) → (b || c) ≡ true → (b ≡ true) ⊎ (c ≡ true)
one_is_true true c e = inl refl
one_is_true false c e = inr e

mutual
  pub has_occurs : (n : ℕ) (t : Tree Op) → has_variable n t ≡ true → Occurs n t
  has_occurs n (variable m) e = elim (eqb_tells m n) [ inl h ↦ sym h.1 | inr h ↦ absurd (let k : false ≡ true = sym h.0 ∙ e in cc) ]
  has_occurs n (application op ts) e = have_occurs n ts e

  have_occurs : (n : ℕ) (ts : Trees Op) → have_variable n ts ≡ true → OccursInOne n ts
  have_occurs n none e = absurd (let k : false ≡ true = e in cc)
  have_occurs n (more t ts) e = elim (one_is_true (has_variable n t) (have_variable n ts) e) [ inl h ↦ inl (has_occurs n t h) | inr h ↦ inr (have_occurs n ts h) ]

-- ---- how many of them are below a number

range_more : (a n j : ℕ) → a + n ≡ j → range_with_len a (suc n) ≡ range_with_len a n ++ j ∷ []
range_more a zero j e = ap (λ k. k ∷ []) (let k : a ≡ j = omega (arith, e) in k)
range_more a (suc n) j e = ap (λ ks. a ∷ ks) (range_more (a + 1) n j (omega (arith, e)))

module _ (a : AxiomTree) where
  abbrev P : ℕ → Bool
  P m = has_variable m a.left

  abbrev count : ℕ → ℕ
  count n = length (variables_below a n)

  one : (b : Bool) (n : ℕ) → length (cond b (n ∷ []) []) ≡ cond b 1 0
  one true n = refl
  one false n = refl

  filter_one : (b : Bool) (n : ℕ) → P n ≡ b → filter P (n ∷ []) ≡ cond b (n ∷ []) []
  filter_one true n e = rw e refl
  filter_one false n e = rw e refl

  pub count_more : (n : ℕ) (b : Bool) → P n ≡ b → count (suc n) ≡ count n + cond b 1 0
  count_more n b e =
      ap (λ ks. length (filter P ks)) (range_more 0 n n (omega arith))
      ∙ ap length (filter-append P (range_with_len 0 n) (n ∷ []))
      ∙ length-append (filter P (range_with_len 0 n)) (filter P (n ∷ []))
      ∙ ap (λ ks. count n + length ks) (filter_one b n e) ∙ ap (λ k. count n + k) (one b n)

  count_next : (n : ℕ) → count n ≤ count (suc n)
  count_next n = let h = count_more n (P n) refl in omega (arith, h)

  count_within : (m n : ℕ) → m ≤ n → count m ≤ count n
  count_within m zero l = let e : m ≡ 0 = omega (arith, l) in subst (λ k. count k ≤ count 0) (sym e) (omega arith)
  count_within m (suc n) l = elim (cases_lt m (suc n)) [
    | inl b ↦ (let h = count_within m n (omega (arith, b)) in let k = count_next n in omega (arith, h, k))
    | inr b ↦ (let e : m ≡ suc n = omega (arith, b, l) in subst (λ k. count k ≤ count (suc n)) (sym e) (omega arith))
  ]

  pub count_up_to : (n : ℕ) → count n ≤ n
  count_up_to zero = omega arith
  count_up_to (suc n) = let h = count_up_to n in let k = count_more n (P n) refl in let c = one_at_most (P n) in omega (arith, h, k, c)
    where
      one_at_most : (b : Bool) → cond b 1 0 ≤ 1
      one_at_most true = omega arith
      one_at_most false = omega arith

  -- a variable of the left side has a number below their count
  count_below : (m n : ℕ) → m < n → P m ≡ true → count m < count n
  count_below m n l e = let h = count_more m true e in let k = count_within (suc m) n (omega (arith, l)) in omega (arith, h, k)

  -- and each such number is that of one of them
  record Numbered (n k : ℕ) : Type 0 where
    pub old : ℕ
    pub below : old < n
    pub there : P old ≡ true
    pub is : count old ≡ k

  last : (n k : ℕ) → k < count (suc n) → count n ≤ k → (b : Bool) → P n ≡ b → Numbered (suc n) k
  last n k l m true e = let h = count_more n true e in record { old = n; below = omega arith; there = e; is = omega (arith, h, l, m) }
  last n k l m false e = let h = count_more n false e in absurd (omega (arith, h, l, m))

  numbered : (n k : ℕ) → k < count n → Numbered n k
  numbered zero k l = absurd (omega (arith, l))
  numbered (suc n) k l = elim (cases_lt k (count n)) [
    | inl b ↦ (let r = numbered n k b in record { old = r.old; below = omega (arith, r.below); there = r.there; is = r.is })
    | inr b ↦ last n k l b (P n) refl
  ]

  -- ---- renumbered trees

  abbrev N : ℕ
  N = length a.variables

  abbrev new_variables : List (Tree Op)
  new_variables = map (λ n. variable (count n)) (range_with_len 0 N)

  at_new : (n : ℕ) → n < N → (d : Tree Op) → get_or new_variables n d ≡ variable (count n)
  at_new n l d = get_or-map-range_with_len (λ m. variable (count m)) 0 N n n d l (omega arith)

  count_same : (ts : Trees Op) → tree_count (each_substituted new_variables ts) ≡ tree_count ts
  count_same none = refl
  count_same (more t ts) = let h = count_same ts in omega (arith, h)

  word_at : (k i : ℕ) → sort_at (replicate k sorts.Word) i ≡ sorts.Word
  word_at zero i = refl
  word_at (suc k) zero = refl
  word_at (suc k) (suc i) = word_at k i

  mutual
    new_sort : (sort : Sort) (t : Tree Op) → HasSort op_signature (replicate N sorts.Word) sort t → ((n : ℕ) → Occurs n t → P n ≡ true) → HasSort op_signature (replicate (count N) sorts.Word) sort (substituted new_variables t)
    new_sort sort (variable n) h in_left =
        let l : n < N = omega (arith, h.0, length-replicate N sorts.Word) in
        let c = count_below n N l (in_left n refl) in
        let here : HasSort op_signature (replicate (count N) sorts.Word) sort (variable (count n)) =
        (omega (arith, c, length-replicate (count N) sorts.Word), word_at (count N) (count n) ∙ sym (word_at N n) ∙ h.1) in
        subst (HasSort op_signature (replicate (count N) sorts.Word) sort) (sym (at_new n l (variable n))) here
    new_sort sort (application op ts) h in_left = (h.0, h.1, count_same ts ∙ h.2, new_sorts op 0 ts h.3 in_left)

    new_sorts : (op : Op) (at : ℕ) (ts : Trees Op) → HaveSorts op_signature (replicate N sorts.Word) op at ts → ((n : ℕ) → OccursInOne n ts → P n ≡ true) → HaveSorts op_signature (replicate (count N) sorts.Word) op at (each_substituted new_variables ts)
    new_sorts op at none h in_left = tt
    new_sorts op at (more t ts) h in_left = (new_sort (operand_sort op at) t h.0 (λ n k. in_left n (inl k)), new_sorts op (at + 1) ts h.1 (λ n k. in_left n (inr k)))

  mutual
    new_occurs : (m : ℕ) → m < N → (t : Tree Op) → Occurs m t → Occurs (count m) (substituted new_variables t)
    new_occurs m l (variable k) e = subst (Occurs (count m)) (sym (at_new k (subst (λ x. x < N) e l) (variable k))) (ap count e)
    new_occurs m l (application op ts) h = new_occur m l ts h

    new_occur : (m : ℕ) → m < N → (ts : Trees Op) → OccursInOne m ts → OccursInOne (count m) (each_substituted new_variables ts)
    new_occur m l none h = absurd h
    new_occur m l (more t ts) (inl h) = inl (new_occurs m l t h)
    new_occur m l (more t ts) (inr h) = inr (new_occur m l ts h)

  still_application : (t : Tree Op) → IsApplication t → IsApplication (substituted new_variables t)
  still_application (variable n) h = absurd h
  still_application (application op ts) h = tt

  pub axiom_is_rule : (declared : List DeclaredOp) → IsAxiom declared a → IsRule (rule_of a)
  axiom_is_rule declared is = record {
    application = still_application a.left is.application;
    sides = (
      sorts.Word,
      new_sort sorts.Word a.left is.left (λ n h. occurs_has n a.left h),
      new_sort sorts.Word a.right is.right (λ n h. occurs_has n a.left (is.bound n h)),
    );
    all = λ n l.
        let r = numbered N n (omega (arith, l, length-replicate (count N) sorts.Word)) in
        subst (λ k. Occurs k (renumbered a a.left)) r.is (new_occurs r.old r.below a.left (has_occurs r.old a.left r.there));
    free = refl;
  }

  -- ---- values

  module _ (declared : List DeclaredOp) (world : World) (values : List Value) where
    abbrev M : Op → List Value → Value
    M = meaning world (declared_name declared)

    abbrev at : ℕ → Value
    at n = get_or values n (word 0)

    abbrev words : List ℕ
    words = map (λ n. as_word (at (count n))) (range_with_len 0 N)

    are_words : ((n : ℕ) → IsValue sorts.Word (at n)) → All IsWord words
    are_words each k d l =
        let b : k < N = omega (arith, l, length-map-range_with_len (λ n. as_word (at (count n))) 0 N) in
        subst IsWord (sym (get_or-map-range_with_len (λ n. as_word (at (count n))) 0 N k k d b (omega arith))) (as_word_is (at (count k)) (each (count k)))
      where
        as_word_is : (v : Value) → IsValue sorts.Word v → IsWord (as_word v)
        as_word_is (word n) h = h
        as_word_is (memory m) h = absurd h

    word_is : (v : Value) → IsValue sorts.Word v → word (as_word v) ≡ v
    word_is (word n) h = refl
    word_is (memory m) h = absurd h

    at_words : ((n : ℕ) → IsValue sorts.Word (at n)) → (n : ℕ) → n < N → get_or (map word words) n (word 0) ≡ at (count n)
    at_words each n l =
        let long : n < length words = omega (arith, l, length-map-range_with_len (λ m. as_word (at (count m))) 0 N) in
        get_or-map word words n 0 (word 0) long ∙ ap word (get_or-map-range_with_len (λ m. as_word (at (count m))) 0 N n n 0 l (omega arith)) ∙ word_is (at (count n)) (each (count n))

    module _ (each : (n : ℕ) → IsValue sorts.Word (at n)) where
      mutual
        new_value : (t : Tree Op) → AreBelow N t → value M at (substituted new_variables t) ≡ value M (λ n. get_or (map word words) n (word 0)) t
        new_value (variable n) l = ap (value M at) (at_new n l (variable n)) ∙ sym (at_words each n l)
        new_value (application op ts) b = ap (M op) (new_values ts b)

        new_values : (ts : Trees Op) → EachBelow N ts → each_value M at (each_substituted new_variables ts) ≡ each_value M (λ n. get_or (map word words) n (word 0)) ts
        new_values none b = refl
        new_values (more t ts) b = let x = new_value t b.0 in let y = new_values ts b.1 in cc

  pub below : (t : Tree Op) (sort : Sort) → HasSort op_signature (replicate N sorts.Word) sort t → AreBelow N t
  below t sort h = subst (λ n. AreBelow n t) (length-replicate N sorts.Word) (sort_below (replicate N sorts.Word) sort t h)

  each_word : (values : List Value) → AreValuesFor (rule_of a) values → (n : ℕ) → IsValue sorts.Word (get_or values n (word 0))
  each_word values fit n = elim (cases_lt n (length values)) [
    | inl l ↦ subst (λ s. IsValue s (get_or values n (word 0))) (word_at (count N) n) (fit.sorts n l)
    | inr l ↦ subst (IsValue sorts.Word) (sym (get_or_past values n (word 0) (omega (arith, l)))) zero_is
  ]
    where
      zero_is : IsValue sorts.Word (word 0)
      zero_is = omega arith

  pub axiom_is_true : (others declared : List DeclaredOp) (world : World) → IsAxiom others a → HoldsOfAll declared world a → IsTrueIn world (declared_name declared) (rule_of a)
  axiom_is_true others declared world is holds values fit =
      let each = each_word values fit in
      new_value declared world values each a.left (below a.left sorts.Word is.left)
      ∙ holds (words declared world values) (are_words declared world values each) (length-map-range_with_len (λ n. as_word (get_or values (count n) (word 0))) 0 N)
      ∙ sym (new_value declared world values each a.right (below a.right sorts.Word is.right))
