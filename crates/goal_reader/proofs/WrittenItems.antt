-- The items of a goal write what the draft has, in order.
use Rattle.std.proofs.Common.{◌≡◌, ℕ, map, slice_get, ◌<◌, ◌++◌, ◌==◌, true, false, Option, None, Some, option_map, List, [], ◌∷◌, length, refl, sym, ap, ◌∙◌, subst, arith}
use Rattle.std.specs.List.{list_any}
use Rattle.std.proofs.lemmas.List.{append_assoc, length-map}
use Rattle.word_ops.specs.declared.sorts.Op.{Op}
use Rattle.word_terms.specs.View.{tree_of}
use Rattle.forms.specs.Forms.{Form, part, parts_of}
use Rattle.word_ops.specs.declared.sorts.Sort.{Sort}
use Rattle.goal_meaning.specs.declared.goals.InputReg.{InputReg}
use Rattle.goal_meaning.specs.declared.goals.Let.{Let}
use Rattle.goal_meaning.specs.Views.{LetTree, let_view}
use Rattle.goal_reader.specs.Scopes.{SortedName}
use Rattle.goal_reader.proofs.LetScopes.{from_more, names_from, scope_more}
use Rattle.goal_reader.proofs.LetForms.{lets_more, nothing_let, sort_is}
use Rattle.goal_reader.proofs.Sorts.{sort_of_part}
use Rattle.goal_reader.specs.declared.scopes.Scope.{Scope}
use Rattle.goal_reader.specs.declared.drafts.Draft.{Draft}
use Rattle.goal_reader.specs.Roles.{rank, of_rank, is_later_than, goal_keywords, goal_scope, let_scope, second_name, sort_in, ◌>>=◌}
use Rattle.goal_reader.specs.Reading.{IsClear, WritesPart}
use Rattle.goal_reader.specs.Grammar.{WritesInput, WritesLet, WritesLets, no_lets, sorted_let, sorted_from, WritesGuard, unguarded, guarded}
use Rattle.machine_table.specs.Grammar.{Each, more_of}
use Rattle.machine_table.specs.Grammar as grammar
use Rattle.word_terms.specs.Tree.{Tree}
use Rattle.goal_reader.specs.Drafts.{IsAssumed, IsTargeted, IsNext, IsWritten, IsPoolWritten, no_pool, one_pool, draft_role, input_leaf, let_leaf}
use Rattle.goal_reader.specs.Drafts as drafts
use Rattle.goal_reader.proofs.GoalSteps.{same_rank, mapped_more}
use Rattle.goal_reader.proofs.Ranks.{none_of}
use Rattle.goal_reader.proofs.ItemForms.{input_writes, pool_writes, binding_writes, assume_writes, guard_writes}
use Rattle.goal_reader.proofs.TargetForms.{target_writes}

pub nothing_more : {X : Type 0} (xs : List X) → xs ++ [] ≡ xs
nothing_more [] = refl
nothing_more (x ∷ xs) = ap (λ ys. x ∷ ys) (nothing_more xs)

pub each_more : {Y : Type 0} (W : Form → Y → Type 0) (fs : List Form) (ys : List Y) (f : Form) (y : Y) → Each W fs ys → W f y → Each W (fs ++ f ∷ []) (ys ++ y ∷ [])
each_more W [] [] f y e w = more_of w grammar.none
each_more W [] (z ∷ ys) f y e w = elim e [ ]
each_more W (g ∷ fs) [] f y e w = elim e [ ]
each_more W (g ∷ fs) (z ∷ ys) f y (more_of one others) w = more_of one (each_more W fs ys f y others w)

-- where there are no forms, it doesn't matter how they would be read
pub each_none : {Y : Type 0} (V W : Form → Y → Type 0) (ys : List Y) → Each V [] ys → Each W [] ys
each_none V W [] e = grammar.none
each_none V W (y ∷ ys) e = elim e [ ]

guard_none : (s t : Scope) (g : Option (Tree Op)) → WritesGuard s [] g → WritesGuard t [] g
guard_none s t None w = unguarded
guard_none s t (Some x) w = elim w [ ]

pub no_items : {X Y : Type 0} (f : X → Y) (xs : List X) → map f xs ≡ [] → xs ≡ []
no_items f [] e = refl
no_items f (x ∷ xs) e = cc

abbrev groups : List Form → List Form → List Form → List Form → List Form → List Form → List Form
groups a b c d e f = a ++ (b ++ (c ++ (d ++ (e ++ f))))

pub more_at : (xs ys zs : List Form) (f : Form) → ys ≡ zs ++ f ∷ [] → xs ++ ys ≡ (xs ++ zs) ++ f ∷ []
more_at xs ys zs f e = ap (λ w. xs ++ w) e ∙ sym (append_assoc xs zs (f ∷ []))

pub last_at : (xs : List Form) (f : Form) → (xs ++ f ∷ []) ++ [] ≡ (xs ++ []) ++ f ∷ []
last_at xs f = nothing_more (xs ++ f ∷ []) ∙ ap (λ w. w ++ f ∷ []) (sym (nothing_more xs))

pub fewer_than_one : (fs : List Form) → length fs < 1 → fs ≡ []
fewer_than_one [] l = refl
fewer_than_one (f ∷ fs) l = absurd (omega (arith, l))

module _ (before : List Form) (form : Form) (d : Draft) (w : IsWritten before d) where
  abbrev r : ℕ → List Form
  r k = of_rank goal_keywords k before

  abbrev n : ℕ → List Form
  n k = of_rank goal_keywords k (before ++ form ∷ [])

  module _ (at : ℕ) (e : rank goal_keywords form ≡ Some at) (none_later : list_any (is_later_than goal_keywords at) before ≡ false) where
    here : (k : ℕ) → (at == k) ≡ true → n k ≡ r k ++ form ∷ []
    here k t = same_rank at k form before true e t

    there : (k : ℕ) → (at == k) ≡ false → n k ≡ r k
    there k t = same_rank at k form before false e t ∙ nothing_more (r k)

    empty : (k : ℕ) → at < k → r k ≡ []
    empty k l = none_of goal_keywords at k before l none_later

    behind : (k : ℕ) → at < k → (at == k) ≡ false → n k ≡ []
    behind k l t = there k t ∙ empty k l

  sorted_0 : rank goal_keywords form ≡ Some 0 → list_any (is_later_than goal_keywords 0) before ≡ false → before ++ form ∷ [] ≡ groups (n 0) (n 1) (n 2) (n 3) (n 4) (n 5)
  sorted_0 e none_later =
      ap (λ fs. fs ++ form ∷ []) (w.sorted ∙ ap (λ (x : List Form). groups (r 0) x (r 2) (r 3) (r 4) (r 5)) (empty 0 e none_later 1 (omega arith)) ∙ ap (λ (x : List Form). groups (r 0) [] x (r 3) (r 4) (r 5)) (empty 0 e none_later 2 (omega arith)) ∙ ap (λ (x : List Form). groups (r 0) [] [] x (r 4) (r 5)) (empty 0 e none_later 3 (omega arith)) ∙ ap (λ (x : List Form). groups (r 0) [] [] [] x (r 5)) (empty 0 e none_later 4 (omega arith)) ∙ ap (λ (x : List Form). groups (r 0) [] [] [] [] x) (empty 0 e none_later 5 (omega arith)))
      ∙ sym (last_at (r 0) form)
      ∙ sym (ap (λ (x : List Form). groups x (n 1) (n 2) (n 3) (n 4) (n 5)) (here 0 e none_later 0 refl)
      ∙ ap (λ (x : List Form). groups (r 0 ++ form ∷ []) x (n 2) (n 3) (n 4) (n 5)) (behind 0 e none_later 1 (omega arith) refl)
      ∙ ap (λ (x : List Form). groups (r 0 ++ form ∷ []) [] x (n 3) (n 4) (n 5)) (behind 0 e none_later 2 (omega arith) refl)
      ∙ ap (λ (x : List Form). groups (r 0 ++ form ∷ []) [] [] x (n 4) (n 5)) (behind 0 e none_later 3 (omega arith) refl)
      ∙ ap (λ (x : List Form). groups (r 0 ++ form ∷ []) [] [] [] x (n 5)) (behind 0 e none_later 4 (omega arith) refl)
      ∙ ap (λ (x : List Form). groups (r 0 ++ form ∷ []) [] [] [] [] x) (behind 0 e none_later 5 (omega arith) refl))

  sorted_1 : rank goal_keywords form ≡ Some 1 → list_any (is_later_than goal_keywords 1) before ≡ false → before ++ form ∷ [] ≡ groups (n 0) (n 1) (n 2) (n 3) (n 4) (n 5)
  sorted_1 e none_later =
      ap (λ fs. fs ++ form ∷ []) (w.sorted ∙ ap (λ (x : List Form). groups (r 0) (r 1) x (r 3) (r 4) (r 5)) (empty 1 e none_later 2 (omega arith)) ∙ ap (λ (x : List Form). groups (r 0) (r 1) [] x (r 4) (r 5)) (empty 1 e none_later 3 (omega arith)) ∙ ap (λ (x : List Form). groups (r 0) (r 1) [] [] x (r 5)) (empty 1 e none_later 4 (omega arith)) ∙ ap (λ (x : List Form). groups (r 0) (r 1) [] [] [] x) (empty 1 e none_later 5 (omega arith)))
      ∙ sym (more_at (r 0) _ _ form (last_at (r 1) form))
      ∙ sym (ap (λ (x : List Form). groups x (n 1) (n 2) (n 3) (n 4) (n 5)) (there 1 e none_later 0 refl)
      ∙ ap (λ (x : List Form). groups (r 0) x (n 2) (n 3) (n 4) (n 5)) (here 1 e none_later 1 refl)
      ∙ ap (λ (x : List Form). groups (r 0) (r 1 ++ form ∷ []) x (n 3) (n 4) (n 5)) (behind 1 e none_later 2 (omega arith) refl)
      ∙ ap (λ (x : List Form). groups (r 0) (r 1 ++ form ∷ []) [] x (n 4) (n 5)) (behind 1 e none_later 3 (omega arith) refl)
      ∙ ap (λ (x : List Form). groups (r 0) (r 1 ++ form ∷ []) [] [] x (n 5)) (behind 1 e none_later 4 (omega arith) refl)
      ∙ ap (λ (x : List Form). groups (r 0) (r 1 ++ form ∷ []) [] [] [] x) (behind 1 e none_later 5 (omega arith) refl))

  sorted_2 : rank goal_keywords form ≡ Some 2 → list_any (is_later_than goal_keywords 2) before ≡ false → before ++ form ∷ [] ≡ groups (n 0) (n 1) (n 2) (n 3) (n 4) (n 5)
  sorted_2 e none_later =
      ap (λ fs. fs ++ form ∷ []) (w.sorted ∙ ap (λ (x : List Form). groups (r 0) (r 1) (r 2) x (r 4) (r 5)) (empty 2 e none_later 3 (omega arith)) ∙ ap (λ (x : List Form). groups (r 0) (r 1) (r 2) [] x (r 5)) (empty 2 e none_later 4 (omega arith)) ∙ ap (λ (x : List Form). groups (r 0) (r 1) (r 2) [] [] x) (empty 2 e none_later 5 (omega arith)))
      ∙ sym (more_at (r 0) _ _ form (more_at (r 1) _ _ form (last_at (r 2) form)))
      ∙ sym (ap (λ (x : List Form). groups x (n 1) (n 2) (n 3) (n 4) (n 5)) (there 2 e none_later 0 refl)
      ∙ ap (λ (x : List Form). groups (r 0) x (n 2) (n 3) (n 4) (n 5)) (there 2 e none_later 1 refl)
      ∙ ap (λ (x : List Form). groups (r 0) (r 1) x (n 3) (n 4) (n 5)) (here 2 e none_later 2 refl)
      ∙ ap (λ (x : List Form). groups (r 0) (r 1) (r 2 ++ form ∷ []) x (n 4) (n 5)) (behind 2 e none_later 3 (omega arith) refl)
      ∙ ap (λ (x : List Form). groups (r 0) (r 1) (r 2 ++ form ∷ []) [] x (n 5)) (behind 2 e none_later 4 (omega arith) refl)
      ∙ ap (λ (x : List Form). groups (r 0) (r 1) (r 2 ++ form ∷ []) [] [] x) (behind 2 e none_later 5 (omega arith) refl))

  sorted_3 : rank goal_keywords form ≡ Some 3 → list_any (is_later_than goal_keywords 3) before ≡ false → before ++ form ∷ [] ≡ groups (n 0) (n 1) (n 2) (n 3) (n 4) (n 5)
  sorted_3 e none_later =
      ap (λ fs. fs ++ form ∷ []) (w.sorted ∙ ap (λ (x : List Form). groups (r 0) (r 1) (r 2) (r 3) x (r 5)) (empty 3 e none_later 4 (omega arith)) ∙ ap (λ (x : List Form). groups (r 0) (r 1) (r 2) (r 3) [] x) (empty 3 e none_later 5 (omega arith)))
      ∙ sym (more_at (r 0) _ _ form (more_at (r 1) _ _ form (more_at (r 2) _ _ form (last_at (r 3) form))))
      ∙ sym (ap (λ (x : List Form). groups x (n 1) (n 2) (n 3) (n 4) (n 5)) (there 3 e none_later 0 refl)
      ∙ ap (λ (x : List Form). groups (r 0) x (n 2) (n 3) (n 4) (n 5)) (there 3 e none_later 1 refl)
      ∙ ap (λ (x : List Form). groups (r 0) (r 1) x (n 3) (n 4) (n 5)) (there 3 e none_later 2 refl)
      ∙ ap (λ (x : List Form). groups (r 0) (r 1) (r 2) x (n 4) (n 5)) (here 3 e none_later 3 refl)
      ∙ ap (λ (x : List Form). groups (r 0) (r 1) (r 2) (r 3 ++ form ∷ []) x (n 5)) (behind 3 e none_later 4 (omega arith) refl)
      ∙ ap (λ (x : List Form). groups (r 0) (r 1) (r 2) (r 3 ++ form ∷ []) [] x) (behind 3 e none_later 5 (omega arith) refl))

  sorted_4 : rank goal_keywords form ≡ Some 4 → list_any (is_later_than goal_keywords 4) before ≡ false → before ++ form ∷ [] ≡ groups (n 0) (n 1) (n 2) (n 3) (n 4) (n 5)
  sorted_4 e none_later =
      ap (λ fs. fs ++ form ∷ []) (w.sorted ∙ ap (λ (x : List Form). groups (r 0) (r 1) (r 2) (r 3) (r 4) x) (empty 4 e none_later 5 (omega arith)))
      ∙ sym (more_at (r 0) _ _ form (more_at (r 1) _ _ form (more_at (r 2) _ _ form (more_at (r 3) _ _ form (last_at (r 4) form)))))
      ∙ sym (ap (λ (x : List Form). groups x (n 1) (n 2) (n 3) (n 4) (n 5)) (there 4 e none_later 0 refl)
      ∙ ap (λ (x : List Form). groups (r 0) x (n 2) (n 3) (n 4) (n 5)) (there 4 e none_later 1 refl)
      ∙ ap (λ (x : List Form). groups (r 0) (r 1) x (n 3) (n 4) (n 5)) (there 4 e none_later 2 refl)
      ∙ ap (λ (x : List Form). groups (r 0) (r 1) (r 2) x (n 4) (n 5)) (there 4 e none_later 3 refl)
      ∙ ap (λ (x : List Form). groups (r 0) (r 1) (r 2) (r 3) x (n 5)) (here 4 e none_later 4 refl)
      ∙ ap (λ (x : List Form). groups (r 0) (r 1) (r 2) (r 3) (r 4 ++ form ∷ []) x) (behind 4 e none_later 5 (omega arith) refl))

  sorted_5 : rank goal_keywords form ≡ Some 5 → list_any (is_later_than goal_keywords 5) before ≡ false → before ++ form ∷ [] ≡ groups (n 0) (n 1) (n 2) (n 3) (n 4) (n 5)
  sorted_5 e none_later =
      ap (λ fs. fs ++ form ∷ []) (w.sorted)
      ∙ sym (more_at (r 0) _ _ form (more_at (r 1) _ _ form (more_at (r 2) _ _ form (more_at (r 3) _ _ form (more_at (r 4) _ _ form (refl))))))
      ∙ sym (ap (λ (x : List Form). groups x (n 1) (n 2) (n 3) (n 4) (n 5)) (there 5 e none_later 0 refl)
      ∙ ap (λ (x : List Form). groups (r 0) x (n 2) (n 3) (n 4) (n 5)) (there 5 e none_later 1 refl)
      ∙ ap (λ (x : List Form). groups (r 0) (r 1) x (n 3) (n 4) (n 5)) (there 5 e none_later 2 refl)
      ∙ ap (λ (x : List Form). groups (r 0) (r 1) (r 2) x (n 4) (n 5)) (there 5 e none_later 3 refl)
      ∙ ap (λ (x : List Form). groups (r 0) (r 1) (r 2) (r 3) x (n 5)) (there 5 e none_later 4 refl)
      ∙ ap (λ (x : List Form). groups (r 0) (r 1) (r 2) (r 3) (r 4) x) (here 5 e none_later 5 refl))

  no_lets_behind : rank goal_keywords form ≡ Some 0 → list_any (is_later_than goal_keywords 0) before ≡ false → d.lets ≡ []
  no_lets_behind e none_later =
      no_items let_view d.lets (nothing_let d.scope.declared d.inputs [] (r 2) (map let_view d.lets) (empty 0 e none_later 2 (omega arith)) w.lets)

  input_scope : (i : InputReg) → d.lets ≡ [] → (drafts.with_input d i).scope ≡ let_scope d.scope.declared (d.inputs ++ i ∷ []) (sorted_from [] (map let_view d.lets))
  input_scope i none =
      let was : d.scope ≡ let_scope d.scope.declared d.inputs [] = w.scope ∙ ap (λ (ls : List Let). let_scope d.scope.declared d.inputs (sorted_from [] (map let_view ls))) none in
      ap (λ ls. record { declared = d.scope.declared; leaves = ls })
      (ap (λ (s : Scope). s.leaves ++ input_leaf i ∷ []) was ∙ ap (λ ls. ls ++ input_leaf i ∷ []) (nothing_more (goal_scope d.scope.declared d.inputs).leaves)
      ∙ ap (λ ls. ((goal_scope d.scope.declared []).leaves) ++ ls) (sym (mapped_more input_leaf d.inputs i)) ∙ sym (nothing_more (goal_scope d.scope.declared (d.inputs ++ i ∷ [])).leaves))
      ∙ ap (λ (ls : List Let). let_scope d.scope.declared (d.inputs ++ i ∷ []) (sorted_from [] (map let_view ls))) (sym none)

  -- a let is written over the lets before it
  let_written : (one : Let) → rank goal_keywords form ≡ Some 2 → second_name form ≡ Some one.name → WritesPart d.scope None form 2 (tree_of one.value) → IsClear (draft_role d 2) form
      → WritesLet (let_scope d.scope.declared d.inputs (sorted_from [] (map let_view d.lets))) form (let_view one)
  let_written one e named value clear = subst (λ (s : Scope). WritesLet s form (let_view one)) w.scope (binding_writes d.scope _ form (let_view one) e named value clear)

  let_sort : (one : Let) (sort : Sort) → (part 2 form >>= sort_in d.scope) ≡ Some sort → WritesLet (let_scope d.scope.declared d.inputs (sorted_from [] (map let_view d.lets))) form (let_view one)
      → sort ≡ (sorted_let (sorted_from [] (map let_view d.lets)) (let_view one)).sort
  let_sort one sort sorted wl =
      let scope = let_scope d.scope.declared d.inputs (sorted_from [] (map let_view d.lets)) in
      let there : slice_get (parts_of form) 2 ≡ Some wl.second = ap (λ (f : Form). slice_get (parts_of f) 2) wl.is.is in
      let told = subst (λ (s : Scope). (part 2 form >>= sort_in s) ≡ Some sort) w.scope sorted in
      let both : Some sort ≡ Some wl.sort = sym told ∙ sort_of_part scope form wl.second 2 there wl.value in
      let same : sort ≡ wl.sort = cc in
      same ∙ sym (sort_is d.scope.declared d.inputs (sorted_from [] (map let_view d.lets)) wl.value)

  let_scope_more : (one : Let) (sort : Sort) → sort ≡ (sorted_let (sorted_from [] (map let_view d.lets)) (let_view one)).sort
      → (drafts.with_let d one sort).scope ≡ let_scope d.scope.declared d.inputs (sorted_from [] (map let_view (d.lets ++ one ∷ [])))
  let_scope_more one sort is =
      let before_lets = sorted_from [] (map let_view d.lets) in
      let l : SortedName = sorted_let before_lets (let_view one) in
      let n = ap length (names_from [] (map let_view d.lets)) in
      let a = length-map before_lets (λ (x : SortedName). x.name) in
      let b = length-map (map let_view d.lets) (λ (x : LetTree). x.name) in
      let c = length-map d.lets let_view in
      let count : length d.lets ≡ length before_lets = omega (arith, n, a, b, c) in
      ap (λ ls. record { declared = d.scope.declared; leaves = ls })
      (ap (λ s. d.scope.leaves ++ let_leaf (length d.lets) one.name s ∷ []) is ∙ ap (λ (s : Scope). s.leaves ++ let_leaf (length d.lets) one.name l.sort ∷ []) w.scope
      ∙ ap (λ m. (let_scope d.scope.declared d.inputs before_lets).leaves ++ let_leaf m one.name l.sort ∷ []) count ∙ scope_more d.scope.declared d.inputs before_lets l)
      ∙ ap (λ ls. let_scope d.scope.declared d.inputs ls) (sym (from_more [] (map let_view d.lets) (let_view one)) ∙ ap (λ ts. sorted_from [] ts) (sym (mapped_more let_view d.lets one)))

  pub next_written : (at : ℕ) (next : Draft) → rank goal_keywords form ≡ Some at → list_any (is_later_than goal_keywords at) before ≡ false → IsNext form d at next → IsClear (draft_role d at) form → (at ≡ 1 → r 1 ≡ []) → (at ≡ 4 → r 4 ≡ []) → IsWritten (before ++ form ∷ []) next
  next_written at next e none_later (drafts.input i is same) clear no_pool_yet no_guard_yet =
      let new = drafts.with_input d i in
      subst (IsWritten (before ++ form ∷ [])) (sym same) (record {
        sorted = sorted_0 e none_later;
        inputs = subst (λ fs. Each WritesInput fs new.inputs) (sym (here 0 e none_later 0 refl)) (each_more WritesInput (r 0) d.inputs form i w.inputs (input_writes d.scope.declared d.inputs form i e is clear));
        pool = subst (λ fs. IsPoolWritten fs new.pool) (sym (there 0 e none_later 1 refl)) w.pool;
        lets = subst (λ fs. WritesLets new.scope.declared new.inputs [] fs (map let_view new.lets)) (sym (behind 0 e none_later 2 (omega arith) refl)) (subst (λ (ls : List Let). WritesLets new.scope.declared new.inputs [] [] (map let_view ls)) (sym (no_lets_behind e none_later)) no_lets);
        scope = input_scope i (no_lets_behind e none_later);
        assumptions = subst (λ fs. Each (IsAssumed new.scope) fs new.assumes) (sym (behind 0 e none_later 3 (omega arith) refl)) (each_none (IsAssumed d.scope) (IsAssumed new.scope) d.assumes (subst (λ fs. Each (IsAssumed d.scope) fs d.assumes) (empty 0 e none_later 3 (omega arith)) w.assumptions));
        guard = subst (λ fs. WritesGuard new.scope fs (option_map tree_of new.guard)) (sym (behind 0 e none_later 4 (omega arith) refl)) (guard_none d.scope new.scope (option_map tree_of d.guard) (subst (λ fs. WritesGuard d.scope fs (option_map tree_of d.guard)) (empty 0 e none_later 4 (omega arith)) w.guard));
        targets = subst (λ fs. Each (IsTargeted new.scope) fs new.sets) (sym (behind 0 e none_later 5 (omega arith) refl)) (each_none (IsTargeted d.scope) (IsTargeted new.scope) d.sets (subst (λ fs. Each (IsTargeted d.scope) fs d.sets) (empty 0 e none_later 5 (omega arith)) w.targets));
      })
  next_written at next e none_later (drafts.pool registers is same) clear no_pool_yet no_guard_yet =
      let new = drafts.with_pool d registers in
      subst (IsWritten (before ++ form ∷ [])) (sym same) (record {
        sorted = sorted_1 e none_later;
        inputs = subst (λ fs. Each WritesInput fs new.inputs) (sym (there 1 e none_later 0 refl)) w.inputs;
        pool = subst (λ fs. IsPoolWritten fs new.pool) (sym (here 1 e none_later 1 refl)) (subst (λ fs. IsPoolWritten (fs ++ form ∷ []) (Some registers)) (sym (no_pool_yet refl)) (let p = pool_writes _ form registers e is clear in one_pool p.0 p.1 p.2));
        lets = subst (λ fs. WritesLets new.scope.declared new.inputs [] fs (map let_view new.lets)) (sym (there 1 e none_later 2 refl)) w.lets;
        scope = w.scope;
        assumptions = subst (λ fs. Each (IsAssumed new.scope) fs new.assumes) (sym (there 1 e none_later 3 refl)) w.assumptions;
        guard = subst (λ fs. WritesGuard new.scope fs (option_map tree_of new.guard)) (sym (there 1 e none_later 4 refl)) w.guard;
        targets = subst (λ fs. Each (IsTargeted new.scope) fs new.sets) (sym (there 1 e none_later 5 refl)) w.targets;
      })
  next_written at next e none_later (drafts.binding one sort named value sorted same) clear no_pool_yet no_guard_yet =
      let new = drafts.with_let d one sort in
      subst (IsWritten (before ++ form ∷ [])) (sym same) (record {
        sorted = sorted_2 e none_later;
        inputs = subst (λ fs. Each WritesInput fs new.inputs) (sym (there 2 e none_later 0 refl)) w.inputs;
        pool = subst (λ fs. IsPoolWritten fs new.pool) (sym (there 2 e none_later 1 refl)) w.pool;
        lets = subst (λ fs. WritesLets new.scope.declared new.inputs [] fs (map let_view new.lets)) (sym (here 2 e none_later 2 refl)) (subst (λ ts. WritesLets d.scope.declared d.inputs [] (r 2 ++ form ∷ []) ts) (sym (mapped_more let_view d.lets one)) (lets_more d.scope.declared d.inputs w.lets form (let_view one) (let_written one e named value clear)));
        scope = let_scope_more one sort (let_sort one sort sorted (let_written one e named value clear));
        assumptions = subst (λ fs. Each (IsAssumed new.scope) fs new.assumes) (sym (behind 2 e none_later 3 (omega arith) refl)) (each_none (IsAssumed d.scope) (IsAssumed new.scope) d.assumes (subst (λ fs. Each (IsAssumed d.scope) fs d.assumes) (empty 2 e none_later 3 (omega arith)) w.assumptions));
        guard = subst (λ fs. WritesGuard new.scope fs (option_map tree_of new.guard)) (sym (behind 2 e none_later 4 (omega arith) refl)) (guard_none d.scope new.scope (option_map tree_of d.guard) (subst (λ fs. WritesGuard d.scope fs (option_map tree_of d.guard)) (empty 2 e none_later 4 (omega arith)) w.guard));
        targets = subst (λ fs. Each (IsTargeted new.scope) fs new.sets) (sym (behind 2 e none_later 5 (omega arith) refl)) (each_none (IsTargeted d.scope) (IsTargeted new.scope) d.sets (subst (λ fs. Each (IsTargeted d.scope) fs d.sets) (empty 2 e none_later 5 (omega arith)) w.targets));
      })
  next_written at next e none_later (drafts.assume one left right same) clear no_pool_yet no_guard_yet =
      let new = drafts.with_assume d one in
      subst (IsWritten (before ++ form ∷ [])) (sym same) (record {
        sorted = sorted_3 e none_later;
        inputs = subst (λ fs. Each WritesInput fs new.inputs) (sym (there 3 e none_later 0 refl)) w.inputs;
        pool = subst (λ fs. IsPoolWritten fs new.pool) (sym (there 3 e none_later 1 refl)) w.pool;
        lets = subst (λ fs. WritesLets new.scope.declared new.inputs [] fs (map let_view new.lets)) (sym (there 3 e none_later 2 refl)) w.lets;
        scope = w.scope;
        assumptions = subst (λ fs. Each (IsAssumed new.scope) fs new.assumes) (sym (here 3 e none_later 3 refl)) (each_more (IsAssumed d.scope) (r 3) d.assumes form one w.assumptions (assume_writes d.scope form one e left right clear));
        guard = subst (λ fs. WritesGuard new.scope fs (option_map tree_of new.guard)) (sym (there 3 e none_later 4 refl)) w.guard;
        targets = subst (λ fs. Each (IsTargeted new.scope) fs new.sets) (sym (there 3 e none_later 5 refl)) w.targets;
      })
  next_written at next e none_later (drafts.guard term is same) clear no_pool_yet no_guard_yet =
      let new = drafts.with_guard d term in
      subst (IsWritten (before ++ form ∷ [])) (sym same) (record {
        sorted = sorted_4 e none_later;
        inputs = subst (λ fs. Each WritesInput fs new.inputs) (sym (there 4 e none_later 0 refl)) w.inputs;
        pool = subst (λ fs. IsPoolWritten fs new.pool) (sym (there 4 e none_later 1 refl)) w.pool;
        lets = subst (λ fs. WritesLets new.scope.declared new.inputs [] fs (map let_view new.lets)) (sym (there 4 e none_later 2 refl)) w.lets;
        scope = w.scope;
        assumptions = subst (λ fs. Each (IsAssumed new.scope) fs new.assumes) (sym (there 4 e none_later 3 refl)) w.assumptions;
        guard = subst (λ fs. WritesGuard new.scope fs (option_map tree_of new.guard)) (sym (here 4 e none_later 4 refl)) (subst (λ fs. WritesGuard d.scope (fs ++ form ∷ []) (Some (tree_of term))) (sym (no_guard_yet refl)) (let p = guard_writes d.scope form (tree_of term) e is clear in guarded p.0 p.1 p.2));
        targets = subst (λ fs. Each (IsTargeted new.scope) fs new.sets) (sym (there 4 e none_later 5 refl)) w.targets;
      })
  next_written at next e none_later (drafts.target one named pinned value same) clear no_pool_yet no_guard_yet =
      let new = drafts.with_target d one in
      subst (IsWritten (before ++ form ∷ [])) (sym same) (record {
        sorted = sorted_5 e none_later;
        inputs = subst (λ fs. Each WritesInput fs new.inputs) (sym (there 5 e none_later 0 refl)) w.inputs;
        pool = subst (λ fs. IsPoolWritten fs new.pool) (sym (there 5 e none_later 1 refl)) w.pool;
        lets = subst (λ fs. WritesLets new.scope.declared new.inputs [] fs (map let_view new.lets)) (sym (there 5 e none_later 2 refl)) w.lets;
        scope = w.scope;
        assumptions = subst (λ fs. Each (IsAssumed new.scope) fs new.assumes) (sym (there 5 e none_later 3 refl)) w.assumptions;
        guard = subst (λ fs. WritesGuard new.scope fs (option_map tree_of new.guard)) (sym (there 5 e none_later 4 refl)) w.guard;
        targets = subst (λ fs. Each (IsTargeted new.scope) fs new.sets) (sym (here 5 e none_later 5 refl)) (each_more (IsTargeted d.scope) (r 5) d.sets form one w.targets (target_writes d.scope _ _ form clear one e named pinned value));
      })
