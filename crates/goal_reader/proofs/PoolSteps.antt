-- A list of any number of parts: registers, each new behind those before it.
use Rattle.std.proofs.Common.{◌≡◌, ℕ, zero, suc, ◌+◌, ◌<◌, ◌≤◌, ◌||◌, ◌++◌, true, false, Option, None, Some, List, [], ◌∷◌, length, take, refl, sym, ap, ◌∙◌, subst, arith, slice_get, ◌==◌, inl, inr}
use Rattle.std.specs.Option.{option_map_or}
use Rattle.std.proofs.lemmas.Bool.{cases_order}
use Rattle.std.proofs.lemmas.List.Folds.{list_any-append}
use Rattle.text_core.specs.declared.faults.Kind.{Kind}
use Rattle.text_core.specs.Faults.{IsFirst}
use Rattle.forms.specs.Forms.{Form, Forms, Atom, atom, list, none, more, name, parts_of, forms_list, head_in, name_in, register_in}
use Rattle.forms.specs.Forms as forms
use Rattle.forms.specs.Forms.{Stands}
use Rattle.forms.proofs.First.{ClearTo, first_inside, no_fault}
use Rattle.goal_reader.specs.Roles.{Role, a_list, pool, fresh_register, IsOwn, too_few, part_role, IsFaultAs, register_of, registers_in, rank_from, is_of_rank, ◌>>=◌}
use Rattle.goal_meaning.specs.Rules.{has_register}
use Rattle.goal_reader.specs.Reading.{IsClear}
use Rattle.goal_reader.proofs.NewNames.{fresh_register_clear}
use Rattle.goal_reader.proofs.Fixed.{got_within}
use Rattle.std.specs.List.{cons_option}

pub register_both : (xs ys : List ℕ) (r : ℕ) → has_register (xs ++ ys) r ≡ (has_register xs r || has_register ys r)
register_both xs ys r = list_any-append (λ other. other == r) xs ys

no_head : (at : ℕ) (keywords : List (List ℕ)) (form : Form) → head_in form ≡ None → is_of_rank keywords at form ≡ true → ⊥
no_head at keywords form n h = let e : false ≡ true = sym (ap (λ w. option_map_or (λ r. r == at) (w >>= rank_from 0 keywords) false) n) ∙ h in cc

-- a list with a keyword begins with a name, which is no register
pub keyword_first : (form : Form) (at : ℕ) (keywords : List (List ℕ)) → is_of_rank keywords at form ≡ true → (1 ≤ length (parts_of form)) × ([] ≡ registers_in (take 1 (parts_of form)))
keyword_first (atom p a) at keywords h = absurd (no_head at keywords (atom p a) refl h)
keyword_first (list p none) at keywords h = absurd (no_head at keywords (list p none) refl h)
keyword_first (list p (more (atom q (name w)) rest)) at keywords h = (omega arith, refl)
keyword_first (list p (more (atom q (forms.register w)) rest)) at keywords h = absurd (no_head at keywords (list p (more (atom q (forms.register w)) rest)) refl h)
keyword_first (list p (more (atom q (forms.number w)) rest)) at keywords h = absurd (no_head at keywords (list p (more (atom q (forms.number w)) rest)) refl h)
keyword_first (list p (more (atom q forms.parenthesis) rest)) at keywords h = absurd (no_head at keywords (list p (more (atom q forms.parenthesis) rest)) refl h)
keyword_first (list p (more (list q ps) rest)) at keywords h = absurd (no_head at keywords (list p (more (list q ps) rest)) refl h)

got_more : {X : Type 0} (xs : List X) (i : ℕ) (x : X) → slice_get xs i ≡ Some x → take (i + 1) xs ≡ take i xs ++ x ∷ []
got_more [] i x g = cc
got_more (y ∷ ys) zero x g = let same : y ≡ x = cc in ap (λ z. z ∷ []) same
got_more (y ∷ ys) (suc i) x g =
    ap (λ n. take n (y ∷ ys)) (let e : suc i + 1 ≡ suc (i + 1) = omega arith in e) ∙ ap (λ zs. y ∷ zs) (got_more ys i x g)

cons_more : (o : Option ℕ) (xs ys zs : List ℕ) → xs ≡ ys ++ zs → cons_option o xs ≡ cons_option o ys ++ zs
cons_more None xs ys zs e = e
cons_more (Some x) xs ys zs e = ap (λ w. x ∷ w) e

registers_more : (forms : List Form) (form : Form) (r : ℕ) → register_of form ≡ Some r → registers_in (forms ++ form ∷ []) ≡ registers_in forms ++ r ∷ []
registers_more [] form r e = ap (λ o. cons_option o []) e
registers_more (f ∷ fs) form r e = cons_more (register_of f) _ _ _ (registers_more fs form r e)

module _ (given : List ℕ) (form : Form) where
  abbrev whole : Role
  whole = a_list (pool given)

  pub pool_only : (k : Kind) → IsOwn whole form k → length (parts_of form) < 1
  pool_only k (too_few l) = l

  role_at : (i : ℕ) (registers : List ℕ) → 1 ≤ i → registers ≡ registers_in (take i (parts_of form)) → part_role whole form i ≡ Some (fresh_register (given ++ registers))
  role_at zero registers l e = absurd (omega (arith, l))
  role_at (suc i) registers l e = ap (λ rs. Some (fresh_register (given ++ rs))) (sym e)

  pub pool_first : (low high i : ℕ) (part : Form) (registers : List ℕ) (place : ℕ) (kind : Kind) → Stands low high form → 1 ≤ length (parts_of form) → 1 ≤ i → slice_get (parts_of form) i ≡ Some part
      → registers ≡ registers_in (take i (parts_of form)) → ClearTo IsOwn part_role whole form i → IsFirst (IsFaultAs (fresh_register (given ++ registers)) part) place kind → IsFirst (IsFaultAs whole form) place kind
  pool_first low high i part registers place kind h some l g e clear first =
      first_inside IsOwn part_role whole form low high i part (fresh_register (given ++ registers)) place kind h
      (λ k is. let n = pool_only k is in omega (arith, n, some)) g (role_at i registers l e) clear first

  pub pool_clear_more : (i : ℕ) (part : Form) (registers : List ℕ) (r : ℕ) → 1 ≤ i → slice_get (parts_of form) i ≡ Some part → registers ≡ registers_in (take i (parts_of form))
      → register_of part ≡ Some r → has_register (given ++ registers) r ≡ false → ClearTo IsOwn part_role whole form i → ClearTo IsOwn part_role whole form (i + 1)
  pool_clear_more i part registers r l g e is fresh clear j other role place kind below got role_is fault =
      elim (cases_order j i) [
        | inl same ↦
            let parts : Some part ≡ Some other = sym g ∙ ap (slice_get (parts_of form)) (sym same) ∙ got in
            let part_is : other ≡ part = cc in
            let roles : Some role ≡ Some (fresh_register (given ++ registers)) = sym role_is ∙ ap (part_role whole form) same ∙ role_at i registers l e in
            let role_same : role ≡ fresh_register (given ++ registers) = cc in
            fresh_register_clear (given ++ registers) part r is fresh place kind
            (subst (λ (x : Role). IsFaultAs x part place kind) role_same (subst (λ (x : Form). IsFaultAs role x place kind) part_is fault))
        | inr (inl before) ↦ clear j other role place kind before got role_is fault
        | inr (inr after) ↦ absurd (omega (arith, below, after))
      ]

  pub registers_next : (i : ℕ) (part : Form) (registers : List ℕ) (r : ℕ) → slice_get (parts_of form) i ≡ Some part → registers ≡ registers_in (take i (parts_of form)) → register_of part ≡ Some r
      → registers ++ r ∷ [] ≡ registers_in (take (i + 1) (parts_of form))
  registers_next i part registers r g e is =
      ap (λ rs. rs ++ r ∷ []) e ∙ sym (registers_more (take i (parts_of form)) part r is) ∙ ap registers_in (sym (got_more (parts_of form) i part g))

  pub clear_one : ClearTo IsOwn part_role whole form 1
  clear_one zero part other place kind l g e fault = let f : None ≡ Some other = e in absurd cc
  clear_one (suc j) part other place kind l g e fault = absurd (omega (arith, l))

  pub pool_clear : (n : ℕ) → 1 ≤ length (parts_of form) → length (parts_of form) ≤ n → ClearTo IsOwn part_role whole form n → IsClear whole form
  pool_clear n some most clear =
      no_fault IsOwn part_role whole form (λ k is. let l = pool_only k is in omega (arith, l, some))
      (λ j part other place kind g e fault. clear j part other place kind (let l = got_within (parts_of form) j part g in omega (arith, l, most)) g e fault)
