-- A form that writes an axiom has no fault.
use Rattle.std.proofs.Common.{◌≡◌, ◌≢◌, ℕ, suc, ◌+◌, ◌<◌, ◌≤◌, ◌||◌, ◌++◌, if◌then◌else◌, Bool, true, false, All, Some, inl, inr, List, [], ◌∷◌, length, take, get_or, slice_get, option_map, refl, sym, ap, ap₂, ◌∙◌, subst, arith}
use Rattle.std.specs.Prelude.{AllPairs}
use Rattle.std.specs.List.{cons_option}
use Rattle.std.proofs.lemmas.List.{append-nil, append_assoc}
use Rattle.std.proofs.lemmas.Slice.Eq.{bytes_eq-Decides}
use Rattle.word_ops.specs.declared.sorts.Op.{Op}
use Rattle.word_ops.specs.declared.sorts.Sort.{Sort}
use Rattle.word_ops.specs.declared.sorts.Sort.TheVariants as sorts
use Rattle.word_terms.specs.Sorting.{Occurs, OccursInOne}
use Rattle.word_terms.specs.Tree.{Tree, Trees}
use Rattle.forms.specs.Forms.{Form, Forms, atom, list, name, parts_of, forms_from, name_in, names_in}
use Rattle.machine_table.specs.Grammar.{Each, more_of, IsNameOf}
use Rattle.text_core.specs.declared.faults.Kind.{Kind}
use Rattle.goal_meaning.specs.declared.goals.DeclaredOp.{DeclaredOp}
use Rattle.goal_reader.specs.declared.scopes.Named.TheVariants.{Memory, Input, Variable, Lacking, Let}
use Rattle.goal_reader.specs.declared.scopes.Scope.{Scope}
use Rattle.goal_reader.specs.Grammar.{WritesAxiom, axiom_scope}
use Rattle.goal_reader.specs.Reading.{IsClear, meaning_right, mentioned_scope}
use Rattle.goal_reader.specs.Roles as roles
use Rattle.text_core.specs.Names.{is_among}
use Rattle.goal_reader.specs.Roles.{a_list, own_name, left_side, term, IsOwn, too_few, rank_from, mentions, mentions_any, left_scope, right_scope, Role, past, part_role}
use Rattle.goal_meaning.specs.Names.{is_reserved, names_of_declared}
use Rattle.goal_reader.specs.Terms.{Writes, WritesEach, memory, input, variable, binding, constant, application, nothing, operand}
use Rattle.goal_meaning.specs.Views.{AxiomTree}
use Rattle.goal_reader.proofs.Apart.{writes_clear}
use Rattle.goal_reader.proofs.AxiomForms.{equation_only, left_told, numbered, same_number, left_same, right_same}
use Rattle.goal_reader.proofs.Heads.{list_from}
use Rattle.goal_reader.proofs.ItemForms.{rank_from_is}
use Rattle.goal_reader.proofs.LeftSides.{left_clear}
use Rattle.goal_reader.proofs.NewNames.{own_name_clear, among_both}
use Rattle.goal_reader.proofs.VariableSteps.{role_at}
use Rattle.goal_reader.proofs.Walks.{EachClear, parts_clear, no_role, as_role, name_new}

-- ---- the variables
either_false : (a b c : Bool) → a ≡ false → b ≡ false → c ≡ false → a || (b || c) ≡ false
either_false a b c d e f = ap₂ (λ x y. x || y) d (ap₂ (λ x y. x || y) e f)

same_map : (xs : List (List ℕ)) → Rattle.std.specs.Prelude.map (λ n. n) xs ≡ xs
same_map [] = refl
same_map (x ∷ xs) = ap (λ ys. x ∷ ys) (same_map xs)

module _ (declared : List DeclaredOp) (form : Form) (all : List (List ℕ)) (differ : AllPairs (λ m n. m ≢ n) all)
    (own : All (λ n. (is_reserved n ≡ false) × (is_among (names_of_declared declared) n ≡ false)) all) where
  own_of : (before rest : List (List ℕ)) (n : List ℕ) → all ≡ before ++ n ∷ rest → (is_reserved n ≡ false) × (is_among (names_of_declared declared) n ≡ false)
  own_of before rest n is = subst (λ m. (is_reserved m ≡ false) × (is_among (names_of_declared declared) m ≡ false)) (here before) (subst (λ xs. All (λ n. (is_reserved n ≡ false) × (is_among (names_of_declared declared) n ≡ false)) xs) is own (length before) n (within before))
    where
      here : (zs : List (List ℕ)) → get_or (zs ++ n ∷ rest) (length zs) n ≡ n
      here [] = refl
      here (z ∷ zs) = here zs

      within : (zs : List (List ℕ)) → length zs < length (zs ++ n ∷ rest)
      within [] = omega arith
      within (z ∷ zs) = let l = within zs in omega (arith, l)

  names_each : (before : List (List ℕ)) (fs : List Form) (ns : List (List ℕ)) (at : ℕ) → Each (λ f n. IsNameOf n f) fs ns → all ≡ before ++ ns → at + length ns ≤ 8
      → ((j : ℕ) → names_in (take (at + j) (parts_of form)) ≡ before ++ names_in (take j fs)) → EachClear (a_list (roles.variables declared)) form at fs
  names_each before [] [] at e is few each = tt
  names_each before [] (n ∷ ns) at e is few each = elim e [ ]
  names_each before (f ∷ fs) [] at e is few each = elim e [ ]
  names_each before (f ∷ fs) (n ∷ ns) at (more_of one others) is few each =
      let free = own_of before ns n is in
      let fresh : is_among before n ≡ false = ap (λ xs. is_among xs n) (sym (same_map before)) ∙ name_new (λ m. m) all before n ns is differ in
      let names = names_of_declared declared ++ before in
      let among : is_among names n ≡ false = among_both (names_of_declared declared) before n ∙ ap₂ (λ x y. x || y) free.1 fresh in
      let before_is : before ≡ names_in (take at (parts_of form)) = sym (append-nil before) ∙ sym (each 0) ∙ ap (λ m. names_in (take m (parts_of form))) (let e : at + 0 ≡ at = omega arith in e) in (
        (λ other e. as_role (own_name names) f (own_name_clear names f n (record { named = ap name_in one.is; free = ap₂ (λ x y. x || y) free.0 among })) other (sym (role_at declared form at before (omega (arith, few)) before_is) ∙ e)),
        names_each (before ++ n ∷ []) fs ns (suc at) others (is ∙ sym (append_assoc before (n ∷ []) ns)) (omega (arith, few))
            (λ j. ap (λ m. names_in (take m (parts_of form))) (let e : suc at + j ≡ at + suc j = omega arith in e) ∙ each (suc j)
            ∙ ap (λ o. before ++ cons_option o (names_in (take j fs))) (ap name_in one.is) ∙ sym (append_assoc before (n ∷ []) (names_in (take j fs)))),
      )

pub variables_clear : (declared : List DeclaredOp) (place : ℕ) (fs : List Form) (ns : List (List ℕ)) → Each (λ f n. IsNameOf n f) fs ns → (0 < length ns) × (length ns ≤ 8) → AllPairs (λ m n. m ≢ n) ns
    → All (λ n. (is_reserved n ≡ false) × (is_among (names_of_declared declared) n ≡ false)) ns → IsClear (a_list (roles.variables declared)) (list place (forms_from fs))
variables_clear declared place fs ns each few differ own =
    let form = list place (forms_from fs) in
    let parts : parts_of form ≡ fs = list_from fs in
    parts_clear (a_list (roles.variables declared)) form fs parts (λ k o. no_own k o (subst (λ n. 0 < n) (sym (ap length parts)) (count fs ns each few.0)))
    (names_each declared form ns differ own [] fs ns 0 each refl (let l = few.1 in omega (arith, l)) (λ j. ap₂ (λ n (xs : List Form). names_in (take n xs)) (let e : 0 + j ≡ j = omega arith in e) parts))
  where
    no_own : (k : Kind) → IsOwn (a_list (roles.variables declared)) (list place (forms_from fs)) k → 0 < length (parts_of (list place (forms_from fs))) → ⊥
    no_own k (too_few l) some = omega (arith, l, some)

    count : (fs : List Form) (ns : List (List ℕ)) → Each (λ f n. IsNameOf n f) fs ns → 0 < length ns → 0 < length fs
    count fs [] e l = absurd (omega (arith, l))
    count [] (n ∷ ns) e l = elim e [ ]
    count (f ∷ fs) (n ∷ ns) e l = omega arith

-- ---- what the right side says
module _ (declared : List DeclaredOp) (names : List (List ℕ)) where
  abbrev on_left : Scope
  on_left = axiom_scope declared names

  or_first : (a b : Bool) → a ≡ true → a || b ≡ true
  or_first a b e = ap (λ x. x || b) e

  or_second : (a b : Bool) → b ≡ true → a || b ≡ true
  or_second true b e = refl
  or_second false b e = e

  -- the name of this number stands in the form
  abbrev IsNamedIn : Form → ℕ → Type 0
  IsNamedIn form n = (bytes : List ℕ) × (rank_from 0 names bytes ≡ Some n) × (mentions bytes form ≡ true)

  abbrev IsNamedInAny : Forms → ℕ → Type 0
  IsNamedInAny forms n = (bytes : List ℕ) × (rank_from 0 names bytes ≡ Some n) × (mentions_any bytes forms ≡ true)

  mutual
    named_in : {sort : Sort} {form : Form} {t : Tree Op} → Writes on_left sort form t → (n : ℕ) → Occurs n t → IsNamedIn form n
    named_in (memory h) n o = absurd o
    named_in (input h) n o = absurd o
    named_in (variable {bytes = bytes} {n = m} h) n o =
        let told = left_told declared names (atom 0 (name bytes)) bytes (Variable m) h in
        (bytes, told.1 ∙ ap Some (sym (same_number m told.0 told.2) ∙ sym o), (bytes_eq-Decides bytes bytes).1 refl)
    named_in (binding {bytes = bytes} {n = m} {sort = s} h) n o = let told = left_told declared names (atom 0 (name bytes)) bytes (Let m s) h in absurd (let f : Let m s ≡ Variable told.0 = told.2 in cc)
    named_in constant n o = absurd o
    named_in (application h s l each) n o = named_in_any each n o

    named_in_any : {op : Op} {at : ℕ} {forms : Forms} {ts : Trees Op} → WritesEach on_left op at forms ts → (n : ℕ) → OccursInOne n ts → IsNamedInAny forms n
    named_in_any nothing n o = absurd o
    named_in_any (operand {form = form} {forms = forms} one others) n (inl o) = let m = named_in one n o in (m.0, m.1, or_first (mentions m.0 form) (mentions_any m.0 forms) m.2)
    named_in_any (operand {form = form} {forms = forms} one others) n (inr o) = let m = named_in_any others n o in (m.0, m.1, or_second (mentions m.0 form) (mentions_any m.0 forms) m.2)

  module _ (left : Form) where
    abbrev on_right : Scope
    on_right = mentioned_scope declared names left

    same_name : (bytes other : List ℕ) (n : ℕ) → rank_from 0 names bytes ≡ Some n → rank_from 0 names other ≡ Some n → bytes ≡ other
    same_name bytes other n e f = sym (rank_from_is 0 n names bytes e).1 ∙ (rank_from_is 0 n names other f).1

    mutual
      -- a term over the variables that the left side has is one of the right side
      pub on_right_too : {sort : Sort} {form : Form} {t : Tree Op} → Writes on_left sort form t → ((n : ℕ) → Occurs n t → IsNamedIn left n) → Writes on_right sort form t
      on_right_too (memory {bytes = bytes} h) has = let told = left_told declared names left bytes Memory h in absurd (let f : Memory ≡ Variable told.0 = told.2 in cc)
      on_right_too (input {bytes = bytes} {register = r} h) has = let told = left_told declared names left bytes (Input r) h in absurd (let f : Input r ≡ Variable told.0 = told.2 in cc)
      on_right_too (variable {bytes = bytes} {n = n} h) has =
          let told = left_told declared names left bytes (Variable n) h in
          let number : rank_from 0 names bytes ≡ Some n = told.1 ∙ ap Some (sym (same_number n told.0 told.2)) in
          let m = has n refl in
          let there : mentions bytes left ≡ true = ap (λ b. mentions b left) (same_name bytes m.0 n number m.1) ∙ m.2 in
          variable (numbered 0 (meaning_right left) names bytes ∙ ap (option_map (meaning_right left bytes)) number ∙ ap (λ b. Some (if b then Variable n else Lacking)) there)
      on_right_too (binding {bytes = bytes} {n = n} {sort = s} h) has = let told = left_told declared names left bytes (Let n s) h in absurd (let f : Let n s ≡ Variable told.0 = told.2 in cc)
      on_right_too constant has = constant
      on_right_too (application h s l each) has = application h s l (each_on_right each has)

      each_on_right : {op : Op} {at : ℕ} {forms : Forms} {ts : Trees Op} → WritesEach on_left op at forms ts → ((n : ℕ) → OccursInOne n ts → IsNamedIn left n) → WritesEach on_right op at forms ts
      each_on_right nothing has = nothing
      each_on_right (operand one others) has = operand (on_right_too one (λ n o. has n (inl o))) (each_on_right others (λ n o. has n (inr o)))

pub written_axiom_clear : (declared : List DeclaredOp) (form : Form) (a : AxiomTree) → WritesAxiom declared form a → IsClear (a_list (roles.equation declared)) form
written_axiom_clear declared form a w =
    let names_form = list w.place (forms_from w.names) in
    let parts = ap parts_of w.is.is in
    let g1 = ap (λ ps. slice_get ps 1) parts in
    let g2 = ap (λ ps. slice_get ps 2) parts in
    let names_are : a.variables ≡ names_in (parts_of names_form) = sym (named w.names a.variables w.variables) ∙ ap names_in (sym (list_from w.names)) in
    let left = subst (λ (s : Scope). Writes s sorts.Word w.left_form a.left) (left_same declared form names_form w.left_form a.variables g1 g2 names_are) w.left in
    let on_right = on_right_too declared a.variables w.left_form w.right (λ n o. named_in declared a.variables w.left n (w.bound n o)) in
    let right = subst (λ (s : Scope). Writes s sorts.Word w.right_form a.right) (right_same declared form names_form w.left_form a.variables g1 g2 names_are) on_right in
    parts_clear (a_list (roles.equation declared)) form _ parts (λ k o. let l = equation_only declared form k o in let n = ap length parts in omega (arith, l, n)) (
      (λ other e. no_role other _ e),
      (
        (λ other e. as_role (a_list (roles.variables declared)) names_form (variables_clear declared w.place w.names a.variables w.variables w.some w.differ w.own) other e),
        (
          (λ other e. as_role (left_side (left_scope declared form)) w.left_form (left_clear (left_scope declared form) w.left_form (writes_clear left (Some sorts.Word) refl) w.application) other e),
          ((λ other e. as_role (term (right_scope declared form) (Some sorts.Word)) w.right_form (writes_clear right (Some sorts.Word) refl) other e), tt),
        ),
      ),
    )
  where
    named : (fs : List Form) (ns : List (List ℕ)) → Each (λ f n. IsNameOf n f) fs ns → names_in fs ≡ ns
    named [] [] e = refl
    named [] (n ∷ ns) e = elim e [ ]
    named (f ∷ fs) [] e = elim e [ ]
    named (f ∷ fs) (n ∷ ns) (more_of one others) = ap (λ o. cons_option o (names_in fs)) (ap name_in one.is) ∙ ap (λ xs. n ∷ xs) (named fs ns others)
