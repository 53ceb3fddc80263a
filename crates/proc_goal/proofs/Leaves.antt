-- Forms that have no parts which are examined, and lists of fixed parts: their first fault, and when they have none.
use Rattle.std.proofs.Common.{◌≡◌, ℕ, suc, zero, ◌+◌, ◌<◌, ◌≤◌, ◌||◌, Bool, true, false, Option, None, Some, List, [], ◌∷◌, length, get_or, refl, sym, ap, ◌∙◌, subst, arith, slice_get, codes, inl, inr}
use Rattle.std.proofs.lemmas.Bool.{cases_order}
use Rattle.std.proofs.lemmas.Option.{none-some, same_Some}
use Rattle.text_core.specs.Names.{is_among}
use Rattle.text_core.specs.declared.faults.Kind.{Kind}
use Rattle.text_core.specs.declared.faults.Kind.TheVariants.{BadForm, UnknownName, Twice, LimitPassed}
use Rattle.text_core.specs.Faults.{fault_number}
use Rattle.forms.specs.Forms.{Form, place_of, parts_of, name_in, Stands}
use Rattle.forms.proofs.First.{ClearTo, first_inside, first_own, no_fault}
use Rattle.goal_meaning.specs.declared.goals.InputReg.{InputReg}
use Rattle.goal_reader.specs.Roles.{wrong_part, past_limit, past, IsOwn}
use Rattle.goal_reader.proofs.Owns as owns
use Rattle.machine_table.proofs.Leaves as tables
use Rattle.goal_reader.proofs.Fixed.{got_within}
use Rattle.proc_goal.specs.ProcReading.{IsClearProc, IsFirstAs}
use Rattle.proc_goal.specs.ProcRoles.{ProcRole, of_goal, of_table, a_target, set_name, not_there, names_to_set, IsOwnProcFault, goal_fault, table_fault, no_variable, no_block, no_go, short_guard, short_set, short_go, no_target, unknown_target, no_set_name, unknown_set, set_again, proc_part_role, IsProcFaultAs}

-- no fault of a form has a lower number than BadForm
pub own_at_least : {role : ProcRole} {form : Form} {kind : Kind} → IsOwnProcFault role form kind → 6 ≤ fault_number kind
own_at_least (goal_fault is) = owns.own_at_least is
own_at_least (table_fault is) = tables.own_at_least is
own_at_least (no_variable h) = omega arith
own_at_least (no_block h) = omega arith
own_at_least (no_go h) = omega arith
own_at_least (short_guard h) = omega arith
own_at_least (short_set h) = omega arith
own_at_least (short_go h) = omega arith
own_at_least (no_target h) = omega arith
own_at_least (unknown_target h i) = omega arith
own_at_least (no_set_name h) = omega arith
own_at_least (unknown_set h i) = omega arith
own_at_least (set_again h i) = omega arith

abbrev pub HasNone : ProcRole → Form → Type 0
HasNone role form = (kind : Kind) → IsOwnProcFault role form kind → ⊥

-- a role whose forms have no parts that are examined
pub leaf_clear : (role : ProcRole) (form : Form) → ((at : ℕ) → proc_part_role role form at ≡ None) → HasNone role form → IsClearProc role form
leaf_clear role form nothing clear = no_fault IsOwnProcFault proc_part_role role form clear (λ j part other place kind g e fault. let f : None ≡ Some other = sym (nothing j) ∙ e in absurd (none-some other f))

pub own_first : (role : ProcRole) (form : Form) (low high : ℕ) (kind : Kind) → Stands low high form → IsOwnProcFault role form kind → ((k : Kind) → IsOwnProcFault role form k → fault_number kind ≤ fault_number k)
    → IsFirstAs role form (place_of form) kind
own_first role form low high kind h is least = first_own IsOwnProcFault proc_part_role role form low high kind h is least

-- BadForm comes before all others
pub form_first : (role : ProcRole) (form : Form) (low high : ℕ) → Stands low high form → IsOwnProcFault role form BadForm → IsFirstAs role form (place_of form) BadForm
form_first role form low high h is = own_first role form low high BadForm h is (λ k o. own_at_least o)

pub wrong_first : (form : Form) (low high : ℕ) → Stands low high form → IsFirstAs not_there form (place_of form) BadForm
wrong_first form low high h = form_first not_there form low high h (goal_fault wrong_part)

pub past_first : (form : Form) (low high : ℕ) → Stands low high form → IsFirstAs (of_goal past) form (place_of form) LimitPassed
past_first form low high h = own_first (of_goal past) form low high LimitPassed h (goal_fault past_limit) least
  where
    least : (k : Kind) → IsOwnProcFault (of_goal past) form k → 13 ≤ fault_number k
    least k (goal_fault past_limit) = omega arith

differ : {X : Type 0} (o : Option X) (x : X) → o ≡ Some x → o ≡ None → ⊥
differ o x e f = none-some x (sym f ∙ e)

pub same : {X : Type 0} (o : Option X) (x y : X) → o ≡ Some x → o ≡ Some y → x ≡ y
same o x y e f = same_Some x y (sym e ∙ f)

pub true_false : {b : Bool} → b ≡ true → b ≡ false → ⊥
true_false {b} t f = apart (sym t ∙ f)
  where
    apart : true ≡ false → ⊥
    apart e = cc

-- ---- targets
module _ (names : List (List ℕ)) (form : Form) where
  pub target_clear : (bytes : List ℕ) → name_in form ≡ Some bytes → is_among (codes "done" ∷ names) bytes ≡ true → IsClearProc (a_target names) form
  target_clear bytes n e = leaf_clear (a_target names) form (λ at. refl) none
    where
      none : HasNone (a_target names) form
      none k (no_target h) = differ (name_in form) bytes n h
      none k (unknown_target {bytes = other} h i) = true_false e (ap (is_among (codes "done" ∷ names)) (same (name_in form) bytes other n h) ∙ i)

  pub unknown_target_first : (low high : ℕ) (bytes : List ℕ) → Stands low high form → name_in form ≡ Some bytes → is_among (codes "done" ∷ names) bytes ≡ false → IsFirstAs (a_target names) form (place_of form) UnknownName
  unknown_target_first low high bytes h n e = own_first (a_target names) form low high UnknownName h (unknown_target n e) least
    where
      least : (k : Kind) → IsOwnProcFault (a_target names) form k → 7 ≤ fault_number k
      least k (no_target i) = absurd (differ (name_in form) bytes n i)
      least k (unknown_target i j) = omega arith

-- ---- what is set
module _ (vars : List InputReg) (given : List (List ℕ)) (form : Form) where
  pub set_name_clear : (bytes : List ℕ) → name_in form ≡ Some bytes → is_among (names_to_set vars) bytes ≡ true → is_among given bytes ≡ false → IsClearProc (set_name vars given) form
  set_name_clear bytes n e fresh = leaf_clear (set_name vars given) form (λ at. refl) none
    where
      none : HasNone (set_name vars given) form
      none k (no_set_name h) = differ (name_in form) bytes n h
      none k (unknown_set {bytes = other} h i) = true_false e (ap (is_among (names_to_set vars)) (same (name_in form) bytes other n h) ∙ i)
      none k (set_again {bytes = other} h i) = true_false i (ap (is_among given) (sym (same (name_in form) bytes other n h)) ∙ fresh)

  pub unknown_set_first : (low high : ℕ) (bytes : List ℕ) → Stands low high form → name_in form ≡ Some bytes → is_among (names_to_set vars) bytes ≡ false → IsFirstAs (set_name vars given) form (place_of form) UnknownName
  unknown_set_first low high bytes h n e = own_first (set_name vars given) form low high UnknownName h (unknown_set n e) least
    where
      least : (k : Kind) → IsOwnProcFault (set_name vars given) form k → 7 ≤ fault_number k
      least k (no_set_name i) = absurd (differ (name_in form) bytes n i)
      least k (unknown_set i j) = omega arith
      least k (set_again i j) = omega arith

  pub set_again_first : (low high : ℕ) (bytes : List ℕ) → Stands low high form → name_in form ≡ Some bytes → is_among (names_to_set vars) bytes ≡ true → is_among given bytes ≡ true → IsFirstAs (set_name vars given) form (place_of form) Twice
  set_again_first low high bytes h n e i = own_first (set_name vars given) form low high Twice h (set_again n i) least
    where
      least : (k : Kind) → IsOwnProcFault (set_name vars given) form k → 8 ≤ fault_number k
      least k (no_set_name j) = absurd (differ (name_in form) bytes n j)
      least k (unknown_set {bytes = other} j l) = absurd (true_false e (ap (is_among (names_to_set vars)) (same (name_in form) bytes other n j) ∙ l))
      least k (set_again j l) = omega arith

-- ---- the parts of a form, one after the other
module _ (role : ProcRole) (form : Form) where
  abbrev pub ClearParts : ℕ → Type 0
  ClearParts n = ClearTo IsOwnProcFault proc_part_role role form n

  pub clear_zero : ClearParts 0
  clear_zero j part other place kind l g e fault = absurd (omega (arith, l))

  pub clear_next : (i : ℕ) (part : Form) (other : ProcRole) → slice_get (parts_of form) i ≡ Some part → proc_part_role role form i ≡ Some other → IsClearProc other part → ClearParts i → ClearParts (i + 1)
  clear_next i part other g e is clear j one as_role place kind below got role_is fault =
      elim (cases_order j i) [
        | inl same_one ↦
            let part_is : part ≡ one = same_Some part one (sym g ∙ ap (slice_get (parts_of form)) (sym same_one) ∙ got) in
            let role_same : other ≡ as_role = same_Some other as_role (sym e ∙ ap (proc_part_role role form) (sym same_one) ∙ role_is) in
            is place kind (subst (λ (x : ProcRole). IsProcFaultAs x part place kind) (sym role_same) (subst (λ (x : Form). IsProcFaultAs as_role x place kind) (sym part_is) fault))
        | inr (inl before) ↦ clear j one as_role place kind before got role_is fault
        | inr (inr after) ↦ absurd (omega (arith, below, after))
      ]

  -- a part that isn't examined has no fault
  pub clear_silent : (i : ℕ) → proc_part_role role form i ≡ None → ClearParts i → ClearParts (i + 1)
  clear_silent i e clear j one as_role place kind below got role_is fault =
      elim (cases_order j i) [
        | inl same_one ↦ (let f : None ≡ Some as_role = sym e ∙ ap (proc_part_role role form) (sym same_one) ∙ role_is in absurd (none-some as_role f))
        | inr (inl before) ↦ clear j one as_role place kind before got role_is fault
        | inr (inr after) ↦ absurd (omega (arith, below, after))
      ]

  pub part_first : (low high i : ℕ) (part : Form) (other : ProcRole) (place : ℕ) (kind : Kind) → Stands low high form → HasNone role form → slice_get (parts_of form) i ≡ Some part
      → proc_part_role role form i ≡ Some other → ClearParts i → IsFirstAs other part place kind → IsFirstAs role form place kind
  part_first low high i part other place kind h none g e clear first = first_inside IsOwnProcFault proc_part_role role form low high i part other place kind h none g e clear first

  pub all_clear : (n : ℕ) → HasNone role form → length (parts_of form) ≤ n → ClearParts n → IsClearProc role form
  all_clear n none most clear =
      no_fault IsOwnProcFault proc_part_role role form none (λ j part other place kind g e fault. clear j part other place kind (let l = got_within (parts_of form) j part g in omega (arith, l, most)) g e fault)
