-- Lists of fixed parts: a set, a guard, and where a block leads to.
use Rattle.std.proofs.Common.{◌≡◌, ℕ, zero, suc, ◌+◌, ◌<◌, ◌≤◌, ◌||◌, Option, None, Some, true, false, List, [], ◌∷◌, drop, length, get_or, refl, sym, ap, ap₂, ◌∙◌, subst, arith, slice_get, bytes_eq, codes}
use Rattle.std.specs.Prelude.{Contains}
use Rattle.std.proofs.lemmas.Bool.{or_right}
use Rattle.std.proofs.lemmas.Option.{slice_get_within}
use Rattle.std.proofs.lemmas.Slice.Eq.{bytes_eq-Decides}
use Rattle.text_core.specs.Names.{is_among}
use Rattle.text_core.specs.Faults.{IsFirst}
use Rattle.text_core.specs.declared.faults.Kind.{Kind}
use Rattle.text_core.specs.declared.faults.Kind.TheVariants.{BadForm}
use Rattle.forms.specs.Forms.{Form, place_of, parts_of, name_in, Stands}
use Rattle.machine_table.specs.Grammar.{IsListOf}
use Rattle.machine_table.specs.Roles.{has_head}
use Rattle.machine_table.proofs.Parts.{headed}
use Rattle.word_ops.specs.declared.sorts.Sort.TheVariants as sorts
use Rattle.goal_meaning.specs.Views.{TargetTree}
use Rattle.goal_meaning.specs.WellFormed.{sort_of_target}
use Rattle.goal_meaning.specs.declared.goals.InputReg.{InputReg}
use Rattle.goal_reader.specs.GoalTerms.{term_scope}
use Rattle.goal_reader.specs.Reading.{IsClear, names_of_inputs}
use Rattle.goal_reader.specs.Roles.{term, IsFaultAs, target_sort, second_name}
use Rattle.goal_reader.specs.Terms.{Writes}
use Rattle.goal_reader.proofs.ItemForms.{is_name}
use Rattle.goal_reader.proofs.NewNames.{target_sort_told, target_told}
use Rattle.proc_goal.specs.ProcGrammar.{WritesSet, WritesWhen, WritesGo, WritesProcTarget, guarded}
use Rattle.proc_goal.specs.ProcReading.{IsClearProc, IsFirstAs, IsNameToSet}
use Rattle.proc_goal.specs.ProcRoles.{ProcRole, of_goal, a_guard, a_set, a_go, a_target, set_name, not_there, names_to_set, short_guard, short_set, short_go, proc_part_role}
use Rattle.proc_goal.specs.Views.{WhenTree}
use Rattle.proc_goal.specs.WellFormed.{IsPinned, memory, variable}
use Rattle.proc_goal.specs.declared.procs.Target.{Target}
use Rattle.proc_goal.proofs.Embedded.{goal_clear, goal_first}
use Rattle.proc_goal.proofs.Leaves.{HasNone, ClearParts, all_clear, clear_next, clear_silent, clear_zero, form_first, part_first, set_name_clear, wrong_first}

-- ---- lists behind a keyword

pub alone : (xs : List Form) (a : Form) → slice_get xs 0 ≡ Some a → length xs ≤ 1 → xs ≡ a ∷ []
alone [] a g l = cc
alone (x ∷ []) a g l = (let same : x ≡ a = cc in ap (λ v. v ∷ []) same)
alone (x ∷ y ∷ ys) a g l = absurd (omega (arith, l))

pub one_behind : (xs : List Form) (a : Form) → slice_get xs 1 ≡ Some a → length xs ≤ 2 → drop 1 xs ≡ a ∷ []
one_behind [] a g l = cc
one_behind (x ∷ []) a g l = cc
one_behind (x ∷ y ∷ []) a g l = (let same : y ≡ a = cc in ap (λ v. v ∷ []) same)
one_behind (x ∷ y ∷ z ∷ zs) a g l = absurd (omega (arith, l))

pub two_behind : (xs : List Form) (a b : Form) → slice_get xs 1 ≡ Some a → slice_get xs 2 ≡ Some b → length xs ≤ 3 → drop 1 xs ≡ a ∷ b ∷ []
two_behind [] a b g h l = cc
two_behind (x ∷ []) a b g h l = cc
two_behind (x ∷ y ∷ []) a b g h l = cc
two_behind (x ∷ y ∷ z ∷ []) a b g h l = (let first : y ≡ a = cc in let second : z ≡ b = cc in ap₂ (λ v w. v ∷ w ∷ []) first second)
two_behind (x ∷ y ∷ z ∷ w ∷ ws) a b g h l = absurd (omega (arith, l))

-- ---- what can be set

name_there : (vars : List InputReg) (name : List ℕ) (k : ℕ) (d : InputReg) → k < length vars → (get_or vars k d).name ≡ name → is_among (names_of_inputs vars) name ≡ true
name_there [] name k d l e = absurd (omega (arith, l))
name_there (v ∷ vs) name zero d l e = ap (λ b. b || is_among (names_of_inputs vs) name) ((bytes_eq-Decides v.name name).1 e)
name_there (v ∷ vs) name (suc k) d l e = or_right (bytes_eq v.name name) (is_among (names_of_inputs vs) name) (name_there vs name k d (omega (arith, l)) e)

pub pinned_known : (vars : List InputReg) (name : List ℕ) (pin : Option ℕ) → IsPinned vars name pin → is_among (names_to_set vars) name ≡ true
pinned_known vars name _ (memory e) = ap (λ b. b || is_among (names_of_inputs vars) name) ((bytes_eq-Decides (codes "M") name).1 (sym e))
pinned_known vars name _ (variable {register = r} c) =
    or_right (bytes_eq (codes "M") name) (is_among (names_of_inputs vars) name)
    (name_there vars name c.0 (record { name = name; reg = r }) c.1 (ap (λ (i : InputReg). i.name) c.2))

pub pinned_at : (vars : List InputReg) (name : List ℕ) (i : ℕ) (v : InputReg) → i < length vars → v ≡ get_or vars i v → v.name ≡ name → IsPinned vars name (Some v.reg)
pinned_at vars name i v l is e =
    subst (λ n. IsPinned vars n (Some v.reg)) e (variable (i, l, (let d : get_or vars i (record { name = v.name; reg = v.reg }) ≡ get_or vars i v = same_item vars i (record { name = v.name; reg = v.reg }) v l in d ∙ sym is)))
  where
    same_item : (xs : List InputReg) (k : ℕ) (c d : InputReg) → k < length xs → get_or xs k c ≡ get_or xs k d
    same_item [] k c d l2 = absurd (omega (arith, l2))
    same_item (x ∷ xs) zero c d l2 = refl
    same_item (x ∷ xs) (suc k) c d l2 = same_item xs k c d (omega (arith, l2))

-- a name that stands at a place is among the names
pub name_among : (names : List (List ℕ)) (at : ℕ) (name : List ℕ) → slice_get names at ≡ Some name → is_among names name ≡ true
name_among [] at name g = cc
name_among (n ∷ ns) zero name g = (let same : n ≡ name = cc in ap (λ b. b || is_among ns name) ((bytes_eq-Decides n name).1 same))
name_among (n ∷ ns) (suc at) name g = or_right (bytes_eq n name) (is_among ns name) (name_among ns at name g)

-- ---- ( set NAME term )
module _ (vars : List InputReg) (given : List (List ℕ)) (form : Form) where
  abbrev one_set : ProcRole
  one_set = a_set vars given

  set_own : 3 ≤ length (parts_of form) → HasNone one_set form
  set_own enough k (short_set l) = absurd (omega (arith, enough, l))

  pub short_set_first : (low high : ℕ) → Stands low high form → length (parts_of form) < 3 → IsFirstAs one_set form (place_of form) BadForm
  short_set_first low high h l = form_first one_set form low high h (short_set l)

  set_keyword : ClearParts one_set form 1
  set_keyword = clear_silent one_set form 0 refl (clear_zero one_set form)

  module _ (first : Form) (g : slice_get (parts_of form) 1 ≡ Some first) (enough : 3 ≤ length (parts_of form)) where
    pub set_name_first : (low high place : ℕ) (kind : Kind) → Stands low high form → IsFirstAs (set_name vars given) first place kind → IsFirstAs one_set form place kind
    set_name_first low high place kind h one = part_first one_set form low high 1 first (set_name vars given) place kind h (set_own enough) g refl set_keyword one

    module _ (bytes : List ℕ) (pin : Option ℕ) (named : IsNameToSet vars given first bytes pin) (second : Form) (g2 : slice_get (parts_of form) 2 ≡ Some second) where
      set_name_read : ClearParts one_set form 2
      set_name_read =
          clear_next one_set form 1 first (set_name vars given) g refl (set_name_clear vars given first bytes named.named (pinned_known vars bytes pin named.pinned) named.fresh) set_keyword

      set_value : proc_part_role one_set form 2 ≡ Some (of_goal (term (term_scope vars) (Some (sort_of_target bytes))))
      set_value = ap (λ o. Some (of_goal (term (term_scope vars) o))) (sym (target_sort_told form bytes (target_told form first bytes g named.named)))

      pub set_value_first : (low high place : ℕ) (kind : Kind) → Stands low high form → IsFirst (IsFaultAs (term (term_scope vars) (Some (sort_of_target bytes))) second) place kind → IsFirstAs one_set form place kind
      set_value_first low high place kind h one =
          part_first one_set form low high 2 second (of_goal (term (term_scope vars) (Some (sort_of_target bytes)))) place kind h (set_own enough) g2 set_value set_name_read
          (goal_first (term (term_scope vars) (Some (sort_of_target bytes))) second place kind one)

      module _ (clear : IsClear (term (term_scope vars) (Some (sort_of_target bytes))) second) where
        set_read : ClearParts one_set form 3
        set_read =
            clear_next one_set form 2 second (of_goal (term (term_scope vars) (Some (sort_of_target bytes)))) g2 set_value (goal_clear (term (term_scope vars) (Some (sort_of_target bytes))) second clear) set_name_read

        pub set_third_first : (low high : ℕ) (third : Form) (from to : ℕ) → Stands low high form → Stands from to third → slice_get (parts_of form) 3 ≡ Some third → IsFirstAs one_set form (place_of third) BadForm
        set_third_first low high third from to h s g3 =
            part_first one_set form low high 3 third not_there (place_of third) BadForm h (set_own enough) g3 refl set_read (wrong_first third from to s)

        pub set_clear : length (parts_of form) ≤ 3 → IsClearProc one_set form
        set_clear most = all_clear one_set form 3 (set_own enough) most set_read

pub set_writes : (vars : List InputReg) (given : List (List ℕ)) (form first second : Form) (t : TargetTree) → has_head (codes "set") form ≡ true → slice_get (parts_of form) 1 ≡ Some first → slice_get (parts_of form) 2 ≡ Some second
    → length (parts_of form) ≤ 3 → IsNameToSet vars given first t.name t.pin → Writes (term_scope vars) (sort_of_target t.name) second t.value → WritesSet vars form t
set_writes vars given form first second t h g g2 most named value = record {
  first = first;
  second = second;
  is = subst (λ ps. IsListOf (codes "set") ps form) (two_behind (parts_of form) first second g g2 most) (headed (codes "set") form h);
  named = is_name first t.name named.named;
  pinned = named.pinned;
  value = value;
}

-- ---- ( when term TARGET )
module _ (vars : List InputReg) (names : List (List ℕ)) (form : Form) where
  abbrev one_guard : ProcRole
  one_guard = a_guard vars names

  guard_own : 3 ≤ length (parts_of form) → HasNone one_guard form
  guard_own enough k (short_guard l) = absurd (omega (arith, enough, l))

  pub short_guard_first : (low high : ℕ) → Stands low high form → length (parts_of form) < 3 → IsFirstAs one_guard form (place_of form) BadForm
  short_guard_first low high h l = form_first one_guard form low high h (short_guard l)

  guard_keyword : ClearParts one_guard form 1
  guard_keyword = clear_silent one_guard form 0 refl (clear_zero one_guard form)

  module _ (first : Form) (g : slice_get (parts_of form) 1 ≡ Some first) (enough : 3 ≤ length (parts_of form)) where
    pub guard_term_first : (low high place : ℕ) (kind : Kind) → Stands low high form → IsFirst (IsFaultAs (term (term_scope vars) (Some sorts.Word)) first) place kind → IsFirstAs one_guard form place kind
    guard_term_first low high place kind h one =
        part_first one_guard form low high 1 first (of_goal (term (term_scope vars) (Some sorts.Word))) place kind h (guard_own enough) g refl guard_keyword
        (goal_first (term (term_scope vars) (Some sorts.Word)) first place kind one)

    module _ (clear : IsClear (term (term_scope vars) (Some sorts.Word)) first) (second : Form) (g2 : slice_get (parts_of form) 2 ≡ Some second) where
      guard_term_read : ClearParts one_guard form 2
      guard_term_read =
          clear_next one_guard form 1 first (of_goal (term (term_scope vars) (Some sorts.Word))) g refl (goal_clear (term (term_scope vars) (Some sorts.Word)) first clear) guard_keyword

      pub guard_target_first : (low high place : ℕ) (kind : Kind) → Stands low high form → IsFirstAs (a_target names) second place kind → IsFirstAs one_guard form place kind
      guard_target_first low high place kind h one = part_first one_guard form low high 2 second (a_target names) place kind h (guard_own enough) g2 refl guard_term_read one

      module _ (target : IsClearProc (a_target names) second) where
        guard_read : ClearParts one_guard form 3
        guard_read = clear_next one_guard form 2 second (a_target names) g2 refl target guard_term_read

        pub guard_third_first : (low high : ℕ) (third : Form) (from to : ℕ) → Stands low high form → Stands from to third → slice_get (parts_of form) 3 ≡ Some third → IsFirstAs one_guard form (place_of third) BadForm
        guard_third_first low high third from to h s g3 =
            part_first one_guard form low high 3 third not_there (place_of third) BadForm h (guard_own enough) g3 refl guard_read (wrong_first third from to s)

        pub guard_clear : length (parts_of form) ≤ 3 → IsClearProc one_guard form
        guard_clear most = all_clear one_guard form 3 (guard_own enough) most guard_read

pub guard_writes : (vars : List InputReg) (names : List (List ℕ)) (form first second : Form) (w : WhenTree) → has_head (codes "when") form ≡ true → slice_get (parts_of form) 1 ≡ Some first → slice_get (parts_of form) 2 ≡ Some second
    → length (parts_of form) ≤ 3 → Writes (term_scope vars) sorts.Word first w.guard → WritesProcTarget names second w.other → WritesWhen vars names (form ∷ []) (Some w)
guard_writes vars names form first second w h g g2 most value target =
    guarded first second (subst (λ ps. IsListOf (codes "when") ps form) (two_behind (parts_of form) first second g g2 most) (headed (codes "when") form h)) value target

-- ---- ( go TARGET )
module _ (names : List (List ℕ)) (form : Form) where
  go_own : 2 ≤ length (parts_of form) → HasNone (a_go names) form
  go_own enough k (short_go l) = absurd (omega (arith, enough, l))

  pub short_go_first : (low high : ℕ) → Stands low high form → length (parts_of form) < 2 → IsFirstAs (a_go names) form (place_of form) BadForm
  short_go_first low high h l = form_first (a_go names) form low high h (short_go l)

  go_keyword : ClearParts (a_go names) form 1
  go_keyword = clear_silent (a_go names) form 0 refl (clear_zero (a_go names) form)

  module _ (first : Form) (g : slice_get (parts_of form) 1 ≡ Some first) (enough : 2 ≤ length (parts_of form)) where
    pub go_target_first : (low high place : ℕ) (kind : Kind) → Stands low high form → IsFirstAs (a_target names) first place kind → IsFirstAs (a_go names) form place kind
    go_target_first low high place kind h one = part_first (a_go names) form low high 1 first (a_target names) place kind h (go_own enough) g refl go_keyword one

    module _ (target : IsClearProc (a_target names) first) where
      go_read : ClearParts (a_go names) form 2
      go_read = clear_next (a_go names) form 1 first (a_target names) g refl target go_keyword

      pub go_second_first : (low high : ℕ) (second : Form) (from to : ℕ) → Stands low high form → Stands from to second → slice_get (parts_of form) 2 ≡ Some second → IsFirstAs (a_go names) form (place_of second) BadForm
      go_second_first low high second from to h s g2 =
          part_first (a_go names) form low high 2 second not_there (place_of second) BadForm h (go_own enough) g2 refl go_read (wrong_first second from to s)

      pub go_clear : length (parts_of form) ≤ 2 → IsClearProc (a_go names) form
      go_clear most = all_clear (a_go names) form 2 (go_own enough) most go_read

pub go_writes : (names : List (List ℕ)) (form first : Form) (t : Target) → has_head (codes "go") form ≡ true → slice_get (parts_of form) 1 ≡ Some first → length (parts_of form) ≤ 2 → WritesProcTarget names first t → WritesGo names form t
go_writes names form first t h g most target = record {
  first = first;
  is = subst (λ ps. IsListOf (codes "go") ps form) (one_behind (parts_of form) first g most) (headed (codes "go") form h);
  target = target;
}
