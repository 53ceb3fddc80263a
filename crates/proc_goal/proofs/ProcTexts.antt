-- A whole proc, and the forms of a text: which fault is the first, and what they write.
use Rattle.std.proofs.Common.{◌≡◌, ◌≢◌, ℕ, zero, suc, ◌+◌, ◌<◌, ◌≤◌, ◌||◌, ◌&&◌, ◌++◌, ◌==◌, if◌then◌else◌, Bool, true, false, Option, None, Some, List, [], ◌∷◌, length, map, take, drop, refl, sym, ap, ap₂, ◌∙◌, subst, arith, slice_get, option_map, codes, inl, inr}
use Rattle.std.specs.Prelude.{not}
use Rattle.std.proofs.lemmas.Bool.{cases_order}
use Rattle.std.proofs.lemmas.Bool.Decides.{Decides-eqb}
use Rattle.std.proofs.lemmas.List.{length-drop, length-take-le, take_all}
use Rattle.std.proofs.lemmas.Option.{same_Some, slice_get_within}
use Rattle.text_core.specs.declared.faults.Kind.{Kind}
use Rattle.text_core.specs.declared.faults.Kind.TheVariants.{BadForm}
use Rattle.text_core.specs.Faults.{IsFirst, IsNotBehind}
use Rattle.forms.specs.Forms.{Form, place_of, parts_of, name_in, forms_from, forms_list, Stand, Stands}
use Rattle.forms.proofs.First.{Span, span_of, within}
use Rattle.machine_table.specs.Grammar.{WritesTable}
use Rattle.machine_table.specs.Reading.{IsClearTableForm}
use Rattle.machine_table.specs.Roles.{has_head, machine}
use Rattle.machine_table.specs.declared.tables.Table.{Table}
use Rattle.goal_reader.specs.Roles.{fresh_name, IsFaultAs, items_of_goal}
use Rattle.goal_reader.proofs.GoalSteps.{got_more}
use Rattle.goal_reader.proofs.Heads.{list_from}
use Rattle.goal_reader.proofs.Names.{not_true}
use Rattle.goal_reader.proofs.NewNames.{fresh_name_clear}
use Rattle.proc_goal.specs.ProcReading.{AreClearTo, EndsBefore, IsClearProc, IsFirstAmong, IsFirstAs, IsTableRead, IsTableRefused, absent, there}
use Rattle.proc_goal.specs.ProcRoles.{ProcRole, of_goal, of_table, a_proc, not_there, no_variable, no_block, no_proc, in_form, has_list, has_leading_variable, block_names_in, proc_item_role, proc_text_role, IsOwnProcFault, IsProcFaultAs, IsProcTextFault, proc_part_role}
use Rattle.proc_goal.proofs.Embedded.{goal_clear, goal_first, table_clear, table_first}
use Rattle.proc_goal.proofs.Items.{has_both, other_head}
use Rattle.proc_goal.proofs.Leaves.{HasNone, ClearParts, clear_next, clear_silent, clear_zero, form_first, part_first, true_false, wrong_first}
use Rattle.proc_goal.proofs.Sequences.{item_first, none_clear, one_more_clear, whole_clear}

-- ---- a proc
module _ (form : Form) where
  proc_own : has_leading_variable (items_of_goal form) ≡ true → has_list (codes "block") (items_of_goal form) ≡ true → HasNone a_proc form
  proc_own v b k (no_variable h) = true_false v h
  proc_own v b k (no_block h) = true_false b h

  -- a variable or a block is missing
  pub lacking_first : (low high : ℕ) → Stands low high form → (has_leading_variable (items_of_goal form) && has_list (codes "block") (items_of_goal form)) ≡ false → IsFirstAs a_proc form (place_of form) BadForm
  lacking_first low high h e = by_test (has_leading_variable (items_of_goal form)) refl e
    where
      by_test : (b : Bool) → has_leading_variable (items_of_goal form) ≡ b → (b && has_list (codes "block") (items_of_goal form)) ≡ false → IsFirstAs a_proc form (place_of form) BadForm
      by_test true v f = form_first a_proc form low high h (no_block f)
      by_test false v f = form_first a_proc form low high h (no_variable v)

  keyword_clear : ClearParts a_proc form 1
  keyword_clear = clear_silent a_proc form 0 refl (clear_zero a_proc form)

  module _ (v : has_leading_variable (items_of_goal form) ≡ true) (b : has_list (codes "block") (items_of_goal form) ≡ true) (first : Form) (g : slice_get (parts_of form) 1 ≡ Some first) where
    pub proc_name_first : (low high place : ℕ) (kind : Kind) → Stands low high form → IsFirst (IsFaultAs (fresh_name []) first) place kind → IsFirstAs a_proc form place kind
    proc_name_first low high place kind h one =
        part_first a_proc form low high 1 first (of_goal (fresh_name [])) place kind h (proc_own v b) g refl keyword_clear (goal_first (fresh_name []) first place kind one)

    module _ (bytes : List ℕ) (n : name_in first ≡ Some bytes) where
      name_read : ClearParts a_proc form 2
      name_read = clear_next a_proc form 1 first (of_goal (fresh_name [])) g refl (goal_clear (fresh_name []) first (fresh_name_clear [] first bytes n refl)) keyword_clear

      abbrev R : List Form → Form → ProcRole
      R = proc_item_role (block_names_in (items_of_goal form))

      pub proc_item_first : (low high place : ℕ) (kind : Kind) → Stands low high form → IsFirstAmong R (items_of_goal form) place kind → IsFirstAs a_proc form place kind
      proc_item_first low high place kind h one = item_first a_proc form R (λ at. refl) (proc_own v b) name_read low high place kind h one

      pub proc_clear : AreClearTo R (items_of_goal form) (length (items_of_goal form)) → IsClearProc a_proc form
      proc_clear clear = whole_clear a_proc form R (λ at. refl) (proc_own v b) name_read (let l = length-drop 2 (parts_of form) in omega (arith, l)) clear

-- ---- the forms of a text
module _ (before : List Form) (form : Form) where
  abbrev choose : Bool → Bool → Bool → Bool → ProcRole
  choose a b c d = if a && b then of_table machine else if c && not d then a_proc else not_there

  pub top_machine : has_head (codes "machine") form ≡ true → length before ≡ 0 → proc_text_role before form ≡ of_table machine
  top_machine h e =
      ap (λ x. choose x (length before == 0) (has_head (codes "proc") form) (has_list (codes "proc") before)) h
      ∙ ap (λ x. choose true x (has_head (codes "proc") form) (has_list (codes "proc") before)) ((Decides-eqb (length before) 0).1 e)

  pub top_proc : has_head (codes "proc") form ≡ true → has_list (codes "proc") before ≡ false → proc_text_role before form ≡ a_proc
  top_proc h e =
      ap (λ x. choose x (length before == 0) (has_head (codes "proc") form) (has_list (codes "proc") before)) (other_head (codes "proc") (codes "machine") form h refl)
      ∙ ap (λ x. choose false (length before == 0) x (has_list (codes "proc") before)) h ∙ ap (choose false (length before == 0) true) e

  -- no machine form stands there
  no_machine : (has_head (codes "machine") form ≡ true → length before ≡ 0 → ⊥) → (has_head (codes "machine") form && (length before == 0)) ≡ false
  no_machine n = by_head (has_head (codes "machine") form) refl
    where
      by_head : (x : Bool) → has_head (codes "machine") form ≡ x → (x && (length before == 0)) ≡ false
      by_head true e = not_true (length before == 0) (λ t. n e ((Decides-eqb (length before) 0).0 t))
      by_head false e = refl

  pub top_other : (has_head (codes "machine") form ≡ true → length before ≡ 0 → ⊥) → has_head (codes "proc") form ≡ false → proc_text_role before form ≡ not_there
  top_other n e =
      ap (λ x. if x then of_table machine else if has_head (codes "proc") form && not (has_list (codes "proc") before) then a_proc else not_there) (no_machine n)
      ∙ ap (λ x. if x && not (has_list (codes "proc") before) then a_proc else not_there) e

  and_false : (a : Bool) → (a && false) ≡ false
  and_false true = refl
  and_false false = refl

  -- behind a proc nothing stands
  pub top_late : has_list (codes "proc") before ≡ true → proc_text_role before form ≡ not_there
  top_late e =
      ap (λ x. if x then of_table machine else if has_head (codes "proc") form && not (has_list (codes "proc") before) then a_proc else not_there) (no_machine (λ h z. some_there before e z))
      ∙ ap (λ x. if has_head (codes "proc") form && not x then a_proc else not_there) e ∙ ap (λ x. if x then a_proc else not_there) (and_false (has_head (codes "proc") form))
    where
      some_there : (fs : List Form) → has_list (codes "proc") fs ≡ true → length fs ≡ 0 → ⊥
      some_there [] t z = (let x : false ≡ true = t in cc)
      some_there (f ∷ fs) t z = omega (arith, z)

-- ---- which fault of a text is the first
module _ (size : ℕ) (forms : List Form) where
  pub text_clear : AreClearTo proc_text_role forms (length forms) → has_list (codes "proc") forms ≡ true → (place : ℕ) (kind : Kind) → IsProcTextFault size forms place kind → ⊥
  text_clear clear some place kind (no_proc e p) = true_false some e
  text_clear clear some place kind (in_form at form g fault) = clear at form (slice_get_within forms at form g) g place kind fault

  module _ (h : Stand 0 size (forms_from forms)) where
    listed : (j : ℕ) (f : Form) → slice_get forms j ≡ Some f → slice_get (forms_list (forms_from forms)) j ≡ Some f
    listed j f e = ap (λ (fs : List Form). slice_get fs j) (list_from forms) ∙ e

    pub text_form_first : (at : ℕ) (form : Form) (place : ℕ) (kind : Kind) → slice_get forms at ≡ Some form → AreClearTo proc_text_role forms at → IsFirstAs (proc_text_role (take at forms) form) form place kind → IsFirst (IsProcTextFault size forms) place kind
    text_form_first at form place kind g clear first = record { found = in_form at form g first.found; earliest = earliest }
      where
        span : Span 0 size (forms_list (forms_from forms)) at form
        span = span_of (forms_from forms) 0 size at form h (listed at form g)

        earliest : (other_place : ℕ) (other_kind : Kind) → IsProcTextFault size forms other_place other_kind → IsNotBehind place kind other_place other_kind
        earliest other_place other_kind (no_proc e p) =
            (let here = within IsOwnProcFault proc_part_role first.found span.from span.to span.stands in
            let high = span.high_enough in
            inl (omega (arith, here.1, high, p)))
        earliest other_place other_kind (in_form j other got fault) =
            let here = within IsOwnProcFault proc_part_role first.found span.from span.to span.stands in
            elim (cases_order at j) [
              | inl same ↦
                  (let form_is : other ≡ form = same_Some other form (sym got ∙ ap (slice_get forms) (sym same) ∙ g) in
                  first.earliest other_place other_kind
                  (subst (λ (f : Form). IsProcFaultAs (proc_text_role (take at forms) f) f other_place other_kind) form_is
                  (subst (λ n. IsProcFaultAs (proc_text_role (take n forms) other) other other_place other_kind) (sym same) fault)))
              | inr (inl before) ↦
                  (let later = span.later j other before (listed j other got) in
                  let there_is = within IsOwnProcFault proc_part_role fault later.0 later.1 later.4 in
                  inl (omega (arith, here.1, later.2, there_is.0)))
              | inr (inr after_it) ↦ absurd (clear j other after_it got other_place other_kind fault)
            ]

    -- a text without a proc
    pub no_proc_first : has_list (codes "proc") forms ≡ false → AreClearTo proc_text_role forms (length forms) → IsFirst (IsProcTextFault size forms) size BadForm
    no_proc_first e clear = record { found = no_proc e refl; earliest = earliest }
      where
        earliest : (place : ℕ) (kind : Kind) → IsProcTextFault size forms place kind → IsNotBehind size BadForm place kind
        earliest place kind (no_proc f p) = inr (sym p, omega arith)
        earliest place kind (in_form at form g fault) = absurd (clear at form (slice_get_within forms at form g) g place kind fault)

-- ---- the machine form, where the text begins with one
abbrev pub number_of_tables : Option Table → ℕ
number_of_tables None = 0
number_of_tables (Some t) = 1

module _ (forms : List Form) where
  first_taken : (xs : List Form) (f : Form) → slice_get xs 0 ≡ Some f → (take 1 xs ≡ f ∷ []) × (1 ≤ length xs)
  first_taken [] f g = cc
  first_taken (x ∷ xs) f g = (let same : x ≡ f = cc in (ap (λ v. v ∷ []) same, omega arith))

  pub record IsTableFront (n : ℕ) : Type 0 where
    pub few : n ≤ 1
    pub within : n ≤ length forms
    pub clear : AreClearTo proc_text_role forms n
    pub no_proc : has_list (codes "proc") (take n forms) ≡ false
    pub plain : n ≡ 0 → EndsBefore (codes "machine") forms 0

  pub table_front : (table : Option Table) → IsTableRead forms table → IsTableFront (number_of_tables table)
  table_front None (absent ends) = record {
    few = omega arith;
    within = omega arith;
    clear = none_clear proc_text_role forms;
    no_proc = refl;
    plain = λ e. ends;
  }
  table_front (Some t) (there form g h writes clear) =
      let taken = first_taken forms form g in
      record {
        few = omega arith;
        within = taken.1;
        clear = one_more_clear proc_text_role forms 0 form g (subst (λ (r : ProcRole). IsClearProc r form) (sym (top_machine [] form h refl)) (table_clear machine form clear)) (none_clear proc_text_role forms);
        no_proc = ap (has_list (codes "proc")) taken.0 ∙ ap (λ b. b || false) (other_head (codes "machine") (codes "proc") form h refl);
        plain = λ e. absurd (omega (arith, e));
      }

  pub table_refused_first : (size : ℕ) → Stand 0 size (forms_from forms) → (place : ℕ) (kind : Kind) → IsTableRefused forms place kind → IsFirst (IsProcTextFault size forms) place kind
  table_refused_first size h place kind f =
      text_form_first size forms h 0 f.form place kind f.there (none_clear proc_text_role forms)
      (subst (λ (r : ProcRole). IsFirstAs r f.form place kind) (sym (top_machine [] f.form f.head refl)) (table_first machine f.form place kind f.first))

  module _ (n : ℕ) (t : IsTableFront n) (size : ℕ) (h : Stand 0 size (forms_from forms)) where
    -- nothing behind it
    pub nothing_first : length forms ≤ n → IsFirst (IsProcTextFault size forms) size BadForm
    nothing_first l =
        no_proc_first size forms h (sym (ap (has_list (codes "proc")) (take_all n forms l)) ∙ t.no_proc)
        (λ k form m g. t.clear k form (omega (arith, m, l)) g)

    module _ (form : Form) (g : slice_get forms n ≡ Some form) where
      length_front : length (take n forms) ≡ n
      length_front = length-take-le n forms t.within

      bare : has_head (codes "machine") form ≡ true → length (take n forms) ≡ 0 → ⊥
      bare m e =
          let z : n ≡ 0 = (let l = length_front in omega (arith, l, e)) in
          true_false m (t.plain z form (ap (slice_get forms) (sym z) ∙ g))

      pub other_form_first : (low high : ℕ) → Stands low high form → has_head (codes "proc") form ≡ false → IsFirst (IsProcTextFault size forms) (place_of form) BadForm
      other_form_first low high s e =
          text_form_first size forms h n form (place_of form) BadForm g t.clear
          (subst (λ (r : ProcRole). IsFirstAs r form (place_of form) BadForm) (sym (top_other (take n forms) form bare e)) (wrong_first form low high s))

      module _ (p : has_head (codes "proc") form ≡ true) where
        role_is : proc_text_role (take n forms) form ≡ a_proc
        role_is = top_proc (take n forms) form p t.no_proc

        pub proc_first : (place : ℕ) (kind : Kind) → IsFirstAs a_proc form place kind → IsFirst (IsProcTextFault size forms) place kind
        proc_first place kind one = text_form_first size forms h n form place kind g t.clear (subst (λ (r : ProcRole). IsFirstAs r form place kind) (sym role_is) one)

        module _ (clear : IsClearProc a_proc form) where
          proc_read : AreClearTo proc_text_role forms (n + 1)
          proc_read = one_more_clear proc_text_role forms n form g (subst (λ (r : ProcRole). IsClearProc r form) (sym role_is) clear) t.clear

          proc_before : has_list (codes "proc") (take (n + 1) forms) ≡ true
          proc_before =
              ap (has_list (codes "proc")) (got_more forms n form g) ∙ has_both (codes "proc") (take n forms) (form ∷ [])
              ∙ ap (λ b. has_list (codes "proc") (take n forms) || (b || false)) p ∙ or_any (has_list (codes "proc") (take n forms))
            where
              or_any : (b : Bool) → b || true ≡ true
              or_any true = refl
              or_any false = refl

          pub second_form_first : (other : Form) (low high : ℕ) → Stands low high other → slice_get forms (n + 1) ≡ Some other → IsFirst (IsProcTextFault size forms) (place_of other) BadForm
          second_form_first other low high s g2 =
              text_form_first size forms h (n + 1) other (place_of other) BadForm g2 proc_read
              (subst (λ (r : ProcRole). IsFirstAs r other (place_of other) BadForm) (sym (top_late (take (n + 1) forms) other proc_before)) (wrong_first other low high s))

          pub whole_text_clear : length forms ≤ n + 1 → (place : ℕ) (kind : Kind) → IsProcTextFault size forms place kind → ⊥
          whole_text_clear l =
              text_clear size forms (λ k f m e. proc_read k f (omega (arith, m, l)) e)
              (sym (ap (has_list (codes "proc")) (take_all (n + 1) forms l)) ∙ proc_before)
