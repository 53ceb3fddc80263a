-- The variables of a proc, one after the other.
use Rattle.std.proofs.Common.{◌≡◌, ◌≢◌, ℕ, ◌+◌, ◌<◌, ◌≤◌, ◌||◌, ◌++◌, ◌-◌, true, false, None, Some, List, [], ◌∷◌, length, take, drop, refl, sym, ap, ap₂, ◌∙◌, subst, arith, slice_get, codes}
use Rattle.std.proofs.lemmas.List.Elements.{All-nil, All-push}
use Rattle.std.proofs.lemmas.List.Quantifiers.{all_pairs_push}
use Rattle.text_core.specs.Names.{is_among}
use Rattle.text_core.specs.declared.faults.Kind.{Kind}
use Rattle.text_core.specs.declared.faults.Kind.TheVariants.{LimitPassed, Twice}
use Rattle.text_core.specs.Faults.{IsFirst}
use Rattle.forms.specs.Faults.{own}
use Rattle.forms.specs.Forms.{Form, place_of, parts_of, name_in, Stands}
use Rattle.machine_table.specs.Grammar.{Each, IsListOf, IsNameOf}
use Rattle.machine_table.specs.Grammar as grammar
use Rattle.machine_table.specs.Roles.{has_head}
use Rattle.machine_table.proofs.Parts.{headed}
use Rattle.goal_meaning.specs.Names.{is_reserved, names_of_declared}
use Rattle.goal_meaning.specs.Rules.{has_register}
use Rattle.goal_meaning.specs.WellFormed.{input_registers}
use Rattle.goal_meaning.specs.declared.goals.InputReg.{InputReg}
use Rattle.goal_reader.specs.Drafts.{AreDifferent}
use Rattle.goal_reader.specs.Grammar.{IsRegister}
use Rattle.goal_reader.specs.Reading.{IsClear, names_of_inputs}
use Rattle.goal_reader.specs.Roles.{Role, a_list, input, own_name, fresh_register, register_given, IsFaultAs, register_of, register_number, ◌>>=◌}
use Rattle.goal_reader.proofs.Different.{among_apart, one_more, or_left, or_right, pairs_nil, register_low}
use Rattle.goal_reader.proofs.GoalSteps.{got_more, mapped_more}
use Rattle.goal_reader.proofs.ItemForms.{bind_some, is_name, is_register}
use Rattle.goal_reader.proofs.Keeping.{each_length, longer_by, name_free, part_clear}
use Rattle.goal_reader.proofs.Names.{not_true}
use Rattle.goal_reader.proofs.ReadParts.{register_told}
use Rattle.goal_reader.proofs.WrittenItems.{each_more}
use Rattle.proc_goal.specs.ProcGrammar.{WritesVariable}
use Rattle.proc_goal.specs.ProcReading.{AreClearTo, AreVariables, IsClearProc, IsFirstAmong, IsFirstAs}
use Rattle.proc_goal.specs.ProcRoles.{ProcRole, of_goal, proc_item_role}
use Rattle.proc_goal.proofs.Embedded.{goal_clear, goal_first}
use Rattle.proc_goal.proofs.Items.{variable_here, variable_past}
use Rattle.proc_goal.proofs.Leaves.{past_first}
use Rattle.proc_goal.proofs.Sequences.{none_clear, one_more_clear}

pub no_variables : AreVariables []
no_variables = record {
  names = pairs_nil (λ (i j : InputReg). i.name ≢ j.name);
  own = All-nil (λ (i : InputReg). is_reserved i.name ≡ false);
  registers = record { pairs = pairs_nil (λ a b. a ≢ b); low = All-nil (λ r. r < 31) };
}

-- a list of three parts that were read
module _ (form first second : Form) where
  just_two : (xs : List Form) → slice_get xs 1 ≡ Some first → slice_get xs 2 ≡ Some second → length xs ≤ 3 → drop 1 xs ≡ first ∷ second ∷ []
  just_two [] g h l = cc
  just_two (x ∷ []) g h l = cc
  just_two (x ∷ y ∷ []) g h l = cc
  just_two (x ∷ y ∷ z ∷ []) g h l = (let a : y ≡ first = cc in let b : z ≡ second = cc in ap₂ (λ v w. v ∷ w ∷ []) a b)
  just_two (x ∷ y ∷ z ∷ w ∷ ws) g h l = absurd (omega (arith, l))

  pub variable_writes : (v : InputReg) → has_head (codes "var") form ≡ true → slice_get (parts_of form) 1 ≡ Some first → slice_get (parts_of form) 2 ≡ Some second → length (parts_of form) ≤ 3
      → name_in first ≡ Some v.name → register_of second ≡ Some v.reg → WritesVariable form v
  variable_writes v h g g2 l n e = record {
    first = first;
    second = second;
    is = subst (λ ps. IsListOf (codes "var") ps form) (just_two (parts_of form) g g2 l) (headed (codes "var") form h);
    named = is_name first v.name n;
    placed = is_register second v.reg e;
  }

-- ---- one variable more
module _ (vars : List InputReg) (form : Form) (v : InputReg) (w : WritesVariable form v) (clear : IsClear (a_list (input [] vars)) form) where
  free : is_reserved v.name || is_among (names_of_inputs vars) v.name ≡ false
  free =
      name_free (names_of_inputs vars) w.first v.name w.named
      (part_clear (a_list (input [] vars)) (own_name (names_of_inputs vars)) form w.first 1 clear (ap (λ (f : Form). slice_get (parts_of f) 1) w.is.is) refl)

  told : register_of w.second ≡ Some v.reg
  told = register_told w.second v.reg w.placed

  fresh : has_register (input_registers vars) v.reg ≡ false
  fresh =
      let second : IsClear (fresh_register (input_registers vars)) w.second = part_clear (a_list (input [] vars)) (fresh_register (input_registers vars)) form w.second 2 clear (ap (λ (f : Form). slice_get (parts_of f) 2) w.is.is) refl in
      not_true (has_register (input_registers vars) v.reg) (λ u. second (place_of w.second) Twice (own (register_given told u) refl))

  low : v.reg < 31
  low = register_low w.placed.bytes v.reg w.placed.number

  pub more_variables : AreVariables vars → AreVariables (vars ++ v ∷ [])
  more_variables k = record {
    names = all_pairs_push (λ (a b : InputReg). a.name ≢ b.name) vars v k.names (among_apart (λ (a : InputReg). a.name) vars v.name (or_right (is_reserved v.name) (is_among (names_of_inputs vars) v.name) free));
    own = All-push (λ (a : InputReg). is_reserved a.name ≡ false) vars v k.own (or_left (is_reserved v.name) (is_among (names_of_inputs vars) v.name) free);
    registers = subst AreDifferent (sym (mapped_more (λ (a : InputReg). a.reg) vars v)) (one_more (input_registers vars) v.reg k.registers fresh low);
  }

-- ---- the front of the items
module _ (items : List Form) (i : ℕ) (form : Form) (g : slice_get items i ≡ Some form) (vars : List InputReg) (each : Each WritesVariable (take i items) vars) (h : has_head (codes "var") form ≡ true) (counted : length (take i items) ≡ i) where
  as_role : (names : List (List ℕ)) → i < 16 → proc_item_role names (take i items) form ≡ of_goal (a_list (input [] vars))
  as_role names l = variable_here names (take i items) vars each form h (omega (arith, counted, l))

  pub variable_first : (names : List (List ℕ)) (place : ℕ) (kind : Kind) → i < 16 → AreClearTo (proc_item_role names) items i → IsFirst (IsFaultAs (a_list (input [] vars)) form) place kind → IsFirstAmong (proc_item_role names) items place kind
  variable_first names place kind l clear first = record {
    at = i;
    form = form;
    there = g;
    clear = clear;
    first = subst (λ (r : ProcRole). IsFirstAs r form place kind) (sym (as_role names l)) (goal_first (a_list (input [] vars)) form place kind first);
  }

  pub beyond_first : (names : List (List ℕ)) (low high : ℕ) → Stands low high form → 16 ≤ i → AreClearTo (proc_item_role names) items i → IsFirstAmong (proc_item_role names) items (place_of form) LimitPassed
  beyond_first names low high s l clear = record {
    at = i;
    form = form;
    there = g;
    clear = clear;
    first = subst (λ (r : ProcRole). IsFirstAs r form (place_of form) LimitPassed) (sym (variable_past names (take i items) vars each form h (omega (arith, counted, l)))) (past_first form low high s);
  }

  pub variable_clear : (names : List (List ℕ)) → i < 16 → AreClearTo (proc_item_role names) items i → IsClear (a_list (input [] vars)) form → AreClearTo (proc_item_role names) items (i + 1)
  variable_clear names l clear is =
      one_more_clear (proc_item_role names) items i form g (subst (λ (r : ProcRole). IsClearProc r form) (sym (as_role names l)) (goal_clear (a_list (input [] vars)) form is)) clear

  pub variable_more : (v : InputReg) → WritesVariable form v → Each WritesVariable (take (i + 1) items) (vars ++ v ∷ [])
  variable_more v w = subst (λ fs. Each WritesVariable fs (vars ++ v ∷ [])) (sym (got_more items i form g)) (each_more WritesVariable (take i items) vars form v each w)
