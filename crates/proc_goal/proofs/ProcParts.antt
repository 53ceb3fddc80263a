-- A proc: its name, its variables, its pool, and its blocks.
use Rattle.std.proofs.Common.{◌≡◌, ◌≢◌, ℕ, zero, suc, ◌+◌, ◌-◌, ◌<◌, ◌≤◌, ◌||◌, ◌&&◌, ◌++◌, if◌then◌else◌, Bool, true, false, Option, None, Some, List, [], ◌∷◌, length, map, filter_map, take, drop, refl, sym, ap, ap₂, ◌∙◌, subst, arith, slice_get, option_map, codes, length-append}
use Rattle.std.specs.Prelude.{AllPairs}
use Rattle.std.specs.List.{list_any}
use Rattle.std.proofs.lemmas.Bool.{and_parts}
use Rattle.std.proofs.lemmas.List.{append-nil, append_assoc, length-drop, length-take-le, take_all}
use Rattle.text_core.specs.declared.faults.Kind.{Kind}
use Rattle.text_core.specs.declared.faults.Kind.TheVariants.{BadForm}
use Rattle.text_core.specs.Faults.{IsFirst}
use Rattle.forms.specs.Forms.{Form, place_of, parts_of, name_in, Stands}
use Rattle.machine_table.specs.Grammar.{Each, IsListOf}
use Rattle.machine_table.specs.Roles.{has_head}
use Rattle.machine_table.proofs.Parts.{headed}
use Rattle.goal_meaning.specs.Rules.{default_pool}
use Rattle.goal_meaning.specs.WellFormed.{input_registers}
use Rattle.goal_meaning.specs.declared.goals.InputReg.{InputReg}
use Rattle.goal_reader.specs.Drafts.{AreDifferent}
use Rattle.goal_reader.specs.Grammar.{WritesPool}
use Rattle.goal_reader.specs.Roles.{a_list, pool, fresh_name, input_in, IsFaultAs, items_of_goal, registers_in, names_given, second_name}
use Rattle.goal_reader.proofs.ItemForms.{is_name}
use Rattle.goal_reader.proofs.Keeping.{each_length}
use Rattle.goal_reader.proofs.NewNames.{fresh_name_clear}
use Rattle.proc_goal.specs.ProcGrammar.{WritesBlock, WritesProc, WritesVariable}
use Rattle.proc_goal.specs.ProcReading.{AreBlocks, AreClearTo, AreLeading, EndsBefore, IsClearProc, IsFirstAmong, IsFirstAs, IsPoolFault, IsPoolRead, IsProcFront, absent, there}
use Rattle.proc_goal.specs.ProcRoles.{ProcRole, of_goal, a_proc, not_there, no_block, no_variable, block_names_in, ends_variables, has_list, has_leading_variable, proc_item_role, lists_of, proc_variables_in}
use Rattle.proc_goal.specs.Views.{BlockTree, ProcTree, names_of_blocks}
use Rattle.proc_goal.specs.WellFormed.{KeepsProcRules}
use Rattle.proc_goal.proofs.BlockForms.{name_and_rest, parted}
use Rattle.proc_goal.proofs.Embedded.{goal_clear, goal_first}
use Rattle.proc_goal.proofs.Items.{as_late, as_nothing, as_pool, as_variable, block_begins, block_told, each_begins, ends_block, ends_pool, has_both, has_none, keyword_told, lists_all, lists_both, lists_none, no_blocks, other_head, pool_here, told_all, variable_begins, variables_told, AllBegin}
use Rattle.proc_goal.proofs.Leaves.{HasNone, ClearParts, clear_next, clear_silent, clear_zero, form_first, part_first, true_false}
use Rattle.proc_goal.proofs.Sequences.{after, both_clear, first_behind, item_first, one_more_clear, whole_clear}

first_dropped : (n : ℕ) (xs : List Form) → slice_get (drop n xs) 0 ≡ slice_get xs n
first_dropped zero xs = refl
first_dropped (suc n) [] = refl
first_dropped (suc n) (x ∷ xs) = first_dropped n xs

first_taken : (xs : List Form) (f : Form) → slice_get xs 0 ≡ Some f → (take 1 xs ≡ f ∷ []) × (1 ≤ length xs)
first_taken [] f g = cc
first_taken (x ∷ xs) f g = (let same : x ≡ f = cc in (ap (λ v. v ∷ []) same, omega arith))

abbrev pub number_of : Option (List ℕ) → ℕ
number_of None = 0
number_of (Some r) = 1

-- ---- the variables and the pool as the front of the items
module _ (items : List Form) (vars : List InputReg) (v : AreLeading items vars) where
  abbrev pub var_forms : List Form
  var_forms = take (length vars) items

  abbrev pub behind_vars : List Form
  behind_vars = drop (length vars) items

  length_vars : length var_forms ≡ length vars
  length_vars = length-take-le (length vars) items v.within

  begin : AllBegin (codes "var") var_forms
  begin = each_begins WritesVariable (codes "var") variable_begins var_forms vars v.each

  var_next : (form : Form) → slice_get behind_vars 0 ≡ Some form → has_head (codes "var") form ≡ false
  var_next form g = v.ends form (sym (first_dropped (length vars) items) ∙ g)

  vars_clear : (names : List (List ℕ)) → AreClearTo (proc_item_role names) (var_forms ++ behind_vars) (length var_forms)
  vars_clear names =
      subst (λ fs. AreClearTo (proc_item_role names) fs (length var_forms)) (sym (parted (length vars) items))
      (subst (λ m. AreClearTo (proc_item_role names) items m) (sym length_vars) (v.clear names))

  pool_role : (names : List (List ℕ)) (form : Form) → has_head (codes "pool") form ≡ true → proc_item_role names (var_forms ++ []) form ≡ of_goal (a_list (pool (input_registers vars)))
  pool_role names form h = ap (λ fs. proc_item_role names fs form) (append-nil var_forms) ∙ pool_here names var_forms vars v.each form h

  pub pool_fault_first : (names : List (List ℕ)) (place : ℕ) (kind : Kind) → IsPoolFault vars behind_vars place kind → IsFirstAmong (proc_item_role names) items place kind
  pool_fault_first names place kind f =
      subst (λ fs. IsFirstAmong (proc_item_role names) fs place kind) (parted (length vars) items)
      (first_behind (proc_item_role names) var_forms behind_vars place kind (vars_clear names) (record {
        at = 0;
        form = f.form;
        there = f.there;
        clear = λ k form l g. absurd (omega (arith, l));
        first = subst (λ (r : ProcRole). IsFirstAs r f.form place kind) (sym (pool_role names f.form f.head)) (goal_first (a_list (pool (input_registers vars))) f.form place kind f.first);
      }))

  -- so many items behind the variables are the pool
  pub record IsPoolFront (m : ℕ) (given : Option (List ℕ)) : Type 0 where
    pub within : m ≤ length behind_vars
    pub read : IsPoolRead vars behind_vars given
    pub front : IsProcFront vars (var_forms ++ take m behind_vars) (drop m behind_vars)
    pub clear : (names : List (List ℕ)) → AreClearTo (after var_forms (proc_item_role names)) behind_vars m
    pub no_block : has_list (codes "block") (take m behind_vars) ≡ false

  no_pool_front : EndsBefore (codes "pool") behind_vars 0 → IsProcFront vars (var_forms ++ []) behind_vars
  no_pool_front ends = subst (λ fs. IsProcFront vars fs behind_vars) (sym (append-nil var_forms)) (record {
    variables = variables_told var_forms vars v.each;
    no_block = lists_none (codes "var") (codes "block") var_forms begin refl;
    next = λ form g h names. as_nothing names var_forms form (var_next form g) (ends form g) h;
  })

  pool_front : (form : Form) → has_head (codes "pool") form ≡ true → (behind : List Form) → IsProcFront vars (var_forms ++ form ∷ []) behind
  pool_front form h behind = record {
    variables = ap (filter_map input_in) (lists_both (codes "var") var_forms (form ∷ [])
        ∙ ap (λ fs. lists_of (codes "var") var_forms ++ fs) (lists_none (codes "pool") (codes "var") (form ∷ []) (h, tt) refl) ∙ append-nil (lists_of (codes "var") var_forms))
        ∙ variables_told var_forms vars v.each;
    no_block = lists_both (codes "block") var_forms (form ∷ [])
        ∙ ap₂ (λ a b. a ++ b) (lists_none (codes "var") (codes "block") var_forms begin refl) (lists_none (codes "pool") (codes "block") (form ∷ []) (h, tt) refl);
    next = λ other g e names. as_late names (var_forms ++ form ∷ []) other (late var_forms) e;
  }
    where
      or_any : (b : Bool) → b || true ≡ true
      or_any true = refl
      or_any false = refl

      late : (fs : List Form) → list_any ends_variables (fs ++ form ∷ []) ≡ true
      late [] = ap (λ b. b || false) (ends_pool form h)
      late (f ∷ fs) = ap (λ b. ends_variables f || b) (late fs) ∙ or_any (ends_variables f)

  pub pool_front_is : (given : Option (List ℕ)) → IsPoolRead vars behind_vars given → IsPoolFront (number_of given) given
  pool_front_is None (absent ends) = record {
    within = omega arith;
    read = absent ends;
    front = no_pool_front ends;
    clear = λ names k form l g. absurd (omega (arith, l));
    no_block = refl;
  }
  pool_front_is (Some rs) (there form g h is clear) =
      let t = first_taken behind_vars form g in
      record {
        within = t.1;
        read = there form g h is clear;
        front = subst (λ fs. IsProcFront vars (var_forms ++ fs) (drop 1 behind_vars)) (sym t.0) (pool_front form h (drop 1 behind_vars));
        clear = λ names. one_more_clear (after var_forms (proc_item_role names)) behind_vars 0 form g
            (subst (λ (r : ProcRole). IsClearProc r form) (sym (pool_role names form h)) (goal_clear (a_list (pool (input_registers vars))) form clear)) (λ k other l e. absurd (omega (arith, l)));
        no_block = ap (has_list (codes "block")) t.0 ∙ ap (λ b. b || false) (other_head (codes "pool") (codes "block") form h refl);
      }

  module _ (m : ℕ) (given : Option (List ℕ)) (f : IsPoolFront m given) where
    abbrev front : List Form
    front = var_forms ++ take m behind_vars

    abbrev pub rest : List Form
    rest = drop m behind_vars

    pub items_parted : items ≡ front ++ rest
    items_parted = sym (append_assoc var_forms (take m behind_vars) rest ∙ ap (λ fs. var_forms ++ fs) (parted m behind_vars) ∙ parted (length vars) items)

    front_clear : (names : List (List ℕ)) → AreClearTo (proc_item_role names) (front ++ rest) (length front)
    front_clear names =
        let total = length-append var_forms (take m behind_vars) in
        let taken = length-take-le m behind_vars f.within in
        let same : length var_forms + m ≡ length front = omega (arith, total, taken) in
        subst (λ n. AreClearTo (proc_item_role names) (front ++ rest) n) same
        (subst (λ fs. AreClearTo (proc_item_role names) fs (length var_forms + m)) (parted (length vars) items ∙ items_parted)
        (both_clear (proc_item_role names) var_forms behind_vars m (vars_clear names) (f.clear names)))

    pub blocks_fault_first : (names : List (List ℕ)) (place : ℕ) (kind : Kind) → IsFirstAmong (after front (proc_item_role names)) rest place kind → IsFirstAmong (proc_item_role names) items place kind
    blocks_fault_first names place kind one =
        subst (λ fs. IsFirstAmong (proc_item_role names) fs place kind) (sym items_parted) (first_behind (proc_item_role names) front rest place kind (front_clear names) one)

    module _ (names : List (List ℕ)) (bs : List BlockTree) (b : AreBlocks vars names rest bs) where
      pub items_clear : AreClearTo (proc_item_role names) items (length items)
      items_clear =
          let all = both_clear (proc_item_role names) front rest (length rest) (front_clear names) (b.clear front f.front) in
          let count : length front + length rest ≡ length items = (let total = length-append front rest in let is = ap length items_parted in omega (arith, total, is)) in
          subst (λ n. AreClearTo (proc_item_role names) items n) count (subst (λ fs. AreClearTo (proc_item_role names) fs (length front + length rest)) (sym items_parted) all)

      -- the names of the blocks are those that were found before
      pub names_are : block_names_in items ≡ names_of_blocks bs
      names_are =
          let begins = each_begins (WritesBlock vars names) (codes "block") (block_begins vars names) rest bs b.each in
          let found : lists_of (codes "block") items ≡ rest =
          ap (lists_of (codes "block")) items_parted ∙ lists_both (codes "block") front rest ∙ ap₂ (λ x y. x ++ y) f.front.no_block (lists_all (codes "block") rest begins) in
          let count = each_length (WritesBlock vars names) rest bs b.each in
          let few = b.own.few in
          ap (λ fs. names_given (take 64 fs)) found ∙ ap names_given (take_all 64 rest (omega (arith, count, few)))
          ∙ told_all (WritesBlock vars names) second_name (λ (x : BlockTree). x.name) (block_told vars names) rest bs b.each

      -- a block is there
      pub some_block : has_list (codes "block") items ≡ true → 0 < length bs
      some_block e = by_rest rest bs b.each (sym (ap (has_list (codes "block")) items_parted) ∙ e)
        where
          none_before : has_list (codes "block") front ≡ false
          none_before = has_both (codes "block") var_forms (take m behind_vars) ∙ ap₂ (λ x y. x || y) (has_none (codes "var") (codes "block") var_forms begin refl) f.no_block

          by_rest : (r : List Form) (xs : List BlockTree) → Each (WritesBlock vars names) r xs → has_list (codes "block") (front ++ r) ≡ true → 0 < length xs
          by_rest [] xs w t = absurd (true_false t (ap (has_list (codes "block")) (append-nil front) ∙ none_before))
          by_rest (f ∷ fs) [] w t = elim w [ ]
          by_rest (f ∷ fs) (x ∷ xs) w t = omega arith

-- ---- a variable is there
no_variable_at : (x : Form) (xs : List Form) → has_head (codes "var") x ≡ false → ends_variables x ≡ true → has_leading_variable (x ∷ xs) ≡ false
no_variable_at x xs h e = ap (λ t. if t then true else if ends_variables x then false else has_leading_variable xs) h ∙ ap (λ t. if t then false else has_leading_variable xs) e

none_first : (vars : List InputReg) (fs : List Form) (given : Option (List ℕ)) → EndsBefore (codes "var") fs 0 → IsPoolRead vars fs given → AllBegin (codes "block") (drop (number_of given) fs) → has_leading_variable fs ≡ false
none_first vars [] given ends p b = refl
none_first vars (x ∷ xs) None ends (absent e) b = no_variable_at x xs (ends x refl) (ends_block x b.0)
none_first vars (x ∷ xs) (Some rs) ends (there form g h is clear) b = (let same : x ≡ form = cc in no_variable_at x xs (ends x refl) (ends_pool x (ap (has_head (codes "pool")) same ∙ h)))

pub some_variable : (items : List Form) (vars : List InputReg) (given : Option (List ℕ)) → has_leading_variable items ≡ true → AreLeading items vars → IsPoolRead vars (drop (length vars) items) given
    → AllBegin (codes "block") (drop (number_of given) (drop (length vars) items)) → 0 < length vars
some_variable items [] given h v p b = absurd (true_false h (none_first [] items given v.ends p b))
some_variable items (i ∷ is) given h v p b = omega arith
