-- A goal without a fault keeps the rules of names, registers and numbers.
use Rattle.std.proofs.Common.{◌≡◌, ◌≢◌, ℕ, suc, ◌<◌, ◌≤◌, ◌||◌, ◌++◌, true, false, Option, None, Some, List, [], ◌∷◌, length, take, map, get_or, All, refl, sym, ap, ◌∙◌, subst, arith, slice_get, bytes_eq, codes, length-append}
use Rattle.std.specs.Prelude.{is_some, AllPairs}
use Rattle.std.specs.Option.{option_map_or}
use Rattle.std.specs.List.{list_any}
use Rattle.std.proofs.lemmas.List.{append-nil, append_assoc, length-map}
use Rattle.std.proofs.lemmas.List.Elements.{All-push}
use Rattle.std.proofs.lemmas.List.Quantifiers.{all_pairs_push}
use Rattle.text_core.specs.declared.faults.Kind.TheVariants.{BadForm, Twice, LimitPassed}
use Rattle.forms.specs.Forms.{Form, atom, list, more, name, place_of, parts_of, forms_list, name_in, register_in}
use Rattle.forms.specs.Faults.{own, inside}
use Rattle.machine_table.specs.Grammar.{Each, more_of, IsListOf, IsNameOf}
use Rattle.goal_meaning.specs.declared.goals.DeclaredOp.{DeclaredOp}
use Rattle.goal_reader.specs.declared.scopes.Scope.{Scope}
use Rattle.goal_meaning.specs.declared.goals.InputReg.{InputReg}
use Rattle.goal_meaning.specs.declared.goals.Let.{Let}
use Rattle.goal_meaning.specs.declared.goals.Set.{Set}
use Rattle.word_ops.specs.declared.sorts.Sort.{Sort}
use Rattle.word_terms.specs.View.{tree_of}
use Rattle.goal_reader.specs.declared.drafts.Draft.{Draft}
use Rattle.goal_meaning.specs.Views.{TargetTree, let_view, target_view}
use Rattle.goal_reader.specs.Drafts.{AreDifferent, KeepsSoFar, pool_read, IsNext, IsWritten, IsPoolWritten, draft_role, with_input, with_let, no_pool, one_pool, with_pool}
use Rattle.goal_reader.specs.Drafts as drafts
use Rattle.goal_reader.specs.Grammar.{IsRegister, WritesInput, WritesPin, WritesTarget, pinned, unpinned}
use Rattle.goal_reader.specs.Reading.{IsClear, WritesPart, names_of_inputs, names_of_lets, names_of_targets, pins_of_targets}
use Rattle.goal_meaning.specs.WellFormed.{input_registers}
use Rattle.goal_reader.specs.Roles as roles
use Rattle.text_core.specs.Names.{is_among}
use Rattle.goal_reader.specs.Roles.{Role, a_list, own_name, fresh_name, fresh_register, name_used, name_taken, register_given, part_role, rank, of_rank, is_later_than, goal_keywords, goal_bounds, bound_at, is_pinned, second_name, registers_in, register_of, register_number, ◌>>=◌}
use Rattle.goal_meaning.specs.Names.{is_reserved, names_of_declared}
use Rattle.goal_meaning.specs.Rules.{has_register, most_lets}
use Rattle.goal_reader.proofs.Different.{or_left, or_right, among_apart, one_more, some_more, all_more, back_different, register_low}
use Rattle.goal_reader.proofs.GoalSteps.{filter_more, mapped_more}
use Rattle.goal_reader.proofs.ItemForms.{keyworded, binding_writes, bind_some, input_writes, register_known_by}
use Rattle.goal_reader.proofs.LetForms.{lets_length, nothing_let}
use Rattle.goal_reader.proofs.TargetForms.{name_role, pin_clear, pin_known, target_writes}
use Rattle.goal_reader.proofs.Names.{not_true}
use Rattle.goal_reader.proofs.NewNames.{among_both}
use Rattle.goal_reader.proofs.Ranks.{none_of}
use Rattle.goal_reader.proofs.WrittenItems.{fewer_than_one, no_items}

-- a part of a form without faults has none
pub part_clear : (role other : Role) (form part : Form) (at : ℕ) → IsClear role form → slice_get (parts_of form) at ≡ Some part → part_role role form at ≡ Some other → IsClear other part
part_clear role other form part at clear g e place kind fault =
    clear place kind (inside at part other (λ o. clear (place_of form) BadForm (own o refl)) (λ o. clear (place_of form) LimitPassed (own o refl)) g e fault)

pub name_free : (names : List (List ℕ)) (form : Form) (bytes : List ℕ) → IsNameOf bytes form → IsClear (own_name names) form → is_reserved bytes || is_among names bytes ≡ false
name_free names form bytes n clear =
    not_true (is_reserved bytes || is_among names bytes) (λ u. clear (place_of form) Twice (own (name_used (ap name_in n.is) u) refl))

pub name_fresh : (names : List (List ℕ)) (form : Form) (bytes : List ℕ) → IsNameOf bytes form → IsClear (fresh_name names) form → is_among names bytes ≡ false
name_fresh names form bytes n clear = not_true (is_among names bytes) (λ u. clear (place_of form) Twice (own (name_taken (ap name_in n.is) u) refl))

register_fresh : (before : List ℕ) (form : Form) (r : ℕ) → register_of form ≡ Some r → IsClear (fresh_register before) form → has_register before r ≡ false
register_fresh before form r e clear = not_true (has_register before r) (λ u. clear (place_of form) Twice (own (register_given e u) refl))

register_told : (form : Form) (r : ℕ) → IsRegister r form → register_of form ≡ Some r
register_told form r is = ap register_of is.is ∙ is.number

below : (form : Form) (r : ℕ) → register_of form ≡ Some r → r < 31
below form r e = let b = bind_some (register_in form) register_number r e in register_low b.0 r b.2

pub each_length : {Y : Type 0} (W : Form → Y → Type 0) (fs : List Form) (ys : List Y) → Each W fs ys → length ys ≡ length fs
each_length W [] [] e = refl
each_length W [] (y ∷ ys) e = elim e [ ]
each_length W (f ∷ fs) [] e = elim e [ ]
each_length W (f ∷ fs) (y ∷ ys) (more_of one others) = ap suc (each_length W fs ys others)

pub nothing_each : {Y : Type 0} (W : Form → Y → Type 0) (fs : List Form) (ys : List Y) → fs ≡ [] → Each W fs ys → ys ≡ []
nothing_each W [] [] e w = refl
nothing_each W [] (y ∷ ys) e w = elim w [ ]
nothing_each W (f ∷ fs) ys e w = cc

none_yet : (fs : List Form) (p : Option (List ℕ)) → fs ≡ [] → IsPoolWritten fs p → p ≡ None
none_yet [] None e w = refl
none_yet [] (Some rs) e w = elim w [ ]
none_yet (f ∷ fs) p e w = cc

longer : {X : Type 0} (xs : List X) (x : X) (n : ℕ) → length xs ≡ n → n < 16 → length (xs ++ x ∷ []) ≤ 16
longer xs x n e l = let s = length-append xs (x ∷ []) in omega (arith, s, e, l)

pub longer_by : {X : Type 0} (most : ℕ) (xs : List X) (x : X) (n : ℕ) → length xs ≡ n → n < most → length (xs ++ x ∷ []) ≤ most
longer_by most xs x n e l = let s = length-append xs (x ∷ []) in omega (arith, s, e, l)

-- ---- an input
module _ (declared : List DeclaredOp) (inputs : List InputReg) (form : Form) (i : InputReg) (w : WritesInput form i) (clear : IsClear (a_list (roles.input declared inputs)) form) where
  as_input : Role
  as_input = a_list (roles.input declared inputs)

  input_free : is_reserved i.name || is_among (names_of_declared declared ++ names_of_inputs inputs) i.name ≡ false
  unfolding as_input
  input_free =
      name_free (names_of_declared declared ++ names_of_inputs inputs) w.first i.name w.named
      (part_clear as_input (own_name (names_of_declared declared ++ names_of_inputs inputs)) form w.first 1 clear (ap (λ (f : Form). slice_get (parts_of f) 1) w.is.is) refl)

  input_fresh : has_register (input_registers inputs) i.reg ≡ false
  unfolding as_input
  input_fresh =
      register_fresh (input_registers inputs) w.second i.reg (register_told w.second i.reg w.placed)
      (part_clear as_input (fresh_register (input_registers inputs)) form w.second 2 clear (ap (λ (f : Form). slice_get (parts_of f) 2) w.is.is) refl)

module _ (scope : Scope) (names : List (List ℕ)) (taken : List ℕ) (form : Form) (t : TargetTree) (w : WritesTarget scope form t) (clear : IsClear (a_list (roles.set scope names taken)) form) where
  target_free : is_among names t.name ≡ false
  target_free =
      name_fresh names w.first t.name w.named
      (part_clear (a_list (roles.set scope names taken)) (fresh_name names) form w.first 1 clear (ap (λ (f : Form). slice_get (parts_of f) 1) w.is.is) (name_role scope names taken form (is_pinned form)))

  -- the pin is new, and the target is a word
  pub record IsPinFree (r : ℕ) : Type 0 where
    pub fresh : has_register taken r ≡ false
    pub low : r < 31
    pub word : bytes_eq t.name (codes "M") ≡ false

  pin_free_by : (ps : List Form) (o : Option ℕ) → WritesPin ps o → IsListOf (codes "set") (w.first ∷ (ps ++ w.last ∷ [])) form → (r : ℕ) → o ≡ Some r → IsPinFree r
  pin_free_by _ _ unpinned is r e = cc
  pin_free_by _ _ (pinned {form = f} {register = s} reg) is r e =
      let same : s ≡ r = cc in
      let there : is_pinned form ≡ true = ap is_pinned is.is ∙ ap (λ (x : Form). is_some (register_in x)) reg.is in
      let named : second_name form ≡ Some t.name = ap second_name is.is ∙ ap name_in w.named.is in
      let known = pin_known taken (second_name form) f (pin_clear scope names taken form clear f there (ap (λ (x : Form). slice_get (parts_of x) 2) is.is)) in
      let told = register_told f s reg in
      subst IsPinFree same (record {
        fresh = register_fresh taken f s told known.1;
        low = below f s told;
        word = sym (ap (λ n. option_map_or (λ bytes. bytes_eq bytes (codes "M")) n false) named) ∙ known.0;
      })

  pin_free : (r : ℕ) → t.pin ≡ Some r → IsPinFree r
  pin_free r e = pin_free_by w.pins t.pin w.pin w.is r e

  memory_unpinned_by : (o : Option ℕ) → ((r : ℕ) → o ≡ Some r → IsPinFree r) → bytes_eq t.name (codes "M") ≡ true → o ≡ None
  memory_unpinned_by None free memory = refl
  memory_unpinned_by (Some r) free memory = let word = (free r refl).word in let f : true ≡ false = sym memory ∙ word in cc

  memory_unpinned : bytes_eq t.name (codes "M") ≡ true → t.pin ≡ None
  memory_unpinned = memory_unpinned_by t.pin pin_free

-- ---- a pool
register_free : (before : List ℕ) (form : Form) → IsClear (fresh_register before) form → (r : ℕ) × (register_of form ≡ Some r) × (has_register before r ≡ false) × (r < 31)
register_free before form clear =
    let known = register_known_by before form (register_in form) refl clear in
    (known.0, known.1, register_fresh before form known.0 known.1 clear, below form known.0 known.1)

pub pool_free : (before : List ℕ) (form : Form) → rank goal_keywords form ≡ Some 1 → IsClear (a_list (roles.pool before)) form → AreDifferent before → AreDifferent (before ++ registers_in (parts_of form))
pool_free before form e clear d =
    let k = keyworded 1 form e in
    let whole = list k.place (more (atom k.head (name (codes "pool"))) k.rest) in
    let clear_whole : IsClear (a_list (roles.pool before)) whole = subst (λ (f : Form). IsClear (a_list (roles.pool before)) f) k.is clear in
    let grown = all_more before (forms_list k.rest) (λ j part g. register_free (before ++ registers_in (take j (forms_list k.rest))) part
    (part_clear (a_list (roles.pool before)) (fresh_register (before ++ registers_in (take j (forms_list k.rest)))) whole part (suc j) clear_whole g refl)) d in
    subst (λ (f : Form). AreDifferent (before ++ registers_in (parts_of f))) (sym k.is) grown

pub itself : (ns : List (List ℕ)) → map (λ m. m) ns ≡ ns
itself [] = refl
itself (n ∷ ns) = ap (λ ms. n ∷ ms) (itself ns)

-- ---- one item more
module _ (declared : List DeclaredOp) (before : List Form) (form : Form) (d : Draft) (w : IsWritten before d) (same_ops : d.scope.declared ≡ declared) (k : KeepsSoFar declared d) where
  abbrev Apart : List (List ℕ) → Type 0
  Apart ns = AllPairs (λ m n. m ≢ n) ns

  abbrev Own : List ℕ → Type 0
  Own n = (is_reserved n ≡ false) × (is_among (names_of_declared declared) n ≡ false)

  list_apart : (ns : List (List ℕ)) (n : List ℕ) → is_among ns n ≡ false → (k : ℕ) (d : List ℕ) → k < length ns → get_or ns k d ≢ n
  list_apart ns n e = among_apart (λ m. m) ns n (ap (λ ms. is_among ms n) (itself ns) ∙ e)

  module _ (at : ℕ) (e : rank goal_keywords form ≡ Some at) (none_later : list_any (is_later_than goal_keywords at) before ≡ false) where
    later_empty : (n : ℕ) → at < n → of_rank goal_keywords n before ≡ []
    later_empty n l = none_of goal_keywords at n before l none_later

  with_input_keeps : (i : InputReg) → WritesInput form i → IsClear (a_list (roles.input d.scope.declared d.inputs)) form → rank goal_keywords form ≡ Some 0 → list_any (is_later_than goal_keywords 0) before ≡ false
      → length (of_rank goal_keywords 0 before) < 16 → KeepsSoFar declared (with_input d i)
  with_input_keeps i wi clear e none_later few =
      let free = input_free d.scope.declared d.inputs form i wi clear in
      let among = or_right (is_reserved i.name) (is_among (names_of_declared d.scope.declared ++ names_of_inputs d.inputs) i.name) free in
      let split = sym (among_both (names_of_declared d.scope.declared) (names_of_inputs d.inputs) i.name) ∙ among in
      let no_pool_yet = ap pool_read (none_yet (of_rank goal_keywords 1 before) d.pool (later_empty 0 e none_later 1 (omega arith)) w.pool) in
      let no_let : d.lets ≡ [] = no_items let_view d.lets (nothing_let d.scope.declared d.inputs [] (of_rank goal_keywords 2 before) (map let_view d.lets) (later_empty 0 e none_later 2 (omega arith)) w.lets) in
      let old : AreDifferent (input_registers d.inputs) = subst AreDifferent (ap (λ rs. input_registers d.inputs ++ rs) no_pool_yet ∙ append-nil (input_registers d.inputs)) k.registers in
      let new = one_more (input_registers d.inputs) i.reg old (input_fresh d.scope.declared d.inputs form i wi clear) (below wi.second i.reg (register_told wi.second i.reg wi.placed)) in
      record {
        input_names = all_pairs_push (λ (a b : InputReg). a.name ≢ b.name) d.inputs i k.input_names
            (among_apart (λ (a : InputReg). a.name) d.inputs i.name (or_right (is_among (names_of_declared d.scope.declared) i.name) (is_among (names_of_inputs d.inputs) i.name) split));
        own_names = All-push (λ (a : InputReg). is_reserved a.name ≡ false) d.inputs i k.own_names (or_left (is_reserved i.name) (is_among (names_of_declared d.scope.declared ++ names_of_inputs d.inputs) i.name) free);
        not_declared = All-push (λ (a : InputReg). is_among (names_of_declared declared) a.name ≡ false) d.inputs i k.not_declared
            (subst (λ (ds : List DeclaredOp). is_among (names_of_declared ds) i.name ≡ false) same_ops (or_left (is_among (names_of_declared d.scope.declared) i.name) (is_among (names_of_inputs d.inputs) i.name) split));
        leaf_names = subst Apart (sym (ap (λ (ls : List Let). names_of_inputs (d.inputs ++ i ∷ []) ++ names_of_lets ls) no_let ∙ append-nil (names_of_inputs (d.inputs ++ i ∷ [])) ∙ mapped_more (λ (a : InputReg). a.name) d.inputs i))
            (all_pairs_push (λ (m n : List ℕ). m ≢ n) (names_of_inputs d.inputs) i.name (subst Apart (ap (λ (ls : List Let). names_of_inputs d.inputs ++ names_of_lets ls) no_let ∙ append-nil (names_of_inputs d.inputs)) k.leaf_names)
            (list_apart (names_of_inputs d.inputs) i.name (or_right (is_among (names_of_declared d.scope.declared) i.name) (is_among (names_of_inputs d.inputs) i.name) split)));
        own_lets = k.own_lets;
        few_lets = k.few_lets;
        registers = subst AreDifferent (sym (ap (λ rs. input_registers (d.inputs ++ i ∷ []) ++ rs) no_pool_yet ∙ append-nil (input_registers (d.inputs ++ i ∷ [])) ∙ mapped_more (λ (a : InputReg). a.reg) d.inputs i)) new;
        pins = k.pins;
        unpinned = k.unpinned;
        targets = k.targets;
        few = (longer d.inputs i _ (each_length WritesInput (of_rank goal_keywords 0 before) d.inputs w.inputs) few, k.few.1, k.few.2);
      }

  with_let_keeps : (one : Let) (sort : Sort) → second_name form ≡ Some one.name → WritesPart d.scope None form 2 (tree_of one.value) → IsClear (a_list (roles.binding d.scope (names_of_inputs d.inputs ++ names_of_lets d.lets))) form → rank goal_keywords form ≡ Some 2
      → length (of_rank goal_keywords 2 before) < most_lets → KeepsSoFar declared (with_let d one sort)
  with_let_keeps one sort named value clear e few =
      let leaves = names_of_inputs d.inputs ++ names_of_lets d.lets in
      let all = names_of_declared d.scope.declared ++ leaves in
      let wl = binding_writes d.scope leaves form (let_view one) e named value clear in
      let free = name_free all wl.first one.name wl.named
      (part_clear (a_list (roles.binding d.scope leaves)) (own_name all) form wl.first 1 clear (ap (λ (f : Form). slice_get (parts_of f) 1) wl.is.is) refl) in
      let split = sym (among_both (names_of_declared d.scope.declared) leaves one.name) ∙ or_right (is_reserved one.name) (is_among all one.name) free in
      let fresh = or_right (is_among (names_of_declared d.scope.declared) one.name) (is_among leaves one.name) split in
      let not_op = subst (λ (ds : List DeclaredOp). is_among (names_of_declared ds) one.name ≡ false) same_ops (or_left (is_among (names_of_declared d.scope.declared) one.name) (is_among leaves one.name) split) in
      let n = lets_length d.scope.declared d.inputs w.lets in
      let m = length-map d.lets let_view in
      record {
        input_names = k.input_names;
        own_names = k.own_names;
        not_declared = k.not_declared;
        leaf_names = subst Apart (append_assoc (names_of_inputs d.inputs) (names_of_lets d.lets) (one.name ∷ []) ∙ ap (λ ns. names_of_inputs d.inputs ++ ns) (sym (mapped_more (λ (l : Let). l.name) d.lets one)))
            (all_pairs_push (λ (a b : List ℕ). a ≢ b) leaves one.name k.leaf_names (list_apart leaves one.name fresh));
        own_lets = subst (λ ns. All Own ns) (sym (mapped_more (λ (l : Let). l.name) d.lets one)) (All-push Own (names_of_lets d.lets) one.name k.own_lets (or_left (is_reserved one.name) (is_among all one.name) free, not_op));
        few_lets = longer_by 256 d.lets one (length (of_rank goal_keywords 2 before)) (omega (arith, n, m)) few;
        registers = k.registers;
        pins = k.pins;
        unpinned = k.unpinned;
        targets = k.targets;
        few = k.few;
      }

  pub next_keeps : (at : ℕ) (next : Draft) → rank goal_keywords form ≡ Some at → list_any (is_later_than goal_keywords at) before ≡ false → length (of_rank goal_keywords at before) < (bound_at goal_bounds at).most
      → IsNext form d at next → IsClear (draft_role d at) form → KeepsSoFar declared next
  next_keeps at next e none_later few (drafts.input i is same) clear =
      subst (KeepsSoFar declared) (sym same) (with_input_keeps i (input_writes d.scope.declared d.inputs form i e is clear) clear e none_later few)
  next_keeps at next e none_later few (drafts.pool registers is same) clear =
      let no_targets_yet = nothing_each (drafts.IsTargeted d.scope) (of_rank goal_keywords 5 before) d.sets (later_empty 1 e none_later 5 (omega arith)) w.targets in
      let no_pool_yet = ap pool_read (none_yet (of_rank goal_keywords 1 before) d.pool (fewer_than_one (of_rank goal_keywords 1 before) few) w.pool) in
      let old : AreDifferent (input_registers d.inputs) = subst AreDifferent (ap (λ rs. input_registers d.inputs ++ rs) no_pool_yet ∙ append-nil (input_registers d.inputs)) k.registers in
      let grown = pool_free (input_registers d.inputs) form e clear old in
      subst (KeepsSoFar declared) (sym same) (record {
        input_names = k.input_names;
        own_names = k.own_names;
        not_declared = k.not_declared;
        leaf_names = k.leaf_names;
        own_lets = k.own_lets;
        few_lets = k.few_lets;
        registers = subst (λ rs. AreDifferent (input_registers d.inputs ++ rs)) (sym is) grown;
        pins = subst (λ ts. AreDifferent (registers ++ pins_of_targets ts)) (sym no_targets_yet)
            (subst AreDifferent (sym (append-nil registers)) (subst AreDifferent (sym is) (back_different (input_registers d.inputs) (registers_in (parts_of form)) grown)));
        unpinned = k.unpinned;
        targets = k.targets;
        few = k.few;
      })
  next_keeps at next e none_later few (drafts.binding one sort named value sorted same) clear =
      subst (KeepsSoFar declared) (sym same) (with_let_keeps one sort named value clear e few)
  next_keeps at next e none_later few (drafts.assume one left right same) clear =
      subst (KeepsSoFar declared) (sym same) (record {
        input_names = k.input_names;
        own_names = k.own_names;
        not_declared = k.not_declared;
        leaf_names = k.leaf_names;
        own_lets = k.own_lets;
        few_lets = k.few_lets;
        registers = k.registers;
        pins = k.pins;
        unpinned = k.unpinned;
        targets = k.targets;
        few = (k.few.0, longer d.assumes one _ (each_length (drafts.IsAssumed d.scope) (of_rank goal_keywords 3 before) d.assumes w.assumptions) few, k.few.2);
      })
  next_keeps at next e none_later few (drafts.guard term is same) clear =
      subst (KeepsSoFar declared) (sym same) (record {
        input_names = k.input_names;
        own_names = k.own_names;
        not_declared = k.not_declared;
        leaf_names = k.leaf_names;
        own_lets = k.own_lets;
        few_lets = k.few_lets;
        registers = k.registers;
        pins = k.pins;
        unpinned = k.unpinned;
        targets = k.targets;
        few = k.few;
      })
  next_keeps at next e none_later few (drafts.target one named has_pin value same) clear =
      let taken = pool_read d.pool ++ pins_of_targets d.sets in
      let names = names_of_targets d.sets in
      let writes = target_writes d.scope names taken form clear one e named has_pin value in
      let free = target_free d.scope names taken form (target_view one) writes clear in
      let pin_is = pin_free d.scope names taken form (target_view one) writes clear in
      subst (KeepsSoFar declared) (sym same) (record {
        input_names = k.input_names;
        own_names = k.own_names;
        not_declared = k.not_declared;
        leaf_names = k.leaf_names;
        own_lets = k.own_lets;
        few_lets = k.few_lets;
        registers = k.registers;
        pins = subst (λ ps. AreDifferent (pool_read d.pool ++ ps)) (sym (filter_more (λ (s : Set). s.pin) d.sets one))
            (some_more (pool_read d.pool) (pins_of_targets d.sets) one.pin k.pins (λ r f. let p = pin_is r f in (p.fresh, p.low)));
        unpinned = All-push (λ (s : Set). bytes_eq s.name (codes "M") ≡ true → s.pin ≡ None) d.sets one k.unpinned (memory_unpinned d.scope names taken form (target_view one) writes clear);
        targets = all_pairs_push (λ (a b : Set). a.name ≢ b.name) d.sets one k.targets (among_apart (λ (t : Set). t.name) d.sets one.name free);
        few = (k.few.0, k.few.1, longer d.sets one _ (each_length (drafts.IsTargeted d.scope) (of_rank goal_keywords 5 before) d.sets w.targets) few);
      })
