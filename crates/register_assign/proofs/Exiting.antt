-- A schedule whose guard's value is 0: its words leave by the branch, with memory and inputs as at entry.
use Rattle.std.proofs.Common.{◌≡◌, ℕ, zero, suc, ◌+◌, ◌*◌, ◌/◌, ◌-◌, ◌<◌, ◌≤◌, List, [], ◌∷◌, length, take, refl, sym, ◌∙◌, ap, subst, inl, inr, ◌⊎◌, arith, Bool, true, false, cond, get_or, pos, Option, Some, None}
use Rattle.std.specs.Prelude.{All, IsTrue, IsSomeAnd, IfSome, slice_get, slice_index, count_by, is_some, ◌==◌, if◌then◌else◌}
use Rattle.std.specs.Option.{option_and_then, option_map_or}
use Rattle.std.proofs.lemmas.Bool.{false≢true}
use Rattle.std.proofs.lemmas.List.Elements.{All-nil, All-cons, All-head, All-tail}
use Rattle.std.proofs.lemmas.Option.{slice_get_past, slice_get_cases, same_Some, slice_get-get_or}
use Rattle.word_ops.specs.declared.operators.WordOp.{WordOp}
use Rattle.word_ops.specs.declared.operators.WordOp.TheVariants as ops
use Rattle.word_ops.specs.declared.sorts.Op.{Op}
use Rattle.word_ops.specs.declared.sorts.Op.TheVariants as op
use Rattle.word_ops.specs.Memory.{Memory}
use Rattle.word_ops.specs.Worlds.{World, Value, word, memory}
use Rattle.alpha_encode.specs.declared.instructions.Instr.{Instr}
use Rattle.alpha_machine.specs.States.{MachineState}
use Rattle.alpha_machine.specs.Steps.{step, address, next_pc}
use Rattle.alpha_machine.specs.Runs.{fetched, stepped, stepped_instr, unless_trap, after}
use Rattle.graph_meaning.specs.Graphs.{constant_of}
use Rattle.schedule_meaning.specs.Launches.{launches, is_store, is_load, is_branch, is_held, is_aligned, is_sum_aligned, op_instr, word_op_instr, class_at, latest, later, group_of, copied_at, overwrites}
use Rattle.schedule_meaning.specs.Fits.{Waits}
use Rattle.alpha_encode.specs.declared.instructions.Instr.TheVariants.{Beq}
use Rattle.register_assign.specs.Listings.{items_of, instr_of, copy_instr, plain_instr, row_instr, register_for}
use Rattle.register_assign.specs.Obeys.{loads}
use Rattle.register_assign.specs.Outcomes.{entry_state, instrs_of, AreWordsOf, IsExit, Exits}
use Rattle.alpha_machine.specs.Runs.{trace, stepped_first}
use Rattle.graph_meaning.specs.declared.graphs.Guard.{Guard}
use Rattle.graph_meaning.specs.declared.graphs.LaunchRow.{LaunchRow}
use Rattle.graph_meaning.specs.declared.graphs.InputClass.{InputClass}
use Rattle.graph_meaning.specs.declared.graphs.LaunchGraph.{LaunchGraph}
use Rattle.machine_table.specs.declared.tables.Table.{Table}
use Rattle.machine_table.specs.declared.tables.InstrKind.{InstrKind}
use Rattle.machine_table.specs.declared.tables.InstrKind.TheVariants as kinds
use Rattle.schedule_meaning.specs.declared.schedules.Allocation.{Allocation}
use Rattle.schedule_meaning.specs.declared.schedules.Launch.{Launch}
use Rattle.schedule_meaning.proofs.Rules.{at_each, all_at, in_list}
use Rattle.register_assign.proofs.Reached.{HasReached, IsUntouched}
use Rattle.register_assign.proofs.First.{First, first_counted}
use Rattle.schedule_meaning.proofs.Copies.{copy_kind}
use Rattle.register_assign.proofs.Destinations.{can_go}
use Rattle.schedule_meaning.proofs.Pins.{over_from, pin_from, any_at, number_same}
use Rattle.register_assign.proofs.Scene.{IsScene, kind_is, can}
use Rattle.register_assign.proofs.Proper.{inputs_apart}
use Rattle.register_assign.proofs.Groups.{earlier_cycle, store_group, held_group, branch_group, over_group}
use Rattle.register_assign.proofs.Stores.{at_take}
use Rattle.register_assign.proofs.Branch.{branch_tests, other_step, left_by}
use Rattle.register_assign.proofs.Obeying.{kind_at}
use Rattle.register_assign.proofs.Quiet.{never_traps}
use Rattle.register_assign.proofs.Whole.{after_more, instr_stepped, word_at_place, reached_after, reached_first}
use Rattle.register_assign.proofs.Falling.{words_count, items_count}

-- ---- nothing passes

none_step : (test : Launch → Bool) (m : Launch) (o : Option Launch) (b : Bool) → b ≡ false → o ≡ None → cond b (later m o) o ≡ None
none_step test m o true t e = absurd (false≢true (sym t))
none_step test m o false t e = e

latest_none : (test : Launch → Bool) (ls : List Launch) → All (λ m. test m ≡ false) ls → latest test ls ≡ None
latest_none test [] h = refl
latest_none test (m ∷ ls) h = none_step test m (latest test ls) (test m) (All-head (λ m. test m ≡ false) m ls h) (latest_none test ls (All-tail (λ m. test m ≡ false) m ls h))

-- ---- past the words

none_stepped : (instrs : List Instr) (s : MachineState) → length instrs ≤ s.pc / 4 → stepped_instr instrs s ≡ None
none_stepped instrs s past = ap (option_and_then (unless_trap s)) (slice_get_past instrs (s.pc / 4) past)

stays : (n : ℕ) (instrs : List Instr) (s : MachineState) → length instrs ≤ s.pc / 4 → after n instrs s ≡ s
stays zero instrs s past = refl
stays (suc n) instrs s past =
    ap (after n instrs) (ap (λ o. option_map_or (λ i. step i s) o s) (none_stepped instrs s past)) ∙ stays n instrs s past

after_sum : (m n : ℕ) (instrs : List Instr) (s : MachineState) → after (m + n) instrs s ≡ after n instrs (after m instrs s)
after_sum zero n instrs s = (let e : 0 + n ≡ n = omega arith in ap (λ k. after k instrs s) e)
after_sum (suc m) n instrs s =
    let e : suc m + n ≡ suc (m + n) = omega arith in
    ap (λ k. after k instrs s) e ∙ after_sum m n instrs (stepped instrs s)

nothing_traced : (n : ℕ) (instrs : List Instr) (s : MachineState) → length instrs ≤ s.pc / 4 → trace n instrs s ≡ []
nothing_traced zero instrs s past = refl
nothing_traced (suc n) instrs s past =
    let none = none_stepped instrs s past in
    ap (λ o. stepped_first o (trace n instrs (stepped instrs s))) none
    ∙ ap (trace n instrs) (ap (λ o. option_map_or (λ i. step i s) o s) none)
    ∙ nothing_traced n instrs s past

-- ---- no row is a branch

not_branch_if : (b : Bool) (i : InstrKind) → is_branch i ≡ false → option_map_or is_branch (if b then Some i else None) false ≡ false
not_branch_if true i h = h
not_branch_if false i h = refl

not_branch_if_both : (a b : Bool) (i : InstrKind) → is_branch i ≡ false
    → option_map_or is_branch (if a then (if b then Some i else None) else None) false ≡ false
not_branch_if_both true b i h = not_branch_if b i h
not_branch_if_both false b i h = refl

module _ (g : LaunchGraph) where
  no_branch_word : (o : WordOp) (xs : List ℕ) → option_map_or is_branch (word_op_instr g o xs) false ≡ false
  no_branch_word ops.Lda xs = not_branch_if (is_some (constant_of g (slice_index xs 1))) kinds.Lda refl
  no_branch_word ops.Ldah xs = not_branch_if (is_some (constant_of g (slice_index xs 1))) kinds.Ldah refl
  no_branch_word _ xs = refl

  no_branch_op : (o : Op) (xs : List ℕ) → option_map_or is_branch (op_instr g o xs) false ≡ false
  no_branch_op (op.Word o) xs = no_branch_word o xs
  no_branch_op (op.Select access) xs = not_branch_if (is_aligned g access xs) (kinds.Load access) refl
  no_branch_op (op.Store access) xs = not_branch_if (is_aligned g access xs) (kinds.Store access) refl
  no_branch_op (op.Load access) xs =
      not_branch_if_both (is_sum_aligned g access xs) (is_some (constant_of g (slice_index xs 2))) (kinds.Load access) refl
  no_branch_op (op.Put access) xs =
      not_branch_if_both (is_sum_aligned g access xs) (is_some (constant_of g (slice_index xs 2))) (kinds.Store access) refl
  no_branch_op op.Entry xs = refl
  no_branch_op (op.Input r) xs = refl
  no_branch_op (op.Constant c) xs = refl
  no_branch_op (op.Declared d a) xs = refl

module _ (g : LaunchGraph) (table : Table) (allocation : Allocation) (k : ℕ) (ordered : List Launch) (w : World)
    (value : ℕ → Value)
    (scene : IsScene g table allocation k ordered w value) (exit : IsExit g value)
    (words : List ℕ) (are : AreWordsOf (items_of g table allocation ordered) words) where
  one_branch : (o : Option Guard) → IsSomeAnd o (λ guard. value guard.class ≡ word 0) → IfSome o (λ _. count_by (launches g is_branch) ordered ≡ 1) → count_by (launches g is_branch) ordered ≡ 1
  one_branch None h c = absurd h
  one_branch (Some guard) h c = c

  the_branch : First (launches g is_branch) ordered
  the_branch = first_counted (launches g is_branch) ordered (let c : count_by (launches g is_branch) ordered ≡ 1 = one_branch g.guard exit scene.fits.one_branch in omega arith)

  abbrev b : ℕ
  b = the_branch.0

  abbrev l : Launch
  l = the_branch.1

  abbrev here : slice_get ordered b ≡ Some l
  here = the_branch.2

  inside : b < length ordered
  inside = in_list ordered b l here

  no_row_by : (o : Option LaunchRow) → slice_get g.rows l.row ≡ o → slice_get g.rows l.row ≡ None
  no_row_by None e = e
  no_row_by (Some r) e =
      absurd (false≢true (sym (ap (λ q. option_map_or is_branch q false) (kind_is g table allocation k ordered w value scene b l here r.class r.op r.name r.operands e) ∙ no_branch_op g r.op r.operands) ∙ the_branch.3))

  no_copy_by : (o : Option ℕ) → copied_at g l.row ≡ o → copied_at g l.row ≡ None
  no_copy_by None e = e
  no_copy_by (Some class) e = absurd (false≢true (sym (ap (λ q. option_map_or is_branch q false) (copy_kind g l.row class e)) ∙ the_branch.3))

  no_row : (copied_at g l.row ≡ None) × (slice_get g.rows l.row ≡ None)
  no_row = (no_copy_by (copied_at g l.row) refl, no_row_by (slice_get g.rows l.row) refl)

  waits : (j : ℕ) (m : Launch) → slice_get ordered j ≡ Some m → IsTrue (launches g is_store m) ⊎ (IsTrue (launches g is_load m) × IsTrue (is_held g)) ⊎ IsTrue (overwrites g m) → l.cycle ≤ m.cycle
  waits j m e h =
      at_each (λ b. IsTrue (launches g is_branch b) → b.cycle ≤ m.cycle) ordered (at_each (Waits g ordered) ordered scene.fits.after_branch j m e h) b l here the_branch.3

  -- a launch that waits doesn't stand before the branch
  not_before : (j : ℕ) (m : Launch) → j < b → slice_get ordered j ≡ Some m → IsTrue (launches g is_store m) ⊎ (IsTrue (launches g is_load m) × IsTrue (is_held g)) ⊎ IsTrue (overwrites g m) → 1 < group_of g m → ⊥
  not_before j m lt e h more =
      let le : l.cycle ≤ m.cycle = waits j m e h in
      let less : m.cycle < l.cycle = earlier_cycle g ordered scene.order j b m l lt e here
      (let one : group_of g l ≡ 1 = branch_group g l allocation ordered
      (can_go g table allocation k ordered scene.graph scene.proper scene.fits b l here) the_branch.3 in omega arith) in
      absurd (omega arith)

  false_from : (q : Bool) → ¬ (q ≡ true) → q ≡ false
  false_from true n = absurd (n refl)
  false_from false n = refl

  no_store : All (λ m. launches g is_store m ≡ false) (take b ordered)
  no_store =
      all_at (λ m. launches g is_store m ≡ false) (take b ordered) (λ j m lt e.
      let p = at_take ordered b j m e in
      false_from (launches g is_store m) (λ t. not_before j m p.0 p.1 (inl t) (let three : group_of g m ≡ 3 =
      store_group g m allocation ordered
      (can_go g table allocation k ordered scene.graph scene.proper scene.fits j m p.1) t in omega arith)))

  abbrev instrs : List Instr
  instrs = instrs_of (items_of g table allocation ordered)

  abbrev at_branch : MachineState
  at_branch = after b instrs (entry_state w)

  each : (n : ℕ) (m : Launch) (s : MachineState) → n < b → slice_get ordered n ≡ Some m → HasReached g allocation w value ordered n s → HasReached g allocation w value ordered (n + 1) (step (instr_of g table allocation ordered n m) s)
  each n m s lt e reached = other_step g table allocation k ordered w value scene n m e s reached (the_branch.4 n m lt e)

  reached_at : (n : ℕ) → n ≤ b → HasReached g allocation w value ordered n (after n instrs (entry_state w))
  reached_at n le = reached_after g table allocation ordered w value b each (λ n m s lt e reached. never_traps g table allocation k ordered w value scene n m s reached e) n le (let i = inside in omega arith) (reached_first g allocation w value ordered scene.world scene.true_in)

  same_memory : {a c : Memory} → memory a ≡ memory c → a ≡ c
  same_memory e = cc

  memory_kept : at_branch.memory ≡ w.memory_at_entry
  memory_kept =
      same_memory
      ((reached_at b (omega arith)).memory_is
      ∙ ap (λ o. value (option_map_or (λ m. class_at g m.row) o g.entry)) (latest_none (launches g is_store) (take b ordered) no_store)
      ∙ scene.true_in.entry)

  abbrev left : MachineState
  left = record { registers = at_branch.registers; memory = at_branch.memory; pc = address (next_pc at_branch.pc) 4 (pos (length ordered - b)) }

  left_pc : left.pc ≡ 4 * length ordered + 4
  left_pc =
      let pc : at_branch.pc ≡ 4 * b = (reached_at b (omega arith)).pc in
      let i = inside in
      let few = scene.few in
      ap (λ p. address (next_pc p) 4 (pos (length ordered - b))) pc ∙ omega arith

  fetched_at : (n : ℕ) (m : Launch) → n ≤ b → slice_get ordered n ≡ Some m → fetched instrs (after n instrs (entry_state w)) ≡ Some (instr_of g table allocation ordered n m)
  fetched_at n m le e =
      let pc : (after n instrs (entry_state w)).pc ≡ 4 * n = (reached_at n le).pc in
      ap (slice_get instrs) (let p : (after n instrs (entry_state w)).pc / 4 ≡ n = omega arith in p) ∙ word_at_place g table allocation ordered n m e

  at_place : (n : ℕ) (m : Launch) → n ≤ b → slice_get ordered n ≡ Some m → stepped_instr instrs (after n instrs (entry_state w)) ≡ Some (instr_of g table allocation ordered n m)
  at_place n m le e =
      instr_stepped instrs (after n instrs (entry_state w)) (instr_of g table allocation ordered n m) (fetched_at n m le e) (never_traps g table allocation k ordered w value scene n m (after n instrs (entry_state w)) (reached_at n le) e)

  leaves : stepped instrs at_branch ≡ left
  leaves =
      ap (λ o. option_map_or (λ i. step i at_branch) o at_branch) (at_place b l (omega arith) here)
      ∙ left_by g table allocation k ordered w value scene b l here at_branch (reached_at b (omega arith)) no_row exit

  count : length instrs ≡ length ordered
  count = items_count g table allocation ordered 0 ordered

  past : length instrs ≤ left.pc / 4
  past = let c = count in let p = left_pc in omega arith

  ends : after (length words) instrs (entry_state w) ≡ left
  ends =
      let total : length words ≡ length ordered = words_count (items_of g table allocation ordered) words are ∙ count in
      let i = inside in
      let parts : length words ≡ suc b + (length ordered - suc b) = omega arith in
      ap (λ n. after n instrs (entry_state w)) parts
      ∙ after_sum (suc b) (length ordered - suc b) instrs (entry_state w)
      ∙ ap (after (length ordered - suc b) instrs) (after_more b instrs (entry_state w) ∙ leaves)
      ∙ stays (length ordered - suc b) instrs left past

  -- ---- what was stepped

  abbrev IsNoLoad : Instr → Type 0
  IsNoLoad i = ¬ IsTrue (loads i)

  before_or_branch : (n : ℕ) → n ≤ b → (n < b) ⊎ (n ≡ b)
  before_or_branch n h = grind arith

  no_load_at : IsTrue (is_held g) → (n : ℕ) (m : Launch) → n ≤ b → slice_get ordered n ≡ Some m → IsNoLoad (instr_of g table allocation ordered n m)
  no_load_at held n m le e t =
      let load : launches g is_load m ≡ true = ap (λ o. option_map_or is_load o false) (kind_at g table allocation ordered n m (can g table allocation k ordered w value scene n m e)) ∙ t in
      elim (before_or_branch n le) [
        | inl lt ↦
            not_before n m lt e (inr (inl (load, held))) (held_group g m allocation ordered
            (can_go g table allocation k ordered scene.graph scene.proper scene.fits n m e) held load)
        | inr same ↦ (
            let one : m ≡ l = same_Some m l (sym e ∙ ap (slice_get ordered) same ∙ here) in
            false≢true (sym (branch_tests g table allocation k ordered w value scene b l here is_load no_row) ∙ ap (launches g is_load) (sym one) ∙ load))
      ]

  traced : IsTrue (is_held g) → (d n i : ℕ) → i + d ≡ b → All IsNoLoad (trace n instrs (after i instrs (entry_state w)))
  traced held d zero i e = All-nil IsNoLoad
  traced held zero (suc n) i e =
      let same : i ≡ b = (omega arith) in
      subst (λ k. All IsNoLoad (trace (suc n) instrs (after k instrs (entry_state w)))) (sym same)
      (subst (All IsNoLoad)
      (sym (ap (λ o. stepped_first o (trace n instrs (stepped instrs at_branch))) (at_place b l (omega arith) here)
      ∙ ap (λ q. instr_of g table allocation ordered b l ∷ q) (ap (trace n instrs) leaves ∙ nothing_traced n instrs left past)))
      (All-cons IsNoLoad (instr_of g table allocation ordered b l) [] (no_load_at held b l (omega arith) here) (All-nil IsNoLoad)))
  traced held (suc d) (suc n) i e =
      let lt : i < length ordered = (let q = inside in omega arith) in
      let le : i ≤ b = omega arith in
      let rest = traced held d n (suc i) (omega arith) in
      elim ((slice_get_cases ordered i).1) [
        | inl a ↦ (
            subst (All IsNoLoad)
            (sym (ap (λ o. stepped_first o (trace n instrs (stepped instrs (after i instrs (entry_state w))))) (at_place i a.0 le a.2)))
            (All-cons IsNoLoad (instr_of g table allocation ordered i a.0) (trace n instrs (stepped instrs (after i instrs (entry_state w)))) (no_load_at held i a.0 le a.2)
            (subst (λ s. All IsNoLoad (trace n instrs s)) (after_more i instrs (entry_state w)) rest)))
        | inr c ↦ (let q : length ordered ≤ i = c.0 in absurd (omega arith))
      ]

  -- what overwrites an input comes after the branch
  input_kept : (i : InputClass) (at : ℕ) → slice_get g.inputs at ≡ Some i → IsUntouched g ordered b i.reg
  input_kept i at there j m lt e wrote =
      let over : overwrites g m ≡ true = over_from g i.reg m wrote (any_at (λ x. x.reg == i.reg) g.inputs at i there (number_same i.reg i.reg refl)) in
      not_before j m lt e (inr (inr over)) (let four : group_of g m ≡ 4 = over_group g m over in omega arith)

  is_branch_word : instr_of g table allocation ordered b l ≡ Beq (register_for g table allocation ordered l (option_map_or (λ guard. guard.class) g.guard 0)) (pos (length ordered - b))
  is_branch_word =
      ap (λ o. option_map_or (copy_instr g table allocation ordered b l) o (plain_instr g table allocation ordered b l)) no_row.0
      ∙ ap (λ o. option_map_or (λ r. row_instr g table allocation ordered b l r.op r.operands) o (Beq (register_for g table allocation ordered l (option_map_or (λ guard. guard.class) g.guard 0)) (pos (length ordered - b)))) no_row.1

  total : length words ≡ length ordered
  total = words_count (items_of g table allocation ordered) words are ∙ count

  pub exits : Exits g w (items_of g table allocation ordered) words
  exits = record {
    state = left;
    runs = record {
      instrs = instrs;
      decode = are;
      begins = refl;
      steps = ends;
      ends = left_pc ∙ ap (λ n. 4 * n + 4) (sym (words_count (items_of g table allocation ordered) words are ∙ count));
    };
    memory_is = memory_kept;
    inputs = λ i d lt. (reached_at b (omega arith)).kept (get_or g.inputs i d).reg (inputs_apart g scene.proper i d lt) (input_kept (get_or g.inputs i d) i (slice_get-get_or g.inputs i d lt));
    others = λ r out no_pin. (reached_at b (omega arith)).kept r out (λ j m lt e wrote. no_pin (pin_from g r m wrote));
    place = b;
    inside = (let t = total in let i = inside in omega arith);
    each = λ n le. (reached_at n le).pc;
    branch = (register_for g table allocation ordered l (option_map_or (λ guard. guard.class) g.guard 0), word_at_place g table allocation ordered b l here ∙ ap Some is_branch_word ∙ ap (λ n. Some (Beq (register_for g table allocation ordered l (option_map_or (λ guard. guard.class) g.guard 0)) (pos (n - b)))) (sym total));
    taken = after_more b instrs (entry_state w) ∙ leaves;
    no_load = λ held. traced held b (length (items_of g table allocation ordered)) 0 (omega arith);
  }
