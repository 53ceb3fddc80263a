-- The step of each kind of word takes what is reached one word further.
use Rattle.std.proofs.Common.{◌≡◌, ℕ, suc, ◌+◌, ◌-◌, ◌*◌, ◌<◌, List, [], ◌∷◌, ◌++◌, length, map, take, refl, sym, ◌∙◌, ap, subst, inl, inr, ◌⊎◌, arith, Bool, true, false, pos, Some, None}
use Rattle.std.specs.Prelude.{All, Contains, IsTrue, IsSomeAnd, slice_get, slice_index, is_some, if◌then◌else◌}
use Rattle.std.specs.Option.{option_map_or}
use Rattle.std.specs.Int.Bits.{or_zero_l}
use Rattle.std.proofs.lemmas.Bool.{false≢true}
use Rattle.std.proofs.lemmas.List.Elements.{All-head, All-tail, All-contains}
use Rattle.std.proofs.lemmas.Option.{same_Some}
use Rattle.word_ops.specs.declared.sorts.Access.{Access}
use Rattle.word_ops.specs.declared.operates.Operate.{Operate as OperateOf}
use Rattle.word_ops.specs.declared.operates.Operate.TheVariants as operates
use Rattle.word_ops.specs.declared.operators.WordOp.{WordOp}
use Rattle.word_ops.specs.declared.operators.WordOp.TheVariants as ops
use Rattle.word_ops.specs.declared.sorts.Op.{Op}
use Rattle.word_ops.specs.declared.sorts.Op.TheVariants as op
use Rattle.word_ops.specs.Operates.{row_of}
use Rattle.word_ops.specs.Operators.{value_at, operate_value as operate_gives}
use Rattle.word_ops.specs.Values.{lda, ldah, bis}
use Rattle.word_ops.specs.Memory.{Memory, loaded, stored, load, put}
use Rattle.word_ops.specs.Worlds.{World, Value, word, memory}
use Rattle.word_ops.specs.Meanings.{as_word, as_memory, arity_of_op}
use Rattle.alpha_machine.specs.States.{MachineState}
use Rattle.alpha_machine.specs.Steps.{step, second_value, is_unary, operate_result, address, with_register, next_pc}
use Rattle.machine_table.specs.Tables.{MayUse}
use Rattle.graph_meaning.specs.Graphs.{constant_of, row_meaning}
use Rattle.schedule_meaning.specs.Launches.{launches, gives_word, is_store, is_load, instr_at, is_aligned, is_sum_aligned, op_instr, word_op_instr as launch_instr, class_at, memory_after, plain, op_operands, operate_operands, copy_operands, copied_at}
use Rattle.schedule_meaning.specs.declared.schedules.Operand.{Operand}
use Rattle.register_assign.specs.Listings.{register_at, register_for, second_for, displacement_of, instr_of, row_instr, copy_instr, branch_class, reg}
use Rattle.alpha_encode.specs.declared.instructions.Instr.{Instr}
use Rattle.alpha_encode.specs.declared.instructions.Instr.TheVariants as instrs
use Rattle.graph_meaning.specs.declared.graphs.LaunchRow.{LaunchRow}
use Rattle.graph_meaning.specs.declared.graphs.LaunchGraph.{LaunchGraph}
use Rattle.machine_table.specs.declared.tables.Table.{Table}
use Rattle.machine_table.specs.declared.tables.InstrKind.{InstrKind}
use Rattle.machine_table.specs.declared.tables.InstrKind.TheVariants as kinds
use Rattle.schedule_meaning.specs.declared.schedules.Allocation.{Allocation}
use Rattle.schedule_meaning.specs.declared.schedules.Launch.{Launch}
use Rattle.register_assign.proofs.Reached.{HasReached}
use Rattle.register_assign.proofs.Scene.{IsScene, CanUse, uses, row_with, kind_is, instr_is, value_is, arity_is, operand_value, can_is, reads_is, memory_class_is, place_few}
use Rattle.register_assign.proofs.Operands.{displaced_constant, where_passed, plain_reads, second_reads, address_reads, base_reads, high_base_reads}
use Rattle.register_assign.proofs.Stores.{memory_found, all_stores_before, latest_push_last}
use Rattle.register_assign.proofs.Running.{one_word_more, take_more, latest_push, less_or_last}
use Rattle.register_assign.proofs.Proper.{pool_low}
use Rattle.register_assign.proofs.Destinations.{none_31}
use Rattle.schedule_meaning.proofs.Copies.{copy_kind, copy_class, copy_reads}

-- ---- the operators of the machine's own instructions

lda_value : (a b c : ℕ) → value_at ops.Lda a b c ≡ lda a b
unfolding value_at
lda_value a b c = refl

ldah_value : (a b c : ℕ) → value_at ops.Ldah a b c ≡ ldah a b
unfolding value_at
ldah_value a b c = refl

load_is : (access : Access) (m : Memory) (x k : ℕ) → loaded access m (lda x k) ≡ load access m x k
unfolding load
load_is access m x k = refl

put_is : (access : Access) (m : Memory) (x k v : ℕ) → stored access m (lda x k) v ≡ put access m x k v
unfolding put
put_is access m x k v = refl

operate_arity : (o : OperateOf) → ((is_unary o ≡ true) × ((row_of o).arity ≡ 1)) ⊎ ((is_unary o ≡ false) × ((row_of o).arity ≡ 2))
operate_arity operates.Sextb = inl (refl, refl)
operate_arity operates.Sextw = inl (refl, refl)
operate_arity _ = inr (refl, refl)

abbrev as_second_operand : ℕ → Operand
as_second_operand y = record { class = y; second = true }

-- ---- lists of a known length

one_of : (xs : List ℕ) → length xs ≡ 1 → (x : ℕ) × (xs ≡ x ∷ [])
one_of [] h = absurd (omega arith)
one_of (x ∷ []) h = (x, refl)
one_of (x ∷ y ∷ ys) h = absurd (omega arith)

pub two_of : (xs : List ℕ) → length xs ≡ 2 → (x : ℕ) × (y : ℕ) × (xs ≡ x ∷ y ∷ [])
two_of [] h = absurd (omega arith)
two_of (x ∷ xs) h = let t = one_of xs (omega arith) in (x, t.0, ap (λ ys. x ∷ ys) t.1)

pub three_of : (xs : List ℕ) → length xs ≡ 3 → (x : ℕ) × (y : ℕ) × (z : ℕ) × (xs ≡ x ∷ y ∷ z ∷ [])
three_of [] h = absurd (omega arith)
three_of (x ∷ xs) h = let t = two_of xs (omega arith) in (x, t.0, t.1, ap (λ ys. x ∷ ys) t.2)

pub four_of : (xs : List ℕ) → length xs ≡ 4 → (x : ℕ) × (y : ℕ) × (z : ℕ) × (u : ℕ) × (xs ≡ x ∷ y ∷ z ∷ u ∷ [])
four_of [] h = absurd (omega arith)
four_of (x ∷ xs) h = let t = three_of xs (omega arith) in (x, t.0, t.1, t.2, ap (λ ys. x ∷ ys) t.3)

-- ---- the tests of an instruction that is launched where others pass

tests_if : (b : Bool) (i : InstrKind) → b ≡ true → (f : InstrKind → Bool)
    → option_map_or f (if b then Some i else None) false ≡ f i
tests_if b i e f = ap (λ c. option_map_or f (if c then Some i else None) false) e

tests_if_both : (a b : Bool) (i : InstrKind) → a ≡ true → b ≡ true → (f : InstrKind → Bool)
    → option_map_or f (if a then (if b then Some i else None) else None) false ≡ f i
tests_if_both a b i h e f =
    ap (λ c. option_map_or f (if c then (if b then Some i else None) else None) false) h ∙ tests_if b i e f

bis_value : (v : ℕ) → value_at (ops.Operate operates.Bis) 0 v 0 ≡ v
unfolding value_at operate_gives bis
bis_value v = or_zero_l v

module _ (g : LaunchGraph) (table : Table) (allocation : Allocation) (k : ℕ) (ordered : List Launch) (w : World)
    (value : ℕ → Value)
    (scene : IsScene g table allocation k ordered w value)
    (n : ℕ) (l : Launch) (s : MachineState) (reached : HasReached g allocation w value ordered n s) (here : slice_get ordered n ≡ Some l) where
  abbrev Usable : Operand → Type 0
  Usable p = CanUse g table ordered l p

  abbrev May : InstrKind → Type 0
  May i = MayUse table i l.slot

  abbrev Next : MachineState → Type 0
  Next t = HasReached g allocation w value ordered (n + 1) t

  -- a word written to the launch's own register
  given : (v : ℕ) → IsTrue (launches g gives_word l) → launches g is_store l ≡ false → word v ≡ value (class_at g l.row) → Next (with_register s (register_at g allocation ordered n) v)
  given v gives no_store is =
      one_word_more g table allocation k ordered scene.graph scene.proper scene.fits scene.is_table w value n s l v
      reached here gives no_store is (place_few g table allocation k ordered w value scene n l here)

  taken : take (n + 1) ordered ≡ take n ordered ++ l ∷ []
  taken = ap (λ m. take m ordered) (let e : n + 1 ≡ suc n = omega arith in e) ∙ take_more ordered n l here

  -- registers and the pc after a word that writes no register
  no_word : (m : Memory) → launches g gives_word l ≡ false → memory m ≡ value (memory_after g (take (n + 1) ordered)) → Next (record { registers = s.registers; memory = m; pc = next_pc s.pc })
  no_word m gives is =
      let pc : s.pc ≡ 4 * n = reached.pc in
      let few = place_few g table allocation k ordered w value scene n l here in
      record {
        pc = omega arith;
        count = reached.count;
        memory_is = is;
        kept = λ r out none. reached.kept r out (λ j m lt e. none j m (omega arith) e);
        given = λ j q lt e gq lasts. elim (less_or_last j n lt) [
          | inl less ↦ reached.given j q less e gq (λ i m above below. lasts i m above (omega arith))
          | inr same ↦ (
              let one : q ≡ l = same_Some q l (sym e ∙ ap (slice_get ordered) same ∙ here) in
              absurd (false≢true (sym gives ∙ subst (λ x. launches g gives_word x ≡ true) one gq)))
        ];
      }

  stores : (m : Memory) → IsTrue (launches g is_store l) → launches g gives_word l ≡ false → memory m ≡ value (class_at g l.row) → Next (record { registers = s.registers; memory = m; pc = next_pc s.pc })
  stores m is_one gives is =
      no_word m gives
      (is ∙ sym (ap (λ ls. value (memory_after g ls)) taken
      ∙ ap (λ o. value (option_map_or (λ m. class_at g m.row) o g.entry)) (latest_push_last (launches g is_store) (take n ordered) l is_one (all_stores_before g ordered scene.order scene.fits.memory allocation scene.fits.destinations n l here (inr is_one)))))

  -- a word that neither writes a register nor stores
  pub passed : launches g is_store l ≡ false → launches g gives_word l ≡ false → Next (record { registers = s.registers; memory = s.memory; pc = next_pc s.pc })
  passed no_store gives =
      no_word s.memory gives
      (reached.memory_is ∙ sym (ap (λ ls. value (memory_after g ls)) taken ∙ ap (λ o. value (option_map_or (λ m. class_at g m.row) o g.entry)) (latest_push (launches g is_store) (take n ordered) l no_store)))

  module _ (class : ℕ) (o : Op) (name : List ℕ) (xs : List ℕ) (row : slice_get g.rows l.row ≡ Some (row_with class o name xs)) where
    abbrev kind : instr_at g l.row ≡ op_instr g o xs
    kind = kind_is g table allocation k ordered w value scene n l here class o name xs row

    abbrev reads : All Usable (op_operands o xs)
    reads = reads_is g table allocation k ordered w value scene n l here class o name xs row

    abbrev can : IsSomeAnd (op_instr g o xs) (λ i. MayUse table i l.slot)
    can = can_is g table allocation k ordered w value scene n l here class o name xs row

    abbrev meant : value (class_at g l.row) ≡ row_meaning w (row_with class o name xs) (map value xs)
    meant = value_is g table allocation k ordered w value scene n l here class o name xs row

    abbrev instr : instr_of g table allocation ordered n l ≡ row_instr g table allocation ordered n l o xs
    instr = instr_is g table allocation k ordered w value scene n l here class o name xs row

    -- the memory that a load or store finds
    found : IsTrue (launches g is_load l) ⊎ IsTrue (launches g is_store l) → value (slice_index xs 0) ≡ memory s.memory
    found uses =
        ap value (sym (memory_class_is g table allocation k ordered w value scene n l here class o name xs row) ∙ memory_found g ordered scene.order scene.fits.memory allocation scene.fits.destinations n l here uses)
        ∙ sym reached.memory_is

    does : (test : InstrKind → Bool) (b : Bool) → option_map_or test (op_instr g o xs) false ≡ b → launches g test l ≡ b
    does test b h = ap (λ q. option_map_or test q false) kind ∙ h

  abbrev now : Instr
  now = instr_of g table allocation ordered n l

  -- ---- lda and ldah

  module _ (class x d : ℕ) (name : List ℕ) (row : slice_get g.rows l.row ≡ Some (row_with class (op.Word ops.Lda) name (x ∷ d ∷ []))) where
    lda_step : Next (step now s)
    lda_step =
        let c = displaced_constant g d kinds.Lda (λ i. MayUse table i l.slot) (can class (op.Word ops.Lda) name (x ∷ d ∷ []) row) in
        let test : (f : InstrKind → Bool) → launches g f l ≡ f kinds.Lda = λ f. does class (op.Word ops.Lda) name (x ∷ d ∷ []) row f (f kinds.Lda) (ap (λ q. option_map_or f (if is_some q then Some kinds.Lda else None) false) c.1) in
        subst (λ i. Next (step i s)) (sym (instr class (op.Word ops.Lda) name (x ∷ d ∷ []) row))
        (given (address (slice_index s.registers (register_for g table allocation ordered l x)) 1 (displacement_of g d)) (test gives_word) (test is_store)
        (ap word (base_reads g table allocation k ordered w value scene n l s reached here x d c.0 (All-head Usable (plain x) [] (reads class (op.Word ops.Lda) name (x ∷ d ∷ []) row)) c.1)
        ∙ ap word (sym (lda_value (as_word (value x)) (as_word (value d)) 0))
        ∙ sym (meant class (op.Word ops.Lda) name (x ∷ d ∷ []) row)))

  module _ (class x d : ℕ) (name : List ℕ) (row : slice_get g.rows l.row ≡ Some (row_with class (op.Word ops.Ldah) name (x ∷ d ∷ []))) where
    ldah_step : Next (step now s)
    ldah_step =
        let c = displaced_constant g d kinds.Ldah (λ i. MayUse table i l.slot) (can class (op.Word ops.Ldah) name (x ∷ d ∷ []) row) in
        let test : (f : InstrKind → Bool) → launches g f l ≡ f kinds.Ldah = λ f. does class (op.Word ops.Ldah) name (x ∷ d ∷ []) row f (f kinds.Ldah) (ap (λ q. option_map_or f (if is_some q then Some kinds.Ldah else None) false) c.1) in
        subst (λ i. Next (step i s)) (sym (instr class (op.Word ops.Ldah) name (x ∷ d ∷ []) row))
        (given (address (slice_index s.registers (register_for g table allocation ordered l x)) 65536 (displacement_of g d)) (test gives_word) (test is_store)
        (ap word (high_base_reads g table allocation k ordered w value scene n l s reached here x d c.0 (All-head Usable (plain x) [] (reads class (op.Word ops.Ldah) name (x ∷ d ∷ []) row)) c.1)
        ∙ ap word (sym (ldah_value (as_word (value x)) (as_word (value d)) 0))
        ∙ sym (meant class (op.Word ops.Ldah) name (x ∷ d ∷ []) row)))

  -- ---- loads

  module _ (access : Access) (class m a : ℕ) (name : List ℕ) (row : slice_get g.rows l.row ≡ Some (row_with class (op.Select access) name (m ∷ a ∷ []))) where
    select_step : Next (step now s)
    select_step =
        let enough =
        (where_passed (is_aligned g access (m ∷ a ∷ [])) (Some (kinds.Load access)) May (can class (op.Select access) name (m ∷ a ∷ []) row)).0 in
        let test : (f : InstrKind → Bool) → launches g f l ≡ f (kinds.Load access) = λ f.
        does class (op.Select access) name (m ∷ a ∷ []) row f (f (kinds.Load access)) (tests_if (is_aligned g access (m ∷ a ∷ [])) (kinds.Load access) enough f) in
        subst (λ i. Next (step i s)) (sym (instr class (op.Select access) name (m ∷ a ∷ []) row))
        (given (loaded access s.memory (address (slice_index s.registers (register_for g table allocation ordered l a)) 1 (pos 0))) (test gives_word) (test is_store)
        (ap (λ b. word (loaded access s.memory b)) (address_reads g table allocation k ordered w value scene n l s reached here a (All-head Usable (plain a) [] (reads class (op.Select access) name (m ∷ a ∷ []) row)) (operand_value g table allocation k ordered w value scene n l here class (op.Select access) name (m ∷ a ∷ []) row 1 (omega arith)))
        ∙ ap (λ v. word (loaded access (as_memory v) (as_word (value a)))) (sym (found class (op.Select access) name (m ∷ a ∷ []) row (inl (test is_load))))
        ∙ sym (meant class (op.Select access) name (m ∷ a ∷ []) row)))

  module _ (access : Access) (class m x d : ℕ) (name : List ℕ) (row : slice_get g.rows l.row ≡ Some (row_with class (op.Load access) name (m ∷ x ∷ d ∷ []))) where
    load_step : Next (step now s)
    load_step =
        let p =
        where_passed (is_sum_aligned g access (m ∷ x ∷ d ∷ [])) (if is_some (constant_of g d) then Some (kinds.Load access) else None) May
        (can class (op.Load access) name (m ∷ x ∷ d ∷ []) row) in
        let c = displaced_constant g d (kinds.Load access) May p.1 in
        let test : (f : InstrKind → Bool) → launches g f l ≡ f (kinds.Load access) = λ f.
        does class (op.Load access) name (m ∷ x ∷ d ∷ []) row f (f (kinds.Load access))
        (tests_if_both (is_sum_aligned g access (m ∷ x ∷ d ∷ [])) (is_some (constant_of g d)) (kinds.Load access) p.0 (ap is_some c.1) f) in
        subst (λ i. Next (step i s)) (sym (instr class (op.Load access) name (m ∷ x ∷ d ∷ []) row))
        (given (loaded access s.memory (address (slice_index s.registers (register_for g table allocation ordered l x)) 1 (displacement_of g d))) (test gives_word) (test is_store)
        (ap (λ b. word (loaded access s.memory b)) (base_reads g table allocation k ordered w value scene n l s reached here x d c.0 (All-head Usable (plain x) [] (reads class (op.Load access) name (m ∷ x ∷ d ∷ []) row)) c.1)
        ∙ ap word (load_is access s.memory (as_word (value x)) (as_word (value d)))
        ∙ ap (λ v. word (load access (as_memory v) (as_word (value x)) (as_word (value d)))) (sym (found class (op.Load access) name (m ∷ x ∷ d ∷ []) row (inl (test is_load))))
        ∙ sym (meant class (op.Load access) name (m ∷ x ∷ d ∷ []) row)))

  -- ---- stores

  module _ (access : Access) (class m a v : ℕ) (name : List ℕ) (row : slice_get g.rows l.row ≡ Some (row_with class (op.Store access) name (m ∷ a ∷ v ∷ []))) where
    store_step : Next (step now s)
    store_step =
        let enough =
        (where_passed (is_aligned g access (m ∷ a ∷ v ∷ [])) (Some (kinds.Store access)) May (can class (op.Store access) name (m ∷ a ∷ v ∷ []) row)).0 in
        let test : (f : InstrKind → Bool) → launches g f l ≡ f (kinds.Store access) = λ f.
        does class (op.Store access) name (m ∷ a ∷ v ∷ []) row f (f (kinds.Store access)) (tests_if (is_aligned g access (m ∷ a ∷ v ∷ [])) (kinds.Store access) enough f) in
        let both = reads class (op.Store access) name (m ∷ a ∷ v ∷ []) row in
        subst (λ i. Next (step i s)) (sym (instr class (op.Store access) name (m ∷ a ∷ v ∷ []) row))
        (stores (stored access s.memory (address (slice_index s.registers (register_for g table allocation ordered l a)) 1 (pos 0)) (slice_index s.registers (register_for g table allocation ordered l v))) (test is_store) (test gives_word)
        (ap (λ b. memory (stored access s.memory b (slice_index s.registers (register_for g table allocation ordered l v)))) (address_reads g table allocation k ordered w value scene n l s reached here a (All-head Usable (plain a) (plain v ∷ []) both) (operand_value g table allocation k ordered w value scene n l here class (op.Store access) name (m ∷ a ∷ v ∷ []) row 1 (omega arith)))
        ∙ ap (λ u. memory (stored access s.memory (as_word (value a)) (as_word u))) (plain_reads g table allocation k ordered w value scene n l s reached here v (All-head Usable (plain v) [] (All-tail Usable (plain a) (plain v ∷ []) both)))
        ∙ ap (λ u. memory (stored access (as_memory u) (as_word (value a)) (as_word (value v)))) (sym (found class (op.Store access) name (m ∷ a ∷ v ∷ []) row (inr (test is_store))))
        ∙ sym (meant class (op.Store access) name (m ∷ a ∷ v ∷ []) row)))

  module _ (access : Access) (class m x d v : ℕ) (name : List ℕ) (row : slice_get g.rows l.row ≡ Some (row_with class (op.Put access) name (m ∷ x ∷ d ∷ v ∷ []))) where
    put_step : Next (step now s)
    put_step =
        let p =
        where_passed (is_sum_aligned g access (m ∷ x ∷ d ∷ v ∷ [])) (if is_some (constant_of g d) then Some (kinds.Store access) else None) May
        (can class (op.Put access) name (m ∷ x ∷ d ∷ v ∷ []) row) in
        let c = displaced_constant g d (kinds.Store access) May p.1 in
        let test : (f : InstrKind → Bool) → launches g f l ≡ f (kinds.Store access) = λ f.
        does class (op.Put access) name (m ∷ x ∷ d ∷ v ∷ []) row f (f (kinds.Store access))
        (tests_if_both (is_sum_aligned g access (m ∷ x ∷ d ∷ v ∷ [])) (is_some (constant_of g d)) (kinds.Store access) p.0 (ap is_some c.1) f) in
        let both = reads class (op.Put access) name (m ∷ x ∷ d ∷ v ∷ []) row in
        subst (λ i. Next (step i s)) (sym (instr class (op.Put access) name (m ∷ x ∷ d ∷ v ∷ []) row))
        (stores (stored access s.memory (address (slice_index s.registers (register_for g table allocation ordered l x)) 1 (displacement_of g d)) (slice_index s.registers (register_for g table allocation ordered l v))) (test is_store) (test gives_word)
        (ap (λ b. memory (stored access s.memory b (slice_index s.registers (register_for g table allocation ordered l v)))) (base_reads g table allocation k ordered w value scene n l s reached here x d c.0 (All-head Usable (plain x) (plain v ∷ []) both) c.1)
        ∙ ap memory (put_is access s.memory (as_word (value x)) (as_word (value d)) (slice_index s.registers (register_for g table allocation ordered l v)))
        ∙ ap (λ u. memory (put access s.memory (as_word (value x)) (as_word (value d)) (as_word u))) (plain_reads g table allocation k ordered w value scene n l s reached here v (All-head Usable (plain v) [] (All-tail Usable (plain x) (plain v ∷ []) both)))
        ∙ ap (λ u. memory (put access (as_memory u) (as_word (value x)) (as_word (value d)) (as_word (value v)))) (sym (found class (op.Put access) name (m ∷ x ∷ d ∷ v ∷ []) row (inr (test is_store))))
        ∙ sym (meant class (op.Put access) name (m ∷ x ∷ d ∷ v ∷ []) row)))

  -- ---- operates

  module _ (o : OperateOf) where
    operate_tests : (class : ℕ) (name xs : List ℕ) → slice_get g.rows l.row ≡ Some (row_with class (op.Word (ops.Operate o)) name xs) → (f : InstrKind → Bool) → launches g f l ≡ f (kinds.Operate o)
    operate_tests class name xs row f =
        does class (op.Word (ops.Operate o)) name xs row f (f (kinds.Operate o)) refl

    module _ (class x : ℕ) (name : List ℕ) (row : slice_get g.rows l.row ≡ Some (row_with class (op.Word (ops.Operate o)) name (x ∷ []))) (unary : is_unary o ≡ true) where
      one_step : Next (step now s)
      one_step =
          let test : (f : InstrKind → Bool) → launches g f l ≡ f (kinds.Operate o) = operate_tests class name (x ∷ []) row in
          let usable : All Usable (operate_operands (x ∷ [])) = reads class (op.Word (ops.Operate o)) name (x ∷ []) row in
          let second : ℕ = second_value (second_for g table allocation ordered l x) s.registers in
          subst (λ i. Next (step i s)) (sym (instr class (op.Word (ops.Operate o)) name (x ∷ []) row))
          (given (operate_result o (slice_index s.registers 31) second) (test gives_word) (test is_store)
          (ap (λ b. word (if b then value_at (ops.Operate o) second 0 0 else value_at (ops.Operate o) (slice_index s.registers 31) second 0)) unary
          ∙ ap (λ v. word (value_at (ops.Operate o) (as_word v) 0 0)) (second_reads g table allocation k ordered w value scene n l s reached here x (All-head Usable (as_second_operand x) [] usable))
          ∙ sym (meant class (op.Word (ops.Operate o)) name (x ∷ []) row)))

    module _ (class x y : ℕ) (name : List ℕ) (row : slice_get g.rows l.row ≡ Some (row_with class (op.Word (ops.Operate o)) name (x ∷ y ∷ []))) (binary : is_unary o ≡ false) where
      two_step : Next (step now s)
      two_step =
          let test : (f : InstrKind → Bool) → launches g f l ≡ f (kinds.Operate o) = operate_tests class name (x ∷ y ∷ []) row in
          let usable : All Usable (operate_operands (x ∷ y ∷ [])) = reads class (op.Word (ops.Operate o)) name (x ∷ y ∷ []) row in
          let first : ℕ = slice_index s.registers (register_for g table allocation ordered l x) in
          let second : ℕ = second_value (second_for g table allocation ordered l y) s.registers in
          subst (λ i. Next (step i s)) (sym (instr class (op.Word (ops.Operate o)) name (x ∷ y ∷ []) row))
          (given (operate_result o first second) (test gives_word) (test is_store)
          (ap (λ b. word (if b then value_at (ops.Operate o) second 0 0 else value_at (ops.Operate o) first second 0)) binary
          ∙ ap (λ v. word (value_at (ops.Operate o) (as_word v) second 0)) (plain_reads g table allocation k ordered w value scene n l s reached here x (All-head Usable (plain x) (as_second_operand y ∷ []) usable))
          ∙ ap (λ v. word (value_at (ops.Operate o) (as_word (value x)) (as_word v) 0)) (second_reads g table allocation k ordered w value scene n l s reached here y (All-head Usable (as_second_operand y) [] (All-tail Usable (plain x) (as_second_operand y ∷ []) usable)))
          ∙ sym (meant class (op.Word (ops.Operate o)) name (x ∷ y ∷ []) row)))

  -- ---- each row that can be launched

  module _ (class : ℕ) (name xs : List ℕ) where
    abbrev Row : Op → List ℕ → Type 0
    Row o ys = slice_get g.rows l.row ≡ Some (row_with class o name ys)

    as_list : (o : Op) (ys : List ℕ) → xs ≡ ys → Row o xs → Row o ys
    as_list o ys e row = subst (Row o) e row

    arity : (o : Op) → Row o xs → length xs ≡ arity_of_op o
    arity o row = arity_is g table allocation k ordered w value scene n l here class o name xs row

    operate_step : (o : OperateOf) → Row (op.Word (ops.Operate o)) xs → Next (step now s)
    operate_step o row =
        elim (operate_arity o) [
          | inl u ↦ (let t = one_of xs (arity (op.Word (ops.Operate o)) row ∙ u.1) in one_step o class t.0 name (as_list (op.Word (ops.Operate o)) (t.0 ∷ []) t.1 row) u.0)
          | inr b ↦ (let t = two_of xs (arity (op.Word (ops.Operate o)) row ∙ b.1) in two_step o class t.0 t.1 name (as_list (op.Word (ops.Operate o)) (t.0 ∷ t.1 ∷ []) t.2 row) b.0)
        ]

    word_step : (o : WordOp) → Row (op.Word o) xs → IsSomeAnd (launch_instr g o xs) (λ i. MayUse table i l.slot) → Next (step now s)
    word_step ops.Lda row h = (let t = two_of xs (arity (op.Word ops.Lda) row) in lda_step class t.0 t.1 name (as_list (op.Word ops.Lda) (t.0 ∷ t.1 ∷ []) t.2 row))
    word_step ops.Ldah row h = (let t = two_of xs (arity (op.Word ops.Ldah) row) in ldah_step class t.0 t.1 name (as_list (op.Word ops.Ldah) (t.0 ∷ t.1 ∷ []) t.2 row))
    word_step (ops.Operate o) row h = operate_step o row
    word_step _ row h = absurd h

    by_op : (o : Op) → Row o xs → IsSomeAnd (op_instr g o xs) (λ i. MayUse table i l.slot) → Next (step now s)
    by_op (op.Word o) row h = word_step o row h
    by_op (op.Select access) row h = (let t = two_of xs (arity (op.Select access) row) in select_step access class t.0 t.1 name (as_list (op.Select access) (t.0 ∷ t.1 ∷ []) t.2 row))
    by_op (op.Store access) row h = (let t = three_of xs (arity (op.Store access) row) in store_step access class t.0 t.1 t.2 name (as_list (op.Store access) (t.0 ∷ t.1 ∷ t.2 ∷ []) t.3 row))
    by_op (op.Load access) row h = (let t = three_of xs (arity (op.Load access) row) in load_step access class t.0 t.1 t.2 name (as_list (op.Load access) (t.0 ∷ t.1 ∷ t.2 ∷ []) t.3 row))
    by_op (op.Put access) row h = (let t = four_of xs (arity (op.Put access) row) in put_step access class t.0 t.1 t.2 t.3 name (as_list (op.Put access) (t.0 ∷ t.1 ∷ t.2 ∷ t.3 ∷ []) t.4 row))
    by_op op.Entry row h = absurd h
    by_op (op.Input r) row h = absurd h
    by_op (op.Constant c) row h = absurd h
    by_op (op.Declared d a) row h = absurd h

  -- a launch of a row
  pub row_step : (r : LaunchRow) → slice_get g.rows l.row ≡ Some r → Next (step now s)
  row_step r row = by_op r.class r.name r.operands r.op row (can r.class r.op r.name r.operands row)

  -- ---- copies

  module _ (class : ℕ) (copied : copied_at g l.row ≡ Some class) where
    copy_is : instr_of g table allocation ordered n l ≡ copy_instr g table allocation ordered n l class
    copy_is = ap (λ q. option_map_or (copy_instr g table allocation ordered n l) q (option_map_or (λ r. row_instr g table allocation ordered n l r.op r.operands) (slice_get g.rows l.row) (instrs.Beq (reg g table allocation ordered n l (branch_class g table allocation ordered n l)) (pos (length ordered - n))))) copied

    copy_usable : All Usable (copy_operands class)
    copy_usable =
        subst (All Usable) (copy_reads g l.row class copied) (uses g table allocation k ordered w value scene n l here)

    not_31 : ¬ Contains g.pool 31
    not_31 h = let low : 31 < 31 = All-contains (λ r. r < 31) g.pool 31 (pool_low g scene.proper) h in absurd (omega arith)

    zero_read : slice_index s.registers 31 ≡ 0
    zero_read = reached.kept 31 not_31 (λ j m lt e. none_31 g table allocation k ordered scene.graph scene.proper scene.fits j m e) ∙ scene.world.zero_register

    -- a copy gives the value of its class
    pub copy_step : Next (step now s)
    copy_step =
        let test : (f : InstrKind → Bool) → launches g f l ≡ f (kinds.Operate operates.Bis) = λ f. ap (λ q. option_map_or f q false) (copy_kind g l.row class copied) in
        let second : ℕ = second_value (second_for g table allocation ordered l class) s.registers in
        subst (λ i. Next (step i s)) (sym copy_is)
        (given (operate_result operates.Bis (slice_index s.registers 31) second) (test gives_word) (test is_store)
        (ap (λ a. word (value_at (ops.Operate operates.Bis) a second 0)) zero_read
        ∙ ap word (bis_value second)
        ∙ second_reads g table allocation k ordered w value scene n l s reached here class (All-head Usable (as_second_operand class) [] copy_usable)
        ∙ ap value (sym (copy_class g l.row class copied))))
