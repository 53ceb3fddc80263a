-- The branch: what it reads, and that it goes on where its guard's value isn't 0.
use Rattle.std.proofs.Common.{◌≡◌, ◌≢◌, ℕ, ◌+◌, ◌-◌, List, [], length, refl, sym, ◌∙◌, ap, subst, inl, inr, Bool, true, false, pos, Option, Some, None}
use Rattle.std.specs.Prelude.{All, IsSomeAnd, slice_get, slice_index, ◌==◌, if◌then◌else◌, option_map}
use Rattle.std.specs.Option.{option_map_or, option_and_then}
use Rattle.std.proofs.lemmas.Bool.Decides.{eqb_tells}
use Rattle.std.proofs.lemmas.List.Elements.{All-head}
use Rattle.word_ops.specs.Worlds.{World, Value, word}
use Rattle.alpha_machine.specs.States.{MachineState}
use Rattle.alpha_machine.specs.Steps.{step, address, next_pc}
use Rattle.machine_table.specs.Tables.{MayUse}
use Rattle.schedule_meaning.specs.Launches.{launches, gives_word, is_store, is_branch, instr_at, op_instr, row_operands, guard_operands, plain, copied_at}
use Rattle.register_assign.specs.Listings.{register_for, instr_of, row_instr, copy_instr, branch_class, reg}
use Rattle.register_assign.specs.Outcomes.{IsExit}
use Rattle.alpha_encode.specs.declared.instructions.Instr.TheVariants as instrs
use Rattle.graph_meaning.specs.declared.graphs.Guard.{Guard}
use Rattle.graph_meaning.specs.declared.graphs.LaunchRow.{LaunchRow}
use Rattle.graph_meaning.specs.declared.graphs.LaunchGraph.{LaunchGraph}
use Rattle.machine_table.specs.declared.tables.Table.{Table}
use Rattle.machine_table.specs.declared.tables.InstrKind.{InstrKind}
use Rattle.machine_table.specs.declared.tables.InstrKind.TheVariants as kinds
use Rattle.schedule_meaning.specs.declared.schedules.Allocation.{Allocation}
use Rattle.schedule_meaning.specs.declared.schedules.Launch.{Launch}
use Rattle.register_assign.proofs.Reached.{HasReached}
use Rattle.register_assign.proofs.Scene.{IsScene, CanUse, can, uses}
use Rattle.register_assign.proofs.Operands.{plain_reads}
use Rattle.register_assign.proofs.Steps.{passed, row_step, copy_step}
use Rattle.schedule_meaning.proofs.Copies.{plain_kind, plain_operands}

module _ (g : LaunchGraph) (table : Table) (allocation : Allocation) (k : ℕ) (ordered : List Launch) (w : World)
    (value : ℕ → Value)
    (scene : IsScene g table allocation k ordered w value)
    (n : ℕ) (l : Launch) (here : slice_get ordered n ≡ Some l) where
  guard_cases : (b : Bool) (o : Option Guard) (P : InstrKind → Type 0) → IsSomeAnd (if b then option_map (λ _. kinds.Beq) o else None) P → (guard : Guard) × (b ≡ true) × (o ≡ Some guard)
  guard_cases true (Some guard) P h = (guard, refl, refl)
  guard_cases true None P h = absurd h
  guard_cases false o P h = absurd h

  abbrev kind_by : Option LaunchRow → Option InstrKind
  kind_by o = if l.row == length g.rows then option_map (λ _. kinds.Beq) g.guard else option_and_then (λ r. op_instr g r.op r.operands) o

  -- the number is no row's, and no copy's
  abbrev pub IsNoRow : Type 0
  IsNoRow = (copied_at g l.row ≡ None) × (slice_get g.rows l.row ≡ None)

  -- a launch of no row is the branch of a guard
  pub guard_of : IsNoRow → (guard : Guard) × ((l.row == length g.rows) ≡ true) × (g.guard ≡ Some guard)
  guard_of none =
      guard_cases (l.row == length g.rows) g.guard (λ i. MayUse table i l.slot)
      (subst (λ (o : Option LaunchRow). IsSomeAnd (kind_by o) (λ i. MayUse table i l.slot)) none.1
      (subst (λ (o : Option InstrKind). IsSomeAnd o (λ i. MayUse table i l.slot)) (plain_kind g l.row none.0) (can g table allocation k ordered w value scene n l here)))

  pub branch_instr : (guard : Guard) → IsNoRow → g.guard ≡ Some guard → instr_of g table allocation ordered n l ≡ instrs.Beq (register_for g table allocation ordered l guard.class) (pos (length ordered - n))
  branch_instr guard none e =
      ap (λ q. option_map_or (copy_instr g table allocation ordered n l) q (option_map_or (λ r. row_instr g table allocation ordered n l r.op r.operands) (slice_get g.rows l.row) (instrs.Beq (reg g table allocation ordered n l (branch_class g table allocation ordered n l)) (pos (length ordered - n))))) none.0
      ∙ ap (λ o. option_map_or (λ r. row_instr g table allocation ordered n l r.op r.operands) o (instrs.Beq (reg g table allocation ordered n l (branch_class g table allocation ordered n l)) (pos (length ordered - n)))) none.1
      ∙ ap (λ o. instrs.Beq (register_for g table allocation ordered l (option_map_or (λ guard. guard.class) o 0)) (pos (length ordered - n))) e

  branch_kind : (guard : Guard) → IsNoRow → (l.row == length g.rows) ≡ true → g.guard ≡ Some guard → instr_at g l.row ≡ Some kinds.Beq
  branch_kind guard none t e =
      plain_kind g l.row none.0
      ∙ ap (λ b. if b then option_map (λ _. kinds.Beq) g.guard else option_and_then (λ r. op_instr g r.op r.operands) (slice_get g.rows l.row)) t
      ∙ ap (option_map (λ _. kinds.Beq)) e

  pub branch_tests : (f : InstrKind → Bool) → IsNoRow → launches g f l ≡ f kinds.Beq
  branch_tests f none = let h = guard_of none in ap (λ o. option_map_or f o false) (branch_kind h.0 none h.1 h.2)

  module _ (s : MachineState) (reached : HasReached g allocation w value ordered n s) where
    -- the register that it tests holds the guard's value
    pub guard_reads : (guard : Guard) → IsNoRow → (l.row == length g.rows) ≡ true → g.guard ≡ Some guard → word (slice_index s.registers (register_for g table allocation ordered l guard.class)) ≡ value guard.class
    guard_reads guard none t e =
        plain_reads g table allocation k ordered w value scene n l s reached here guard.class
        (All-head (CanUse g table ordered l) (plain guard.class) []
        (subst (All (CanUse g table ordered l))
        (plain_operands g l.row none.0 ∙ ap (λ b. if b then guard_operands g.guard else row_operands (slice_get g.rows l.row)) t ∙ ap guard_operands e)
        (uses g table allocation k ordered w value scene n l here)))

    stays_by : (r d : ℕ) → slice_index s.registers r ≢ 0 → step (instrs.Beq r (pos d)) s ≡ record { registers = s.registers; memory = s.memory; pc = next_pc s.pc }
    stays_by r d h =
        elim (eqb_tells (slice_index s.registers r) 0) [
          | inl t ↦ absurd (h t.1)
          | inr t ↦ ap (λ b. record { registers = s.registers; memory = s.memory; pc = if b then address (next_pc s.pc) 4 (pos d) else next_pc s.pc }) t.0
        ]

    -- where the guard's value isn't 0 the branch goes on
    pub branch_step : IsNoRow → ¬ IsExit g value → HasReached g allocation w value ordered (n + 1) (step (instr_of g table allocation ordered n l) s)
    branch_step none no_exit =
        let h = guard_of none in
        let r : ℕ = register_for g table allocation ordered l h.0.class in
        let not_zero : slice_index s.registers r ≢ 0 = λ z. no_exit (subst (λ (o : Option Guard). IsSomeAnd o (λ guard. value guard.class ≡ word 0)) (sym h.2) (sym (guard_reads h.0 none h.1 h.2) ∙ ap word z)) in
        subst (λ t. HasReached g allocation w value ordered (n + 1) t) (sym (ap (λ i. step i s) (branch_instr h.0 none h.2) ∙ stays_by r (length ordered - n) not_zero))
        (passed g table allocation k ordered w value scene n l s reached here (branch_tests is_store none) (branch_tests gives_word none))

    by_row : ¬ IsExit g value → copied_at g l.row ≡ None → (o : Option LaunchRow) → slice_get g.rows l.row ≡ o → HasReached g allocation w value ordered (n + 1) (step (instr_of g table allocation ordered n l) s)
    by_row no_exit copied (Some r) e = row_step g table allocation k ordered w value scene n l s reached here r e
    by_row no_exit copied None e = branch_step (copied, e) no_exit

    by_copy : ¬ IsExit g value → (c : Option ℕ) → copied_at g l.row ≡ c → HasReached g allocation w value ordered (n + 1) (step (instr_of g table allocation ordered n l) s)
    by_copy no_exit (Some class) e = copy_step g table allocation k ordered w value scene n l s reached here class e
    by_copy no_exit None e = by_row no_exit e (slice_get g.rows l.row) refl

    -- each word, where the block isn't left
    pub word_step : ¬ IsExit g value → HasReached g allocation w value ordered (n + 1) (step (instr_of g table allocation ordered n l) s)
    word_step no_exit = by_copy no_exit (copied_at g l.row) refl

    by_row_before : launches g is_branch l ≡ false → copied_at g l.row ≡ None → (o : Option LaunchRow) → slice_get g.rows l.row ≡ o → HasReached g allocation w value ordered (n + 1) (step (instr_of g table allocation ordered n l) s)
    by_row_before no_branch copied (Some r) e = row_step g table allocation k ordered w value scene n l s reached here r e
    by_row_before no_branch copied None e = absurd (true_false (sym (branch_tests is_branch (copied, e)) ∙ no_branch))
      where
        true_false : true ≡ false → ⊥
        true_false e = cc

    by_copy_before : launches g is_branch l ≡ false → (c : Option ℕ) → copied_at g l.row ≡ c → HasReached g allocation w value ordered (n + 1) (step (instr_of g table allocation ordered n l) s)
    by_copy_before no_branch (Some class) e = copy_step g table allocation k ordered w value scene n l s reached here class e
    by_copy_before no_branch None e = by_row_before no_branch e (slice_get g.rows l.row) refl

    -- each word but the branch
    pub other_step : launches g is_branch l ≡ false → HasReached g allocation w value ordered (n + 1) (step (instr_of g table allocation ordered n l) s)
    other_step no_branch = by_copy_before no_branch (copied_at g l.row) refl

    -- where the guard's value is 0 the branch leaves
    pub left_by : IsNoRow → IsExit g value → step (instr_of g table allocation ordered n l) s ≡ record { registers = s.registers; memory = s.memory; pc = address (next_pc s.pc) 4 (pos (length ordered - n)) }
    left_by none exit =
        let h = guard_of none in
        let r : ℕ = register_for g table allocation ordered l h.0.class in
        let z : value h.0.class ≡ word 0 = subst (λ (o : Option Guard). IsSomeAnd o (λ guard. value guard.class ≡ word 0)) h.2 exit in
        let zero_word : slice_index s.registers r ≡ 0 = same_word (guard_reads h.0 none h.1 h.2 ∙ z) in
        ap (λ i. step i s) (branch_instr h.0 none h.2)
        ∙ elim (eqb_tells (slice_index s.registers r) 0) [
          | inl t ↦ ap (λ b. record { registers = s.registers; memory = s.memory; pc = if b then address (next_pc s.pc) 4 (pos (length ordered - n)) else next_pc s.pc }) t.0
          | inr t ↦ absurd (t.1 zero_word)
        ]
      where
        same_word : {a b : ℕ} → word a ≡ word b → a ≡ b
        same_word e = cc
