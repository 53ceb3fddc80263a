-- Instructions keep a state a state.
use Rattle.std.proofs.Common.{◌≡◌, ℕ, ℤ, zero, suc, ◌/◌, ◌<◌, List, [], ◌∷◌, refl, sym, ◌∙◌, ap, subst, inl, inr, arith, Bool, true, false, ◌==◌, set, Option, Some, None}
use Rattle.std.specs.Prelude.{All, slice_get, slice_index, if◌then◌else◌}
use Rattle.std.specs.Option.{option_and_then, option_map_or}
use Rattle.std.proofs.lemmas.Bool.Decides.{eqb_tells}
use Rattle.std.proofs.lemmas.List.{get_or-set_other, length-set}
use Rattle.std.proofs.lemmas.List.Elements.{All-nil, All-cons, All-set, All-get_or}
use Rattle.std.proofs.lemmas.Option.{slice_get_within, get_or_from_slice_get}
use Rattle.word_ops.specs.declared.operators.WordOp.{WordOp}
use Rattle.word_ops.specs.Memory.{Memory, IsMemory, loaded, stored}
use Rattle.word_ops.specs.declared.operates.Operate.{Operate as OperateOf}
use Rattle.word_ops.specs.declared.operators.WordOp.TheVariants as words
use Rattle.word_ops.specs.declared.sorts.Access.{Access}
use Rattle.word_ops.specs.declared.sorts.Access.TheVariants.{Quad}
use Rattle.word_ops.specs.Operators.{value_at, value_of}
use Rattle.word_ops.specs.Words.{IsWord}
use Rattle.alpha_encode.specs.Codes.{is_unary}
use Rattle.alpha_encode.specs.Formats.{IsWellFormed, IsSecond}
use Rattle.alpha_encode.specs.declared.instructions.Second.{Second}
use Rattle.alpha_encode.specs.declared.instructions.Second.TheVariants.{Reg, Literal}
use Rattle.alpha_encode.specs.declared.instructions.Instr.{Instr}
use Rattle.alpha_encode.specs.declared.instructions.Instr.TheVariants.{Operate, Lda, Ldah, Load, Store, Ldq, Stq, Beq}
use Rattle.alpha_machine.specs.States.{MachineState, IsState}
use Rattle.alpha_machine.specs.Steps.{step, second_value, operate_result, address, place_of, traps, with_loaded, with_register, with_stored, next_pc}
use Rattle.alpha_machine.specs.Runs.{fetched, stepped, unless_trap, after}

pub well_formed_at : (is : List Instr) (k : ℕ) (i : Instr) → All IsWellFormed is → slice_get is k ≡ Some i → IsWellFormed i
well_formed_at is k i wf there = subst IsWellFormed (get_or_from_slice_get is k i i there) (wf k i (slice_get_within is k i there))

module _ (is_word : (op : WordOp) (vs : List ℕ) → All IsWord vs → IsWord (value_of op vs))
    (is_loaded : (access : Access) (m : Memory) (a : ℕ) → IsMemory m → IsWord (loaded access m a))
    (is_stored : (access : Access) (m : Memory) (a v : ℕ) → IsMemory m → IsWord a → IsWord v → IsMemory (stored access m a v)) where
  module _ (s : MachineState) (h : IsState s) where
    read_word : (r : ℕ) → r < 32 → IsWord (slice_index s.registers r)
    read_word r below = All-get_or IsWord s.registers r 0 (let c = h.registers in omega arith) h.words

    next_word : (pc : ℕ) → IsWord (next_pc pc)
    next_word pc = omega arith

    address_word : (x scale : ℕ) (disp : ℤ) → IsWord (address x scale disp)
    address_word x scale disp = omega arith

    module _ (r v : ℕ) where
      abbrev state : Bool → MachineState
      state b = record { registers = if b then s.registers else set s.registers r v; memory = s.memory; pc = next_pc s.pc }

      wrote : IsWord v → IsState (with_register s r v)
      wrote is = elim (eqb_tells r 31) [
        | inl t ↦ subst IsState (sym (ap state t.0)) (record { registers = h.registers; words = h.words; zero_register = h.zero_register; memory = h.memory; pc = next_word s.pc })
        | inr t ↦ subst IsState (sym (ap state t.0)) (record {
          registers = length-set s.registers r v ∙ h.registers;
          words = All-set IsWord s.registers r v is h.words;
          zero_register = get_or-set_other s.registers r 31 v 0 (λ e. t.1 (sym e)) ∙ h.zero_register;
          memory = h.memory;
          pc = next_word s.pc;
        })
      ]

    second_word : (second : Second) → IsSecond second → IsWord (second_value second s.registers)
    second_word (Reg r) is = read_word r is
    second_word (Literal n) is = omega (arith, is)

    operate_word : (op : OperateOf) (a b : ℕ) → IsWord a → IsWord b → IsWord (operate_result op a b)
    operate_word op a b is_a is_b = by (is_unary op)
      where
        by : (u : Bool) → IsWord (if u then value_at (words.Operate op) b 0 0 else value_at (words.Operate op) a b 0)
        by true = is_word (words.Operate op) (b ∷ []) (All-cons IsWord b [] is_b (All-nil IsWord))
        by false = is_word (words.Operate op) (a ∷ b ∷ []) (All-cons IsWord a (b ∷ []) is_a (All-cons IsWord b [] is_b (All-nil IsWord)))

    branched : (b : Bool) (a : ℕ) → IsWord a → IsWord (if b then a else next_pc s.pc)
    branched true a is = is
    branched false a is = next_word s.pc

    load_keeps : (access : Access) (ra rb : ℕ) (disp : ℤ) → IsState (with_loaded access ra rb disp s)
    load_keeps access ra rb disp =
        let a = place_of s rb disp in
        wrote ra (loaded access s.memory a) (is_loaded access s.memory a h.memory)

    store_keeps : (access : Access) (ra rb : ℕ) (disp : ℤ) → ra < 32 → IsState (with_stored access ra rb disp s)
    store_keeps access ra rb disp below = record {
      registers = h.registers;
      words = h.words;
      zero_register = h.zero_register;
      memory = is_stored access s.memory (place_of s rb disp) (slice_index s.registers ra) h.memory (address_word (slice_index s.registers rb) 1 disp) (read_word ra below);
      pc = next_word s.pc;
    }

    pub keeps : (i : Instr) → IsWellFormed i → IsState (step i s)
    keeps (Operate op ra second rc) wf =
        wrote rc (operate_result op (slice_index s.registers ra) (second_value second s.registers))
        (operate_word op (slice_index s.registers ra) (second_value second s.registers) (read_word ra wf.0) (second_word second wf.1))
    keeps (Lda ra rb disp) wf = wrote ra (address (slice_index s.registers rb) 1 disp) (address_word (slice_index s.registers rb) 1 disp)
    keeps (Ldah ra rb disp) wf = wrote ra (address (slice_index s.registers rb) 65536 disp) (address_word (slice_index s.registers rb) 65536 disp)
    keeps (Load access ra rb disp) wf = load_keeps access ra rb disp
    keeps (Store access ra rb disp) wf = store_keeps access ra rb disp wf.0
    keeps (Ldq ra rb disp) wf = load_keeps Quad ra rb disp
    keeps (Stq ra rb disp) wf = store_keeps Quad ra rb disp wf.0
    keeps (Beq ra disp) wf = record {
      registers = h.registers;
      words = h.words;
      zero_register = h.zero_register;
      memory = h.memory;
      pc = branched (slice_index s.registers ra == 0) (address (next_pc s.pc) 4 disp) (address_word (next_pc s.pc) 4 disp);
    }

  pub all_keep : (n : ℕ) (is : List Instr) (s : MachineState) → All IsWellFormed is → IsState s → IsState (after n is s)
  all_keep zero is s wf h = h
  all_keep (suc n) is s wf h = all_keep n is (stepped is s) wf (one (fetched is s) refl)
    where
      unless : (i : Instr) (b : Bool) → fetched is s ≡ Some i → IsState (option_map_or (λ j. step j s) (if b then None else Some i) s)
      unless i true e = h
      unless i false e = keeps s h i (well_formed_at is (s.pc / 4) i wf e)

      one : (o : Option Instr) → fetched is s ≡ o → IsState (option_map_or (λ i. step i s) (option_and_then (unless_trap s) o) s)
      one None e = h
      one (Some i) e = unless i (traps i s) e
