-- The terms that straight-line code gives registers and memory, over those of the registers and the memory at entry.
-- From Denali (PLDI 2002), terms over registers and memory; Alpha Architecture Handbook, version 4, for what each
-- instruction writes.
use Rattle.std.specs.Prelude.{ℕ, zero, suc, ℤ, List, [], ◌∷◌, ◌++◌, take, ◌==◌, if◌then◌else◌, Option, Some, None}
use Rattle.std.specs.Int.{cast_unsigned, w64}
use Rattle.word_ops.specs.Memory as accesses
use Rattle.word_ops.specs.declared.operates.Operate.{Operate as OperateOf}
use Rattle.word_ops.specs.declared.operators.WordOp.TheVariants.{Lda, Ldah}
use Rattle.word_ops.specs.declared.sorts.Access.{Access}
use Rattle.word_ops.specs.declared.sorts.Access.TheVariants.{Quad}
use Rattle.word_ops.specs.declared.sorts.Op.{Op}
use Rattle.word_terms.specs.Tree.{Tree}
use Rattle.word_terms.specs.Building.{constant, o1, o2, w2, read_of, written_of}
use Rattle.alpha_encode.specs.Codes.{is_unary}
use Rattle.alpha_encode.specs.declared.instructions.Second.{Second}
use Rattle.alpha_encode.specs.declared.instructions.Second.TheVariants.{Reg, Literal}
use Rattle.alpha_encode.specs.declared.instructions.Instr.{Instr}
use Rattle.alpha_encode.specs.declared.instructions.Instr.TheVariants as instrs
use Rattle.saturation.specs.GoalTerms.{entry_term, input_term}

-- the term of each register, by its number, and that of the memory
pub record TermState : Type 0 where
  pub registers : ℕ → Tree Op
  pub memory : Tree Op

-- each register is its input, but 31 is 0; the memory is the one at entry
abbrev pub terms_at_entry : TermState
terms_at_entry = record { registers = λ r. if r == 31 then constant 0 else input_term r; memory = entry_term }

-- a write to register 31 is ignored
abbrev pub term_written : (ℕ → Tree Op) → ℕ → Tree Op → ℕ → Tree Op
term_written registers r t q = if r == 31 then registers q else (if q == r then t else registers q)

abbrev pub with_term : TermState → ℕ → Tree Op → TermState
with_term s r t = record { registers = term_written s.registers r t; memory = s.memory }

-- a literal is a constant
abbrev pub second_term : Second → (ℕ → Tree Op) → Tree Op
second_term (Reg r) registers = registers r
second_term (Literal n) registers = constant n

-- an operate of one operand takes it from its second place
abbrev pub operate_term : OperateOf → Tree Op → Tree Op → Tree Op
operate_term op a b = if is_unary op then o1 op b else o2 op a b

-- a displacement with its sign extended to a word
abbrev pub sign_extended : ℤ → ℕ
sign_extended disp = cast_unsigned w64 disp

-- the base where the displacement's word is 0, and else the base plus that word, as lda gives it
abbrev pub address_at : Tree Op → ℕ → Tree Op
address_at base n = if n == 0 then base else w2 Lda base (constant n)

abbrev pub address_term : Tree Op → ℤ → Tree Op
address_term base disp = address_at base (sign_extended disp)

-- what a load reads, and the memory that a store leaves, with an address as instructions have it
abbrev pub loaded_term : Access → TermState → ℕ → ℤ → Tree Op
loaded_term access s rb disp = read_of access s.memory (address_term (s.registers rb) disp)

abbrev pub stored_term : Access → TermState → ℕ → ℕ → ℤ → Tree Op
stored_term access s ra rb disp = written_of access s.memory (address_term (s.registers rb) disp) (s.registers ra)

abbrev pub with_memory : TermState → Tree Op → TermState
with_memory s t = record { registers = s.registers; memory = t }

-- the terms after one instruction; a branch changes none
abbrev pub term_step : Instr → TermState → TermState
term_step (instrs.Operate op ra second rc) s =
    with_term s rc (operate_term op (s.registers ra) (second_term second s.registers))
term_step (instrs.Lda ra rb disp) s = with_term s ra (w2 Lda (s.registers rb) (constant (sign_extended disp)))
term_step (instrs.Ldah ra rb disp) s = with_term s ra (w2 Ldah (s.registers rb) (constant (sign_extended disp)))
term_step (instrs.Load access ra rb disp) s = with_term s ra (loaded_term access s rb disp)
term_step (instrs.Store access ra rb disp) s = with_memory s (stored_term access s ra rb disp)
term_step (instrs.Ldq ra rb disp) s = with_term s ra (loaded_term Quad s rb disp)
term_step (instrs.Stq ra rb disp) s = with_memory s (stored_term Quad s ra rb disp)
term_step (instrs.Beq ra disp) s = s

-- the terms after the instructions, from those before
abbrev pub terms_from : List Instr → TermState → TermState
terms_from [] s = s
terms_from (i ∷ is) s = terms_from is (term_step i s)

-- the terms after the first n of the instructions
abbrev pub terms_after : ℕ → List Instr → TermState
terms_after n instrs = terms_from (take n instrs) terms_at_entry

-- ---- addresses

-- the power of 2 of which an address must be a multiple; none where each address will do
abbrev pub needed_alignment : ℕ → Option ℕ
needed_alignment zero = None
needed_alignment (suc n) = Some (suc n)

-- the power of 2 of which the address must be a multiple where the instruction isn't to trap; none where it never traps
abbrev pub alignment : Instr → Option ℕ
alignment (instrs.Load access ra rb disp) = if ra == 31 then None else needed_alignment (accesses.alignment access)
alignment (instrs.Store access ra rb disp) = needed_alignment (accesses.alignment access)
alignment (instrs.Ldq ra rb disp) = if ra == 31 then None else Some 3
alignment (instrs.Stq ra rb disp) = Some 3
alignment _ = None

-- the term of the address of a load or a store
abbrev pub place_term : Instr → TermState → Tree Op
place_term (instrs.Load access ra rb disp) s = address_term (s.registers rb) disp
place_term (instrs.Store access ra rb disp) s = address_term (s.registers rb) disp
place_term (instrs.Ldq ra rb disp) s = address_term (s.registers rb) disp
place_term (instrs.Stq ra rb disp) s = address_term (s.registers rb) disp
place_term _ s = constant 0

-- ---- what is present beside the goal's terms

abbrev pub unless_zero_register : ℕ → Tree Op → List (Tree Op)
unless_zero_register r t = if r == 31 then [] else t ∷ []

-- what the instruction writes to a register other than 31, or to memory
abbrev pub terms_written : Instr → TermState → List (Tree Op)
terms_written (instrs.Operate op ra second rc) s =
    unless_zero_register rc (operate_term op (s.registers ra) (second_term second s.registers))
terms_written (instrs.Lda ra rb disp) s =
    unless_zero_register ra (w2 Lda (s.registers rb) (constant (sign_extended disp)))
terms_written (instrs.Ldah ra rb disp) s =
    unless_zero_register ra (w2 Ldah (s.registers rb) (constant (sign_extended disp)))
terms_written (instrs.Load access ra rb disp) s = unless_zero_register ra (loaded_term access s rb disp)
terms_written (instrs.Store access ra rb disp) s = stored_term access s ra rb disp ∷ []
terms_written (instrs.Ldq ra rb disp) s = unless_zero_register ra (loaded_term Quad s rb disp)
terms_written (instrs.Stq ra rb disp) s = stored_term Quad s ra rb disp ∷ []
terms_written (instrs.Beq ra disp) s = []

abbrev pub terms_written_from : List Instr → TermState → List (Tree Op)
terms_written_from [] s = []
terms_written_from (i ∷ is) s = terms_written i s ++ terms_written_from is (term_step i s)

-- the terms that the instructions write, in order
abbrev pub written_terms : List Instr → List (Tree Op)
written_terms instrs = terms_written_from instrs terms_at_entry
