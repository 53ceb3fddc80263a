-- The goal of a lift. Its inputs are the registers that the words read before any of them wrote them, and each word
-- that writes a register or memory has a let with the term of what it writes, over the latest lets. Source: this
-- project, over Denali's terms (PLDI 2002); the Alpha Architecture Handbook, version 4, for what each instruction
-- writes.
use Rattle.std.specs.Prelude.{Bool, true, false, ℕ, zero, suc, ℤ, ◌+◌, ◌-◌, ◌*ℤ◌, ◌%◌, ◌^◌, ◌==◌, ◌&&◌, ◌||◌, not, pos, if◌then◌else◌, List, [], ◌∷◌, ◌++◌, length, map, filter, filter_map, replicate, set, slice_index_or, codes, decimal, Option, Some, None, option_map, is_some, unwrap_or}
use Rattle.std.specs.Int.{cast_unsigned, w64}
use Rattle.std.specs.List.{list_any}
use Rattle.std.specs.Option.{option_map_or}
use Rattle.word_ops.specs.declared.operates.Operate.TheVariants.{Addq, And}
use Rattle.word_ops.specs.declared.sorts.Access.TheVariants.{Quad}
use Rattle.word_ops.specs.declared.sorts.Op.{Op}
use Rattle.word_terms.specs.Building.{constant, o2, read_of, written_of}
use Rattle.word_terms.specs.Tree.{Tree, variable}
use Rattle.goal_meaning.specs.Rules.{has_register}
use Rattle.goal_meaning.specs.Views.{GoalTree, LetTree, TargetTree, TwoTrees}
use Rattle.goal_meaning.specs.declared.goals.InputReg.{InputReg}
use Rattle.alpha_encode.specs.Decoded.{decoded}
use Rattle.alpha_encode.specs.declared.instructions.Instr.{Instr}
use Rattle.alpha_encode.specs.declared.instructions.Instr.TheVariants.{Operate, Lda, Ldah, Load, Store, Ldq, Stq, Beq}
use Rattle.register_assign.specs.Obeys.{reads, stores, writes}
use Rattle.saturation.specs.GoalTerms.{entry_term, input_term}
use Rattle.proc_goal.specs.Goals.{sets_or_memory}
use Rattle.code_check.specs.Terms.{alignment, operate_term, second_term, sign_extended}
use Rattle.code_lift.specs.Views.{LiftTree}
use Rattle.code_lift.specs.declared.lifting.Address.{Address}
use Rattle.code_lift.specs.declared.lifting.Value.{Value}
use Rattle.code_lift.specs.declared.lifting.Value.TheVariants.{Entry, Zero, Let}

-- ---- what a word does

abbrev pub unless_31 : ℕ → Option ℕ
unless_31 r = if r == 31 then None else Some r

-- the register below 31 that the instruction writes
abbrev pub register_written : Instr → Option ℕ
register_written i = option_map_or unless_31 (writes i) None

-- what the instruction writes can be seen
abbrev pub counts : Instr → Bool
counts i = stores i || is_some (register_written i)

-- ---- the latest values

-- the same value: that of one register at entry, or of one let, or 0
abbrev pub is_same_value : Value → Value → Bool
is_same_value (Entry q) (Entry r) = q == r
is_same_value Zero Zero = true
is_same_value (Let m) (Let n) = m == n
is_same_value _ _ = false

-- What is known behind some words: the value of each register, the let that is the memory, where a word wrote one, the
-- registers that are inputs, the lets, and the addresses on which words may trap.
pub record Lifting : Type 0 where
  pub latest : List Value
  pub memory : Option ℕ
  pub is_read : List Bool
  pub lets : List LetTree
  pub addresses : List Address

abbrev pub first_numbers : ℕ → List ℕ
first_numbers zero = []
first_numbers (suc n) = first_numbers n ++ n ∷ []

-- each register has its own value, and register 31 has 0
abbrev pub at_start : Lifting
at_start = record {
  latest = map Entry (first_numbers 31) ++ Zero ∷ [];
  memory = None;
  is_read = replicate 32 false;
  lets = [];
  addresses = [];
}

abbrev pub latest_of : Lifting → ℕ → Value
latest_of s r = slice_index_or s.latest r Zero

abbrev pub is_let : Value → Bool
is_let (Let n) = true
is_let _ = false

abbrev pub is_entry : Value → Bool
is_entry (Entry r) = true
is_entry _ = false

-- a word wrote the register
abbrev pub has_let : Lifting → ℕ → Bool
has_let s r = is_let (latest_of s r)

abbrev pub value_term : Value → Tree Op
value_term (Entry r) = input_term r
value_term Zero = constant 0
value_term (Let n) = variable n

abbrev pub register_term : Lifting → ℕ → Tree Op
register_term s r = value_term (latest_of s r)

-- the memory of a let, or that at entry
abbrev pub memory_value : Option ℕ → Tree Op
memory_value memory = option_map_or variable memory entry_term

abbrev pub memory_term : Lifting → Tree Op
memory_term s = memory_value s.memory

-- ---- terms

-- the base alone, where the word that is added is 0
abbrev pub sum_term : Tree Op → ℕ → Tree Op
sum_term base n = if n == 0 then base else o2 Addq base (constant n)

-- what `ldah` adds
abbrev pub high_word : ℤ → ℕ
high_word disp = cast_unsigned w64 (disp *ℤ pos 65536)

abbrev pub displaced_term : Lifting → ℕ → ℤ → Tree Op
displaced_term s rb disp = sum_term (register_term s rb) (sign_extended disp)

-- the term of what the instruction writes; a branch writes nothing
abbrev pub lifted_term : Instr → Lifting → Tree Op
lifted_term (Operate op ra second rc) s = operate_term op (register_term s ra) (second_term second (register_term s))
lifted_term (Lda ra rb disp) s = sum_term (register_term s rb) (sign_extended disp)
lifted_term (Ldah ra rb disp) s = sum_term (register_term s rb) (high_word disp)
lifted_term (Load access ra rb disp) s = read_of access (memory_term s) (displaced_term s rb disp)
lifted_term (Store access ra rb disp) s =
    written_of access (memory_term s) (displaced_term s rb disp) (register_term s ra)
lifted_term (Ldq ra rb disp) s = read_of Quad (memory_term s) (displaced_term s rb disp)
lifted_term (Stq ra rb disp) s = written_of Quad (memory_term s) (displaced_term s rb disp) (register_term s ra)
lifted_term (Beq ra disp) s = constant 0

-- ---- addresses on which words trap

abbrev pub multiple_from : Value → ℕ → ℕ → Address
multiple_from value n power =
    record { value = value; displacement = if n % 2 ^ power == 0 then 0 else n; power = power }

abbrev pub needed_multiple : Instr → Lifting → ℕ → ℤ → Option Address
needed_multiple i s rb disp = option_map (multiple_from (latest_of s rb) (sign_extended disp)) (alignment i)

-- the address on which the instruction may trap
abbrev pub trapping_address : Instr → Lifting → Option Address
trapping_address (Load access ra rb disp) s = needed_multiple (Load access ra rb disp) s rb disp
trapping_address (Store access ra rb disp) s = needed_multiple (Store access ra rb disp) s rb disp
trapping_address (Ldq ra rb disp) s = needed_multiple (Ldq ra rb disp) s rb disp
trapping_address (Stq ra rb disp) s = needed_multiple (Stq ra rb disp) s rb disp
trapping_address _ s = None

abbrev pub is_same_address : Address → Address → Bool
is_same_address a b = is_same_value a.value b.value && ((a.displacement == b.displacement) && (a.power == b.power))

-- each address once
abbrev pub with_address : List Address → Option Address → List Address
with_address before None = before
with_address before (Some a) = if list_any (is_same_address a) before then before else before ++ a ∷ []

-- the low bits of the address are 0
abbrev pub assume_of : Address → TwoTrees
assume_of a = record {
  left = o2 And (sum_term (value_term a.value) a.displacement) (constant (2 ^ a.power - 1));
  right = constant 0;
}

-- ---- word by word

-- t and the index of the word
abbrev pub let_name : ℕ → List ℕ
let_name at = codes "t" ++ decimal at

abbrev pub let_of : ℕ → Instr → Lifting → LetTree
let_of at i s = record { name = let_name at; value = lifted_term i s }

-- registers that are read before any word wrote them become inputs
abbrev pub read_also : List ℕ → List Value → List Bool → List Bool
read_also [] latest flags = flags
read_also (r ∷ rs) latest flags =
    read_also rs latest (if is_entry (slice_index_or latest r Zero) then set flags r true else flags)

abbrev pub latest_with : List Value → Value → Option ℕ → List Value
latest_with latest value None = latest
latest_with latest value (Some r) = set latest r value

abbrev pub lifted_by : ℕ → Instr → Lifting → Lifting
lifted_by at i s = record {
  latest = latest_with s.latest (Let (length s.lets)) (register_written i);
  memory = if stores i then Some (length s.lets) else s.memory;
  is_read = read_also (reads i) s.latest s.is_read;
  lets = s.lets ++ let_of at i s ∷ [];
  addresses = with_address s.addresses (trapping_address i s);
}

-- behind one word more, the one of this index
abbrev pub lift_step : ℕ → Instr → Lifting → Lifting
lift_step at i s = if counts i then lifted_by at i s else s

abbrev pub lifted_from : ℕ → List Instr → Lifting → Lifting
lifted_from at [] s = s
lifted_from at (i ∷ is) s = lifted_from (at + 1) is (lift_step at i s)

-- the words that are instructions, from the first on
abbrev pub lifted : List ℕ → Lifting
lifted words = lifted_from 0 (filter_map decoded words) at_start

-- ---- the goal

-- registers 0 to 30 of which this is said, rising
abbrev pub registers_where : (ℕ → Bool) → List ℕ
registers_where test = filter test (first_numbers 31)

abbrev pub inputs_read : Lifting → List ℕ
inputs_read s = registers_where (λ r. slice_index_or s.is_read r false)

-- r and the number of the register
abbrev pub register_name : ℕ → List ℕ
register_name r = codes "r" ++ decimal r

abbrev pub input_named : ℕ → InputReg
input_named r = record { name = register_name r; reg = r }

-- the memory, where a word wrote it
abbrev pub memory_sets : Option ℕ → List TargetTree
memory_sets None = []
memory_sets (Some n) = record { name = codes "M"; value = variable n; pin = None } ∷ []

abbrev pub register_set : Lifting → ℕ → TargetTree
register_set s r = record { name = register_name r; value = register_term s r; pin = Some r }

-- the memory, and those of the registers that the words write; where there is neither, the goal keeps the memory
abbrev pub sets_of : Lifting → List ℕ → List TargetTree
sets_of s out = memory_sets s.memory ++ map (register_set s) (filter (has_let s) out)

-- the words write the register, and nobody needs it before or behind them
abbrev pub is_spare : Lifting → List ℕ → ℕ → Bool
is_spare s out r = has_let s r && (not (slice_index_or s.is_read r false) && not (has_register out r))

abbrev pub spare_registers : Lifting → List ℕ → List ℕ
spare_registers s out = registers_where (is_spare s out)

abbrev pub goal_of : LiftTree → Lifting → GoalTree
goal_of lift s = record {
  name = lift.name;
  inputs = map input_named (inputs_read s);
  pool = unwrap_or lift.pool (spare_registers s lift.out);
  lets = s.lets;
  assumes = map assume_of s.addresses;
  guard = None;
  sets = sets_or_memory (sets_of s lift.out);
}

abbrev pub goal_of_lift : LiftTree → GoalTree
goal_of_lift lift = goal_of lift (lifted lift.words)
