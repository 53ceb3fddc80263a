-- When code and a goal without lets are the same in a graph: parts, in their order, each of which compares classes of
-- terms. From Denali (PLDI 2002), in whose graph terms of one class have one value.
use Rattle.std.specs.Prelude.{◌≡◌, ℕ, ℤ, ◌+◌, ◌≤◌, if◌then◌else◌, List, [], ◌∷◌, ◌++◌, length, map, slice_get, Option, Some, None, All, Contains}
use Rattle.std.specs.Option.{option_map_or}
use Rattle.std.specs.List.{find}
use Rattle.word_ops.specs.declared.sorts.Op.{Op}
use Rattle.word_terms.specs.Tree.{Tree}
use Rattle.egraph.specs.Graph.{Graph}
use Rattle.egraph.specs.declared.rows.Row.{Row}
use Rattle.graph_meaning.specs.Graphs.{plain_row}
use Rattle.graph_meaning.specs.Multiples.{IsShown}
use Rattle.graph_meaning.specs.declared.graphs.LaunchRow.{LaunchRow}
use Rattle.pattern_match.specs.Classes.{HaveOneClass, IsClass}
use Rattle.alpha_encode.specs.declared.instructions.Instr.{Instr}
use Rattle.alpha_encode.specs.declared.instructions.Instr.TheVariants.{Beq}
use Rattle.goal_meaning.specs.Outcomes.{is_memory}
use Rattle.goal_meaning.specs.Views.{GoalTree, TargetTree}
use Rattle.goal_meaning.specs.declared.goals.InputReg.{InputReg}
use Rattle.saturation.specs.GoalTerms.{entry_term, input_term}
use Rattle.code_check.specs.Terms.{TermState, alignment, place_term, terms_after}
use Rattle.code_check.specs.declared.codes.At.{At}
use Rattle.code_check.specs.declared.codes.Part.{Part}
use Rattle.code_check.specs.declared.codes.Part.TheVariants as parts

-- both terms have a class in the graph, and it is one
abbrev pub HaveSameClass : Graph Op → Tree Op → Tree Op → Type 0
HaveSameClass g t u = HaveOneClass g [] t u

-- the rows of the graph, without names of declared operators
abbrev pub rows_of : Graph Op → List LaunchRow
rows_of g = map (λ (r : Row Op). plain_row r.class r.op r.operands) g.rows

-- the term has a class, which the rows show to be a multiple of 2 ^ n
pub record IsMultipleTerm (g : Graph Op) (t : Tree Op) (n : ℕ) : Type 0 where
  pub class : ℕ
  pub is : IsClass g [] t class
  pub power : ℕ
  pub enough : n ≤ power
  pub shown : IsShown (rows_of g) class power

-- the instruction never traps, or its address is shown to be a multiple of what it must be
abbrev pub HasMultiple : Graph Op → Instr → TermState → Type 0
HasMultiple g i ts = (n : ℕ) → alignment i ≡ Some n → IsMultipleTerm g (place_term i ts) n

-- the one at this place
abbrev pub IsAligned : Graph Op → List Instr → ℕ → Type 0
IsAligned g instrs at = (i : Instr) → slice_get instrs at ≡ Some i → HasMultiple g i (terms_after at instrs)

-- the instruction at this place is a branch on register ra
pub record IsBranchAt (instrs : List Instr) (at ra : ℕ) : Type 0 where
  pub disp : ℤ
  pub there : slice_get instrs at ≡ Some (Beq ra disp)

-- a branch whose register has the guard's class there
pub record BranchesOn (g : Graph Op) (instrs : List Instr) (guard : Tree Op) : Type 0 where
  pub at : ℕ
  pub register : ℕ
  pub branch : IsBranchAt instrs at register
  pub one : HaveSameClass g ((terms_after at instrs).registers register) guard

-- where the goal has no guard the code has no branch
abbrev pub IsSameGuard : Graph Op → List Instr → Option (Tree Op) → Type 0
IsSameGuard g instrs None = (at ra : ℕ) → ¬ IsBranchAt instrs at ra
IsSameGuard g instrs (Some guard) = BranchesOn g instrs guard

-- memory and input registers as at entry
pub record IsAsAtEntry (g : Graph Op) (inputs : List InputReg) (s : TermState) : Type 0 where
  pub memory_is : HaveSameClass g s.memory entry_term
  pub inputs_are : All (λ (i : InputReg). HaveSameClass g (s.registers i.reg) (input_term i.reg)) inputs

abbrev pub IsSameExit : Graph Op → List Instr → List InputReg → Type 0
IsSameExit g instrs inputs = (at ra : ℕ) → IsBranchAt instrs at ra → IsAsAtEntry g inputs (terms_after at instrs)

abbrev pub terms_at_end : List Instr → TermState
terms_at_end instrs = terms_after (length instrs) instrs

-- the register that the code names for target i has the class of its term
abbrev pub IsSameSet : Graph Op → List Instr → List At → List TargetTree → ℕ → Type 0
IsSameSet g instrs places sets i =
    (t : TargetTree) (reg : ℕ) →
    slice_get sets i ≡ Some t →
    Contains places (record { set = i; reg = reg }) →
    HaveSameClass g ((terms_at_end instrs).registers reg) t.value

-- the term that is set for `M`, or the memory at entry
abbrev pub memory_target_term : List TargetTree → Tree Op
memory_target_term sets = option_map_or (λ (t : TargetTree). t.value) (find is_memory sets) entry_term

abbrev pub IsSameMemory : Graph Op → List Instr → List TargetTree → Type 0
IsSameMemory g instrs sets = HaveSameClass g (terms_at_end instrs).memory (memory_target_term sets)

-- one part
abbrev pub IsSamePart : Graph Op → GoalTree → List Instr → List At → Part → Type 0
IsSamePart g goal instrs places (parts.Trap at) = IsAligned g instrs at
IsSamePart g goal instrs places parts.Guard = IsSameGuard g instrs goal.guard
IsSamePart g goal instrs places parts.Exit = IsSameExit g instrs goal.inputs
IsSamePart g goal instrs places (parts.Set i) = IsSameSet g instrs places goal.sets i
IsSamePart g goal instrs places parts.Memory = IsSameMemory g instrs goal.sets

-- the numbers of the targets that are words, where the first one has the number i
abbrev pub word_targets_from : ℕ → List TargetTree → List ℕ
word_targets_from i [] = []
word_targets_from i (t ∷ ts) = if is_memory t then word_targets_from (i + 1) ts else i ∷ word_targets_from (i + 1) ts

-- the places of instructions, where the first one has place i
abbrev pub places_from : ℕ → List Instr → List ℕ
places_from i [] = []
places_from i (instr ∷ instrs) = i ∷ places_from (i + 1) instrs

-- the parts of the goal in their order
abbrev pub goal_parts : GoalTree → List Part
goal_parts goal =
    (parts.Guard ∷ parts.Exit ∷ []) ++ map parts.Set (word_targets_from 0 goal.sets) ++ parts.Memory ∷ []

-- the instructions, and then the parts of the goal
abbrev pub compared_parts : GoalTree → List Instr → List Part
compared_parts goal instrs = map parts.Trap (places_from 0 instrs) ++ goal_parts goal

abbrev pub Same : Graph Op → GoalTree → List Instr → List At → Type 0
Same g goal instrs places = All (IsSamePart g goal instrs places) (compared_parts goal instrs)

-- the first part that isn't the same
pub record IsFirstDifferent (g : Graph Op) (goal : GoalTree) (instrs : List Instr) (places : List At) (part : Part) :
    Type 0 where
  pub before : List Part
  pub behind : List Part
  pub order : compared_parts goal instrs ≡ before ++ part ∷ behind
  pub same : All (IsSamePart g goal instrs places) before
  pub differs : ¬ IsSamePart g goal instrs places part
