-- The launch graph of machine words themselves: what the given instructions compute, with no rule applied.
-- Source: this project, over the launch graphs of Denali (PLDI 2002); the Alpha Architecture Handbook, version 4, for
-- what each instruction reads and writes.
use Rattle.std.specs.Prelude.{Bool, false, ℕ, ℤ, ◌≡◌, ◌+◌, ◌-◌, ◌^◌, ◌==◌, ◌&&◌, not, is_some, if◌then◌else◌, List, [], ◌∷◌, ◌++◌, map, filter, filter_map, fold, slice_index, Option, None, Some}
use Rattle.std.specs.Option.{option_map_or}
use Rattle.std.specs.List.{list_any}
use Rattle.word_ops.specs.declared.operates.Operate.TheVariants.{And}
use Rattle.word_ops.specs.declared.operators.WordOp.TheVariants as words
use Rattle.word_ops.specs.declared.sorts.Access.{Access}
use Rattle.word_ops.specs.declared.sorts.Access.TheVariants.{Quad}
use Rattle.word_ops.specs.declared.sorts.Op.{Op}
use Rattle.word_ops.specs.declared.sorts.Op.TheVariants as ops
use Rattle.goal_meaning.specs.Rules.{has_register}
use Rattle.goal_meaning.specs.Views.{TargetTree}
use Rattle.goal_meaning.specs.declared.goals.InputReg.{InputReg}
use Rattle.graph_meaning.specs.Graphs.{plain_row}
use Rattle.graph_meaning.specs.Multiples.{AreMultiplesOf}
use Rattle.graph_meaning.specs.declared.graphs.InputClass.{InputClass}
use Rattle.graph_meaning.specs.declared.graphs.LaunchGraph.{LaunchGraph}
use Rattle.graph_meaning.specs.declared.graphs.LaunchRow.{LaunchRow}
use Rattle.graph_meaning.specs.declared.graphs.SetClass.{SetClass}
use Rattle.alpha_encode.specs.Codes.{is_unary}
use Rattle.alpha_encode.specs.Decoded.{decoded}
use Rattle.alpha_encode.specs.declared.instructions.Instr.{Instr}
use Rattle.alpha_encode.specs.declared.instructions.Instr.TheVariants.{Operate, Lda, Ldah, Load, Store, Ldq, Stq, Beq}
use Rattle.alpha_encode.specs.declared.instructions.Second.{Second}
use Rattle.alpha_encode.specs.declared.instructions.Second.TheVariants.{Reg, Literal}
use Rattle.code_check.specs.Terms.{sign_extended}
use Rattle.code_lift.specs.Lifted.{Lifting, at_start, counts, first_numbers, goal_of_lift, inputs_read, latest_of, lift_step, lifted}
use Rattle.code_lift.specs.Views.{LiftTree}
use Rattle.code_lift.specs.declared.lifting.Address.{Address}
use Rattle.code_lift.specs.declared.lifting.Value.{Value}
use Rattle.code_lift.specs.declared.lifting.Value.TheVariants.{Entry, Zero, Let}
use Rattle.own_graph.specs.Rows.{applied_class, class_in, class_of_part, with_applied, with_leaves, with_row}
use Rattle.own_graph.specs.declared.operands.Part.{Part}
use Rattle.own_graph.specs.declared.operands.Part.TheVariants.{Class, Leaf}

-- ---- operands

abbrev pub number : ℕ → Part
number n = Leaf (ops.Constant n)

-- a value: an input, 0, or what a word writes, of which the classes are given
abbrev pub value_part : List ℕ → Value → Part
value_part values (Entry r) = Leaf (ops.Input r)
value_part values Zero = number 0
value_part values (Let n) = Class (slice_index values n)

abbrev pub memory_part : List ℕ → Option ℕ → Part
memory_part values None = Leaf ops.Entry
memory_part values (Some n) = Class (slice_index values n)

-- the parts of an instruction's operands, where this is known behind the words before it
module _ (s : Lifting) (values : List ℕ) where
  abbrev pub register_part : ℕ → Part
  register_part r = value_part values (latest_of s r)

  abbrev pub second_part : Second → Part
  second_part (Reg r) = register_part r
  second_part (Literal n) = number n

  -- a displacement of 0 isn't written
  abbrev pub displacement_parts : ℤ → List Part
  displacement_parts disp = if sign_extended disp == 0 then [] else number (sign_extended disp) ∷ []

  -- memory, base and displacement
  abbrev pub load_parts : ℕ → ℤ → List Part
  load_parts rb disp = memory_part values s.memory ∷ register_part rb ∷ displacement_parts disp

  -- a branch writes nothing
  abbrev pub operand_parts : Instr → List Part
  operand_parts (Operate op ra second rc) =
      if is_unary op then second_part second ∷ [] else register_part ra ∷ second_part second ∷ []
  operand_parts (Lda ra rb disp) = register_part rb ∷ number (sign_extended disp) ∷ []
  operand_parts (Ldah ra rb disp) = register_part rb ∷ number (sign_extended disp) ∷ []
  operand_parts (Load access ra rb disp) = load_parts rb disp
  operand_parts (Store access ra rb disp) = load_parts rb disp ++ register_part ra ∷ []
  operand_parts (Ldq ra rb disp) = load_parts rb disp
  operand_parts (Stq ra rb disp) = load_parts rb disp ++ register_part ra ∷ []
  operand_parts (Beq ra disp) = []

-- ---- operators

abbrev pub load_op : Access → ℤ → Op
load_op access disp = if sign_extended disp == 0 then ops.Select access else ops.Load access

abbrev pub store_op : Access → ℤ → Op
store_op access disp = if sign_extended disp == 0 then ops.Store access else ops.Put access

-- the operator of what the instruction writes; a branch writes nothing
abbrev pub own_op : Instr → Op
own_op (Operate op ra second rc) = ops.Word (words.Operate op)
own_op (Lda ra rb disp) = ops.Word words.Lda
own_op (Ldah ra rb disp) = ops.Word words.Ldah
own_op (Load access ra rb disp) = load_op access disp
own_op (Store access ra rb disp) = store_op access disp
own_op (Ldq ra rb disp) = load_op Quad disp
own_op (Stq ra rb disp) = store_op Quad disp
own_op (Beq ra disp) = ops.Entry

-- ---- word by word

-- the rows behind some words, and the class of what each word that counts writes
pub record Own : Type 0 where
  pub rows : List LaunchRow
  pub values : List ℕ

-- the memory at entry and the inputs
abbrev pub own_start : List ℕ → Own
own_start inputs = record {
  rows = fold (λ rows r. with_row rows (ops.Input r) []) (plain_row 0 ops.Entry [] ∷ []) inputs;
  values = [];
}

-- behind one instruction more; equal ones over equal operands have one row
abbrev pub own_by : Lifting → Instr → Own → Own
own_by s i o = record {
  rows = with_applied o.rows (own_op i) (operand_parts s o.values i);
  values = o.values ++ applied_class o.rows (own_op i) (operand_parts s o.values i) ∷ [];
}

abbrev pub own_step : Lifting → Instr → Own → Own
own_step s i o = if counts i then own_by s i o else o

abbrev pub own_from : ℕ → List Instr → Lifting → Own → Own
own_from at [] s o = o
own_from at (i ∷ is) s o = own_from (at + 1) is (lift_step at i s) (own_step s i o)

abbrev pub own_behind : LiftTree → Own
own_behind lift =
    own_from 0 (filter_map decoded lift.words) at_start (own_start (inputs_read (lifted lift.words)))

-- ---- addresses

-- the rows of an address: the base alone, or its sum with a displacement
abbrev pub with_address : List LaunchRow → Part → ℕ → List LaunchRow
with_address rows base n =
    if n == 0 then rows else with_applied rows (ops.Word words.Lda) (base ∷ number n ∷ [])

abbrev pub address_part : List LaunchRow → Part → ℕ → Part
address_part rows base n =
    if n == 0 then base else Class (applied_class rows (ops.Word words.Lda) (base ∷ number n ∷ []))

abbrev pub and_op : Op
and_op = ops.Word (words.Operate And)

-- the row stands in this class
abbrev pub stands_in : List LaunchRow → ℕ → Op → List ℕ → Bool
stands_in rows class op operands = option_map_or (λ c. c == class) (class_in rows op operands) false

-- the rows, with this one of this class behind them where it isn't there
abbrev pub with_row_of : ℕ → List LaunchRow → Op → List ℕ → List LaunchRow
with_row_of class rows op operands =
    if is_some (class_in rows op operands) then rows else rows ++ plain_row class op operands ∷ []

-- `and` over two classes is in the class of 0. Where a word computes it the row is there in another class, and a row
-- stands once: then it is the row with the operands the other way round.
abbrev pub with_zero : List LaunchRow → ℕ → ℕ → ℕ → List LaunchRow
with_zero rows zero_class a mask =
    if stands_in rows zero_class and_op (a ∷ mask ∷ []) then rows
    else if is_some (class_in rows and_op (a ∷ mask ∷ [])) then with_row_of zero_class rows and_op (mask ∷ a ∷ [])
    else with_row_of zero_class rows and_op (a ∷ mask ∷ [])

-- the low bits of the address are 0
abbrev pub with_low_bits : List LaunchRow → Part → ℕ → List LaunchRow
with_low_bits rows address mask =
    let all = with_leaves rows (address ∷ number mask ∷ number 0 ∷ []) in
    with_zero all (class_of_part all (number 0)) (class_of_part all address) (class_of_part all (number mask))

-- so the graph knows of which number the address is a multiple
abbrev pub with_multiple : List ℕ → List LaunchRow → Address → List LaunchRow
with_multiple values rows a =
    let base = value_part values a.value in
    with_low_bits (with_address rows base a.displacement) (address_part rows base a.displacement) (2 ^ a.power - 1)

-- ---- the graph

-- the rows of the words, and behind them those of the addresses on which they may trap
abbrev pub own_rows : LiftTree → List LaunchRow
own_rows lift = fold (with_multiple (own_behind lift).values) (own_behind lift).rows (lifted lift.words).addresses

abbrev pub own_input : List LaunchRow → InputReg → InputClass
own_input rows i = record { name = i.name; reg = i.reg; class = class_of_part rows (Leaf (ops.Input i.reg)) }

-- what a register has behind the words, or the memory
abbrev pub target_part : Lifting → List ℕ → Option ℕ → Part
target_part s values None = memory_part values s.memory
target_part s values (Some r) = register_part s values r

abbrev pub own_set : Lifting → Own → TargetTree → SetClass
own_set s o t = record { name = t.name; class = class_of_part o.rows (target_part s o.values t.pin); pin = t.pin }

-- some target is pinned to the register
abbrev pub is_pin : List TargetTree → ℕ → Bool
is_pin sets r = list_any (λ t. option_map_or (λ pin. pin == r) t.pin false) sets

-- all registers below 31 but those of inputs and pins
abbrev pub own_pool : LiftTree → List ℕ
own_pool lift =
    filter (λ r. not (has_register (inputs_read (lifted lift.words)) r) && not (is_pin (goal_of_lift lift).sets r))
    (first_numbers 31)

-- Inputs and sets are those of the lift's goal, with the classes of the words.
pub record IsOwnGraph (lift : LiftTree) (g : LaunchGraph) : Type 0 where
  pub rows : g.rows ≡ own_rows lift
  pub multiples : AreMultiplesOf g.rows g.multiples
  pub entry : g.entry ≡ 0
  pub inputs : g.inputs ≡ map (own_input (own_behind lift).rows) (goal_of_lift lift).inputs
  pub pool : g.pool ≡ own_pool lift
  pub guard : g.guard ≡ None
  pub sets : g.sets ≡ map (own_set (lifted lift.words) (own_behind lift)) (goal_of_lift lift).sets
