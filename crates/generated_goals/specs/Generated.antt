-- Goals that are made from a number: a chain of operates over two inputs, each picked by a sequence of numbers that
-- begins with the chain's length. Source: this project; the sequence is a linear congruential one.
use Rattle.std.specs.Prelude.{ℕ, zero, suc, ◌+◌, ◌*◌, ◌%◌, ◌==◌, true, if◌then◌else◌, List, [], ◌∷◌, None, codes}
use Rattle.word_ops.specs.declared.operates.Operate.{Operate as OperateOf}
use Rattle.word_ops.specs.declared.operates.Operate.TheVariants.{Addq, Subq, Xor, Bis, S4addq}
use Rattle.word_ops.specs.declared.operators.WordOp.TheVariants.{Operate}
use Rattle.word_ops.specs.declared.sorts.Op.{Op}
use Rattle.word_ops.specs.declared.sorts.Op.TheVariants.{Word}
use Rattle.word_terms.specs.Tree.{Tree, application, none, more}
use Rattle.machine_table.specs.Tables.{ev6}
use Rattle.goal_meaning.specs.Rules.{default_pool}
use Rattle.goal_meaning.specs.Views.{GoalTree, InputTree}
use Rattle.goal_meaning.specs.declared.goals.InputReg.{InputReg}
use Rattle.saturation.specs.GoalTerms.{input_term}

-- ---- the operates

abbrev pub next_number : ℕ → ℕ
next_number n = (13 * n + 7) % 256

-- the number at a place of the sequence, of which the first is the chain's length
abbrev pub number_at : ℕ → ℕ → ℕ
number_at size zero = size
number_at size (suc i) = next_number (number_at size i)

abbrev pub picked : ℕ → OperateOf
picked n =
    if n % 5 == 0 then Addq
    else if n % 5 == 1 then Subq
    else if n % 5 == 2 then Xor
    else if n % 5 == 3 then Bis
    else S4addq

-- ---- the term

-- `a` is in register 9, `b` in register 10
abbrev pub registers : List ℕ
registers = 9 ∷ 10 ∷ []

-- ( OP term b )
abbrev pub applied : OperateOf → Tree Op → Tree Op
applied op t = application (Word (Operate op)) (more t (more (input_term 10) none))

-- `a` with so many operates applied
abbrev pub chain : ℕ → ℕ → Tree Op
chain size zero = input_term 9
chain size (suc i) = applied (picked (number_at size (suc i))) (chain size i)

-- ---- the goal

abbrev pub named_input : List ℕ → ℕ → InputReg
named_input name register = record { name = name; reg = register }

-- ( goal gen ( in a $9 ) ( in b $10 ) ( set x term ) )
abbrev pub generated_goal : ℕ → GoalTree
generated_goal size = record {
  name = codes "gen";
  inputs = named_input (codes "a") 9 ∷ named_input (codes "b") 10 ∷ [];
  pool = default_pool registers;
  lets = [];
  assumes = [];
  guard = None;
  sets = record { name = codes "x"; value = chain size size; pin = None } ∷ [];
}

-- the goal alone, for the table ev6
abbrev pub generated_input : ℕ → InputTree
generated_input size = record {
  table = ev6;
  builtin = true;
  ops = [];
  axioms = [];
  goals = generated_goal size ∷ [];
}
