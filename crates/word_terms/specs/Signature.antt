-- What an operator type says of its operators. From Denali (PLDI 2002): a term is an operator applied to terms, on
-- words and memories.
use Rattle.std.specs.Prelude.{ℕ, List, Option, IfSome}
use Rattle.word_ops.specs.Words.{IsWord}
use Rattle.word_ops.specs.Worlds.{Value, World}
use Rattle.word_ops.specs.Meanings.{AreValuesOf}
use Rattle.word_ops.specs.declared.sorts.Sort.{Sort}

pub record Signature (O : Type 0) : Type 0 where
  -- how many operands the operator takes
  pub arity : O → ℕ
  -- whether it gives a word or a memory
  pub sort : O → Sort
  -- what it takes as operand n, from 0
  pub operand_sort : O → ℕ → Sort
  -- the constant that it is, if it is one
  pub constant : O → Option ℕ
  -- what tells it from every other operator
  pub key : O → ℕ × ℕ

-- what each operator gives for its operands in a world, where each number of a declared operator has a name
abbrev pub Meaning : Type 0 → Type 0
Meaning O = World → (ℕ → List ℕ) → O → List Value → Value

-- as many values as the operator takes, each of its sort and in range
abbrev pub AreOperandsOf : {O : Type 0} → Signature O → O → List Value → Type 0
AreOperandsOf s op vs = AreValuesOf (s.arity op) (s.operand_sort op) vs

-- an operator's own constant is a word
abbrev pub HasWordConstant : {O : Type 0} → Signature O → O → Type 0
HasWordConstant s op = IfSome (s.constant op) IsWord
