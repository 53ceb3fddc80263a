-- What the words of a row are read as, step by step. No public clause rests on this. Source: this project.
use Rattle.std.specs.Prelude.{ℕ, ◌≡◌, ◌≢◌, ◌<◌, ◌≤◌, ◌^◌, List, ◌++◌, length, map, drop, decimal, All}
use Rattle.word_ops.specs.declared.sorts.Op.{Op}
use Rattle.word_ops.specs.declared.sorts.Op.TheVariants.{Input, Constant, Declared}
use Rattle.launch_graph.specs.declared.row_reading.Head.{Head}
use Rattle.launch_graph.specs.declared.row_reading.Head.TheVariants as heads
use Rattle.launch_graph.specs.declared.row_reading.Argument.{Argument}
use Rattle.launch_graph.specs.declared.row_reading.Argument.TheVariants as arguments
use Rattle.launch_graph.specs.declared.row_lines.LineOp.{LineOp}
use Rattle.launch_graph.specs.declared.row_lines.LineOp.TheVariants.{Plain, Use}
use Rattle.launch_graph.specs.declared.row_lines.RowLine.{RowLine}
use Rattle.text_core.specs.LineTexts.{Words}
use Rattle.text_core.specs.Names.{IsName}
use Rattle.launch_graph.specs.RowLines.{op_word, line_op_words, IsLineOp, IsRowLine}

-- what the word of an operator tells
abbrev pub head_of : Op → Head
head_of (Input register) = heads.Takes arguments.Register
head_of (Constant n) = heads.Takes arguments.Constant
head_of (Declared index arity) = heads.Takes arguments.Name
head_of op = heads.Plain op

-- the word is an operator's, or no operator's
pub data IsHead (word : List ℕ) (head : Head) : Type 0 where
  named : (op : Op) → word ≡ op_word op → head ≡ head_of op → IsHead word head
  unknown : ((op : Op) → word ≢ op_word op) → head ≡ heads.Unknown → IsHead word head

-- what the word behind an operator's says, where the operator takes one
pub data IsArgument (word : List ℕ) : Argument → LineOp → Type 0 where
  register : {n : ℕ} → n < 31 → word ≡ decimal n → IsArgument word arguments.Register (Plain (Input n))
  constant : {n : ℕ} → n < 2 ^ 64 → word ≡ decimal n → IsArgument word arguments.Constant (Plain (Constant n))
  name : IsName word → IsArgument word arguments.Name (Use word)

-- behind the first word the words begin with this operator, before the words from `after` on, and with no other
pub record IsOpBefore (row : Words) (op : LineOp) (after : ℕ) : Type 0 where
  pub fine : IsLineOp op
  pub is : drop 1 row ≡ line_op_words op ++ drop after row
  pub within : after ≤ length row
  pub only : (other : LineOp) (rest : Words) → IsLineOp other → drop 1 row ≡ line_op_words other ++ rest
      → (other ≡ op) × (rest ≡ drop after row)

-- behind the first word the words begin with no operator
abbrev pub HasNoOp : Words → Type 0
HasNoOp row = (op : LineOp) (rest : Words) → IsLineOp op → drop 1 row ≡ line_op_words op ++ rest → ⊥

-- the words are these numbers, each below the limit
pub record AreNumbers (limit : ℕ) (words : Words) (ns : List ℕ) : Type 0 where
  pub small : All (λ n. n < limit) ns
  pub are : words ≡ map decimal ns

-- the words are this row and no other
pub record IsOnlyRow (words : Words) (row : RowLine) : Type 0 where
  pub is : IsRowLine words row
  pub only : (other : RowLine) → IsRowLine words other → other ≡ row
