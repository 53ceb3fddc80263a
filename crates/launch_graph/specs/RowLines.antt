-- The rows of a launch graph as lines, `CLASS OP OPERAND..`. Source: this project.
use Rattle.std.specs.Prelude.{⊤, ℕ, ◌≡◌, ◌≢◌, ◌<◌, ◌^◌, List, [], ◌∷◌, ◌++◌, map, codes, decimal, All}
use Rattle.word_ops.specs.Names.{name_of, select_name, store_name, load_name, put_name}
use Rattle.word_ops.specs.declared.sorts.Op.{Op}
use Rattle.word_ops.specs.declared.sorts.Op.TheVariants.{Entry, Input, Constant, Word, Select, Store, Load, Put, Declared}
use Rattle.text_core.specs.LineTexts.{Words}
use Rattle.text_core.specs.Names.{IsName}
use Rattle.launch_graph.specs.declared.row_lines.LineOp.{LineOp}
use Rattle.launch_graph.specs.declared.row_lines.LineOp.TheVariants.{Plain, Use, Unknown}
use Rattle.launch_graph.specs.declared.row_lines.RowLine.{RowLine}

-- the word that names an operator
abbrev pub op_word : Op → List ℕ
op_word Entry = codes "memory"
op_word (Input register) = codes "input"
op_word (Constant n) = codes "const"
op_word (Word op) = name_of op
op_word (Select access) = select_name access
op_word (Store access) = store_name access
op_word (Load access) = load_name access
op_word (Put access) = put_name access
op_word (Declared index arity) = codes "use"

-- what stands behind that word before the operands
abbrev pub argument_words : Op → Words
argument_words (Input register) = decimal register ∷ []
argument_words (Constant n) = decimal n ∷ []
argument_words _ = []

abbrev pub line_op_words : LineOp → Words
line_op_words (Plain op) = op_word op ∷ argument_words op
line_op_words (Use name) = codes "use" ∷ name ∷ []
line_op_words (Unknown word) = word ∷ []

abbrev pub row_words : RowLine → Words
row_words row = decimal row.class ∷ (line_op_words row.op ++ map decimal row.operands)

-- A register is 0 to 30, a constant is below 2 ^ 64, a declared operator is told by its name, and a word that no
-- operator has is unknown.
abbrev pub IsLineOp : LineOp → Type 0
IsLineOp (Plain (Input register)) = register < 31
IsLineOp (Plain (Constant n)) = n < 2 ^ 64
IsLineOp (Plain (Declared index arity)) = ⊥
IsLineOp (Plain op) = ⊤
IsLineOp (Use name) = IsName name
IsLineOp (Unknown word) = (op : Op) → word ≢ op_word op

-- the words are this row, whose numbers are below 2 ^ 31
pub record IsRowLine (words : Words) (row : RowLine) : Type 0 where
  pub is : words ≡ row_words row
  pub class : row.class < 2 ^ 31
  pub op : IsLineOp row.op
  pub operands : All (λ n. n < 2 ^ 31) row.operands
