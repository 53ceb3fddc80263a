-- Worked graphs, and the clauses of two of them, one by one.
-- Source: this project.
use Rattle.std.specs.Prelude.{List, [], ◌∷◌, None, codes}
use Rattle.cnf_core.specs.declared.literal.Lit.{Lit}
use Rattle.word_ops.specs.declared.operates.Operate.TheVariants as operates
use Rattle.word_ops.specs.declared.operators.WordOp.TheVariants as ops
use Rattle.word_ops.specs.declared.sorts.Op.TheVariants as op
use Rattle.graph_meaning.specs.Graphs.{plain_row}
use Rattle.graph_meaning.specs.declared.graphs.LaunchGraph.{LaunchGraph}
use Rattle.schedule_meaning.specs.Worked.{input_class, set_class}
use Rattle.cycle_encoding.specs.Shapes.{positive, negative}

-- (set x (xor (addq a b) a)) on two slots in two clusters, in 2 cycles
abbrev pub sum_clauses : List (List Lit)
sum_clauses =
    (positive 3 ∷ positive 4 ∷ [])
    ∷ (negative 3 ∷ positive 7 ∷ []) ∷ (negative 4 ∷ positive 8 ∷ [])
    ∷ (negative 5 ∷ []) ∷ (negative 6 ∷ positive 1 ∷ []) ∷ (negative 7 ∷ []) ∷ (negative 8 ∷ [])
    ∷ (negative 9 ∷ []) ∷ (negative 10 ∷ []) ∷ (negative 11 ∷ []) ∷ (negative 12 ∷ positive 3 ∷ [])
    ∷ (positive 13 ∷ [])
    ∷ (negative 16 ∷ []) ∷ (negative 13 ∷ positive 16 ∷ positive 14 ∷ [])
    ∷ (negative 17 ∷ []) ∷ (negative 14 ∷ positive 17 ∷ positive 15 ∷ [])
    ∷ (positive 15 ∷ [])
    ∷ (negative 1 ∷ positive 18 ∷ []) ∷ (negative 2 ∷ positive 19 ∷ [])
    ∷ (negative 3 ∷ positive 20 ∷ []) ∷ (negative 4 ∷ positive 21 ∷ []) ∷ []

-- (set x (addq a b)), with one register
abbrev pub one_sum_graph : LaunchGraph
one_sum_graph = record {
  rows = plain_row 0 op.Entry [] ∷ plain_row 1 (op.Input 16) [] ∷ plain_row 2 (op.Input 17) []
      ∷ plain_row 3 (op.Word (ops.Operate operates.Addq)) (1 ∷ 2 ∷ []) ∷ [];
  multiples = [];
  entry = 0;
  inputs = input_class (codes "a") 16 1 ∷ input_class (codes "b") 17 2 ∷ [];
  pool = 1 ∷ [];
  guard = None;
  sets = set_class (codes "x") 3 ∷ [];
}

-- in no cycle: nothing gives the target, and the memory at entry is the one at the end
abbrev pub one_sum_clauses : List (List Lit)
one_sum_clauses = [] ∷ (positive 1 ∷ []) ∷ (positive 1 ∷ []) ∷ []
