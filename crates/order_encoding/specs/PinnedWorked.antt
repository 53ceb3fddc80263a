-- Worked graphs with pins, what has variables in the pinned encoding, and the clauses of two of them, one by one.
-- Source: this project.
use Rattle.std.specs.Prelude.{List, [], ◌∷◌, None, Some, true, false, codes}
use Rattle.cnf_core.specs.declared.literal.Lit.{Lit}
use Rattle.machine_table.specs.Tables.{slot_of, uses_of}
use Rattle.word_ops.specs.declared.operates.Operate.TheVariants as operates
use Rattle.machine_table.specs.declared.tables.InstrKind.TheVariants as kinds
use Rattle.machine_table.specs.declared.tables.Table.{Table}
use Rattle.graph_meaning.specs.declared.graphs.LaunchGraph.{LaunchGraph}
use Rattle.schedule_meaning.specs.Worked.{copy_graph, set_class, pinned_set}
use Rattle.cycle_encoding.specs.declared.encodings.Encoding.TheVariants.{Narrow}
use Rattle.cycle_encoding.specs.CycleFormula.{Scope}
use Rattle.cycle_encoding.specs.Shapes.{positive, negative}

-- (set p $16 (addq p 8)), with p in $16: the sum may be launched at once, and the copy of what it gives in cycle 1
abbrev pub step_scope : Scope
step_scope = record {
  encoding = Narrow;
  firsts = None ∷ None ∷ None ∷ Some 0 ∷ None ∷ Some 1 ∷ [];
  wants = false ∷ true ∷ false ∷ true ∷ [];
}

-- on two slots in two clusters, in 1 cycle: the sum goes to the pool (1) or to $16 (2)
abbrev pub step_clauses : List (List Lit)
step_clauses =
    (negative 1 ∷ positive 3 ∷ negative 7 ∷ []) ∷ (negative 3 ∷ []) ∷ (negative 4 ∷ []) ∷ (negative 5 ∷ [])
    ∷ (negative 6 ∷ []) ∷ (negative 1 ∷ positive 9 ∷ []) ∷ (negative 2 ∷ negative 9 ∷ []) ∷ (positive 10 ∷ [])
    ∷ (negative 12 ∷ []) ∷ (negative 10 ∷ positive 12 ∷ positive 11 ∷ []) ∷ (positive 11 ∷ [])
    ∷ (negative 1 ∷ positive 13 ∷ []) ∷ (negative 2 ∷ positive 8 ∷ []) ∷ (negative 7 ∷ positive 8 ∷ [])
    ∷ (positive 2 ∷ []) ∷ []

-- two slots in two clusters, of which each may copy
abbrev pub two_copiers : Table
two_copiers = record {
  slots = slot_of (codes "A") 0 ∷ slot_of (codes "B") 1 ∷ [];
  cross = 1;
  uses = uses_of 1 (0 ∷ 1 ∷ []) (kinds.Operate operates.Bis ∷ []);
}

-- (set p $16 q) (set q $17 p), with p in $16 and q in $17: both copies may be launched at once
abbrev pub exchange_scope : Scope
exchange_scope = record {
  encoding = Narrow;
  firsts = None ∷ None ∷ None ∷ None ∷ Some 0 ∷ Some 0 ∷ [];
  wants = false ∷ true ∷ true ∷ [];
}

-- in 1 cycle, in which they can't be exchanged
abbrev pub exchange_clauses : List (List Lit)
exchange_clauses =
    (negative 1 ∷ positive 11 ∷ negative 15 ∷ []) ∷ (negative 2 ∷ positive 11 ∷ negative 16 ∷ [])
    ∷ (negative 3 ∷ positive 12 ∷ negative 15 ∷ []) ∷ (negative 4 ∷ positive 12 ∷ negative 16 ∷ [])
    ∷ (negative 5 ∷ positive 9 ∷ negative 13 ∷ []) ∷ (negative 6 ∷ positive 9 ∷ negative 14 ∷ [])
    ∷ (negative 7 ∷ positive 10 ∷ negative 13 ∷ []) ∷ (negative 8 ∷ positive 10 ∷ negative 14 ∷ [])
    ∷ (negative 9 ∷ []) ∷ (negative 10 ∷ []) ∷ (negative 11 ∷ []) ∷ (negative 12 ∷ [])
    ∷ (negative 1 ∷ positive 17 ∷ []) ∷ (negative 2 ∷ positive 18 ∷ []) ∷ (negative 5 ∷ positive 19 ∷ [])
    ∷ (negative 17 ∷ positive 18 ∷ []) ∷ (negative 18 ∷ positive 19 ∷ []) ∷ (negative 2 ∷ negative 17 ∷ [])
    ∷ (negative 5 ∷ negative 18 ∷ []) ∷ (negative 6 ∷ negative 19 ∷ []) ∷ (negative 3 ∷ positive 20 ∷ [])
    ∷ (negative 4 ∷ positive 21 ∷ []) ∷ (negative 7 ∷ positive 22 ∷ []) ∷ (negative 20 ∷ positive 21 ∷ [])
    ∷ (negative 21 ∷ positive 22 ∷ []) ∷ (negative 4 ∷ negative 20 ∷ []) ∷ (negative 7 ∷ negative 21 ∷ [])
    ∷ (negative 8 ∷ negative 22 ∷ []) ∷ (positive 23 ∷ []) ∷ (negative 25 ∷ [])
    ∷ (negative 23 ∷ positive 25 ∷ positive 24 ∷ []) ∷ (positive 24 ∷ []) ∷ (negative 1 ∷ positive 26 ∷ [])
    ∷ (negative 3 ∷ positive 27 ∷ []) ∷ (negative 5 ∷ positive 26 ∷ []) ∷ (negative 7 ∷ positive 27 ∷ [])
    ∷ (negative 2 ∷ positive 14 ∷ []) ∷ (negative 4 ∷ positive 14 ∷ []) ∷ (negative 13 ∷ positive 14 ∷ [])
    ∷ (negative 6 ∷ positive 16 ∷ []) ∷ (negative 8 ∷ positive 16 ∷ []) ∷ (negative 15 ∷ positive 16 ∷ [])
    ∷ (negative 2 ∷ positive 28 ∷ []) ∷ (negative 4 ∷ negative 28 ∷ []) ∷ (negative 6 ∷ positive 29 ∷ [])
    ∷ (negative 8 ∷ negative 29 ∷ []) ∷ (positive 2 ∷ positive 4 ∷ []) ∷ (positive 6 ∷ positive 8 ∷ []) ∷ []

-- the copy loop with both sums pinned to the registers that they count in
abbrev pub pinned_copy_graph : LaunchGraph
pinned_copy_graph =
    record copy_graph {
      sets = set_class (codes "M") 6 ∷ pinned_set (codes "p") 8 16 ∷ pinned_set (codes "q") 9 17 ∷ [];
    }

-- the store's word comes in cycle 3, those of the comparison and the sums in cycle 1
abbrev pub copy_scope : Scope
copy_scope = record {
  encoding = Narrow;
  firsts = None ∷ None ∷ None ∷ None ∷ Some 0 ∷ Some 0 ∷ Some 3 ∷ None ∷ Some 0 ∷ Some 0 ∷ Some 1 ∷ None ∷ Some 1
      ∷ Some 1 ∷ [];
  wants = false ∷ true ∷ true ∷ false ∷ true ∷ true ∷ false ∷ false ∷ true ∷ true ∷ [];
}
