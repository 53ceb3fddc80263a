-- Worked graphs, tables and schedules.
-- Source: this project.
use Rattle.std.specs.Prelude.{ℕ, List, [], ◌∷◌, ◌++◌, None, Some, Bool, true, false, codes}
use Rattle.word_ops.specs.declared.sorts.Access.TheVariants.{Quad}
use Rattle.word_ops.specs.declared.operates.Operate.TheVariants as operates
use Rattle.word_ops.specs.declared.operators.WordOp.TheVariants as ops
use Rattle.word_ops.specs.declared.sorts.Op.TheVariants as op
use Rattle.graph_meaning.specs.Graphs.{plain_row}
use Rattle.machine_table.specs.Tables.{slot_of, uses_of}
use Rattle.machine_table.specs.declared.tables.InstrKind.TheVariants as kinds
use Rattle.machine_table.specs.declared.tables.Table.{Table}
use Rattle.graph_meaning.specs.declared.graphs.InputClass.{InputClass}
use Rattle.graph_meaning.specs.declared.graphs.SetClass.{SetClass}
use Rattle.graph_meaning.specs.declared.graphs.LaunchGraph.{LaunchGraph}
use Rattle.schedule_meaning.specs.declared.schedules.Launch.{Launch}
use Rattle.schedule_meaning.specs.declared.schedules.To.TheVariants.{Pool, Set}

abbrev pub input_class : List ℕ → ℕ → ℕ → InputClass
input_class name reg class = record { name = name; reg = reg; class = class }

abbrev pub set_class : List ℕ → ℕ → SetClass
set_class name class = record { name = name; class = class; pin = None }

abbrev pub pinned_set : List ℕ → ℕ → ℕ → SetClass
pinned_set name class pin = record { name = name; class = class; pin = Some pin }

abbrev pub at_slot : ℕ → ℕ → ℕ → Launch
at_slot cycle slot row = record { cycle = cycle; slot = slot; row = row; to = Pool }

-- the same, to the set of this number
abbrev pub to_set : ℕ → ℕ → ℕ → ℕ → Launch
to_set cycle slot row set = record { cycle = cycle; slot = slot; row = row; to = Set set }

abbrev pub high_pool : List ℕ
high_pool = 19 ∷ 20 ∷ 21 ∷ 22 ∷ 23 ∷ 24 ∷ 25 ∷ 27 ∷ 28 ∷ []

abbrev pub low_pool : List ℕ
low_pool = 0 ∷ 1 ∷ 2 ∷ 3 ∷ 4 ∷ 5 ∷ 6 ∷ 7 ∷ 8 ∷ []

-- (set x (xor (addq a b) a)) on two slots in two clusters
abbrev pub two_slots : Table
two_slots = record {
  slots = slot_of (codes "A") 0 ∷ slot_of (codes "B") 1 ∷ [];
  cross = 1;
  uses = uses_of 1 (0 ∷ []) (kinds.Operate operates.Addq ∷ [])
      ++ uses_of 1 (1 ∷ []) (kinds.Operate operates.Xor ∷ []);
}

abbrev pub sum_graph : LaunchGraph
sum_graph = record {
  rows = plain_row 0 op.Entry [] ∷ plain_row 1 (op.Input 16) [] ∷ plain_row 2 (op.Input 17) []
      ∷ plain_row 3 (op.Word (ops.Operate operates.Addq)) (1 ∷ 2 ∷ [])
      ∷ plain_row 4 (op.Word (ops.Operate operates.Xor)) (3 ∷ 1 ∷ []) ∷ [];
  multiples = [];
  entry = 0;
  inputs = input_class (codes "a") 16 1 ∷ input_class (codes "b") 17 2 ∷ [];
  pool = low_pool ++ 18 ∷ high_pool;
  guard = None;
  sets = set_class (codes "x") 4 ∷ [];
}

-- the copy loop, with a guard that holds loads or not, and with a pool
abbrev pub copy_graph_with : Bool → List ℕ → LaunchGraph
copy_graph_with held pool = record {
  rows = plain_row 0 op.Entry []
      ∷ plain_row 1 (op.Input 16) []
      ∷ plain_row 2 (op.Input 17) []
      ∷ plain_row 3 (op.Input 18) []
      ∷ plain_row 4 (op.Word (ops.Operate operates.Cmpult)) (1 ∷ 3 ∷ [])
      ∷ plain_row 5 (op.Select Quad) (0 ∷ 1 ∷ [])
      ∷ plain_row 6 (op.Store Quad) (0 ∷ 2 ∷ 5 ∷ [])
      ∷ plain_row 7 (op.Constant 8) []
      ∷ plain_row 8 (op.Word (ops.Operate operates.Addq)) (1 ∷ 7 ∷ [])
      ∷ plain_row 9 (op.Word (ops.Operate operates.Addq)) (2 ∷ 7 ∷ [])
      ∷ [];
  multiples = [];
  entry = 0;
  inputs = input_class (codes "p") 16 1 ∷ input_class (codes "q") 17 2 ∷ input_class (codes "r") 18 3 ∷ [];
  pool = pool;
  guard = Some (record { class = 4; held = held });
  sets = set_class (codes "M") 6 ∷ set_class (codes "p") 8 ∷ set_class (codes "q") 9 ∷ [];
}

abbrev pub copy_graph : LaunchGraph
copy_graph = copy_graph_with true (low_pool ++ high_pool)

abbrev pub free_copy_graph : LaunchGraph
free_copy_graph = copy_graph_with false (low_pool ++ high_pool)

abbrev pub sum_in_three : List Launch
sum_in_three = at_slot 0 0 3 ∷ at_slot 2 1 4 ∷ []

abbrev pub sum_in_two : List Launch
sum_in_two = at_slot 0 0 3 ∷ at_slot 1 1 4 ∷ []

abbrev pub sum_twice : List Launch
sum_twice = at_slot 0 0 3 ∷ at_slot 0 0 3 ∷ at_slot 2 1 4 ∷ []

-- the comparison and the two sums, and the branch in a cycle
abbrev pub copy_operates : List Launch
copy_operates = at_slot 0 0 4 ∷ at_slot 0 1 8 ∷ at_slot 0 3 9 ∷ []

-- with the branch, the load and the store in these cycles
abbrev pub copy_at : ℕ → ℕ → ℕ → List Launch
copy_at branch load store = copy_operates ++ at_slot branch 0 10 ∷ at_slot load 2 5 ∷ at_slot store 2 6 ∷ []

abbrev pub copy_with : ℕ → ℕ → List Launch
copy_with load store = copy_at 1 load store

-- other lists of launches of the copy loop: without its branch, its store, one of its sums; with a row that isn't there
abbrev pub copy_without_branch : List Launch
copy_without_branch = copy_operates ++ at_slot 1 2 5 ∷ at_slot 4 2 6 ∷ []

abbrev pub copy_without_store : List Launch
copy_without_store = copy_operates ++ at_slot 1 0 10 ∷ at_slot 1 2 5 ∷ []

abbrev pub copy_without_sum : List Launch
copy_without_sum = at_slot 0 0 4 ∷ at_slot 0 3 9 ∷ at_slot 1 0 10 ∷ at_slot 1 2 5 ∷ at_slot 4 2 6 ∷ []

abbrev pub copy_of_no_row : List Launch
copy_of_no_row = copy_operates ++ at_slot 1 0 11 ∷ at_slot 1 2 5 ∷ at_slot 4 2 6 ∷ []

-- its store in a slot that stores may not have
abbrev pub copy_stored_above : List Launch
copy_stored_above = copy_operates ++ at_slot 1 0 10 ∷ at_slot 1 2 5 ∷ at_slot 4 0 6 ∷ []

-- ---- pinned targets

-- (set p $16 (addq p 8)), with p in $16
abbrev pub step_graph : LaunchGraph
step_graph = record {
  rows = plain_row 0 op.Entry [] ∷ plain_row 1 (op.Input 16) [] ∷ plain_row 2 (op.Constant 8) []
      ∷ plain_row 3 (op.Word (ops.Operate operates.Addq)) (1 ∷ 2 ∷ []) ∷ [];
  multiples = [];
  entry = 0;
  inputs = input_class (codes "p") 16 1 ∷ [];
  pool = low_pool ++ high_pool;
  guard = None;
  sets = pinned_set (codes "p") 3 16 ∷ [];
}

abbrev pub step_in_one : List Launch
step_in_one = to_set 0 0 3 0 ∷ []

-- (set p $16 q) (set q $17 p), with p in $16 and q in $17: the copies of the sets are rows 4 and 5
abbrev pub exchange_graph : LaunchGraph
exchange_graph = record {
  rows = plain_row 0 op.Entry [] ∷ plain_row 1 (op.Input 16) [] ∷ plain_row 2 (op.Input 17) [] ∷ [];
  multiples = [];
  entry = 0;
  inputs = input_class (codes "p") 16 1 ∷ input_class (codes "q") 17 2 ∷ [];
  pool = low_pool ++ high_pool;
  guard = None;
  sets = pinned_set (codes "p") 2 16 ∷ pinned_set (codes "q") 1 17 ∷ [];
}

-- p is copied to the pool, while q is copied to $16; then what was p is copied to $17
abbrev pub exchange_in_two : List Launch
exchange_in_two = at_slot 0 0 5 ∷ to_set 0 2 4 0 ∷ to_set 1 0 5 1 ∷ []

-- both at once
abbrev pub exchange_in_one : List Launch
exchange_in_one = to_set 0 0 4 0 ∷ to_set 0 2 5 1 ∷ []

-- ---- registers by live ranges

-- (set x (addq (addq a 1) a)), with two registers in the pool
abbrev pub chain_graph : LaunchGraph
chain_graph = record {
  rows = plain_row 0 op.Entry [] ∷ plain_row 1 (op.Input 16) [] ∷ plain_row 2 (op.Constant 1) []
      ∷ plain_row 3 (op.Word (ops.Operate operates.Addq)) (1 ∷ 2 ∷ [])
      ∷ plain_row 4 (op.Word (ops.Operate operates.Addq)) (3 ∷ 1 ∷ []) ∷ [];
  multiples = [];
  entry = 0;
  inputs = input_class (codes "a") 16 1 ∷ [];
  pool = 1 ∷ 2 ∷ [];
  guard = None;
  sets = set_class (codes "x") 4 ∷ [];
}

-- the first sum is computed a second time: while the first word of it is read, and after that
abbrev pub chain_at_once : List Launch
chain_at_once = at_slot 0 0 3 ∷ at_slot 1 0 4 ∷ at_slot 1 2 3 ∷ []

abbrev pub chain_in_turn : List Launch
chain_in_turn = at_slot 0 0 3 ∷ at_slot 1 0 4 ∷ at_slot 2 0 3 ∷ []
