-- What a table of visited clauses holds of each of them: this project; no public clause cites it.
use Rattle.std.specs.Prelude.{◌≤◌, List, length}
use Rattle.std.specs.List.{slice_range}
use Rattle.cnf_core.specs.declared.literal.Lit.{Lit}
use Rattle.sat_core.specs.declared.watches.Pair.{Pair}
use Rattle.sat_core.specs.declared.watches.Entry.{Entry}

-- a clause: its watched literals, and a copy of all
pub record Copied : Type 0 where
  pub pair : Pair
  pub lits : List Lit

-- the clauses of a table
pub record Copies : Type 0 where
  pub items : List Copied

-- what an entry stands for
abbrev pub copied_of : List Lit → Entry → Copied
copied_of literals e = record { pair = e.pair; lits = slice_range literals e.start e.end }

-- an entry's literals are there
abbrev pub HasLiterals : List Lit → Entry → Type 0
HasLiterals literals e = (e.start ≤ e.end) × (e.end ≤ length literals)
