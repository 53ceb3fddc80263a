-- The clauses of schedules with few launches: those of an encoding, and behind them a counter over the launches.
-- Source: this project; the counter is that of the clauses before it.
use Rattle.std.specs.Prelude.{◌≡◌, ℕ, ◌+◌, List, ◌++◌, length}
use Rattle.cnf_core.specs.Counter.{at_most_clauses, at_most_vars}
use Rattle.cnf_core.specs.Formula.{Formula}
use Rattle.cnf_core.specs.declared.literal.Lit.{Lit}
use Rattle.cycle_encoding.specs.CycleFormula.{Listed, Scope}
use Rattle.cycle_encoding.specs.Encodings.{AreListed}
use Rattle.cycle_encoding.specs.Families.{any}
use Rattle.cycle_encoding.specs.CycleFormula.{listed_in}
use Rattle.cycle_encoding.specs.Shapes.{numbered, vars_of}
use Rattle.cycle_encoding.specs.declared.encodings.Encoding.{Encoding}
use Rattle.graph_meaning.specs.declared.graphs.LaunchGraph.{LaunchGraph}
use Rattle.machine_table.specs.declared.tables.Table.{Table}
use Rattle.order_encoding.specs.WholeFormula.{whole_formula}
use Rattle.schedule_meaning.specs.declared.schedules.Launch.{Launch}

-- the formula, and behind it that at most n of the literals are true
abbrev pub with_at_most : ℕ → List Lit → Formula → Formula
with_at_most n lits f = record {
  vars = f.vars + at_most_vars n (length lits);
  clauses = f.clauses ++ at_most_clauses f.vars n lits;
}

-- the variables of launches, which are the first ones, in the order of their numbers
abbrev pub launch_literals : List Launch → List Lit
launch_literals launches = vars_of any (numbered 0 launches)

-- the clauses of schedules, and behind them that at most n launches are made
abbrev pub fewer_formula : LaunchGraph → Table → ℕ → Listed → ℕ → Formula
fewer_formula g table k l n = with_at_most n (launch_literals l.launches) (whole_formula g table k l)

-- these are the clauses of schedules with at most n launches in k cycles, over the lists of the encoding
pub record IsFewerOf (e : Encoding) (g : LaunchGraph) (table : Table) (k n : ℕ) (f : Formula) : Type 0 where
  pub lists : Listed
  pub listed : AreListed e g table k lists
  pub is : f ≡ fewer_formula g table k lists n

-- these clauses over what a scope gives variables
abbrev pub fewer_in : Scope → LaunchGraph → Table → ℕ → ℕ → Formula
fewer_in s g table k n = fewer_formula g table k (listed_in g table k s) n
