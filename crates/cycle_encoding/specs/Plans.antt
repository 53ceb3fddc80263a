-- What the calls keep beside a formula, and when a formula is too large.
-- Source: this project.
use Rattle.std.specs.Prelude.{◌≡◌, ℕ, ◌<◌, List, length, ◌⊎◌}
use Rattle.cycle_encoding.specs.Limits.{most_vars, most_clauses}
use Rattle.cnf_core.specs.Formula.{Formula}
use Rattle.machine_table.specs.declared.tables.Table.{Table}
use Rattle.graph_meaning.specs.declared.graphs.LaunchGraph.{LaunchGraph}
use Rattle.schedule_meaning.specs.declared.schedules.Allocation.TheVariants.{Block}
use Rattle.schedule_meaning.specs.declared.schedules.Launch.{Launch}
use Rattle.cycle_encoding.specs.Variables.{all_launches}
use Rattle.cycle_encoding.specs.CycleFormula.{wide, before_overwritten}
use Rattle.cycle_encoding.specs.declared.encodings.Encoding.{Encoding}
use Rattle.cycle_encoding.specs.declared.encodings.Encoding.TheVariants.{Wide}

-- in which encoding and for how many cycles a formula is, the launches of its first variables, in order, and how many
-- variables come before those of what is overwritten
pub record Plan : Type 0 where
  pub encoding : Encoding
  pub cycles : ℕ
  pub launches : List Launch
  pub overwritten : ℕ

-- what is kept beside each formula of the wide encoding
abbrev pub plan_of : LaunchGraph → Table → ℕ → Plan
plan_of g table k =
    record {
      encoding = Wide;
      cycles = k;
      launches = all_launches g table Block k;
      overwritten = before_overwritten (wide g table k);
    }

-- one of the two counts passes its limit
abbrev pub IsTooLarge : Formula → Type 0
IsTooLarge f = (most_vars < f.vars) ⊎ (most_clauses < length f.clauses)

-- these are the formula's counts, and one of them passes its limit
abbrev pub PassesLimit : Formula → ℕ → ℕ → Type 0
PassesLimit f vars clauses = IsTooLarge f × (vars ≡ f.vars) × (clauses ≡ length f.clauses)
