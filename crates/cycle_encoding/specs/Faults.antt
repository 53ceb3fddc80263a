-- What a refusal says of the formula that was asked for.
-- Source: this project.
use Rattle.std.specs.Prelude.{ℕ}
use Rattle.cnf_core.specs.Formula.{Formula}
use Rattle.machine_table.specs.declared.tables.Table.{Table}
use Rattle.graph_meaning.specs.declared.graphs.LaunchGraph.{LaunchGraph}
use Rattle.cycle_encoding.specs.CycleFormula.{Listed}
use Rattle.cycle_encoding.specs.Encodings.{AreListed}
use Rattle.cycle_encoding.specs.Plans.{PassesLimit}
use Rattle.cycle_encoding.specs.declared.encodings.Encoding.{Encoding}
use Rattle.cycle_encoding.specs.declared.plans.EncodeFault.{EncodeFault}
use Rattle.cycle_encoding.specs.declared.plans.EncodeFault.TheVariants.{Size, Memory}

-- a size has the formula's counts, one of which passes its limit; want of memory says nothing
abbrev pub EncodeFaultIs : Formula → EncodeFault → Type 0
EncodeFaultIs f (Size vars clauses) = PassesLimit f vars clauses
EncodeFaultIs f Memory = Unit {0}

-- a size says too that the encoding has a list, over which the formula has these counts
abbrev pub IsRefusalOf : Encoding → LaunchGraph → Table → ℕ → (Listed → Formula) → EncodeFault → Type 0
IsRefusalOf e g table k formula (Size vars clauses) =
    (l : Listed) × AreListed e g table k l × PassesLimit (formula l) vars clauses
IsRefusalOf e g table k formula Memory = Unit {0}
