-- The status of a clause under some values: unit, falsified or open, the field's terms.
use Rattle.std.specs.Prelude.{List}
use Rattle.cnf_core.specs.declared.literal.Lit.{Lit}
use Rattle.cnf_core.specs.declared.values.ClauseStatus.{ClauseStatus}
use Rattle.cnf_core.specs.declared.values.ClauseStatus.TheVariants.{Unit as UnitStatus, Falsified, Open}
use Rattle.cnf_core.specs.Values.{Partial, IsUnit, IsFalseClause, IsOpenClause}

-- the clause has this status
abbrev pub HasStatus : Partial → List Lit → ClauseStatus → Type 0
HasStatus s c (UnitStatus l) = IsUnit s c l
HasStatus s c Falsified = IsFalseClause s c
HasStatus s c Open = IsOpenClause s c
