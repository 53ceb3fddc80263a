use Rattle.std.proofs.Common.{List, take}
use Rattle.std.specs.Prelude.{MatchOption}
use Rattle.cnf_core.specs.declared.literal.Lit.{Lit}
use Rattle.cnf_core.specs.Formula.{IsLitOf}
use Rattle.sat_core.specs.Steps.{var_count, IsTrailState}
use Rattle.sat_core.specs.Watches.{IsLatest}
use Rattle.sat_core.proofs.choice.latest.Given as goal

abbrev pub invariant-loop-lit : goal.invariant-loop-lit
invariant-loop-lit l = record {
  exists : MatchOption l.best (Unit {0}) (IsLitOf (var_count l.trail));
  latest : (clauses : List (List Lit)) → IsTrailState clauses (var_count l.trail) l.trail → IsLatest l.trail.steps.items (take l.lit-index l.clause) l.but l.best;
}
