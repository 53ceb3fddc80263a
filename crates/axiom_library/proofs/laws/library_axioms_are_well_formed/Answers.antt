use Rattle.std.proofs.Common.{[], arith}
use Rattle.goal_meaning.specs.WellFormed.{IsAxiom}
use Rattle.axiom_library.proofs.AskedRules.{axioms_are}
use Rattle.axiom_library.proofs.WellFormed.{family_is_well_formed, family_is_well_formed_alone, among_all}
use Rattle.axiom_library.proofs.laws.library_axioms_are_well_formed.Goals as goal

pub returns : goal.returns
returns c = record {
  each = λ family declared. family_is_well_formed declared family;
  alone = family_is_well_formed_alone;
  asked = axioms_are (IsAxiom []) family_is_well_formed_alone;
  few = omega arith;
  whole = among_all;
}
