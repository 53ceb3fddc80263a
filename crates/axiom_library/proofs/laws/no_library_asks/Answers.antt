use Rattle.std.proofs.Common.{refl}
use Rattle.axiom_library.proofs.Membership.{has_none}
use Rattle.axiom_library.proofs.laws.no_library_asks.Goals as goal

pub returns : goal.returns
returns c = record { families = has_none; axioms = refl; equations = refl; kinds = refl }
