use Rattle.axiom_library.proofs.Naming as naming
use Rattle.axiom_library.proofs.laws.families_have_names.Goals as goal

pub returns : goal.returns
returns c = record { found = naming.found; own = naming.own; differ = naming.differ }
