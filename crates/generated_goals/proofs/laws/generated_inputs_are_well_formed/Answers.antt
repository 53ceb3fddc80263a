use Rattle.generated_goals.proofs.WellFormed.{well_formed}
use Rattle.generated_goals.proofs.laws.generated_inputs_are_well_formed.Goals as goal

pub returns : goal.returns
returns c = well_formed c.tables_keep_limits.ensures.built_in
