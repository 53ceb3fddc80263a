use Rattle.code_lift.proofs.GoalsOfLifts.{goals_few, goals_well_formed}
use Rattle.code_lift.proofs.laws.goals_of_lifts_are_well_formed.Goals as goal

pub returns-clause-well_formed : goal.returns-clause-well_formed
returns-clause-well_formed c = λ lifts are. goals_well_formed (λ n i low e. (c.words_and_instructions.ensures.forth n i low e).0) lifts are

pub returns-clause-few : goal.returns-clause-few
returns-clause-few c = λ lifts are. goals_few (λ n i low e. (c.words_and_instructions.ensures.forth n i low e).0) lifts are
