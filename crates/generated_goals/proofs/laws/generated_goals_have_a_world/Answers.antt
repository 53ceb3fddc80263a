use Rattle.generated_goals.proofs.Worlds.{some_world}
use Rattle.generated_goals.proofs.laws.generated_goals_have_a_world.Goals as goal

pub returns : goal.returns
returns c = some_world
