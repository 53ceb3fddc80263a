use Rattle.goal_meaning.proofs.Expanding.{is_expanded}
use Rattle.goal_meaning.proofs.laws.goals_without_lets_are_expanded.Goals as goal

pub returns : goal.returns
returns c = λ declared g is none. is_expanded declared g is none
