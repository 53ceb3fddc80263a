use Rattle.answer_texts.proofs.PartsListKinds.{one_launch}
use Rattle.answer_texts.proofs.laws.launches_have_own_lines.Goals as goal

pub returns : goal.returns
returns c = λ table g l m is graph a b e. one_launch table g is graph.own_pins l m a b e
