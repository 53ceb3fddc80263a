use Rattle.schedule_meaning.proofs.Memory.{memory_before_is, left_once, after_is_before}
use Rattle.schedule_meaning.proofs.laws.memories_are_left.Goals as goal

pub returns : goal.returns
returns c = record {
  left = λ g ls t. memory_before_is g t ls;
  once = λ g ls t a b single. left_once g ls single t a b;
  after = after_is_before;
}
