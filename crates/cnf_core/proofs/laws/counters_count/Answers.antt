use Rattle.cnf_core.proofs.Counting.{at_most_says}
use Rattle.cnf_core.proofs.Range.{length_at_most, at_most-over}
use Rattle.cnf_core.proofs.laws.counters_count.Goals as goal

pub returns : goal.returns
returns c = record {
  say = at_most_says;
  over = at_most-over;
  size = length_at_most;
}
