use Rattle.std.proofs.Common.{◌≡◌, drop}
use Rattle.std.specs.Prelude.{◌&&◌, nat_le}
use Rattle.std.specs.List.{list_any}
use Rattle.schedule_meaning.specs.Lifetimes.{reads_class}
use Rattle.schedule_meaning.proofs.lifetimes.is_read_from.Given as goal

abbrev pub invariant-loop-launch : goal.invariant-loop-launch
invariant-loop-launch l =
    list_any (λ m. nat_le l.cycle m.cycle && reads_class l.graph l.class m) l.list
    ≡ list_any (λ m. nat_le l.cycle m.cycle && reads_class l.graph l.class m) (drop l.launch-index l.list)
