use Rattle.std.proofs.Common.{take}
use Rattle.std.specs.Prelude.{All, IsTrue, ◌&&◌}
use Rattle.schedule_meaning.specs.Launches.{gives}
use Rattle.schedule_meaning.specs.Readers.{passes}
use Rattle.schedule_meaning.proofs.readers.is_given.Given as goal

abbrev pub invariant-loop-launch : goal.invariant-loop-launch
invariant-loop-launch l = All (λ m. ¬ IsTrue (gives l.graph l.class m && passes l.graph l.table l.reader m)) (take l.launch-index l.list)
