use Rattle.std.proofs.Common.{◌≡◌, ◌+◌, drop, not}
use Rattle.std.specs.Prelude.{◌&&◌}
use Rattle.std.specs.List.{prefix_len}
use Rattle.schedule_meaning.specs.Launches.{gives}
use Rattle.schedule_meaning.specs.Readers.{passes}
use Rattle.register_assign.proofs.registers.Ordered.first_giving.Given as goal

-- No launch so far passes.
abbrev pub invariant-loop-place : goal.invariant-loop-place
invariant-loop-place l = prefix_len (λ m. not (gives l.self.graph.now l.class m && passes l.self.graph.now l.self.table.now l.reader m)) l.self.launches.now ≡ l.place + prefix_len (λ m. not (gives l.self.graph.now l.class m && passes l.self.graph.now l.self.table.now l.reader m)) (drop l.place l.self.launches.now)
