use Rattle.std.proofs.Common.{◌≡◌, codes, bytes_eq, sym, ◌∙◌}
use Rattle.std.proofs.lemmas.Slice.Eq.{bytes_eq-Decides}
use Rattle.proc_goal.specs.WellFormed.{memory}
use Rattle.proc_goal.proofs.sets.pin_of.Goals as goal

pub returns-then-is_memory : goal.returns-then-is_memory
returns-then-is_memory c = memory ((bytes_eq-Decides c.args.name.now (codes "M")).0 (sym c.is_memory.ensures ∙ c.if-is_memory.true))
