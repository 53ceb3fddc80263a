use Rattle.std.proofs.Common.{ap, ◌∙◌}
use Rattle.sat_core.specs.Copies.{Copies}
use Rattle.sat_core.proofs.Copying.{copied-pushed}
use Rattle.sat_core.proofs.watches.Table.push.Goals as goal

pub returns : goal.returns
returns c =
    copied-pushed c.self.inside.literals.items c.args.lits.now c.pack.new.literals.items c.self.inside.entries.items c.push.new.self.items c.args.self.now.items c.args.pair c.len-start.result c.len-end.result
    (ap (λ (x : Copies). x.items) c.self.view_is) c.self.invariant c.in_ok-pack.ensures.all (c.len-start.ensures ∙ c.self.inside.literals.ok.0) (c.len-end.ensures ∙ c.pack.new.literals.ok.0) c.in_ok-push.ensures.items
