use Rattle.std.proofs.Common.{get_or}
use Rattle.std.proofs.lemmas.List.Elements.{Contains-get_or}
use Rattle.sat_core.specs.Watches.{no_literal}
use Rattle.sat_core.proofs.Choosing.{chosen}
use Rattle.sat_core.proofs.choice.watched_pair.Goals as goal

pub returns : goal.returns
returns c = λ clauses h.
    let clause = c.args.clause.now in
    chosen c.args.trail.now.steps.items clause (get_or clause 0 no_literal) c.unwrap_or-a.result c.unwrap_or-b.result c.latest.result c.latest-2.result
    (Contains-get_or clause 0 no_literal c.requires.some) (c.latest.ensures.latest clauses h) c.unwrap_or-a.ensures (c.latest-2.ensures.latest clauses h) c.unwrap_or-b.ensures
