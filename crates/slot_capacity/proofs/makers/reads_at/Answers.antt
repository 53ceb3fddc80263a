use Rattle.std.proofs.Common.{◌∙◌}
use Rattle.slot_capacity.proofs.MakerLists.{reads-found, reads-past}
use Rattle.slot_capacity.proofs.makers.reads_at.Goals as goal

pub returns-in-Some : goal.returns-in-Some
returns-in-Some c =
    let h = c.in-Some.ensures.lookup in
    c.as_slice.ensures
    ∙ reads-found c.args.reads.now.facts.now c.deref.result.now (c.deref.ensures.value ∙ c.requires) c.args.row c.in-Some.reads.now c.in-Some.reads.now
    h.0 h.1

pub returns-in-None : goal.returns-in-None
returns-in-None c =
    let h = c.in-None.ensures.lookup in
    reads-past c.args.reads.now.facts.now c.deref.result.now (c.deref.ensures.value ∙ c.requires) c.args.row h.0
