use Rattle.std.proofs.Common.{◌∙◌, ap, sym}
use Rattle.slot_capacity.specs.MakersSteps.{always_among, always_of}
use Rattle.slot_capacity.proofs.MakerLists.{found-is, none-makes, past-is}
use Rattle.slot_capacity.proofs.makers.always_at.Goals as goal

pub returns-in-Some : goal.returns-in-Some
returns-in-Some c =
    let g = c.args.makers.now.frame.facts.now in
    let m = c.args.makers.now in
    let h = c.in-Some.ensures.lookup in
    c.as_slice.ensures
    ∙ found-is g m.spans.items m.rows.items m.always.items c.requires c.deref.result.now (always_of g m.spans.items)
    (c.deref.ensures.value ∙ c.requires.always_are) c.args.class c.in-Some.always.now c.in-Some.always.now h.0 h.1

pub returns-in-None : goal.returns-in-None
returns-in-None c =
    let g = c.args.makers.now.frame.facts.now in
    let m = c.args.makers.now in
    let h = c.in-None.ensures.lookup in
    sym (ap (always_among g) (none-makes g m.spans.items m.rows.items m.always.items c.requires c.args.class
    (past-is g m.spans.items m.rows.items m.always.items c.requires c.deref.result.now (always_of g m.spans.items)
    (c.deref.ensures.value ∙ c.requires.always_are) c.args.class h.0)))
