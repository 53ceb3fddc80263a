use Rattle.std.proofs.Common.{◌∙◌, sym}
use Rattle.slot_capacity.specs.Makers.{makers_of}
use Rattle.slot_capacity.proofs.MakerLists.{found-is, none-makes, past-is}
use Rattle.slot_capacity.proofs.makers.rows_of.Goals as goal

pub returns-in-Some : goal.returns-in-Some
returns-in-Some c =
    let g = c.args.makers.now.frame.facts.now in
    let m = c.args.makers.now in
    let h = c.in-Some.ensures.lookup in
    c.as_slice.ensures
    ∙ found-is g m.spans.items m.rows.items m.always.items c.requires c.deref.result.now (makers_of g m.spans.items)
    (c.deref.ensures.value ∙ c.requires.rows_are) c.args.class c.in-Some.rows.now c.in-Some.rows.now h.0 h.1

pub returns-in-None : goal.returns-in-None
returns-in-None c =
    let g = c.args.makers.now.frame.facts.now in
    let m = c.args.makers.now in
    let h = c.in-None.ensures.lookup in
    sym (none-makes g m.spans.items m.rows.items m.always.items c.requires c.args.class
    (past-is g m.spans.items m.rows.items m.always.items c.requires c.deref.result.now (makers_of g m.spans.items)
    (c.deref.ensures.value ∙ c.requires.rows_are) c.args.class h.0))
