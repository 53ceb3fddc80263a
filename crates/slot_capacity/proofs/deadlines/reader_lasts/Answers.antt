use Rattle.std.proofs.Common.{◌∙◌, ℕ, List, ap, get_or}
use Rattle.std.specs.Prelude.{fold}
use Rattle.slot_capacity.specs.DeadlinesSteps.{with_last}
use Rattle.slot_capacity.proofs.Lowering.{lasts-more}
use Rattle.slot_capacity.proofs.Things.{no_deadline}
use Rattle.slot_capacity.proofs.deadlines.reader_lasts.Goals as goal

pub loop-reader-preserved : goal.loop-reader-preserved
loop-reader-preserved c =
    lasts-more c.args.makers.now.frame.facts.now c.args.makers.now.spans.items c.args.deadlines.now c.loop-reader.reader-index
    no_deadline c.loop-reader-test.true c.loop-reader.lists.items c.put_last.new.lists.items c.loop-reader.invariant
    (c.in_ok-put_last.ensures
    ∙ ap
    (λ (read : List ℕ). fold (with_last (get_or c.args.deadlines.now c.loop-reader.reader-index no_deadline).last)
    c.loop-reader.lists.items read)
    c.always_at.ensures)
