use Rattle.std.proofs.Common.{◌∙◌}
use Rattle.proc_link.proofs.Appending.{led_more}
use Rattle.proc_link.proofs.linking.put_listing.Goals as goal

pub loop-at-preserved : goal.loop-at-preserved
loop-at-preserved c =
    c.in_ok-push.ensures.items
    ∙ led_more c.args.items.now c.args.from c.args.to c.loop-at.at _ c.loop-at-test.true c.args.words.now.items c.loop-at.words.items
    c.led_word.result c.loop-at.invariant c.led_word.ensures
