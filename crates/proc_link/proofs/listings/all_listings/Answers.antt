use Rattle.std.proofs.Common.{◌∙◌, Some, ap, sym}
use Rattle.proc_link.specs.ProcAnswers.{listing_of}
use Rattle.proc_link.proofs.Gathered.{gathered_more, none_at}
use Rattle.proc_link.proofs.listings.all_listings.Goals as goal

pub returns-in-None : goal.returns-in-None
returns-in-None c =
    sym (none_at c.args.results.now c.loop-answered.answered-index c.answered-item.result c.loop-answered-test.true
    (ap listing_of (sym c.answered-item.is) ∙ sym c.in_ok-listing.ensures ∙ c.in-None.is))

pub loop-answered-preserved : goal.loop-answered-preserved
loop-answered-preserved c =
    gathered_more c.args.results.now c.loop-answered.answered-index c.answered-item.result c.loop-answered.listings.items c.in-Some.listing
    c.loop-answered-test.true c.loop-answered.invariant (ap listing_of (sym c.answered-item.is) ∙ sym c.in_ok-listing.ensures ∙ c.in-Some.is)
    ∙ ap Some (sym c.in_ok-push-in-Some.ensures.items)
