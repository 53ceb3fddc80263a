use Rattle.std.proofs.Common.{◌+◌, ◌*◌, ◌∙◌, length, refl, subst, sym, ap}
use Rattle.register_assign.specs.declared.listings.Listing.{Listing}
use Rattle.proc_link.proofs.Laying.{AreLaidOut, laid_more}
use Rattle.proc_link.proofs.places.lay_out.Goals as goal

pub loop-listing-preserved : goal.loop-listing-preserved
loop-listing-preserved c =
    subst (λ starts. AreLaidOut c.args.listings.now (c.loop-listing.listing-index + 1) starts (c.loop-listing.end + (c.len.result + 1)))
    (sym c.in_ok-push.ensures.ok)
    (laid_more c.args.listings.now c.loop-listing.listing-index c.listing-item.result c.loop-listing.starts c.loop-listing.end (4 * c.loop-listing.end)
    (c.loop-listing.end + (c.len.result + 1)) c.loop-listing-test.true c.requires.short c.loop-listing.invariant refl
    (ap (λ n. c.loop-listing.end + (n + 1)) (c.len.ensures ∙ ap (λ (l : Listing). length l.items) c.listing-item.is)))
