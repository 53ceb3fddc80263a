use Rattle.proc_link.proofs.Laying.{AreLaidOut}
use Rattle.proc_link.proofs.places.lay_out.Given as goal

-- the starts of the listings so far, and their words
abbrev pub invariant-loop-listing : goal.invariant-loop-listing
invariant-loop-listing l = AreLaidOut l.listings l.listing-index l.starts l.end
