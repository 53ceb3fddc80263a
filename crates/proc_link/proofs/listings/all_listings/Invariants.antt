use Rattle.std.proofs.Common.{◌≡◌, take, Some}
use Rattle.proc_link.specs.ProcAnswers.{listings_of}
use Rattle.proc_link.proofs.listings.all_listings.Given as goal

-- each result so far has a listing
abbrev pub invariant-loop-answered : goal.invariant-loop-answered
invariant-loop-answered l = listings_of (take l.answered-index l.results) ≡ Some l.listings.items
