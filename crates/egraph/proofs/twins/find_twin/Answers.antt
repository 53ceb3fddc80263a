use Rattle.std.proofs.Common.{sym, rules}
use Rattle.egraph.proofs.twins.find_twin.Goals as goal

pub returns-then-eq : goal.returns-then-eq
returns-then-eq g c = (c.if-first-place.false, c.in_ok-other.other.now, sym c.in_ok-other.ensures, search rules)
