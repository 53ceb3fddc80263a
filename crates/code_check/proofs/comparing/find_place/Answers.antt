use Rattle.std.proofs.Common.{rules}
use Rattle.code_check.proofs.Comparisons.{none_named}
use Rattle.code_check.proofs.comparing.find_place.Goals as goal

pub returns : goal.returns
returns c = none_named c.args.places.now c.args.set c.loop-place.place-index (search rules) c.loop-place.invariant
