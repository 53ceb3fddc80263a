use Rattle.std.proofs.Common.{arith}
use Rattle.saturation.proofs.Firsts.{place_within}
use Rattle.saturation.proofs.numbering.op_of_place.Goals as goal

pub overflow_cast-result : goal.overflow_cast-result
overflow_cast-result c = let w = place_within c.args.used.now c.in-Declared.index in omega (arith, w, c.place_of.ensures, c.requires)
