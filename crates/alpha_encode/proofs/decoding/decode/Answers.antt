use Rattle.std.proofs.Common.{rules}
use Rattle.alpha_encode.proofs.RoundTrips.{found_sound, not_found_sound}
use Rattle.alpha_encode.proofs.decoding.decode.Goals as goal

pub returns-in_default-clause-fields : goal.returns-in_default-clause-fields
returns-in_default-clause-fields c = search rules

pub returns-in_default-clause-some : goal.returns-in_default-clause-some
returns-in_default-clause-some c = found_sound c.args.word c.operate.result c.ranges.word.fits (returns-in_default-clause-fields c)

pub returns-in_default-clause-none : goal.returns-in_default-clause-none
returns-in_default-clause-none c = not_found_sound c.args.word c.operate.result (returns-in_default-clause-fields c)
