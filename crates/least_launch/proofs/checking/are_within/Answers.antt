use Rattle.std.proofs.Common.{refl}
use Rattle.least_launch.proofs.Checked.{within_is}
use Rattle.least_launch.proofs.checking.are_within.Goals as goal

pub returns : goal.returns
returns c = λ f ev ec. within_is c.args.sizes f ev ec c.pass_limit.result _ c.pass_limit.ensures.value refl
