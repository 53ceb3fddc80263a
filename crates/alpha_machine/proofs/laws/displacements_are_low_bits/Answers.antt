use Rattle.alpha_machine.proofs.Displacements.{lda_is, ldah_is}
use Rattle.alpha_machine.proofs.laws.displacements_are_low_bits.Goals as goal

pub returns : goal.returns
returns c = record { low = lda_is; high = ldah_is }
