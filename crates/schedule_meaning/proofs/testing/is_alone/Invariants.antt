use Rattle.schedule_meaning.specs.Broken.{NoEarlier}
use Rattle.schedule_meaning.specs.Fits.{Collide}
use Rattle.schedule_meaning.proofs.testing.is_alone.Given as goal

abbrev pub invariant-loop-before : goal.invariant-loop-before
invariant-loop-before l = NoEarlier l.launches l.before (Collide l.launch)
