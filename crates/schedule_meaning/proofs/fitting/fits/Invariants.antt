use Rattle.std.proofs.Common.{◌+◌}
use Rattle.schedule_meaning.proofs.Rules.{Earlier}
use Rattle.schedule_meaning.proofs.fitting.fits.Given as goal

-- The rules of lower numbers are kept.
abbrev pub invariant-loop-rule : goal.invariant-loop-rule
invariant-loop-rule l = Earlier l.graph l.table l.trial.allocation l.k l.schedule.launches (l.rule-index + 1)
