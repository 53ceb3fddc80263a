use Rattle.std.proofs.Common.{refl}
use Rattle.denali_cli.proofs.spelling.options_in.Goals as goal

pub returns-in_err-rounds-clause-value : goal.returns-in_err-rounds-clause-value
returns-in_err-rounds-clause-value c = rw (c.from_residual.ensures, ← c.in_err-rounds.ensures.value) refl

pub returns-in_err-nodes-clause-value : goal.returns-in_err-nodes-clause-value
returns-in_err-nodes-clause-value c =
    rw (c.from_residual-in_err-nodes.ensures, ← c.in_ok-rounds.ensures.value, ← c.in_err-nodes.ensures.value) refl

pub returns-in_err-cycles-clause-value : goal.returns-in_err-cycles-clause-value
returns-in_err-cycles-clause-value c =
    rw (c.from_residual-in_err-cycles.ensures, ← c.in_ok-rounds.ensures.value, ← c.in_ok-nodes.ensures.value, ← c.in_err-cycles.ensures.value) refl

pub returns-in_err-conflicts-clause-value : goal.returns-in_err-conflicts-clause-value
returns-in_err-conflicts-clause-value c =
    rw (c.from_residual-in_err-conflicts.ensures, ← c.in_ok-rounds.ensures.value, ← c.in_ok-nodes.ensures.value, ← c.in_ok-cycles.ensures.value, ← c.in_err-conflicts.ensures.value) refl

pub returns-in_err-pick-clause-value : goal.returns-in_err-pick-clause-value
returns-in_err-pick-clause-value c =
    rw (c.from_residual-in_err-pick.ensures, ← c.in_ok-rounds.ensures.value, ← c.in_ok-nodes.ensures.value, ← c.in_ok-cycles.ensures.value, ← c.in_ok-conflicts.ensures.value, ← c.in_err-pick.ensures) refl

pub returns-in_err-library-clause-value : goal.returns-in_err-library-clause-value
returns-in_err-library-clause-value c =
    rw (c.from_residual-in_err-library.ensures, ← c.in_ok-rounds.ensures.value, ← c.in_ok-nodes.ensures.value, ← c.in_ok-cycles.ensures.value, ← c.in_ok-conflicts.ensures.value, ← c.in_ok-pick.ensures, ← c.in_err-library.ensures) refl

pub returns-clause-value : goal.returns-clause-value
returns-clause-value c =
    rw (← c.in_ok-rounds.ensures.value, ← c.in_ok-nodes.ensures.value, ← c.in_ok-cycles.ensures.value, ← c.in_ok-conflicts.ensures.value, ← c.in_ok-pick.ensures, ← c.in_ok-library.ensures, ← c.has_flag-least.ensures, ← c.has_flag-live.ensures) refl
