use Rattle.std.proofs.Common.{refl}
use Rattle.denali_cli.proofs.spelling.verify_in.Goals as goal

pub returns-in_err-rounds-clause-value : goal.returns-in_err-rounds-clause-value
returns-in_err-rounds-clause-value c = rw (c.from_residual.ensures, ← c.in_err-rounds.ensures.value) refl

pub returns-in_err-nodes-clause-value : goal.returns-in_err-nodes-clause-value
returns-in_err-nodes-clause-value c =
    rw (c.from_residual-in_err-nodes.ensures, ← c.in_ok-rounds.ensures.value, ← c.in_err-nodes.ensures.value) refl

pub returns-in_err-library-clause-value : goal.returns-in_err-library-clause-value
returns-in_err-library-clause-value c =
    rw (c.from_residual-in_err-library.ensures, ← c.in_ok-rounds.ensures.value, ← c.in_ok-nodes.ensures.value, ← c.in_err-library.ensures) refl
