use Rattle.std.proofs.Common.{ℕ, ◌∙◌, ap, Option}
use Rattle.std.specs.Prelude.{is_some}
use Rattle.schedule_meaning.proofs.Inputs.{has_input_is}
use Rattle.schedule_meaning.proofs.readers.has_input.Goals as goal

pub returns : goal.returns
returns c =
    has_input_is c.args.graph.now c.args.list.now c.args.reader c.args.class c.is_some.result
    (c.is_some.ensures ∙ ap (λ (o : Option ℕ). is_some o) c.input_for.ensures)
