use Rattle.std.proofs.Common.{◌∙◌, ap}
use Rattle.egraph.specs.Keys.{indexed_place}
use Rattle.egraph.proofs.SameKeys.{keys_apart}
use Rattle.egraph.proofs.row_index.RowIndex.forget.Goals as goal

pub returns-clause-forgotten : goal.returns-clause-forgotten
returns-clause-forgotten c = c.swap_remove.ensures.updates.1

pub returns-clause-others : goal.returns-clause-others
returns-clause-others c = λ other differs. c.swap_remove.ensures.updates.2 other (keys_apart c.args.key other differs) ∙ ap (λ es. indexed_place es other) c.self.view_is
