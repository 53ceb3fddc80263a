use Rattle.std.proofs.Common.{◌∙◌, ap}
use Rattle.egraph.specs.Keys.{indexed_place}
use Rattle.egraph.proofs.SameKeys.{keys_apart}
use Rattle.egraph.proofs.row_index.RowIndex.note.Goals as goal

pub returns-clause-noted : goal.returns-clause-noted
returns-clause-noted c = c.in_ok-insert.ensures.updates.1

pub returns-clause-others : goal.returns-clause-others
returns-clause-others c = λ other differs. c.in_ok-insert.ensures.updates.2 other (keys_apart c.args.key other differs) ∙ ap (λ es. indexed_place es other) c.self.view_is
