use Rattle.std.proofs.Common.{◌∙◌, ap}
use Rattle.egraph.specs.Keys.{indexed_place}
use Rattle.egraph.proofs.row_index.RowIndex.find.Goals as goal

pub returns-in-Some : goal.returns-in-Some
returns-in-Some c = c.in-Some.ensures.value ∙ ap (λ es. indexed_place es c.args.key) c.self.view_is

pub returns-in-None : goal.returns-in-None
returns-in-None c = c.in-None.ensures.value ∙ ap (λ es. indexed_place es c.args.key) c.self.view_is
