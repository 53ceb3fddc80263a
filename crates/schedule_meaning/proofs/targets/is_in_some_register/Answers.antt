use Rattle.std.proofs.Common.{◌∙◌, sym}
use Rattle.std.proofs.lemmas.Bool.{false≢true}
use Rattle.schedule_meaning.proofs.Uses.{place_by_input, place_of_zero, place_given}
use Rattle.schedule_meaning.proofs.targets.is_in_some_register.Goals as goal

pub returns-then-has_input : goal.returns-then-has_input
returns-then-has_input c =
    place_by_input c.args.graph.now c.args.table.now c.args.list.now c.args.class (c.has_input.ensures.0 c.if-has_input.true)

pub returns-then-is_zero_class : goal.returns-then-is_zero_class
returns-then-is_zero_class c =
    place_of_zero c.args.graph.now c.args.table.now c.args.list.now c.args.class (c.is_zero_class.ensures.0 c.if-is_zero_class.true)

pub returns : goal.returns
returns c =
    place_given c.args.graph.now c.args.table.now c.args.list.now c.args.class c.is_given.result
    (λ i. false≢true (sym c.if-has_input.false ∙ c.has_input.ensures.1 i))
    (λ z. false≢true (sym c.if-is_zero_class.false ∙ c.is_zero_class.ensures.1 z))
    c.is_given.ensures
