use Rattle.std.proofs.Common.{◌∙◌, sym}
use Rattle.std.proofs.lemmas.Bool.{false≢true}
use Rattle.schedule_meaning.proofs.Uses.{use_given, use_input}
use Rattle.schedule_meaning.proofs.operands.can_use.Goals as goal

pub returns-then-has_input : goal.returns-then-has_input
returns-then-has_input c =
    use_input c.args.graph.now c.args.table.now c.args.list.now c.args.launch c.args.wanted (c.has_input.ensures.0 c.if-has_input.true)

pub returns : goal.returns
returns c =
    use_given c.args.graph.now c.args.table.now c.args.list.now c.args.launch c.args.wanted c.is_given.result
    (λ f. false≢true (sym c.if-is_free.false ∙ c.is_free.ensures.fact.1 f))
    (λ i. false≢true (sym c.if-has_input.false ∙ c.has_input.ensures.1 i))
    c.is_given.ensures
