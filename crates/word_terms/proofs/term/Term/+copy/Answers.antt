use Rattle.std.proofs.Common.{ap, ◌∙◌}
use Rattle.std.proofs.lemmas.List.{take_all}
use Rattle.word_terms.specs.View.{trees_of}
use Rattle.word_terms.proofs.Trees.{copied}
use Rattle.word_terms.proofs.term.Term.+copy.Goals as goal

pub returns-after-loop-operand : goal.returns-after-loop-operand
returns-after-loop-operand g t c =
    let all = take_all c.loop-operand.operand-index c.deref-operand-items.result.now c.loop-operand-test.false in
    record { equal = copied c.in-App.op c.in-App.operands c.loop-operand.copies c.args.self.now c.in-App.is (c.loop-operand.invariant ∙ ap trees_of (all ∙ c.deref-operand-items.ensures.value)) }
