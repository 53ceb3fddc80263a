use Rattle.word_terms.specs.Building.{constant}
use Rattle.std.proofs.Common.{◌∙◌, [], ap, sym, subst}
use Rattle.std.proofs.lemmas.Result.{IfOk-weaker}
use Rattle.word_ops.specs.declared.sorts.Op.TheVariants.{Constant}
use Rattle.word_ops.specs.declared.sorts.Sort.TheVariants as sorts
use Rattle.code_check.specs.Terms.{second_term}
use Rattle.code_check.specs.Classes.{IsTermInserted, IsRowInserted}
use Rattle.code_check.proofs.Built.{literal_built}
use Rattle.code_check.proofs.inserting.second_class.Goals as goal

pub returns-in-Literal-clause-built : goal.returns-in-Literal-clause-built
returns-in-Literal-clause-built c =
    let old = c.args.graph.now in
    let new = c.insert_row.new.graph in
    IfOk-weaker c.insert_row.result (λ k. IsRowInserted old (Constant c.from.result) [] k new) _
    (λ k h ts memory are.
    subst (λ t. IsTermInserted old sorts.Word t k new) (sym (ap (λ s. second_term s ts.registers) c.in-Literal.is ∙ ap constant (sym c.from.ensures))) (literal_built old new c.from.result k h)) c.insert_row.ensures.row
