use Rattle.std.proofs.Common.{[]}
use Rattle.std.proofs.lemmas.Result.{IfOk-weaker}
use Rattle.word_ops.specs.declared.sorts.Op.TheVariants.{Constant, Input}
use Rattle.code_check.specs.Classes.{IsRowInserted}
use Rattle.code_check.proofs.Built.{written_built, zero_built, input_built}
use Rattle.code_check.proofs.inserting.register_class.Goals as goal

pub returns-in-Some-clause-built : goal.returns-in-Some-clause-built
returns-in-Some-clause-built c = written_built c.more_terms_may_be_inserted.ensures.there c.args.graph.now c.args.classes.now c.args.register c.in-Some.class c.requires.low c.in-Some.is

pub returns-in-None-clause-built : goal.returns-in-None-clause-built
returns-in-None-clause-built c =
    IfOk-weaker c.insert_row.result (λ k. IsRowInserted c.args.graph.now (Constant 0) [] k c.insert_row.new.graph) _
    (λ k h. zero_built c.args.graph.now c.insert_row.new.graph c.args.classes.now c.args.register k c.requires.low c.in-None.is c.if-register-eq31.true h) c.insert_row.ensures.row

pub returns-in-None-2-clause-built : goal.returns-in-None-2-clause-built
returns-in-None-2-clause-built c =
    IfOk-weaker c.insert_row-in-None-2.result (λ k. IsRowInserted c.args.graph.now (Input c.args.register) [] k c.insert_row-in-None-2.new.graph) _
    (λ k h. input_built c.args.graph.now c.insert_row-in-None-2.new.graph c.args.classes.now c.args.register k c.requires.low c.in-None-2.is c.if-register-eq31.false h) c.insert_row-in-None-2.ensures.row
