use Rattle.std.proofs.lemmas.Result.{IfOk-weaker}
use Rattle.word_ops.specs.Worlds.{Value}
use Rattle.word_ops.specs.Meanings.{sort_of}
use Rattle.word_terms.specs.Keys.{op_signature}
use Rattle.egraph.specs.Graph.{IsInserted}
use Rattle.egraph.specs.Sorts.{IsOfSort, KeepsSorts}
use Rattle.egraph.specs.Values.{ExtendsValues}
use Rattle.code_check.specs.Classes.{IsRowInserted}
use Rattle.code_check.proofs.Built.{all_of, has_put}
use Rattle.code_check.proofs.inserting.insert_row.Goals as goal

pub returns : goal.returns
returns c =
    let old = c.args.graph.now in
    let new = c.insert.new.self in
    record {
      row = IfOk-weaker c.insert.result _ (λ k. IsRowInserted old c.args.op c.args.operands.now k new)
          (λ k h. has_put old new c.args.op c.args.operands.now k h c.insert.ensures.graph)
          (all_of c.insert.result (λ k. IsInserted old c.args.op c.args.operands.now k new) (λ k. IsOfSort op_signature new k (sort_of c.args.op)) (ExtendsValues Value old new) (KeepsSorts op_signature old new)
          c.insert.ensures.ok c.insert.ensures.sort c.insert.ensures.values c.insert.ensures.keeps_sorts);
    }
