use Rattle.std.proofs.Common.{◌≡◌, [], ◌∷◌, fold, take}
use Rattle.word_ops.specs.declared.sorts.Op.TheVariants.{Entry, Input}
use Rattle.graph_meaning.specs.Graphs.{plain_row}
use Rattle.own_graph.specs.Rows.{with_row}
use Rattle.own_graph.proofs.stepping.Own.new.Given as goal

abbrev pub invariant-loop-register : goal.invariant-loop-register
invariant-loop-register l = l.rows.items ≡ fold (λ rows r. with_row rows (Input r) []) (plain_row 0 Entry [] ∷ []) (take l.register-index l.inputs)
