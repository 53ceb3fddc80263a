use Rattle.std.proofs.Common.{◌≡◌, true, false, Some, option_map, get_or, ap, sym, ◌∙◌}
use Rattle.graph_meaning.specs.declared.graphs.LaunchRow.{LaunchRow}
use Rattle.own_graph.specs.Rows.{applies}
use Rattle.own_graph.proofs.FoundRows.{first_found, none_more}
use Rattle.own_graph.proofs.rows.class_in.Goals as goal

pub returns-then-applies : goal.returns-then-applies
returns-then-applies c =
    let rows = c.args.rows.now in
    let row = c.row-item.result in
    let test = applies c.args.op c.args.operands.now in
    let passes : test (get_or rows c.loop-row.row-index row) ≡ true = ap test (sym c.row-item.is) ∙ sym c.applies.ensures ∙ c.if-applies.true in
    let is = first_found test rows c.loop-row.row-index row c.loop-row-test.true c.loop-row.invariant passes in
    sym (ap (option_map (λ (r : LaunchRow). r.class)) is ∙ ap (λ (r : LaunchRow). Some r.class) (sym c.row-item.is))

pub loop-row-preserved : goal.loop-row-preserved
loop-row-preserved c =
    let rows = c.args.rows.now in
    let row = c.row-item.result in
    let test = applies c.args.op c.args.operands.now in
    let fails : test (get_or rows c.loop-row.row-index row) ≡ false = ap test (sym c.row-item.is) ∙ sym c.applies.ensures ∙ c.if-applies.false in
    none_more test rows c.loop-row.row-index row c.loop-row-test.true c.loop-row.invariant fails
