use Rattle.std.proofs.Common.{◌∙◌, ◌<◌, ◌≤◌, List, ap, subst, get_or, map}
use Rattle.std.specs.Prelude.{length}
use Rattle.std.specs.List.{range_with_len}
use Rattle.std.proofs.lemmas.List.{take_all}
use Rattle.graph_meaning.specs.Graphs.{constant_among, constant_of}
use Rattle.graph_meaning.specs.declared.graphs.LaunchRow.{LaunchRow}
use Rattle.word_ops.specs.Meanings.{constant_in}
use Rattle.cycle_encoding.proofs.Marking.{constant_step}
use Rattle.cycle_encoding.proofs.Tables.{table_of}
use Rattle.cycle_encoding.proofs.facts.constants.Goals as goal

pub loop-row-preserved : goal.loop-row-preserved
loop-row-preserved c =
    let rows = c.args.graph.now.rows in
    let i = c.loop-row.row-index in
    let row = c.row-item.result in
    let at = c.row-item.is ∙ ap (λ (rs : List LaunchRow). get_or rs i row) c.as_slice-row-items.ensures in
    constant_step rows i row c.args.classes c.loop-row.table.items c.give_constant.new.constants.items (subst (λ (rs : List LaunchRow). i < length rs) c.as_slice-row-items.ensures c.loop-row-test.true) c.loop-row.invariant row.class c.constant_in.result (ap (λ (r : LaunchRow). r.class) at) (c.constant_in.ensures ∙ ap (λ (r : LaunchRow). constant_in r.op) at) c.give_constant.ensures

pub returns : goal.returns
returns c =
    let rows = c.args.graph.now.rows in
    table_of (constant_of c.args.graph.now) c.args.classes c.loop-row.table.items (c.loop-row.invariant ∙ ap (λ (rs : List LaunchRow). map (constant_among rs) (range_with_len 0 c.args.classes)) (take_all c.loop-row.row-index rows (subst (λ (rs : List LaunchRow). length rs ≤ c.loop-row.row-index) c.as_slice-row-items.ensures c.loop-row-test.false)))
