use Rattle.std.proofs.Common.{◌∙◌, ◌<◌, ◌≤◌, ◌==◌, ℕ, List, ap, sym, subst, get_or, map}
use Rattle.std.specs.Prelude.{length, ◌&&◌}
use Rattle.std.specs.List.{list_any, range_with_len}
use Rattle.std.proofs.lemmas.List.{take_all}
use Rattle.graph_meaning.specs.declared.graphs.LaunchRow.{LaunchRow}
use Rattle.word_ops.specs.Meanings.{sort_of}
use Rattle.cycle_encoding.specs.Variables.{is_word, is_word_class}
use Rattle.cycle_encoding.proofs.Marking.{mark_step}
use Rattle.cycle_encoding.proofs.Tables.{table_of}
use Rattle.cycle_encoding.proofs.facts.words.Goals as goal

pub loop-row-preserved : goal.loop-row-preserved
loop-row-preserved c =
    let rows = c.args.graph.now.rows in
    let i = c.loop-row.row-index in
    let row = c.row-item.result in
    let at = c.row-item.is ∙ ap (λ (rs : List LaunchRow). get_or rs i row) c.as_slice-row-items.ensures in
    let test = λ (class : ℕ) (r : LaunchRow). r.class == class && is_word (sort_of r.op) in
    mark_step test rows i row c.args.classes row.class c.gives_word.result c.loop-row.table.items c.mark.new.marks.items (subst (λ (rs : List LaunchRow). i < length rs) c.as_slice-row-items.ensures c.loop-row-test.true) (λ class. ap (test class) (sym at) ∙ ap (λ b. (row.class == class) && b) (sym c.gives_word.ensures)) c.loop-row.invariant c.mark.ensures

pub returns : goal.returns
returns c =
    let rows = c.args.graph.now.rows in
    table_of (is_word_class c.args.graph.now) c.args.classes c.loop-row.table.items (c.loop-row.invariant ∙ ap (λ (rs : List LaunchRow). map (λ (class : ℕ). list_any (λ (r : LaunchRow). r.class == class && is_word (sort_of r.op)) rs) (range_with_len 0 c.args.classes)) (take_all c.loop-row.row-index rows (subst (λ (rs : List LaunchRow). length rs ≤ c.loop-row.row-index) c.as_slice-row-items.ensures c.loop-row-test.false)))
