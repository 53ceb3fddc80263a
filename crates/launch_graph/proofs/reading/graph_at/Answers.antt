use Rattle.std.proofs.Common.{◌+◌, ◌-◌, ◌<◌, ◌^◌, min, length, take, drop, ap, sym, subst, ◌∙◌}
use Rattle.std.specs.Prelude.{All}
use Rattle.std.proofs.lemmas.Result.{err_from_is_err_and}
use Rattle.graph_meaning.specs.Multiples.{AreMultiplesOf}
use Rattle.launch_graph.specs.BehindRows.{IsCleanBehindRows, IsReadBehind}
use Rattle.launch_graph.specs.ClassMarks.{HasMarks}
use Rattle.launch_graph.specs.GraphStages.{rows}
use Rattle.launch_graph.proofs.WholeReading.{CanHaveMultiples, block, block_ends, behind_within, behind_here, multiples_here, graph_here}
use Rattle.launch_graph.proofs.reading.graph_at.Goals as goal

pub returns-in_err-count-clause-fault : goal.returns-in_err-count-clause-fault
returns-in_err-count-clause-fault c =
    let p = err_from_is_err_and c.from_residual.result c.from_residual.ensures.1 in
    rw (p.1, p.2) (c.in_err-count.ensures.fault c.args.version)

pub returns-in_err-so_far-clause-fault : goal.returns-in_err-so_far-clause-fault
returns-in_err-so_far-clause-fault c =
    let p = err_from_is_err_and c.from_residual-in_err-so_far.result c.from_residual-in_err-so_far.ensures.1 in
    let lines = c.args.text.now in
    let from = c.args.from in
    let count = c.in_ok-count.count in
    let end = from + 1 + c.min.result in
    let low : from < length lines = c.in_ok-count.ensures.header.within in
    let m = subst (HasMarks (take (end - (from + 1)) (drop (from + 1) lines)) count) (sym c.deref.ensures.value) c.in_ok-marks.ensures in
    rw (p.1, p.2) (c.in_err-so_far.ensures.fault c.args.version from m.rows (block lines from count c.deref.result.now c.in_ok-count.ensures.header end (block_ends lines from count c.min.result low (c.min.ensures ∙ ap (λ n. min count (n - (from + 1))) c.count.ensures.count)) m))

pub read_behind-requires : goal.read_behind-requires
read_behind-requires c =
    let lines = c.args.text.now in
    let from = c.args.from in
    let count = c.in_ok-count.count in
    let end = from + 1 + c.min.result in
    let low : from < length lines = c.in_ok-count.ensures.header.within in
    let m = subst (HasMarks (take (end - (from + 1)) (drop (from + 1) lines)) count) (sym c.deref.ensures.value) c.in_ok-marks.ensures in
    behind_within c.operators_are_listed.ensures.names lines from count c.deref.result.now c.in_ok-count.ensures.header end (block_ends lines from count c.min.result low (c.min.ensures ∙ ap (λ n. min count (n - (from + 1))) c.count.ensures.count)) m
    c.in_ok-so_far.so_far c.in_ok-so_far.ensures.ok c.args.version

pub returns-in_err-behind-clause-fault : goal.returns-in_err-behind-clause-fault
returns-in_err-behind-clause-fault c =
    let p = err_from_is_err_and c.from_residual-in_err-behind.result c.from_residual-in_err-behind.ensures.1 in
    let lines = c.args.text.now in
    let from = c.args.from in
    let count = c.in_ok-count.count in
    let end = from + 1 + c.min.result in
    let low : from < length lines = c.in_ok-count.ensures.header.within in
    let m = subst (HasMarks (take (end - (from + 1)) (drop (from + 1) lines)) count) (sym c.deref.ensures.value) c.in_ok-marks.ensures in
    rw (p.1, p.2)
    (c.in_err-behind.ensures.fault from m.rows
    (subst (λ ms. IsCleanBehindRows c.args.version lines from m.rows ms (from + 1 + count) (rows 0)) (c.deref.ensures.value ∙ sym c.deref-2.ensures.value)
    (behind_here c.operators_are_listed.ensures.names lines from count c.deref.result.now c.in_ok-count.ensures.header end (block_ends lines from count c.min.result low (c.min.ensures ∙ ap (λ n. min count (n - (from + 1))) c.count.ensures.count)) m
    c.in_ok-so_far.so_far c.in_ok-so_far.ensures.ok c.args.version)))

pub known_multiples-requires-clause-few_rows : goal.known_multiples-requires-clause-few_rows
known_multiples-requires-clause-few_rows c =
    let lines = c.args.text.now in
    let from = c.args.from in
    let count = c.in_ok-count.count in
    let end = from + 1 + c.min.result in
    let low : from < length lines = c.in_ok-count.ensures.header.within in
    let m = subst (HasMarks (take (end - (from + 1)) (drop (from + 1) lines)) count) (sym c.deref.ensures.value) c.in_ok-marks.ensures in
    let rows : CanHaveMultiples c.in_ok-so_far.so_far.rows =
    multiples_here c.operators_are_listed.ensures.names lines from count c.deref.result.now c.in_ok-count.ensures.header
    end (block_ends lines from count c.min.result low (c.min.ensures ∙ ap (λ n. min count (n - (from + 1))) c.count.ensures.count))
    m c.in_ok-so_far.so_far c.in_ok-so_far.ensures.ok c.args.version c.in_ok-behind.behind
    c.graphs_are_consistent.ensures.rows_below in
    subst (λ rs. length rs < 2 ^ 30) (sym c.as_slice.ensures) rows.few

pub known_multiples-requires-clause-below : goal.known_multiples-requires-clause-below
known_multiples-requires-clause-below c =
    let lines = c.args.text.now in
    let from = c.args.from in
    let count = c.in_ok-count.count in
    let end = from + 1 + c.min.result in
    let low : from < length lines = c.in_ok-count.ensures.header.within in
    let m = subst (HasMarks (take (end - (from + 1)) (drop (from + 1) lines)) count) (sym c.deref.ensures.value) c.in_ok-marks.ensures in
    let rows : CanHaveMultiples c.in_ok-so_far.so_far.rows =
    multiples_here c.operators_are_listed.ensures.names lines from count c.deref.result.now c.in_ok-count.ensures.header
    end (block_ends lines from count c.min.result low (c.min.ensures ∙ ap (λ n. min count (n - (from + 1))) c.count.ensures.count))
    m c.in_ok-so_far.so_far c.in_ok-so_far.ensures.ok c.args.version c.in_ok-behind.behind
    c.graphs_are_consistent.ensures.rows_below in
    subst (λ rs. All (λ r. (r.class < length rs) × All (λ n. n < length rs) r.operands) rs) (sym c.as_slice.ensures)
    rows.below

pub returns-clause-graph : goal.returns-clause-graph
returns-clause-graph c =
    let lines = c.args.text.now in
    let from = c.args.from in
    let count = c.in_ok-count.count in
    let end = from + 1 + c.min.result in
    let low : from < length lines = c.in_ok-count.ensures.header.within in
    let m = subst (HasMarks (take (end - (from + 1)) (drop (from + 1) lines)) count) (sym c.deref.ensures.value) c.in_ok-marks.ensures in
    graph_here c.operators_are_listed.ensures.names lines from count c.deref.result.now c.in_ok-count.ensures.header end (block_ends lines from count c.min.result low (c.min.ensures ∙ ap (λ n. min count (n - (from + 1))) c.count.ensures.count)) m
    c.in_ok-so_far.so_far c.in_ok-so_far.ensures.ok c.args.version c.in_ok-multiples.multiples
    (subst (λ rs. AreMultiplesOf rs c.in_ok-multiples.multiples) c.as_slice.ensures c.in_ok-multiples.ensures)
    c.in_ok-behind.behind c.in_ok-behind.next
    (subst (λ ms. IsReadBehind c.args.version lines ms (from + 1 + count) c.in_ok-behind.next c.in_ok-behind.behind) (c.deref-2.ensures.value ∙ sym c.deref.ensures.value)
    c.in_ok-behind.ensures.ok)
