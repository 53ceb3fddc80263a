use Rattle.std.proofs.Common.{◌<◌, ◌+◌, arith, length, sym, subst, Option}
use Rattle.std.specs.Prelude.{MatchOption}
use Rattle.std.proofs.lemmas.Result.{err_from_is_err_and}
use Rattle.text_core.specs.Lines.{line_at}
use Rattle.launch_graph.specs.BehindRows.{IsSetAt, AreSetsAt, TakesSets}
use Rattle.launch_graph.specs.GraphStages.{pins_among}
use Rattle.launch_graph.specs.GraphTexts.{IsNoTarget}
use Rattle.graph_meaning.specs.declared.graphs.SetClass.{SetClass}
use Rattle.launch_graph.proofs.BehindLines.{sets_more}
use Rattle.launch_graph.proofs.behind_rows.read_sets.Goals as goal

pub loop-line-preserved : goal.loop-line-preserved
loop-line-preserved c =
    let lines = c.args.text.now in
    let marks = c.args.marks.now in
    let line = c.loop-line.line in
    let lt : line < length lines = (let e = c.count-end.ensures.count in let l = c.loop-line-test.true in omega (arith, e, l)) in
    let is = subst (λ (o : Option SetClass). MatchOption o (IsNoTarget (line_at lines line).words) (IsSetAt c.args.version lines marks line (pins_among c.loop-line.sets))) c.in-Some.is (subst (λ ss. MatchOption c.in_ok-set.field-0 (IsNoTarget (line_at lines line).words) (IsSetAt c.args.version lines marks line (pins_among ss))) c.as_slice.ensures c.in_ok-set.ensures.ok) in
    subst (AreSetsAt c.args.version lines marks c.args.first (line + 1)) (sym c.in_ok-push-in-Some.ensures.ok)
    (sets_more c.operators_are_listed.ensures.names lines marks line lt c.args.version c.args.first c.loop-line.sets c.in-Some.set c.loop-line.invariant is)

pub returns-in_err-set-clause-fault : goal.returns-in_err-set-clause-fault
returns-in_err-set-clause-fault c =
    let p = err_from_is_err_and c.from_residual.result c.from_residual.ensures.1 in
    rw (p.1, p.2)
    (λ stage takes from all b.
    (let t = c.loop-line.invariant.behind from all (record { stage = stage; takes = takes; behind = b }) in
    c.in_err-set.ensures.fault t.stage (subst (λ ss. TakesSets c.args.text.now c.loop-line.line (pins_among ss) t.stage) (sym c.as_slice.ensures) t.takes) from all t.behind))
