use Rattle.std.proofs.Common.{◌<◌, ◌+◌, arith, length, sym, subst, Option}
use Rattle.std.specs.Prelude.{MatchOption}
use Rattle.std.proofs.lemmas.Result.{err_from_is_err_and}
use Rattle.launch_graph.specs.BehindRows.{HasNoInput, IsInputAt, AreInputsAt}
use Rattle.graph_meaning.specs.declared.graphs.InputClass.{InputClass}
use Rattle.launch_graph.proofs.BehindLines.{inputs_more}
use Rattle.launch_graph.proofs.behind_rows.read_inputs.Goals as goal

pub loop-line-preserved : goal.loop-line-preserved
loop-line-preserved c =
    let lines = c.args.text.now in
    let marks = c.args.marks.now in
    let line = c.loop-line.line in
    let lt : line < length lines = (let e = c.count-end.ensures.count in let l = c.loop-line-test.true in omega (arith, e, l)) in
    let is = subst (λ (o : Option InputClass). MatchOption o (HasNoInput lines line) (IsInputAt lines marks line)) c.in-Some.is c.in_ok-input.ensures.ok in
    subst (AreInputsAt lines marks c.args.first (line + 1)) (sym c.in_ok-push-in-Some.ensures.ok)
    (inputs_more c.operators_are_listed.ensures.names lines marks line lt c.args.first c.loop-line.inputs c.in-Some.input c.loop-line.invariant is)

pub returns-in_err-input-clause-fault : goal.returns-in_err-input-clause-fault
returns-in_err-input-clause-fault c =
    let p = err_from_is_err_and c.from_residual.result c.from_residual.ensures.1 in
    rw (p.1, p.2)
    (λ version from all b. c.in_err-input.ensures.fault version from all (c.loop-line.invariant.behind version from all b))
