use Rattle.std.proofs.Common.{sym}
use Rattle.std.proofs.lemmas.Result.{IfOk-weaker}
use Rattle.refute_trim.specs.TrimmedAnswers.{no_lines}
use Rattle.refute_trim.proofs.Claiming.{no_graph_no_lines, worked_goal}
use Rattle.refute_trim.proofs.goals.trim_goal.Goals as goal

pub returns-in_default : goal.returns-in_default
returns-in_default c = no_graph_no_lines c.args.encoding c.args.table.now c.requires.goal.0 c.args.goal.now c.requires.goal.1 c.in_default.is

pub returns-in_default-refute : goal.returns-in_default-refute
returns-in_default-refute c = no_lines c.in_default-refute.is

pub refuted_cycles-k-requires : goal.refuted_cycles-k-requires
refuted_cycles-k-requires c = (worked_goal c.requires.goal.0 c.args.goal.now c.in-Some.graph c.requires.goal.1 c.in-Some.is).fits

pub trim_lines-requires-clause-graph : goal.trim_lines-requires-clause-graph
trim_lines-requires-clause-graph c = (worked_goal c.requires.goal.0 c.args.goal.now c.in-Some.graph c.requires.goal.1 c.in-Some.is).graph

pub trim_lines-requires-clause-few : goal.trim_lines-requires-clause-few
trim_lines-requires-clause-few c = (worked_goal c.requires.goal.0 c.args.goal.now c.in-Some.graph c.requires.goal.1 c.in-Some.is).few c.in-Some-refute.lines c.in-Some-refute.is

pub returns : goal.returns
returns c =
    IfOk-weaker c.trim_lines.result _ _
    (λ outcome of. of c.args.goal.now c.in-Some.is c.in-Some-refute.is (sym c.refuted_cycles-k.ensures.value))
    c.trim_lines.ensures
