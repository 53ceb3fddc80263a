use Rattle.std.proofs.Common.{◌∙◌, sym, subst, Option}
use Rattle.std.specs.Prelude.{MatchOption}
use Rattle.std.proofs.lemmas.Bool.{false≢true}
use Rattle.text_core.specs.Lines.{line_at}
use Rattle.graph_meaning.specs.declared.graphs.InputClass.{InputClass}
use Rattle.text_core.specs.LineTexts.{SaysNone}
use Rattle.launch_graph.specs.LineReading.{IsInputLine}
use Rattle.launch_graph.proofs.BehindLines.{wrong_input}
use Rattle.launch_graph.proofs.behind_rows.read_input.Goals as goal

pub returns-then-is_wrong-clause-fault : goal.returns-then-is_wrong-clause-fault
returns-then-is_wrong-clause-fault c =
    let words = (line_at c.args.text.now c.args.line).words in
    let is = subst (λ (o : Option InputClass). MatchOption o (SaysNone IsInputLine words) (IsInputLine words)) c.in-Some.is c.in_ok-input.ensures in
    wrong_input c.operators_are_listed.ensures.names c.args.text.now c.args.marks.now c.args.line c.requires c.in-Some.input c.line_fault.result
    is (λ all m. (c.is_wrong.ensures.wrong all m).0 c.if-is_wrong.true) c.line_fault.ensures

pub returns-clause-ok : goal.returns-clause-ok
returns-clause-ok c =
    let words = (line_at c.args.text.now c.args.line).words in
    record {
      is = subst (λ (o : Option InputClass). MatchOption o (SaysNone IsInputLine words) (IsInputLine words)) c.in-Some.is c.in_ok-input.ensures;
      right = λ all m bad. false≢true (sym c.if-is_wrong.false ∙ (c.is_wrong.ensures.wrong all m).1 bad);
    }
