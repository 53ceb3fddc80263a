use Rattle.std.proofs.Common.{List}
use Rattle.text_core.specs.Lines.{Line, HasLines, IsFirstLineFault}
use Rattle.text_core.proofs.LineFaults.{no_line_fault, line_fault_once}
use Rattle.text_core.proofs.LinesIn.{lines_once}
use Rattle.text_core.proofs.Outcomes.{gives, refuses}
use Rattle.text_core.proofs.splitter.lines.Goals as goal

pub returns-clause-read : goal.returns-clause-read
returns-clause-read c =
    let text = c.args.text.now in
    gives (λ (ls : List Line). ls) (HasLines text) (IsFirstLineFault text) (lines_once text) (no_line_fault text) (line_fault_once text) c.split.result c.split.ensures.lines c.split.ensures.fault

pub returns-clause-refused : goal.returns-clause-refused
returns-clause-refused c =
    let text = c.args.text.now in
    refuses (λ (ls : List Line). ls) (HasLines text) (IsFirstLineFault text) (lines_once text) (no_line_fault text) (line_fault_once text) c.split.result c.split.ensures.lines c.split.ensures.fault
