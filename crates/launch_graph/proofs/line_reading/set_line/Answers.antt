use Rattle.std.proofs.Common.{◌∙◌, sym}
use Rattle.text_core.specs.Lines.{line_at}
use Rattle.launch_graph.proofs.SetForms.{pinned_line}
use Rattle.launch_graph.proofs.line_reading.set_line.Goals as goal

pub returns-then-words-eq4 : goal.returns-then-words-eq4
returns-then-words-eq4 c =
    pinned_line (line_at c.args.text.now c.args.line).words c.pinned_set_line.result c.if-version-ge2.true
    (sym c.words.ensures.count ∙ c.if-words-eq4.true) c.pinned_set_line.ensures
