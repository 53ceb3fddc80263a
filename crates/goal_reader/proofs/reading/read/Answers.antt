use Rattle.forms.proofs.Told.{gives}
use Rattle.goal_reader.specs.Grammar.{Reads, IsFirstTextFault}
use Rattle.goal_meaning.specs.Views.{input_view}
use Rattle.goal_reader.proofs.TextEnd.{one_text_fault, refuses_by}
use Rattle.goal_reader.proofs.TextRead.{reads_once, reads_apart}
use Rattle.goal_reader.proofs.reading.read.Goals as goal

pub returns-clause-refused : goal.returns-clause-refused
returns-clause-refused c =
    let text = c.args.bytes.now in
    refuses_by (IsFirstTextFault text) (one_text_fault text (c.one_reading.ensures.trees text) (c.one_reading.ensures.apart text) (c.one_reading.ensures.first text))
    c.read_text.result c.read_text.ensures.clear c.read_text.ensures.fault

pub returns-clause-read : goal.returns-clause-read
returns-clause-read c =
    let text = c.args.bytes.now in
    let forest = c.one_reading.ensures.trees text in
    let apart = c.one_reading.ensures.apart text in
    let once = one_text_fault text forest apart (c.one_reading.ensures.first text) in
    gives input_view (Reads text) (IsFirstTextFault text)
    (reads_once c.one_table.ensures.once c.one_table.ensures.clear text forest apart)
    (reads_apart c.one_table.ensures.once c.one_table.ensures.clear text forest apart)
    once c.read_text.result c.read_text.ensures.input c.read_text.ensures.fault
