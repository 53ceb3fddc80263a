use Rattle.std.proofs.Common.{◌≡◌, sym, subst}
use Rattle.text_core.specs.LineTexts.{lines_text}
use Rattle.alpha_machine.specs.Runs.{AllMayStand}
use Rattle.run_texts.specs.Reports.{IsRunReport, report_lines}
use Rattle.run_texts.proofs.Starts.{started, reported, ok_weaker}
use Rattle.run_texts.proofs.reporting.report.Goals as goal

pub run_words-requires-clause-stand : goal.run_words-requires-clause-stand
run_words-requires-clause-stand c = subst AllMayStand (sym c.as_slice-3.ensures) c.requires.stand

pub returns : goal.returns
returns c =
    let start = started c.args.program.now c.new-state.result c.registers.result c.in_ok-memory.memory c.as_slice-2.result.now c.as_slice.result.now
    c.new-state.ensures c.registers.ensures.registers c.as_slice-2.ensures c.in_ok-memory.ensures c.as_slice.ensures in
    ok_weaker c.print.result (λ text. text.items ≡ lines_text (report_lines c.in_ok-end.end c.run_words.new.state)) (λ text. IsRunReport c.args.program.now text.items)
    (λ text is. reported c.args.program.now c.as_slice-3.result.now c.new-state.result c.run_words.new.state c.in_ok-end.end text.items c.as_slice-3.ensures start c.in_ok-end.ensures is)
    c.print.ensures
