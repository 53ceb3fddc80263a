use Rattle.text_core.proofs.Indexes.{length-text}
use Rattle.text_core.proofs.LineFaults.{no_line_fault, line_fault_once}
use Rattle.text_core.proofs.LinesIn.{lines_once}
use Rattle.text_core.proofs.laws.one_splitting.Goals as goal

pub returns : goal.returns
returns c = record { lines = lines_once; apart = no_line_fault; first = line_fault_once; whole = λ text lines has. length-text 0 lines text has }
