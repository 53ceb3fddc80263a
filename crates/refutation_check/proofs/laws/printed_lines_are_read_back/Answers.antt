use Rattle.std.proofs.Common.{map}
use Rattle.refutation_check.specs.LineWords.{line_words}
use Rattle.refutation_check.proofs.OneReading.{line-one}
use Rattle.refutation_check.proofs.Printing.{all-can, each-read, lines-among, accepted-readable}
use Rattle.refutation_check.proofs.laws.printed_lines_are_read_back.Goals as goal

pub returns : goal.returns
returns c =
    let law = c.printed_lines_are_lines.ensures in
    record {
      lines = λ place lines h. law.lines place (map line_words lines) (all-can law.number lines h);
      each = each-read;
      among = lines-among;
      one = line-one;
      accepted = accepted-readable;
    }
