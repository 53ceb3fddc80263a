use Rattle.std.proofs.Common.{◌≡◌, ◌++◌, take, map}
use Rattle.text_core.specs.LineTexts.{lines_text}
use Rattle.run_texts.specs.Reports.{report_entry_words}
use Rattle.run_texts.proofs.reporting.put_places.Given as goal

abbrev pub invariant-loop-place : goal.invariant-loop-place
invariant-loop-place l =
    l.text.items ≡ l.initial.text.items ++ lines_text (map report_entry_words (take l.place-index l.entries))
