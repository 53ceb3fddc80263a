use Rattle.text_core.specs.LineTexts.{words_of_lines}
use Rattle.run_texts.proofs.Seen.{start_read, seen_start}
use Rattle.run_texts.proofs.reading.run_of.Goals as goal

pub loop-line-init : goal.loop-line-init
loop-line-init c =
    record {
      so_far = start_read (words_of_lines c.args.text.now) (record { words = c.new.result; registers = c.new-2.result; places = c.new-3.result }) c.new.ensures c.new-2.ensures c.new-3.ensures;
      seen = seen_start c.new-3.result c.new-seen.result c.new-3.ensures c.new-seen.ensures.empty;
    }
