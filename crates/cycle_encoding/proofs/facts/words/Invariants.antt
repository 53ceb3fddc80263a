use Rattle.std.proofs.Common.{◌≡◌, take, map}
use Rattle.std.specs.List.{range_with_len}
use Rattle.std.specs.Prelude.{◌==◌, ◌&&◌}
use Rattle.std.specs.List.{list_any}
use Rattle.word_ops.specs.Meanings.{sort_of}
use Rattle.cycle_encoding.specs.Variables.{is_word}
use Rattle.cycle_encoding.proofs.facts.words.Given as goal

abbrev pub invariant-loop-row : goal.invariant-loop-row
invariant-loop-row l = l.table.items ≡ map (λ c. list_any (λ r. r.class == c && is_word (sort_of r.op)) (take l.row-index l.graph.rows)) (range_with_len 0 l.classes)
