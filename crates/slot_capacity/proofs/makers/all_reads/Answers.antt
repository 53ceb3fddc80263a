use Rattle.std.proofs.Common.{◌∙◌, ◌++◌, ◌∷◌, [], ℕ, List, ap, sym, map}
use Rattle.std.specs.List.{range_with_len}
use Rattle.cycle_encoding.proofs.Tables.{table_more}
use Rattle.slot_capacity.specs.Makers.{reads_of}
use Rattle.slot_capacity.proofs.makers.all_reads.Goals as goal

pub loop-row-preserved : goal.loop-row-preserved
loop-row-preserved c =
    let g = c.args.facts.now in
    let row = c.loop-row.row in
    let before = map (reads_of g) (range_with_len 0 row) in
    c.in_ok-push.ensures.items
    ∙ ap (λ (xs : List (List ℕ)). xs ++ c.from.result ∷ []) c.loop-row.invariant
    ∙ ap (λ (x : List ℕ). before ++ x ∷ []) (c.from.ensures ∙ c.in_ok-reads_of.ensures)
    ∙ sym (table_more (reads_of g) row)
