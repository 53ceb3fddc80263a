use Rattle.std.proofs.Common.{◌∙◌, ◌++◌, ◌∷◌, [], List, Option, ap, sym, map}
use Rattle.std.specs.List.{range_with_len}
use Rattle.cycle_encoding.specs.CycleFormula.{listed_in}
use Rattle.cycle_encoding.proofs.Tables.{table_more}
use Rattle.slot_capacity.specs.Spans.{span_of}
use Rattle.slot_capacity.specs.declared.spans.Span.{Span}
use Rattle.slot_capacity.proofs.spans.spans.Goals as goal

pub loop-row-preserved : goal.loop-row-preserved
loop-row-preserved c =
    let row = c.loop-row.row in
    let of = span_of (listed_in c.args.frame.now.facts.now c.args.frame.now.table.now c.args.frame.now.k c.args.frame.now.scope.now).launches in
    c.in_ok-push.ensures.items
    ∙ ap (λ (xs : List (Option Span)). xs ++ c.row_span.result ∷ []) c.loop-row.invariant
    ∙ ap (λ (x : Option Span). map of (range_with_len 0 row) ++ x ∷ []) c.row_span.ensures
    ∙ sym (table_more of row)
