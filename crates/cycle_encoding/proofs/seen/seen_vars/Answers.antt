use Rattle.std.proofs.Common.{◌++◌, ◌∷◌, [], ◌∙◌, ap, sym, refl, map, cond}
use Rattle.std.specs.List.{range_with_len}
use Rattle.std.specs.Prelude.{List, length}
use Rattle.cycle_encoding.specs.CycleFormula.{wants_in}
use Rattle.cycle_encoding.specs.Variables.{Seen}
use Rattle.cycle_encoding.specs.Facts.{is_unsafe_shown}
use Rattle.cycle_encoding.specs.Steps.{clusters_seen, seen_before}
use Rattle.cycle_encoding.proofs.Tables.{table_more}
use Rattle.cycle_encoding.proofs.Listed.{kept_more}
use Rattle.cycle_encoding.proofs.seen.seen_vars.Goals as goal

pub loop-class-preserved : goal.loop-class-preserved
loop-class-preserved c =
    let g = c.args.frame.now.facts.now in
    let wants = (wants_in c.args.frame.now.scope.now) in
    let f = clusters_seen c.args.frame.now.table.now c.args.frame.now.k 4 in
    let i = c.loop-class.class in
    let seen = c.loop-class.invariant.seen in
    let size = ap (λ (xs : List Seen). length xs) (c.as_slice.ensures.value ∙ seen) in
    record {
      seen = c.in_ok-push_class.ensures ∙ ap (λ (ys : List Seen). ys ++ cond (is_unsafe_shown g wants i) (f i) []) seen ∙ sym (kept_more f (is_unsafe_shown g wants) i (is_unsafe_shown g wants i) refl);
      starts = c.in_ok-push.ensures.items ∙ ap (λ ys. ys ++ length c.as_slice.result.now ∷ []) c.loop-class.invariant.starts ∙ ap (λ n. map (seen_before g wants c.args.frame.now.table.now c.args.frame.now.k) (range_with_len 0 i) ++ n ∷ []) size ∙ sym (table_more (seen_before g wants c.args.frame.now.table.now c.args.frame.now.k) i);
    }
