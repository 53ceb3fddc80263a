use Rattle.std.proofs.Common.{◌≡◌, ◌+◌, ◌-◌, ◌∙◌, None, replicate, set, ap, sym, subst, length, arith, rules}
use Rattle.std.proofs.lemmas.List.{length-set, length-replicate}
use Rattle.pattern_match.specs.ByOperator.{AreLists, class_part, first_in, list_key}
use Rattle.pattern_match.proofs.RowSteps.{lists_none, lists_more}
use Rattle.pattern_match.proofs.row_lists.RowLists.new.Goals as goal
use Rattle.pattern_match.proofs.row_lists.RowLists.new.Goals.{then-by_class, else-by_class}

pub loop-at-init : goal.loop-at-init
loop-at-init c = record {
  lists = lists_none c.args.by_class c.args.graph.now c.rows-at.result c.new.result.entries c.in_ok-vec.field-0.items (omega (arith, c.rows-at.ensures.value)) (λ k. ap (λ es. first_in es k) c.new.ensures.empty);
  count =
      let all : c.in_ok-vec.field-0.items ≡ replicate c.rows-at.result None = search rules in
      ap length all ∙ length-replicate c.rows-at.result None ∙ c.rows-at.ensures.value;
  within = omega (arith, c.rows-at.ensures.value);
}

pub loop-at-preserved : goal.loop-at-preserved
loop-at-preserved c =
    let g = c.args.graph.now in
    let by = c.args.by_class in
    let at = c.loop-at.at - 1 in
    let row = c.row-row.result.now in
    let old = c.loop-at.lists in
    let new = c.put_first.new.self in
    let inv = c.loop-at.invariant in
    let put = c.in_ok-put_first.ensures in
    let part : c.if-by_class.class ≡ class_part by row.class =
    elim c.if-by_class.branch [
      | then-by_class w ↦ w.class-is ∙ sym (ap (λ b. class_part b row.class) w.if-by_class.true)
      | else-by_class w ↦ w.class-is ∙ sym (ap (λ b. class_part b row.class) w.if-by_class.false)
    ] in
    let key = ap (list_key row.op) part in
    let e : at + 1 ≡ c.loop-at.at = omega (arith, c.loop-at-test.true) in
    record {
      lists = lists_more by g at row c.row-row.ensures.row old.firsts.entries new.firsts.entries old.nexts.items new.nexts.items (subst (λ n. AreLists by g n old.firsts.entries old.nexts.items) (sym e) inv.lists)
          (ap (first_in new.firsts.entries) (sym key) ∙ put.first)
          (λ k differs. put.others k (λ q. differs (q ∙ key)))
          (omega (arith, c.loop-at-test.true, inv.count, inv.within))
          (put.next ∙ ap (λ k. set old.nexts.items at (first_in old.firsts.entries k)) key);
      count = ap length put.next ∙ length-set old.nexts.items at (first_in old.firsts.entries (list_key row.op c.if-by_class.class)) ∙ inv.count;
      within = omega (arith, inv.within);
    }
