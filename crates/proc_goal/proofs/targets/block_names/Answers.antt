use Rattle.std.proofs.Common.{◌≡◌, ◌≤◌, ◌+◌, ◌++◌, codes, length, map, take, sym, ap, ap₂, length-append, ◌∙◌, refl, subst, arith, List, [], ◌∷◌, ℕ}
use Rattle.std.proofs.lemmas.List.{length-map}
use Rattle.forms.specs.Forms.{sexp_form, sexp_forms}
use Rattle.goal_reader.specs.Roles.{names_given}
use Rattle.goal_reader.proofs.TextEnd.{nth_form}
use Rattle.proc_goal.proofs.NamesFound.{all_names, count_more, most_names, name_more, no_block_more, no_name_more}
use Rattle.proc_goal.proofs.targets.block_names.Goals as goal
use Rattle.proc_goal.proofs.targets.block_names.Goals.{then-has_head+else-count-ge-MOST_BLOCKS+in-Some+in_ok-new+in_ok-push, then-has_head+else-count-ge-MOST_BLOCKS+in_default, else-has_head}

pub returns-then-count-ge-MOST_BLOCKS-clause-names : goal.returns-then-count-ge-MOST_BLOCKS-clause-names
returns-then-count-ge-MOST_BLOCKS-clause-names c =
    let forms = sexp_forms c.args.text.now c.args.items.now in
    let inv = c.loop-item.invariant in
    let count = inv.count in
    let few = inv.few in
    let many = c.if-count-ge-MOST_BLOCKS.true in
    inv.names ∙ sym (most_names forms c.loop-item.item-index (omega (arith, count, few, many)))

pub loop-item-preserved : goal.loop-item-preserved
loop-item-preserved c =
    let text = c.args.text.now in
    let forms = sexp_forms text c.args.items.now in
    let inv = c.loop-item.invariant in
    let i = c.loop-item.item-index in
    let form = sexp_form text c.item-item.result in
    let g = nth_form text c.args.items.now i c.item-item.result c.loop-item-test.true c.item-item.is in
    let names = inv.names in
    let count = inv.count in
    let few = inv.few in
    let fewer = inv.fewer in
    elim c.if-has_head.branch [
      | then-has_head+else-count-ge-MOST_BLOCKS+in-Some+in_ok-new+in_ok-push w ↦ (
          let h = sym c.has_head.ensures ∙ w.if-has_head.true in
          let new = w.names-is ∙ w.in_ok-push.ensures.ok in
          let longer = ap length new ∙ length-append c.loop-item.names (w.in_ok-new.field-0 ∷ []) in
          let is = w.count-is in
          let below = w.if-count-ge-MOST_BLOCKS.false in
          record {
            names = new ∙ ap₂ (λ ns n. ns ++ n ∷ []) names w.in_ok-new.ensures ∙ sym (name_more forms i form g h w.in-Some.bytes.now w.in-Some.ensures);
            count = is ∙ ap (λ n. n + 1) count ∙ sym (count_more forms i form g h);
            few = omega (arith, is, below);
            fewer = omega (arith, longer, is, fewer);
          })
      | then-has_head+else-count-ge-MOST_BLOCKS+in_default w ↦ (
          let h = sym c.has_head.ensures ∙ w.if-has_head.true in
          let same = ap length w.names-is in
          let is = w.count-is in
          let below = w.if-count-ge-MOST_BLOCKS.false in
          record {
            names = w.names-is ∙ names ∙ sym (no_name_more forms i form g h w.in_default.ensures);
            count = is ∙ ap (λ n. n + 1) count ∙ sym (count_more forms i form g h);
            few = omega (arith, is, below);
            fewer = omega (arith, same, is, fewer);
          })
      | else-has_head w ↦ (
          let h = sym c.has_head.ensures ∙ w.if-has_head.false in
          let same = ap length w.names-is in
          let is = w.count-is in
          record {
            names = w.names-is ∙ names ∙ sym (ap names_given (no_block_more forms i form g h));
            count = is ∙ count ∙ sym (ap length (no_block_more forms i form g h));
            few = omega (arith, is, few);
            fewer = omega (arith, same, is, fewer);
          })
    ]

pub returns-clause-names : goal.returns-clause-names
returns-clause-names c =
    let forms = sexp_forms c.args.text.now c.args.items.now in
    let inv = c.loop-item.invariant in
    let count = inv.count in
    let few = inv.few in
    let total = length-map c.args.items.now (sexp_form c.args.text.now) in
    let above = c.loop-item-test.false in
    inv.names ∙ sym (all_names forms c.loop-item.item-index (omega (arith, total, above)) (omega (arith, count, few)))
