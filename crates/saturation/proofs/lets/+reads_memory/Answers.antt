use Rattle.std.proofs.Common.{◌≡◌, ◌+◌, ◌<◌, true, false, get_or, length, take, ap, sym, ◌∙◌, arith}
use Rattle.std.proofs.lemmas.List.{get_or-map, length-map}
use Rattle.word_ops.specs.declared.sorts.Op.{Op}
use Rattle.word_terms.specs.Tree.{operands_of}
use Rattle.word_terms.specs.View.{tree_of, trees_of}
use Rattle.saturation.specs.OverLets.{has_select_over, have_select_over}
use Rattle.saturation.specs.StandsFor.{is_select}
use Rattle.saturation.proofs.Building.{one_more}
use Rattle.saturation.proofs.LaunchTerms.{no_select_more, select_among, or_true}
use Rattle.saturation.proofs.lets.+reads_memory.Goals as goal

pub returns-then-reads_memory : goal.returns-then-reads_memory
returns-then-reads_memory t c =
    let op = c.in-App.op in
    let items = c.deref-operand-items.result.now in
    let i = c.loop-operand.operand-index in
    let x = c.operand-item.result in
    let l : i < length (trees_of items) = omega (arith, length-map items (tree_of {O = Op}), c.loop-operand-test.true) in
    let at : get_or (trees_of items) i (tree_of x) ≡ tree_of x = get_or-map tree_of items i x (tree_of x) c.loop-operand-test.true ∙ sym (ap tree_of c.operand-item.is) in
    let one : have_select_over c.args.lets.now (operands_of (trees_of items)) ≡ true = select_among c.args.lets.now (trees_of items) i (tree_of x) l (ap (has_select_over c.args.lets.now) at ∙ sym c.reads_memory.ensures ∙ c.if-reads_memory.true) in
    sym (
    ap (λ u. has_select_over c.args.lets.now (tree_of u)) c.in-App.is
    ∙ ap (has_select_over c.args.lets.now) (c.terms_are_trees.ensures.applications op c.in-App.operands)
    ∙ or_true (is_select op) (have_select_over c.args.lets.now (operands_of (trees_of c.in-App.operands.items))) (ap (λ xs. have_select_over c.args.lets.now (operands_of (trees_of xs))) (sym c.deref-operand-items.ensures.value) ∙ one)
    )

pub loop-operand-preserved : goal.loop-operand-preserved
loop-operand-preserved t c =
    let items = c.deref-operand-items.result.now in
    let i = c.loop-operand.operand-index in
    let x = c.operand-item.result in
    let next : have_select_over c.args.lets.now (operands_of (take (i + 1) (trees_of items))) ≡ false =
    ap (λ ts. have_select_over c.args.lets.now (operands_of ts)) (one_more items i x c.loop-operand-test.true c.operand-item.is)
    ∙ no_select_more c.args.lets.now (take i (trees_of items)) (tree_of x) c.loop-operand.invariant (sym c.reads_memory.ensures ∙ c.if-reads_memory.false) in
    next
