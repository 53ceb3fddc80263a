use Rattle.std.proofs.Common.{◌≡◌, ◌++◌, [], get_or, map, refl, sym, ap, ◌∙◌}
use Rattle.std.proofs.lemmas.List.{append-nil, take_all, get_or_default}
use Rattle.word_terms.specs.Tree.{application, operands_of}
use Rattle.word_terms.specs.View.{tree_of, trees_of}
use Rattle.word_ops.specs.declared.sorts.Op.TheVariants.{Constant}
use Rattle.saturation.specs.Asking.{fold_asked}
use Rattle.saturation.specs.Instances.{asked_of}
use Rattle.pattern_match.specs.declared.found.Fold.{Fold}
use Rattle.saturation.specs.declared.instance.Instance.{Instance}
use Rattle.saturation.proofs.Searched.{one_more_asked_for}
use Rattle.saturation.proofs.Folded.{fold_instance}
use Rattle.saturation.proofs.asking.ask_folds.Goals as goal

pub loop-fold-init : goal.loop-fold-init
loop-fold-init c = sym (append-nil (map asked_of c.args.asked.now.items))

pub loop-fold-preserved : goal.loop-fold-preserved
loop-fold-preserved c =
    let zero : Fold = record { class = 0; value = 0 } in
    let m = get_or c.args.found.now c.loop-fold.fold-index zero in
    let one : Instance = record { right = c.application.result; places = c.new-in-loop-fold.result; class = m.class } in
    let right : tree_of one.right ≡ application (Constant m.value) (operands_of []) = c.application.ensures.tree ∙ ap (λ xs. application (Constant m.value) (operands_of (trees_of xs))) c.new.ensures.items in
    one_more_asked_for fold_asked c.args.found.now c.loop-fold.fold-index m (map asked_of c.args.asked.now.items) c.loop-fold.asked.items c.push.new.self.items one c.loop-fold-test.true (get_or_default c.args.found.now c.loop-fold.fold-index zero m c.loop-fold-test.true) c.loop-fold.invariant c.in_ok-push.ensures.items (fold_instance one m right c.new-in-loop-fold.ensures refl)

pub returns : goal.returns
returns c = c.loop-fold.invariant ∙ ap (λ xs. map asked_of c.args.asked.now.items ++ map fold_asked xs) (take_all c.loop-fold.fold-index c.args.found.now c.loop-fold-test.false)
