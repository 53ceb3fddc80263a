use Rattle.std.proofs.Common.{◌≡◌, ◌++◌, map, sym, ap, ◌∙◌}
use Rattle.std.specs.Prelude.{unwrap_or}
use Rattle.std.proofs.lemmas.List.{append-nil, take_all}
use Rattle.axiom_base.specs.Computed.{calc_right, no_constants}
use Rattle.word_terms.specs.View.{tree_of}
use Rattle.saturation.specs.Asking.{kind_asked}
use Rattle.saturation.specs.Instances.{asked_of}
use Rattle.saturation.specs.declared.instance.Instance.{Instance}
use Rattle.saturation.proofs.Searched.{one_more_asked_for}
use Rattle.saturation.proofs.asking.ask_kind.Goals as goal

pub loop-one-init : goal.loop-one-init
loop-one-init c = sym (append-nil (map asked_of c.args.asked.now.items))

pub loop-one-preserved : goal.loop-one-preserved
loop-one-preserved c =
    let m = c.one-item.result in
    let one : Instance = record { right = c.in_ok-calc_right.field-0; places = c.in_ok-from_slice.field-0; class = m.class } in
    let right : tree_of one.right ≡ calc_right c.args.kind (unwrap_or m.given no_constants) = c.in_ok-calc_right.ensures.tree ∙ ap (calc_right c.args.kind) c.unwrap_or-given.ensures in
    let places : one.places ≡ m.classes = c.in_ok-from_slice.ensures ∙ c.as_slice.ensures in
    one_more_asked_for (kind_asked c.args.kind) c.args.found.now c.loop-one.one-index m (map asked_of c.args.asked.now.items) c.loop-one.asked.items c.push.new.self.items one c.loop-one-test.true c.one-item.is c.loop-one.invariant c.in_ok-push.ensures.items (λ i. record { right = right i; places = places i; class = m.class })

pub returns : goal.returns
returns c = c.loop-one.invariant ∙ ap (λ xs. map asked_of c.args.asked.now.items ++ map (kind_asked c.args.kind) xs) (take_all c.loop-one.one-index c.args.found.now c.loop-one-test.false)
