use Rattle.std.proofs.Common.{◌≡◌, ◌≤◌, ◌++◌, ◌∷◌, [], ◌∙◌, ℕ, List, length, cond, sym, ap, subst, arith, rules}
use Rattle.std.specs.Prelude.{is_some}
use Rattle.std.specs.List.{filter, range_with_len}
use Rattle.schedule_meaning.specs.Launches.{pin_of}
use Rattle.schedule_meaning.specs.declared.schedules.To.TheVariants.{Set}
use Rattle.cycle_encoding.specs.Variables.{pinned_sets}
use Rattle.cycle_encoding.proofs.PinCounts.{few_pins, pin_more}
use Rattle.cycle_encoding.proofs.Choices.{added, kept}
use Rattle.cycle_encoding.proofs.facts.pins.Goals.{then-is_some+in_ok-push, else-is_some}
use Rattle.cycle_encoding.proofs.facts.pins.Goals as goal

pub loop-set-preserved : goal.loop-set-preserved
loop-set-preserved c =
    let g = c.args.graph.now in
    let set = c.loop-set.set in
    let b = is_some (pin_of g (Set set)) in
    let mid = c.loop-set.pins.items in
    let now = c.if-is_some.pins.items in
    let test : c.is_some.result ≡ b = search rules in
    let more : now ≡ mid ++ cond b (set ∷ []) [] = elim c.if-is_some.branch [
      | then-is_some+in_ok-push w ↦ added b mid (set ∷ []) now (sym test ∙ w.if-is_some.true) (ap (λ o. o.items) w.pins-is ∙ w.in_ok-push.ensures.items)
      | else-is_some w ↦ kept b mid (set ∷ []) now (sym test ∙ w.if-is_some.false) (ap (λ o. o.items) w.pins-is)
    ] in
    more
    ∙ ap (λ (js : List ℕ). js ++ cond (is_some (pin_of g (Set set))) (set ∷ []) []) c.loop-set.invariant
    ∙ sym (pin_more g set)

pub returns-clause-few : goal.returns-clause-few
returns-clause-few c =
    let g = c.args.graph.now in
    let end : c.loop-set.set ≡ length g.sets = (let a = c.loop-set-test.false in let b = c.loop-set.auto.set-end in let n = c.len-set-end.ensures in let f = c.if-len.false in let m = c.len.ensures in omega arith) in
    let are : c.loop-set.pins.items ≡ pinned_sets g = c.loop-set.invariant ∙ ap (λ n. filter (λ j. is_some (pin_of g (Set j))) (range_with_len 0 n)) end in
    subst (λ (js : List ℕ). length js ≤ 31) (sym are) (few_pins g c.requires)
