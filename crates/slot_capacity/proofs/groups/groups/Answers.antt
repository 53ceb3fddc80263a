use Rattle.std.proofs.Common.{◌≡◌, ◌∙◌, ◌++◌, ◌∷◌, ◌<◌, [], ℕ, List, Bool, ap, subst, sym, get_or, length, take}
use Rattle.std.specs.Prelude.{bytes_eq, fold}
use Rattle.std.specs.List.{list_any}
use Rattle.std.proofs.lemmas.List.Sums.{fold_more}
use Rattle.machine_table.specs.declared.tables.Use.{Use}
use Rattle.cycle_encoding.specs.Variables.{slots_of}
use Rattle.cycle_encoding.proofs.Choices.{chosen, not_chosen}
use Rattle.slot_capacity.specs.Limits.{with_group}
use Rattle.slot_capacity.proofs.groups.groups.Goals.{then-not-has_group+in_ok-push, else-not-has_group}
use Rattle.slot_capacity.proofs.groups.groups.Goals as goal

pub loop-one-preserved : goal.loop-one-preserved
loop-one-preserved c =
    let table = c.args.table.now in
    let i = c.loop-one.one-index in
    let u = c.one-item.result in
    let mid = c.loop-one.groups.items in
    let now = c.if-not-has_group.groups.items in
    let slots = slots_of table u in
    let own : c.deref-in-loop-one.result.now ≡ slots = c.deref-in-loop-one.ensures.value ∙ c.in_ok-slots.ensures in
    let b : Bool = list_any (λ (group : List ℕ). bytes_eq group slots) mid in
    let is : c.has_group.result ≡ b =
    c.has_group.ensures
    ∙ ap (λ (gs : List (List ℕ)). list_any (λ (group : List ℕ). bytes_eq group c.deref-in-loop-one.result.now) gs)
    c.deref.ensures.value
    ∙ ap (λ (s : List ℕ). list_any (λ (group : List ℕ). bytes_eq group s) mid) own in
    let step = λ (groups : List (List ℕ)) (u : Use). with_group groups (slots_of table u) in
    let lt : i < length table.uses =
    subst (λ (us : List Use). i < length us) c.as_slice-one-items.ensures c.loop-one-test.true in
    let at : u ≡ get_or table.uses i u =
    c.one-item.is ∙ ap (λ (us : List Use). get_or us i u) c.as_slice-one-items.ensures in
    elim c.if-not-has_group.branch [
      | then-not-has_group+in_ok-push w ↦
          not_chosen b mid (mid ++ slots ∷ []) now (sym is ∙ w.if-not-has_group.true)
          (ap (λ o. o.items) w.groups-is ∙ w.in_ok-push.ensures.items
          ∙ ap (λ (s : List ℕ). mid ++ s ∷ []) (w.from.ensures ∙ c.in_ok-slots.ensures))
      | else-not-has_group w ↦
          chosen b mid (mid ++ slots ∷ []) now (sym is ∙ w.if-not-has_group.false) (ap (λ o. o.items) w.groups-is)
    ]
    ∙ ap (λ (groups : List (List ℕ)). step groups u) c.loop-one.invariant
    ∙ ap (step (fold step [] (take i table.uses))) at
    ∙ sym (fold_more step [] table.uses i u lt)
