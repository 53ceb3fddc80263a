use Rattle.std.proofs.Common.{ℕ, ◌⊎◌, ◌+◌, drop, ◌∷◌, [], get_or, Contains, true≢false, refl, sym, ◌∙◌, subst, inr, arith}
use Rattle.std.proofs.lemmas.List.Elements.{Contains-push, Contains-append_left}
use Rattle.egraph.proofs.Places.{IsOwn, keeps_more, all_kept}
use Rattle.egraph.proofs.moving.still_of.Goals as goal
use Rattle.egraph.proofs.moving.still_of.Goals.{then-is_of+in_ok-push, else-is_of}

pub loop-place-init : goal.loop-place-init
loop-place-init g c = λ k h. inr (c.requires.listed k h.0 h.1 h.2)

pub loop-place-preserved : goal.loop-place-preserved
loop-place-preserved g c =
    let rows = c.args.rows.now in
    let places = c.args.places.now in
    let i = c.loop-place.place-index in
    let p = get_or places i 0 in
    let kept = c.loop-place.kept.items in
    elim c.if-is_of.branch [
      | then-is_of+in_ok-push w ↦
          subst (λ o. (k : ℕ) → IsOwn rows c.args.class k → Contains o.items k ⊎ Contains (drop (i + 1) places) k) (sym w.kept-is) (keeps_more (IsOwn rows c.args.class) places kept w.push.new.self.items i p c.loop-place-test.true refl
          (λ k h. subst (λ xs. Contains xs k) (sym w.in_ok-push.ensures.items) (Contains-append_left kept (p ∷ []) k h))
          (λ h. subst (λ xs. Contains xs p) (sym w.in_ok-push.ensures.items) (Contains-push kept p))
          c.loop-place.invariant)
      | else-is_of w ↦
          subst (λ o. (k : ℕ) → IsOwn rows c.args.class k → Contains o.items k ⊎ Contains (drop (i + 1) places) k) (sym w.kept-is) (keeps_more (IsOwn rows c.args.class) places kept kept i p c.loop-place-test.true refl
          (λ k h. h)
          (λ h. absurd (true≢false (sym (c.is_of.ensures h.0 h.1 h.2) ∙ w.if-is_of.false)))
          c.loop-place.invariant)
    ]

pub returns : goal.returns
returns g c = λ place r e k. all_kept c.args.places.now c.loop-place.kept.items c.loop-place.place-index (omega (arith, c.loop-place-test.false)) place (c.loop-place.invariant place (r, e, k))
