use Rattle.std.proofs.Common.{◌≡◌, ◌<◌, get_or, length, sym, ap, ◌∙◌, arith}
use Rattle.std.proofs.lemmas.Option.{get_or_from_slice_get}
use Rattle.saturation.specs.Numbered.{place_in}
use Rattle.saturation.proofs.UsedOperators.{used_anew, used_again, used_none}
use Rattle.saturation.proofs.numbering.used_operators.Goals as goal
use Rattle.saturation.proofs.numbering.used_operators.Goals.{in-Declared+then-place_of-len+in_ok-push, in-Declared+else-place_of-len, in_default}

pub loop-at-preserved : goal.loop-at-preserved
loop-at-preserved c =
    let rows = c.args.graph.now.rows in
    let at = c.loop-at.at in
    let row = c.row.result.now in
    let used = c.loop-at.used.items in
    let lt : at < length rows = omega (arith, c.loop-at-test.true, c.rows-at-end.ensures.value) in
    let is : get_or rows at row ≡ row = get_or_from_slice_get rows at row row c.row.ensures.row in
    elim c.match-row.branch [
      | in-Declared+then-place_of-len+in_ok-push w ↦
          (let place = w.place_of.ensures ∙ ap (λ ns. place_in ns w.in-Declared.index) w.deref.ensures.value in
          rw (w.used-is, w.in_ok-push.ensures.items) (used_anew rows at row lt is used w.in-Declared.index w.in-Declared.arity c.loop-at.invariant w.in-Declared.is (sym place ∙ w.if-place_of-len.true ∙ w.len.ensures ∙ c.loop-at.used.ok.0)))
      | in-Declared+else-place_of-len w ↦
          (let place = w.place_of.ensures ∙ ap (λ ns. place_in ns w.in-Declared.index) w.deref.ensures.value in
          rw (w.used-is) (used_again rows at row lt is used w.in-Declared.index w.in-Declared.arity c.loop-at.invariant w.in-Declared.is (λ e. w.if-place_of-len.false (place ∙ e ∙ sym (w.len.ensures ∙ c.loop-at.used.ok.0)))))
      | in_default w ↦ rw (w.used-is) (used_none rows at row lt is used c.loop-at.invariant (λ n a e. w.in_default.not-Declared n a e))
    ]
