use Rattle.std.proofs.Common.{◌≡◌, ◌<◌, get_or, length, sym, ◌∙◌, subst, arith}
use Rattle.std.proofs.lemmas.List.{get_or_default}
use Rattle.std.proofs.lemmas.Option.{get_or_from_slice_get}
use Rattle.word_terms.specs.Keys.{op_signature}
use Rattle.saturation.proofs.ClassNumbers.{kept, added, all_numbered}
use Rattle.saturation.proofs.Graphs.{row_made}
use Rattle.saturation.proofs.numbering.class_numbers.Goals as goal
use Rattle.saturation.proofs.numbering.class_numbers.Goals.{then-not-is_numbered+in_ok-push, else-not-is_numbered}

pub loop-at-preserved : goal.loop-at-preserved
loop-at-preserved c =
    let g = c.args.graph.now in
    let at = c.loop-at.at in
    let row = c.row.result.now in
    let numbers = c.loop-at.numbers.items in
    let seen = c.loop-at.seen.items in
    let lt : at < length g.rows = omega (arith, c.loop-at-test.true, c.rows-at-end.ensures.value) in
    let is : get_or g.rows at row ≡ row = get_or_from_slice_get g.rows at row row c.row.ensures.row in
    let made : row.class < length numbers = omega (arith, row_made op_signature g c.requires.graph row (at, lt, is), c.loop-at.invariant.size) in
    let read : c.index.result.now ≡ get_or numbers row.class 0 = c.index.ensures ∙ get_or_default numbers row.class c.index.result.now 0 made in
    elim c.if-not-is_numbered.branch [
      | then-not-is_numbered+in_ok-push w ↦
          (let len : w.len.result ≡ length seen = w.len.ensures ∙ c.loop-at.seen.ok.0 in
          rw (w.numbers-is, w.seen-is, w.in_ok-push.ensures.items, len)
          (added g at numbers seen c.loop-at.invariant row lt is (row_made op_signature g c.requires.graph row (at, lt, is))
          (λ h e. absurd (let t = c.is_numbered.ensures.1 (subst (λ xs. (c.index.result.now < length xs) × (get_or xs c.index.result.now 0 ≡ row.class)) (sym c.deref.ensures.value) (subst (λ n. (n < length seen) × (get_or seen n 0 ≡ row.class)) (sym read) (h, e))) in let f = w.if-not-is_numbered.true in cc))))
      | else-not-is_numbered w ↦
          (let t = subst (λ xs. (c.index.result.now < length xs) × (get_or xs c.index.result.now 0 ≡ row.class)) c.deref.ensures.value (c.is_numbered.ensures.0 w.if-not-is_numbered.false) in
          rw (w.numbers-is, w.seen-is) (kept g at numbers seen c.loop-at.invariant row lt is c.index.result.now t.0 t.1))
    ]

pub returns : goal.returns
returns c = record { numbers = all_numbered c.args.graph.now c.loop-at.at c.loop-at.numbers.items c.loop-at.seen.items c.loop-at.invariant (omega (arith, c.loop-at-test.false, c.rows-at-end.ensures.value)) }
