use Rattle.std.proofs.Common.{ℕ, ◌≡◌, ◌-◌, ◌∙◌, List, ◌++◌, ◌∷◌, [], Some, length, slice_get, sym, ap, subst}
use Rattle.egraph.specs.Keys.{key_of_row}
use Rattle.egraph.specs.Tables.{IsTracked}
use Rattle.egraph.proofs.Places.{noted_tracked, vacant_tracked, popped}
use Rattle.egraph.proofs.twins.next_twins.Goals as goal
use Rattle.egraph.proofs.twins.next_twins.Goals.{in-Some-get+in_default-find_twin+in_ok-note, in_default-get}

pub returns-in-Some-find_twin-clause-found : goal.returns-in-Some-find_twin-clause-found
returns-in-Some-find_twin-clause-found g c = record {
  differ = c.in-Some-find_twin.ensures.0;
  row = c.in-Some-find_twin.ensures.1;
  other = c.in-Some-get.row.now;
  row_there = c.in-Some-find_twin.ensures.2;
  other_there = sym c.in-Some-get.ensures;
  agree = c.in-Some-find_twin.ensures.3;
}

pub loop-place-preserved : goal.loop-place-preserved
loop-place-preserved g c =
    let s = g.O.Operator.signature in
    let rows = c.args.rows.now in
    let place = c.in-Some.place.now in
    let waiting = c.loop-place.waiting.items in
    let waiting' = c.pop.new.self.items in
    let ew : waiting ≡ waiting' ++ place ∷ [] = popped waiting waiting' c.pop.result place c.loop-place.waiting.len c.loop-place.waiting.ok.0 c.pop.ensures.items c.pop.ensures.value (subst (λ (xs : List ℕ). Some place ≡ slice_get xs (length xs - 1)) c.deref.ensures.value c.in-Some.ensures.value) in
    λ k h. elim c.match-get.branch [
      | in-Some-get+in_default-find_twin+in_ok-note w ↦
          let row = w.in-Some-get.row.now in
          let is_key : w.row_key-key.result ≡ key_of_row s row.op row.operands = w.row_key-key.ensures ∙ ap (key_of_row s row.op) w.as_slice.ensures in
          subst (λ x. IsTracked s rows x waiting' k) (sym w.index-is)
          (noted_tracked s g.met.O.Operator.key_is_own g.met.O.Operator.takes_at_most_four rows c.loop-place.index w.note.new.self waiting waiting' place row w.row_key-key.result is_key c.requires.arities (sym w.in-Some-get.ensures) ew w.in_default-find_twin.ensures w.in_ok-note.ensures.noted w.in_ok-note.ensures.others k (c.loop-place.invariant k h))
      | in_default-get w ↦
          subst (λ x. IsTracked s rows x waiting' k) (sym w.index-is)
          (vacant_tracked s rows c.loop-place.index waiting waiting' place (sym w.in_default-get.ensures) ew k (c.loop-place.invariant k h))
    ]
