use Rattle.std.proofs.Common.{◌+◌, ◌-◌, ◌∷◌, [], ◌++◌, ◌<◌, ℕ, List, false, length, sym, subst, ◌∙◌, arith}
use Rattle.std.proofs.lemmas.List.{get_or_default}
use Rattle.refute_trim.proofs.Numbering.{AreNumberedTo, numbered_marked, numbered_none, numbered_unmarked}
use Rattle.refute_trim.proofs.numbers.new_numbers.Goals as goal
use Rattle.refute_trim.proofs.numbers.new_numbers.Goals.{then-not-needed-at, else-not-needed-at}

pub loop-at-init : goal.loop-at-init
loop-at-init c =
    subst (λ (ns : List ℕ). AreNumberedTo c.args.lines.now c.args.needed.now 0 ns 0) (sym c.new-numbers.ensures.items)
    (numbered_none c.args.lines.now c.args.needed.now)

pub loop-at-preserved : goal.loop-at-preserved
loop-at-preserved c =
    let lines = c.args.lines.now in
    let marks = c.args.needed.now in
    let at = c.loop-at.at in
    let numbers = c.loop-at.numbers.items in
    let dropped = c.loop-at.dropped in
    let line = c.index-lines-at.result in
    let within = c.loop-at-test.true in
    let size = c.requires.size in
    let inside : at < length marks = omega (arith, within, size) in
    subst (λ (ns : List ℕ). AreNumberedTo lines marks (at + 1) ns c.if-not-needed-at.dropped) (sym c.in_ok-push.ensures.items)
    (elim c.if-not-needed-at.branch [
      | then-not-needed-at w ↦
          subst (AreNumberedTo lines marks (at + 1) (numbers ++ (line.id - dropped) ∷ [])) (sym w.dropped-is)
          (numbered_unmarked lines marks at numbers dropped line within c.index-lines-at.is c.loop-at.invariant (get_or_default marks at false _ inside ∙ w.if-not-needed-at.true))
      | else-not-needed-at w ↦
          subst (AreNumberedTo lines marks (at + 1) (numbers ++ (line.id - dropped) ∷ [])) (sym w.dropped-is)
          (numbered_marked lines marks at numbers dropped line within c.index-lines-at.is c.loop-at.invariant (get_or_default marks at false _ inside ∙ w.if-not-needed-at.false))
    ])
