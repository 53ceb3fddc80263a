use Rattle.std.proofs.Common.{◌≡◌, ◌∙◌, ◌+◌, ◌++◌, ◌∷◌, [], List, ap, sym, arith}
use Rattle.cnf_core.specs.declared.literal.Lit.{Lit}
use Rattle.cycle_encoding.specs.Shapes.{positive}
use Rattle.order_encoding.proofs.TakenPlaces.{following_are, following_more}
use Rattle.order_encoding.proofs.pool.following.Goals as goal

pub loop-place-preserved : goal.loop-place-preserved
loop-place-preserved c = c.in_ok-push.ensures.items ∙ ap (λ (ys : List Lit). ys ++ positive (c.args.first + c.loop-place.place + 1) ∷ []) c.loop-place.invariant ∙ sym (following_more c.args.first c.loop-place.place)

pub returns : goal.returns
returns c = (let e : c.loop-place.place ≡ c.args.count = omega arith in λ xs size. following_are c.args.first c.loop-place.place xs c.loop-place.lits.items (size ∙ sym e) c.loop-place.invariant)
