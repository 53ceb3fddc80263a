use Rattle.std.proofs.Common.{◌≡◌, ◌++◌, ◌+◌, map, take, drop, get_or, set, sym, subst, length, ◌<◌, arith}
use Rattle.std.proofs.lemmas.List.{get_or_default}
use Rattle.std.proofs.lemmas.List.Edits.{map_over_more}
use Rattle.egraph.specs.Steps.{moved}
use Rattle.egraph.proofs.rows.move_all.Goals as goal

pub loop-class-preserved : goal.loop-class-preserved
loop-class-preserved c =
    let f = moved c.args.from c.args.to in
    let xs = c.args.classes.now in
    let ys = c.loop-class.classes in
    let i = c.loop-class.class-index in
    let x = get_or ys i 0 in
    let l : i < length ys = omega arith in
    let e = map_over_more f xs ys i x c.loop-class-test.true c.loop-class.invariant (get_or_default ys i 0 x l) in
    subst (λ z. set ys i z ≡ map f (take (i + 1) xs) ++ drop (i + 1) xs) (sym c.moved_class.ensures) e
