use Rattle.std.proofs.Common.{rules, ◌≡◌, ◌≤◌, ◌∙◌, length, sym, true, false, arith, below_more}
use Rattle.register_assign.specs.PoolPlaces.{is_taken}
use Rattle.register_assign.proofs.Zipped.{first_is}
use Rattle.register_assign.proofs.pool_places.first_free.Goals as goal

pub returns-then-not-is_taken : goal.returns-then-not-is_taken
returns-then-not-is_taken c =
    let free : c.is_taken.result ≡ false = search rules in
    let inside : c.loop-place.place ≤ length c.args.graph.now.pool = omega
    (arith, c.len-place-end.ensures, c.loop-place-test.true) in
    first_is c.args.graph.now c.args.launches.now c.args.places.now c.args.cycle c.loop-place.place inside
    c.loop-place.invariant (λ lt. sym c.is_taken.ensures ∙ free)

pub loop-place-preserved : goal.loop-place-preserved
loop-place-preserved c =
    let taken : c.is_taken.result ≡ true = search rules in
    below_more (λ q. is_taken c.args.graph.now c.args.launches.now c.args.places.now c.args.cycle q ≡ true)
    c.loop-place.place c.loop-place.invariant (sym c.is_taken.ensures ∙ taken)

pub returns : goal.returns
returns c =
    let all : c.loop-place.place ≡ length c.args.graph.now.pool = omega
    (arith, c.len-place-end.ensures, c.loop-place-test.false, c.loop-place.auto) in
    c.len.ensures ∙ sym all
    ∙ first_is c.args.graph.now c.args.launches.now c.args.places.now c.args.cycle c.loop-place.place
    (omega (arith, all))
    c.loop-place.invariant (λ lt. absurd (omega (arith, all, lt)))
