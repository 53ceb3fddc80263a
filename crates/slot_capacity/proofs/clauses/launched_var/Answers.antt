use Rattle.std.proofs.Common.{◌≡◌, ◌∙◌, ◌+◌, ℕ, List, length, map, sym, ap, arith}
use Rattle.std.proofs.lemmas.Bool.{eqb-false, eqb-true}
use Rattle.cycle_encoding.specs.Shapes.{positive}
use Rattle.slot_capacity.specs.CapacityClauses.{Launched, all_launched}
use Rattle.slot_capacity.proofs.ClauseSteps.{found-here, found-later, found-none, room-here, room-later}
use Rattle.slot_capacity.proofs.LaunchedVars.{apart-once}
use Rattle.slot_capacity.proofs.Things.{no_deadline}
use Rattle.slot_capacity.proofs.clauses.launched_var.Goals as goal

pub own_var-requires : goal.own_var-requires
own_var-requires c =
    let counted = c.args.counted.now in
    let once = apart-once counted c.requires.apart.apart in
    let i = c.loop-one.one-index in
    let here =
    room-here counted once i no_deadline c.loop-one-test.true c.args.class c.args.cycle c.loop-one.before
    (c.args.first + length (all_launched counted)) c.loop-one.invariant.room in
    let few = c.requires.few in
    omega arith

pub returns-then-is_of : goal.returns-then-is_of
returns-then-is_of c =
    let counted = c.args.counted.now in
    let once = apart-once counted c.requires.apart.apart in
    let i = c.loop-one.one-index in
    c.own_var.ensures
    ∙ ap (λ (ps : List (ℕ × Launched)). map (λ (p : ℕ × Launched). positive p.0) ps)
    (found-here counted once i no_deadline c.loop-one-test.true c.args.class c.args.cycle c.loop-one.before
    (eqb-true _ c.args.class (sym c.is_of.ensures ∙ c.if-is_of.true))
    ∙ c.loop-one.invariant.same)

pub loop-one-preserved : goal.loop-one-preserved
loop-one-preserved c =
    let counted = c.args.counted.now in
    let once = apart-once counted c.requires.apart.apart in
    let i = c.loop-one.one-index in
    let new = c.loop-one.before + c.cycles_of-before.result in
    record {
      same =
          found-later counted once i no_deadline c.loop-one-test.true c.args.class c.args.cycle c.loop-one.before new
          c.cycles_of-before.result (eqb-false _ c.args.class (sym c.is_of.ensures ∙ c.if-is_of.false))
          c.cycles_of-before.ensures
          (let z : new ≡ c.loop-one.before + c.cycles_of-before.result = omega arith in z)
          ∙ c.loop-one.invariant.same;
      room =
          room-later counted once i no_deadline c.loop-one-test.true c.args.class c.args.cycle c.loop-one.before new
          c.cycles_of-before.result (c.args.first + length (all_launched counted)) c.cycles_of-before.ensures
          (let z : new ≡ c.loop-one.before + c.cycles_of-before.result = omega arith in z) c.loop-one.invariant.room;
    }

pub returns : goal.returns
returns c =
    let counted = c.args.counted.now in
    ap (λ (ps : List (ℕ × Launched)). map (λ (p : ℕ × Launched). positive p.0) ps)
    (found-none counted c.loop-one.one-index c.args.class c.args.cycle c.loop-one.before c.loop-one-test.false
    ∙ c.loop-one.invariant.same)
