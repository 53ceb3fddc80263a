use Rattle.std.proofs.Common.{◌≡◌, ◌∙◌, ◌-◌, map, ap, arith}
use Rattle.std.specs.List.{range_with_len}
use Rattle.cycle_encoding.specs.Steps.{with_clauses}
use Rattle.slot_capacity.specs.CapacitySteps.{stays_behind}
use Rattle.slot_capacity.proofs.ClauseSteps.{behind-room, behind-step}
use Rattle.slot_capacity.proofs.clauses.add_class_stays.Goals as goal

pub add_implied-requires-clause-room : goal.add_implied-requires-clause-room
add_implied-requires-clause-room c =
    behind-room c.args.before c.loop-place.place c.args.cycles c.args.cnf.now c.loop-place.cnf c.loop-place.auto.place
    c.loop-place-test.true c.loop-place.invariant.is c.requires.room

pub loop-place-preserved : goal.loop-place-preserved
loop-place-preserved c = record {
  is =
      behind-step c.args.before c.loop-place.place c.args.cnf.now c.loop-place.cnf c.loop-place.auto.place
      c.add_implied.new.cnf c.loop-place.invariant.is c.in_ok-add_implied.ensures;
  within = (let lt = c.loop-place-test.true in omega arith);
}

pub returns : goal.returns
returns c =
    let past = c.loop-place-test.false in
    let within = c.loop-place.invariant.within in
    let last : c.loop-place.place - 1 ≡ c.args.cycles - 1 = omega arith in
    c.loop-place.invariant.is
    ∙ ap (λ m. with_clauses c.args.cnf.now (map (stays_behind c.args.before) (range_with_len 1 m))) last
