use Rattle.std.proofs.Common.{refl}
use Rattle.cycle_encoding.specs.Shapes.{numbered}
use Rattle.cycle_encoding.proofs.Built.{on_ok_more}
use Rattle.slot_capacity.proofs.ExtendSteps.{end-room, limits-room, made-room, stay-room, whole}
use Rattle.slot_capacity.proofs.clauses.extend_by_capacity.Goals as goal

pub add_made-requires-clause-room : goal.add_made-requires-clause-room
add_made-requires-clause-room c =
    made-room c.args.facts.now (numbered 0 c.args.launches.now) c.args.cnf.now c.args.capacity.now c.vars-first.result
    c.as_slice-counted.result.now c.args.capacity.now.limits c.vars-first.ensures.value c.as_slice-counted.ensures refl
    c.requires.clauses c.add_launched_vars.new.cnf c.add_launched_vars.ensures

pub add_stays-requires-clause-room : goal.add_stays-requires-clause-room
add_stays-requires-clause-room c =
    stay-room c.args.facts.now (numbered 0 c.args.launches.now) c.args.cnf.now c.args.capacity.now c.vars-first.result
    c.as_slice-counted.result.now c.args.capacity.now.limits c.vars-first.ensures.value c.as_slice-counted.ensures refl
    c.requires.clauses c.add_launched_vars.new.cnf c.add_launched_vars.ensures c.add_made.new.cnf
    c.in_ok-add_made.ensures

pub add_ends-requires-clause-room : goal.add_ends-requires-clause-room
add_ends-requires-clause-room c =
    end-room c.args.facts.now (numbered 0 c.args.launches.now) c.args.cnf.now c.args.capacity.now c.vars-first.result
    c.as_slice-counted.result.now c.args.capacity.now.limits c.vars-first.ensures.value c.as_slice-counted.ensures refl
    c.requires.clauses c.add_launched_vars.new.cnf c.add_launched_vars.ensures c.add_made.new.cnf
    c.in_ok-add_made.ensures
    c.add_stays.new.cnf c.in_ok-add_stays.ensures

pub add_limits-requires-clause-room : goal.add_limits-requires-clause-room
add_limits-requires-clause-room c =
    limits-room c.args.facts.now (numbered 0 c.args.launches.now) c.args.cnf.now c.args.capacity.now c.vars-first.result
    c.as_slice-counted.result.now c.as_slice.result.now c.vars-first.ensures.value c.as_slice-counted.ensures
    c.as_slice.ensures c.requires.clauses c.add_launched_vars.new.cnf c.add_launched_vars.ensures c.add_made.new.cnf
    c.in_ok-add_made.ensures c.add_stays.new.cnf c.in_ok-add_stays.ensures c.add_ends.new.cnf c.in_ok-add_ends.ensures

pub returns : goal.returns
returns c =
    on_ok_more _ _ c.add_limits.result (λ e.
    whole c.args.facts.now (numbered 0 c.args.launches.now) c.args.cnf.now c.args.capacity.now c.vars-first.result
    c.as_slice-counted.result.now c.as_slice.result.now c.vars-first.ensures.value c.as_slice-counted.ensures
    c.as_slice.ensures c.requires.clauses c.add_launched_vars.new.cnf c.add_launched_vars.ensures c.add_made.new.cnf
    c.in_ok-add_made.ensures c.add_stays.new.cnf c.in_ok-add_stays.ensures c.add_ends.new.cnf c.in_ok-add_ends.ensures
    c.add_limits.new.cnf e)
    c.add_limits.ensures
