use Rattle.std.proofs.Common.{◌∙◌, List, sym, ap, arith}
use Rattle.std.specs.Prelude.{length}
use Rattle.std.specs.List.{range_with_len}
use Rattle.std.proofs.lemmas.List.FromFn.{length-range_with_len}
use Rattle.cnf_core.specs.declared.literal.Lit.{Lit}
use Rattle.cycle_encoding.specs.Shapes.{when}
use Rattle.cycle_encoding.specs.Steps.{with_clauses}
use Rattle.cycle_encoding.proofs.Adding.{with-none}
use Rattle.order_encoding.proofs.AddSteps.{then_is}
use Rattle.order_encoding.proofs.Extended.{has_guard, no_guard}
use Rattle.order_encoding.proofs.PinSteps.{late-there, late-not}
use Rattle.order_encoding.proofs.pins.add_late_of_guard.Goals as goal

pub returns-then-is_none : goal.returns-then-is_none
returns-then-is_none c =
    let none = no_guard c.args.plan.now.frame.facts.now c.graph.result.now c.is_none.result c.graph.ensures c.is_none.ensures c.if-is_none.true in
    with-none c.args.cnf.now ∙ ap (with_clauses c.args.cnf.now) (late-not c.args.plan.now.frame.facts.now c.args.plan.now.frame.k c.args.first c.args.plan.now.launches.now none)

pub add_late-requires-clause-exist : goal.add_late-requires-clause-exist
add_late-requires-clause-exist c =
    let some = has_guard c.args.plan.now.frame.facts.now c.graph.result.now c.is_none.result c.graph.ensures c.is_none.ensures c.if-is_none.false in
    let size = ap (λ b. length (when b (range_with_len 0 c.args.plan.now.frame.k))) some ∙ length-range_with_len 0 c.args.plan.now.frame.k in
    let exist = c.requires.exist in
    omega arith

pub add_late-requires-clause-room : goal.add_late-requires-clause-room
add_late-requires-clause-room c =
    let some = has_guard c.args.plan.now.frame.facts.now c.graph.result.now c.is_none.result c.graph.ensures c.is_none.ensures c.if-is_none.false in
    let size = ap (λ (cs : List (List Lit)). length cs) (late-there c.args.plan.now.frame.facts.now c.args.plan.now.frame.k c.args.first c.args.plan.now.launches.now some) in
    let room = c.requires.room in
    omega arith

pub returns : goal.returns
returns c =
    let some = has_guard c.args.plan.now.frame.facts.now c.graph.result.now c.is_none.result c.graph.ensures c.is_none.ensures c.if-is_none.false in
    then_is c.add_late.result c.args.cnf.now c.add_late.new.cnf _ _ (sym (late-there c.args.plan.now.frame.facts.now c.args.plan.now.frame.k c.args.first c.args.plan.now.launches.now some)) c.add_late.ensures
