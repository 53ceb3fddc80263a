use Rattle.std.proofs.Common.{◌∙◌, ap, arith, get_or}
use Rattle.cycle_encoding.specs.CycleFormula.{cycle_formula, listed_in}
use Rattle.cycle_encoding.specs.Plans.{Plan}
use Rattle.order_encoding.specs.declared.adding.Part.TheVariants.{Memory}
use Rattle.order_encoding.proofs.Composed.{cycle_less}
use Rattle.order_encoding.proofs.Limits.{within_clauses, within_vars}
use Rattle.order_encoding.proofs.PartLoop.{all_ended, all_parts, part_begins, part_ends, part_knows, part_less}
use Rattle.order_encoding.proofs.whole.build_whole.Goals as goal

pub build_cycles-requires-clause-vars : goal.build_cycles-requires-clause-vars
build_cycles-requires-clause-vars c =
    let g = c.args.frame.now.facts.now in
    let table = c.args.frame.now.table.now in
    let k = c.args.frame.now.k in
    let e = listed_in g table k c.args.frame.now.scope.now in
    within_vars (cycle_formula g table k e) (λ t. c.requires.within (cycle_less g table k e t))

pub build_cycles-requires-clause-clauses : goal.build_cycles-requires-clause-clauses
build_cycles-requires-clause-clauses c =
    let g = c.args.frame.now.facts.now in
    let table = c.args.frame.now.table.now in
    let k = c.args.frame.now.k in
    let e = listed_in g table k c.args.frame.now.scope.now in
    within_clauses (cycle_formula g table k e) (λ t. c.requires.within (cycle_less g table k e t))

pub extend-requires-clause-formula : goal.extend-requires-clause-formula
extend-requires-clause-formula c =
    let g = c.args.frame.now.facts.now in
    let table = c.args.frame.now.table.now in
    let k = c.args.frame.now.k in
    let e = listed_in g table k c.args.frame.now.scope.now in
    let i = c.loop-part.part-index in
    let lt = c.loop-part-test.true in
    c.loop-part.invariant ∙ part_begins g table k e i Memory lt

pub extend-requires-clause-overwritten : goal.extend-requires-clause-overwritten
extend-requires-clause-overwritten c =
    let g = c.args.frame.now.facts.now in
    let table = c.args.frame.now.table.now in
    let k = c.args.frame.now.k in
    let e = listed_in g table k c.args.frame.now.scope.now in
    let i = c.loop-part.part-index in
    let lt = c.loop-part-test.true in
    part_knows (get_or all_parts i Memory) _ e (c.in_ok-over.ensures.first ∙ c.overwritten.ensures ∙ ap (λ (p : Plan). p.overwritten) c.in_ok-encoded.ensures.plan)

pub extend-requires-clause-within : goal.extend-requires-clause-within
extend-requires-clause-within c =
    let g = c.args.frame.now.facts.now in
    let table = c.args.frame.now.table.now in
    let k = c.args.frame.now.k in
    let e = listed_in g table k c.args.frame.now.scope.now in
    let i = c.loop-part.part-index in
    let lt = c.loop-part-test.true in
    λ t. c.requires.within (part_less g table k e (get_or all_parts i Memory) t)

pub loop-part-preserved : goal.loop-part-preserved
loop-part-preserved c =
    let g = c.args.frame.now.facts.now in
    let table = c.args.frame.now.table.now in
    let k = c.args.frame.now.k in
    let e = listed_in g table k c.args.frame.now.scope.now in
    let i = c.loop-part.part-index in
    let lt = c.loop-part-test.true in
    c.in_ok-extend.ensures ∙ part_ends g table k e i Memory lt

pub returns-clause-formula : goal.returns-clause-formula
returns-clause-formula c =
    let g = c.args.frame.now.facts.now in
    let table = c.args.frame.now.table.now in
    let k = c.args.frame.now.k in
    let e = listed_in g table k c.args.frame.now.scope.now in
    let i = c.loop-part.part-index in
    c.loop-part.invariant ∙ all_ended g table k e i (omega (arith, c.loop-part-test.false))

pub extend-requires-clause-over : goal.extend-requires-clause-over
extend-requires-clause-over c = record {
  cycles_are = c.in_ok-over.ensures.cycles;
  sets_are = c.in_ok-over.ensures.sets;
}
