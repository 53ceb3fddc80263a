use Rattle.std.proofs.Common.{refl}
use Rattle.cycle_encoding.specs.Faults.{EncodeFaultIs}
use Rattle.cycle_encoding.proofs.Built.{if_ok, if_ok_both, if_err, on_ok_more}
use Rattle.order_encoding.specs.WholeFormula.{whole_formula}
use Rattle.cycle_encoding.specs.CycleFormula.{wide}
use Rattle.order_encoding.proofs.Composed.{has_each}
use Rattle.order_encoding.proofs.whole.full.Goals as goal

pub returns-clause-formula : goal.returns-clause-formula
returns-clause-formula c = if_ok _ _ c.full_as.result (λ e h. h (wide c.args.graph.now c.args.table.now c.args.k) refl) c.full_as.ensures.formula

pub returns-clause-plan : goal.returns-clause-plan
returns-clause-plan c = if_ok _ _ c.full_as.result (λ e h. h (wide c.args.graph.now c.args.table.now c.args.k) refl) c.full_as.ensures.plan

pub returns-clause-size : goal.returns-clause-size
returns-clause-size c = if_err _ (EncodeFaultIs (whole_formula c.args.graph.now c.args.table.now c.args.k (wide c.args.graph.now c.args.table.now c.args.k))) c.full_as.result (λ x h. h (wide c.args.graph.now c.args.table.now c.args.k) refl) c.full_as.ensures.size

pub returns-clause-within : goal.returns-clause-within
returns-clause-within c = on_ok_more _ _ c.full_as.result (λ h. h (wide c.args.graph.now c.args.table.now c.args.k) refl) c.full_as.ensures.within

pub returns-clause-each : goal.returns-clause-each
returns-clause-each c =
    let g = c.args.graph.now in
    let table = c.args.table.now in
    let k = c.args.k in
    let w = wide g table k in
    if_ok_both _ _ _ c.full_as.result (λ e formula plan ls fit. has_each g table k e.cnf e.plan (formula w refl) (plan w refl) ls (c.each_encoding_says_fits.ensures.each g table k ls c.requires.table c.requires.graph fit)) c.full_as.ensures.formula c.full_as.ensures.plan
