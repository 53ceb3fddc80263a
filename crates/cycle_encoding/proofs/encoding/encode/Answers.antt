use Rattle.std.proofs.Common.{refl}
use Rattle.cycle_encoding.specs.CycleFormula.{wide, cycle_formula}
use Rattle.cycle_encoding.specs.Faults.{EncodeFaultIs}
use Rattle.cycle_encoding.proofs.Built.{if_ok, if_err, on_ok_more}
use Rattle.cycle_encoding.proofs.encoding.encode.Goals as goal

pub returns-clause-formula : goal.returns-clause-formula
returns-clause-formula c = if_ok _ _ c.encode_as.result (λ e h. h (wide c.args.graph.now c.args.table.now c.args.k) refl) c.encode_as.ensures.formula

pub returns-clause-plan : goal.returns-clause-plan
returns-clause-plan c = if_ok _ _ c.encode_as.result (λ e h. h (wide c.args.graph.now c.args.table.now c.args.k) refl) c.encode_as.ensures.plan

pub returns-clause-size : goal.returns-clause-size
returns-clause-size c = if_err _ (EncodeFaultIs (cycle_formula c.args.graph.now c.args.table.now c.args.k (wide c.args.graph.now c.args.table.now c.args.k))) c.encode_as.result (λ x h. h (wide c.args.graph.now c.args.table.now c.args.k) refl) c.encode_as.ensures.size

pub returns-clause-within : goal.returns-clause-within
returns-clause-within c = on_ok_more _ _ c.encode_as.result (λ h. h (wide c.args.graph.now c.args.table.now c.args.k) refl) c.encode_as.ensures.within
