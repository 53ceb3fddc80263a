use Rattle.std.proofs.Common.{◌∙◌, ◌+◌, ◌++◌, ◌∷◌, [], List, cond, take, sym, ap}
use Rattle.cnf_core.specs.declared.literal.Lit.{Lit}
use Rattle.schedule_meaning.specs.Launches.{goes_to}
use Rattle.cycle_encoding.specs.Shapes.{numbered, positive, vars_of}
use Rattle.order_encoding.proofs.PinSteps.{going-more}
use Rattle.order_encoding.proofs.pins.going.Goals as goal

pub loop-index-preserved : goal.loop-index-preserved
loop-index-preserved c =
    let ls = c.args.launches.now in
    let i = c.loop-index.index in
    let one : List Lit = positive (i + 1) ∷ [] in
    c.in_ok-push_var_if.ensures
    ∙ ap (λ (ys : List Lit). ys ++ cond c.goes_to.result one []) c.loop-index.invariant
    ∙ ap (λ b. vars_of (goes_to c.args.set) (numbered 0 (take i ls)) ++ cond b one []) c.goes_to.ensures
    ∙ sym (going-more (goes_to c.args.set) ls i _ c.loop-index-test.true)
