use Rattle.std.proofs.Common.{◌∙◌, ◌∷◌, [], List, sym, ap, subst, arith}
use Rattle.std.specs.Prelude.{not, All}
use Rattle.cnf_core.specs.declared.literal.Lit.{Lit}
use Rattle.cnf_core.specs.Formula.{IsLitOf}
use Rattle.schedule_meaning.specs.Launches.{goes_to}
use Rattle.cycle_encoding.specs.Shapes.{numbered, vars_of, when}
use Rattle.cycle_encoding.specs.Steps.{with_clauses}
use Rattle.cycle_encoding.proofs.Adding.{with-none}
use Rattle.cycle_encoding.proofs.Blocks.{vars-over}
use Rattle.order_encoding.proofs.pins.add_reached_set.Goals as goal

pub returns-then-has_own_input : goal.returns-then-has_own_input
returns-then-has_own_input c =
    let C = vars_of (goes_to c.args.set) (numbered 0 c.args.plan.now.launches.now) in
    with-none c.args.cnf.now ∙ ap (λ b. with_clauses c.args.cnf.now (when (not b) (C ∷ []))) (sym c.if-has_own_input.true ∙ c.has_own_input.ensures)

pub add-requires-clause-exist : goal.add-requires-clause-exist
add-requires-clause-exist c =
    let exist = c.requires.exist in
    subst (λ (l : List Lit). All (IsLitOf c.args.cnf.now.vars) l) (sym (c.deref.ensures.value ∙ c.in_ok-lits.ensures)) (vars-over (goes_to c.args.set) 0 c.args.cnf.now.vars c.args.plan.now.launches.now (omega arith))
