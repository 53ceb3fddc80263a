use Rattle.std.proofs.Common.{◌+◌, take, rules, sym, ◌∙◌, subst, Option}
use Rattle.std.specs.List.{All}
use Rattle.std.proofs.lemmas.List.{take_all}
use Rattle.cnf_core.specs.declared.literal.Lit.{Lit}
use Rattle.cnf_core.specs.Values.{IsFalse}
use Rattle.cnf_core.proofs.Scanning.{UnitSoFar, false-value, unit-false, unit-found, unit-again}
use Rattle.cnf_core.proofs.values.status_of.Goals as goal
use Rattle.cnf_core.proofs.values.status_of.Goals.{in-Some+else-positive-lit, in-None, in-Some-found+else-ne, in_default}

pub loop-lit-preserved : goal.loop-lit-preserved
loop-lit-preserved g c =
    let s = g.V.Values.partial c.args.values.now in
    let clause = c.args.clause.now in
    let at = c.loop-lit.lit-index in
    elim c.match-value.branch [
      | in-Some+else-positive-lit w ↦
          (let is = sym c.value.ensures.value ∙ w.in-Some.is in
          subst (λ (o : Option Lit). UnitSoFar s (take (at + 1) clause) o) (sym w.found-is)
          (unit-false s clause at _ c.loop-lit.found c.loop-lit-test.true c.loop-lit.invariant (false-value s _ w.in-Some.positive is (search rules))))
      | in-None w ↦
          (let free = sym c.value.ensures.value ∙ w.in-None.is in
          subst (λ (o : Option Lit). UnitSoFar s (take (at + 1) clause) o) (sym w.found-is)
          (elim w.match-found.branch [
            | in-Some-found+else-ne w' ↦
                (let before = subst (λ (o : Option Lit). UnitSoFar s (take at clause) o) w'.in-Some-found.is c.loop-lit.invariant in
                unit-again s clause at _ w'.in-Some-found.other c.loop-lit-test.true before (search rules))
            | in_default w' ↦
                (let before = subst (λ (o : Option Lit). UnitSoFar s (take at clause) o) w'.in_default.is c.loop-lit.invariant in
                unit-found s clause at _ c.loop-lit-test.true before free)
          ]))
    ]

pub returns-in-None-found : goal.returns-in-None-found
returns-in-None-found g c =
    let s = g.V.Values.partial c.args.values.now in
    let clause = c.args.clause.now in
    let all = subst (λ (o : Option Lit). UnitSoFar s (take c.loop-lit.lit-index clause) o) c.in-None-found.is c.loop-lit.invariant in
    subst (All (IsFalse s)) (take_all c.loop-lit.lit-index clause c.loop-lit-test.false) all
