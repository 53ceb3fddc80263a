use Rattle.std.proofs.Common.{◌∙◌, ◌++◌, ap, sym, ℕ, List, map, arith}
use Rattle.cnf_core.specs.declared.literal.Lit.{Lit}
use Rattle.schedule_meaning.specs.declared.schedules.Launch.{Launch}
use Rattle.cycle_encoding.specs.Families.{is_lost}
use Rattle.cycle_encoding.specs.Variables.{all_overwritten}
use Rattle.cycle_encoding.specs.Shapes.{numbered, negated, positive}
use Rattle.cycle_encoding.proofs.FamilySteps.{target_exist, given_vars, added-target}
use Rattle.cycle_encoding.proofs.families.add_target.Goals as goal

pub add-requires-clause-exist : goal.add-requires-clause-exist
add-requires-clause-exist c =
    let g = c.args.vars.now.frame.facts.now in
    let over = c.args.vars.now.over in
    let class = c.args.set.now.class in
    let given = c.in_ok-clause.ensures ∙ ap (λ (ps : List (ℕ × Launch)). map (λ p. positive p.0) ps) (c.deref.ensures.value ∙ c.in_ok-given.ensures) in
    target_exist g class c.args.cnf.now.vars c.args.vars.now.launches.now over.first over.cycles over.cycles c.in_ok-clause.clause.items c.deref-2.result.now given (c.deref-2.ensures.value ∙ c.in_ok-push_lost.ensures ∙ ap (λ (n : ℕ). c.in_ok-clause.clause.items ++ negated (is_lost g class n) (numbered over.first (all_overwritten g over.cycles))) c.from.ensures) (let first = c.requires.vars.first in let next = c.requires.vars.next in let exist = c.requires.exist in omega arith) c.requires.exist

pub returns : goal.returns
returns c =
    let g = c.args.vars.now.frame.facts.now in
    let over = c.args.vars.now.over in
    let class = c.args.set.now.class in
    let lost = negated (is_lost g class over.cycles) (numbered over.first (all_overwritten g over.cycles)) in
    let given = c.in_ok-clause.ensures ∙ ap (λ (ps : List (ℕ × Launch)). map (λ p. positive p.0) ps) (c.deref.ensures.value ∙ c.in_ok-given.ensures) ∙ given_vars g class c.args.vars.now.launches.now in
    let e = c.deref-2.ensures.value ∙ c.in_ok-push_lost.ensures ∙ ap (λ (n : ℕ). c.in_ok-clause.clause.items ++ negated (is_lost g class n) (numbered over.first (all_overwritten g over.cycles))) c.from.ensures ∙ ap (λ (ls : List Lit). ls ++ lost) given in
    added-target g over.cycles (numbered 0 c.args.vars.now.launches.now) (numbered over.first (all_overwritten g over.cycles)) c.add.result c.args.cnf.now c.add.new.self c.args.set.now c.deref-2.result.now (sym c.is_needed_target.ensures ∙ c.if-not-is_needed_target.false) e c.add.ensures.ok
