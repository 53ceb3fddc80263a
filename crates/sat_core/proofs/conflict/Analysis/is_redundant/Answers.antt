use Rattle.std.proofs.Common.{◌≡◌, ◌-◌, [], List, length, subst, arith}
use Rattle.std.specs.List.{All}
use Rattle.std.proofs.lemmas.Option.{get_or_from_slice_get}
use Rattle.cnf_core.specs.declared.literal.Lit.{Lit}
use Rattle.cnf_core.specs.Refutation.{clause_at}
use Rattle.sat_core.specs.Steps.{var_count}
use Rattle.sat_core.specs.Walks.{IsStepOf}
use Rattle.sat_core.proofs.Resolving.{reason-few, spare-says}
use Rattle.sat_core.proofs.conflict.Analysis.is_redundant.Goals as goal

pub are_implied-requires-clause-steps : goal.are_implied-requires-clause-steps
are_implied-requires-clause-steps c =
    let clauses = c.args.clauses.now in
    let t = c.args.trail.now in
    let m = length t.steps.items in
    let steps = reason-few clauses (var_count t) t.steps.items t.values.items t.indices.items t.decisions.items c.args.index c.in-Some.id m c.index.result.now
    c.requires.state c.requires.exist c.requires.within c.index.ensures c.in-Some.is (omega arith) in
    let is : clause_at clauses c.in-Some.id ≡ c.get-clause.result.now = get_or_from_slice_get clauses (c.in-Some.id - 1) c.get-clause.result.now [] c.get-clause.ensures in
    subst (λ (x : List Lit). All (IsStepOf t.indices.items m) x) is steps

pub returns-in-Some : goal.returns-in-Some
returns-in-Some c =
    let clauses = c.args.clauses.now in
    let t = c.args.trail.now in
    let is : clause_at clauses c.in-Some.id ≡ c.get-clause.result.now = get_or_from_slice_get clauses (c.in-Some.id - 1) c.get-clause.result.now [] c.get-clause.ensures in
    let late = c.if-self-index.false in
    spare-says clauses t.steps.items t.indices.items c.args.first c.args.index c.in-Some.id c.args.self.now c.index.result.now c.get-clause.result.now c.are_implied.result
    (omega arith) c.requires.within c.index.ensures c.in-Some.is is c.are_implied.ensures
