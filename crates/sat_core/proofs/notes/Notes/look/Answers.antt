use Rattle.std.proofs.Common.{◌≡◌, ◌-◌, [], List, length, subst, arith}
use Rattle.std.specs.List.{All}
use Rattle.std.proofs.lemmas.Option.{get_or_from_slice_get}
use Rattle.cnf_core.specs.declared.literal.Lit.{Lit}
use Rattle.cnf_core.specs.Refutation.{clause_at}
use Rattle.sat_core.specs.Steps.{var_count}
use Rattle.sat_core.specs.Walks.{IsStepOf}
use Rattle.sat_core.proofs.Resolving.{reason-few}
use Rattle.sat_core.proofs.notes.Notes.look.Goals as goal

pub next_open-requires-clause-steps : goal.next_open-requires-clause-steps
next_open-requires-clause-steps c =
    let clauses = c.args.clauses.now in
    let t = c.args.trail.now in
    let m = length t.steps.items in
    let steps = reason-few clauses (var_count t) t.steps.items t.values.items t.indices.items t.decisions.items c.args.frame.index c.in-Some.id m c.index.result.now
    c.requires.state c.requires.exist c.requires.within c.index.ensures c.in-Some.is (omega arith) in
    let is : clause_at clauses c.in-Some.id ≡ c.get-clause.result.now = get_or_from_slice_get clauses (c.in-Some.id - 1) c.get-clause.result.now [] c.get-clause.ensures in
    subst (λ (x : List Lit). All (IsStepOf t.indices.items m) x) is steps
