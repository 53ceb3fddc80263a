use Rattle.std.proofs.Common.{◌≡◌, ◌-◌, ℕ, [], List, length, sym, subst}
use Rattle.std.specs.List.{All}
use Rattle.std.proofs.lemmas.Option.{get_or_from_slice_get}
use Rattle.cnf_core.specs.declared.literal.Lit.{Lit}
use Rattle.cnf_core.specs.Refutation.{clause_at}
use Rattle.sat_core.specs.Steps.{var_count}
use Rattle.sat_core.specs.Walks.{IsStepOf}
use Rattle.sat_core.proofs.Resolving.{reason-few}
use Rattle.sat_core.proofs.conflict.Analysis.is_implied.Goals as goal

pub are_seen-requires : goal.are_seen-requires
are_seen-requires c =
    let clauses = c.args.clauses.now in
    let t = c.args.trail.now in
    let m = length c.args.self.now.seen.items in
    let steps = reason-few clauses (var_count t) t.steps.items t.values.items t.indices.items t.decisions.items c.args.index c.in-Some.id m c.index.result.now
    c.requires.state c.requires.exist c.requires.within c.index.ensures c.in-Some.is c.requires.size in
    let is : clause_at clauses c.in-Some.id ≡ c.get-clause.result.now = get_or_from_slice_get clauses (c.in-Some.id - 1) c.get-clause.result.now [] c.get-clause.ensures in
    record {
      steps = subst (λ (ps : List ℕ). All (IsStepOf ps m) c.get-clause.result.now) (sym c.deref.ensures.value)
          (subst (λ (x : List Lit). All (IsStepOf t.indices.items m) x) is steps);
    }
