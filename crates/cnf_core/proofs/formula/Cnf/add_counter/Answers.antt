use Rattle.std.proofs.Common.{◌≡◌, ℕ, ◌+◌, ◌++◌, length, sym, ap, ◌∙◌, subst, arith}
use Rattle.std.specs.List.{All}
use Rattle.std.proofs.lemmas.List.{length-append}
use Rattle.std.proofs.lemmas.List.Elements.{All-append}
use Rattle.cnf_core.specs.Formula.{Formula, IsLitOf, AreOver}
use Rattle.cnf_core.specs.Counter.{at_most_clauses}
use Rattle.cnf_core.proofs.Range.{length_at_most, at_most-over, over-more}
use Rattle.cnf_core.proofs.formula.Cnf.add_counter.Goals as goal

pub invariant_of-self-2 : goal.invariant_of-self-2
invariant_of-self-2 c =
    let old = c.self.inside in
    let lits = c.args.lits.now in
    let n = c.args.n in
    let more = at_most_clauses old.vars n lits in
    let vars : old.vars ≡ c.args.self.now.vars = ap (λ (f : Formula). f.vars) c.self.view_is in
    let clauses : old.clauses ≡ c.args.self.now.clauses = ap (λ (f : Formula). f.clauses) c.self.view_is in
    let count : length old.clauses ≡ length c.args.self.now.clauses = ap length clauses in
    let is : c.put_counter.new.clauses ≡ old.clauses ++ more = c.in_default.ensures.ok in
    let size = ap length is ∙ length-append old.clauses more in
    let added = length_at_most old.vars n lits in
    let room = c.requires.room in
    let few = c.requires.vars in
    let same = c.at_most_vars.ensures.value in
    let exist : All (IsLitOf old.vars) lits = subst (λ (m : ℕ). All (IsLitOf m) lits) (sym vars) c.requires.exist in
    record {
      few_vars = omega arith;
      few_clauses = omega arith;
      exist = subst (AreOver (old.vars + c.at_most_vars.result)) (sym is)
          (All-append (All (IsLitOf (old.vars + c.at_most_vars.result))) old.clauses more
          (over-more old.vars (old.vars + c.at_most_vars.result) old.clauses (omega arith) c.self.invariant.exist)
          (subst (λ (m : ℕ). AreOver (old.vars + m) more) (sym same) (at_most-over old.vars n lits exist)));
    }
