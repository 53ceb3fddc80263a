use Rattle.std.proofs.Common.{subst}
use Rattle.cycle_encoding.specs.Encodings.{IsScope}
use Rattle.cycle_encoding.specs.declared.encodings.Encoding.{Encoding}
use Rattle.denali_run.proofs.RisingCycles.{reached_in}
use Rattle.denali_run.proofs.searching.fewest_cycles.Goals as goal

pub reach_in-requires-clause-scope : goal.reach_in-requires-clause-scope
reach_in-requires-clause-scope c =
    subst (λ (e : Encoding). IsScope e c.in_ok-facts.facts c.args.table.now c.in_ok-scope.scope) c.encoding.ensures
    c.in_ok-scope.ensures

pub returns : goal.returns
returns c = record {
  reached = reached_in c.args.graph.now c.in_ok-facts.facts c.args.table.now c.in_ok-scope.scope c.args.settings.now
      c.in_ok-facts.ensures
      (subst (λ (e : Encoding). IsScope e c.in_ok-facts.facts c.args.table.now c.in_ok-scope.scope) c.encoding.ensures
      c.in_ok-scope.ensures)
      c.reach_in.result c.reach_in.ensures;
}
