use Rattle.std.proofs.Common.{◌≡◌, ◌≤◌, List, take, get_or, inl, inr, ◌∙◌, arith, subst}
use Rattle.std.specs.List.{All}
use Rattle.std.proofs.lemmas.Bool.{cases_lt}
use Rattle.std.proofs.lemmas.List.{take_all}
use Rattle.std.proofs.lemmas.List.Elements.{All-more, All-weaker, Contains-get_or}
use Rattle.cnf_core.specs.declared.literal.Lit.{Lit}
use Rattle.sat_core.specs.Walks.{trail_index}
use Rattle.sat_core.specs.Watches.{no_literal}
use Rattle.sat_core.proofs.conflict.lowest_index.Goals as goal

pub loop-lit-preserved : goal.loop-lit-preserved
loop-lit-preserved c =
    let indices = c.args.indices.now in
    let clause = c.args.clause.now in
    let m = c.min-lowest.result in
    let is = c.min-lowest.ensures in
    let low = c.loop-lit.invariant.most in
    let below : m ≤ c.loop-lit.lowest = omega arith in
    record {
      most = omega arith;
      each = All-more (λ x. m ≤ trail_index indices x) clause c.loop-lit.lit-index no_literal c.loop-lit-test.true
          (All-weaker (λ x. c.loop-lit.lowest ≤ trail_index indices x) (λ x. m ≤ trail_index indices x) (λ x before. omega arith) (take c.loop-lit.lit-index clause) c.loop-lit.invariant.each) (omega arith);
      reached =
          (let x = get_or clause c.loop-lit.lit-index no_literal in
          let there = Contains-get_or clause c.loop-lit.lit-index no_literal c.loop-lit-test.true in
          elim (cases_lt (trail_index indices x) c.loop-lit.lowest) [
            | inl lower ↦ inr (x, there, (omega arith))
            | inr higher ↦
                (let same : m ≡ c.loop-lit.lowest = omega arith in
                elim c.loop-lit.invariant.reached [
                  | inl at ↦ inl (same ∙ at)
                  | inr one ↦ (let (y, among, e) = one in inr (y, among, same ∙ e))
                ])
          ]);
    }

pub returns-clause-each : goal.returns-clause-each
returns-clause-each c =
    subst (λ (xs : List Lit). All (λ x. c.loop-lit.lowest ≤ trail_index c.args.indices.now x) xs) (take_all c.loop-lit.lit-index c.args.clause.now (let t = c.loop-lit-test.false in omega arith)) c.loop-lit.invariant.each
