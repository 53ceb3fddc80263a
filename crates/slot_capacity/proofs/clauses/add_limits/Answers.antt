use Rattle.std.proofs.Common.{◌≡◌, ◌∙◌, ◌++◌, ◌+◌, ◌≤◌, List, length, get_or, ap, sym, subst, arith, length-append}
use Rattle.std.specs.List.{All}
use Rattle.std.proofs.lemmas.List.Elements.{All-contains, Contains-get_or}
use Rattle.cnf_core.specs.declared.literal.Lit.{Lit}
use Rattle.cnf_core.specs.Counter.{at_most_size, at_most_vars}
use Rattle.cnf_core.specs.Formula.{IsLitOf}
use Rattle.cycle_encoding.specs.Shapes.{numbered}
use Rattle.slot_capacity.specs.CapacityClauses.{all_launched, limit_counters, limit_lits, limit_vars}
use Rattle.slot_capacity.specs.declared.limits.Limit.{Limit}
use Rattle.slot_capacity.proofs.ClauseSteps.{limit-above, limit-clauses-step, limit-lits-over, limit-room, limit-room-vars, limit-vars-step, limits-done, next_formula, lits-few, many-things, one-var}
use Rattle.slot_capacity.proofs.LaunchedVars.{apart-once}
use Rattle.slot_capacity.proofs.clauses.add_limits.Goals as goal

pub limit_lits-requires-clause-few : goal.limit_lits-requires-clause-few
limit_lits-requires-clause-few c =
    let exist = c.requires.exist in
    let vars = c.requires.vars in
    omega arith

pub at_most-requires : goal.at_most-requires
at_most-requires c =
    let counted = c.args.counted.now in
    let ps = numbered c.args.first (all_launched counted) in
    let limits = c.args.limits.now in
    let i = c.loop-limit.limit-index in
    let m = c.limit-item.result in
    let total = c.args.cnf.now.vars + limit_vars ps limits in
    let is = c.deref.ensures.value ∙ c.in_ok-lits.ensures in
    let once = apart-once counted c.requires.apart.apart in
    let at : m ≡ get_or limits i m = c.limit-item.is in
    let here : limit_lits ps m ≡ limit_lits ps (get_or limits i m) = ap (limit_lits ps) at in
    let most : m.most ≡ (get_or limits i m).most = ap (λ (m : Limit). m.most) at in
    let exist = c.requires.exist in
    let above = c.loop-limit.invariant.above in
    let due : length (get_or limits i m).due ≤ length counted =
    All-contains (λ (m : Limit). length m.due ≤ length counted) limits (get_or limits i m) c.requires.due
    (Contains-get_or limits i m c.loop-limit-test.true) in
    let few = lits-few ps (λ class cycle. one-var c.args.first class cycle counted once) (get_or limits i m) in
    let many = many-things counted c.requires.apart.some in
    let size = ap (λ (ls : List Lit). length ls) (is ∙ here) in
    let rvars = limit-room-vars ps limits i m c.loop-limit-test.true c.loop-limit.cnf total
    c.loop-limit.invariant.vars_are c.requires.vars in
    let room =
    limit-room ps limits i m c.loop-limit-test.true c.loop-limit.cnf
    (c.args.cnf.now.clauses ++ limit_counters c.args.cnf.now.vars ps limits) c.loop-limit.invariant.clauses_are
    (let z = length-append c.args.cnf.now.clauses (limit_counters c.args.cnf.now.vars ps limits) in let r =
    c.requires.room in omega arith)
    c.counters_count.ensures.size in
    let svars : at_most_vars m.most (length c.deref.result.now)
    ≡ at_most_vars (get_or limits i m).most (length (limit_lits ps (get_or limits i m))) =
    ap (λ n. at_most_vars n (length c.deref.result.now)) most ∙ ap (at_most_vars (get_or limits i m).most) size in
    let ssize : at_most_size m.most (length c.deref.result.now)
    ≡ at_most_size (get_or limits i m).most (length (limit_lits ps (get_or limits i m))) =
    ap (λ n. at_most_size n (length c.deref.result.now)) most ∙ ap (at_most_size (get_or limits i m).most) size in
    record {
      exist =
          subst (λ (ls : List Lit). All (IsLitOf c.loop-limit.cnf.vars) ls) (sym is)
          (limit-lits-over c.args.first c.loop-limit.cnf.vars counted m (omega arith));
      short = omega arith;
      vars = omega arith;
      room = omega arith;
    }

pub loop-limit-preserved : goal.loop-limit-preserved
loop-limit-preserved c =
    let counted = c.args.counted.now in
    let ps = numbered c.args.first (all_launched counted) in
    let limits = c.args.limits.now in
    let i = c.loop-limit.limit-index in
    let m = c.limit-item.result in
    let at : m ≡ get_or limits i m = c.limit-item.is in
    let is : c.deref.result.now ≡ limit_lits ps (get_or limits i m) =
    c.deref.ensures.value ∙ c.in_ok-lits.ensures ∙ ap (limit_lits ps) at in
    let e =
    c.in_ok-at_most.ensures.exact
    ∙ ap (λ n. next_formula c.loop-limit.cnf n c.deref.result.now) (ap (λ (m : Limit). m.most) at) in
    record {
      vars_are =
          limit-vars-step ps limits i m c.loop-limit-test.true c.loop-limit.cnf c.at_most.new.cnf c.deref.result.now
          is e
          (c.args.cnf.now.vars + limit_vars ps limits) c.loop-limit.invariant.vars_are;
      clauses_are =
          limit-clauses-step ps limits i m c.loop-limit-test.true c.loop-limit.cnf c.at_most.new.cnf
          c.deref.result.now is e
          (c.args.cnf.now.clauses ++ limit_counters c.args.cnf.now.vars ps limits) c.loop-limit.invariant.clauses_are;
      above =
          limit-above ps limits i m c.loop-limit-test.true c.loop-limit.cnf c.at_most.new.cnf c.deref.result.now is e
          c.args.cnf.now.vars c.loop-limit.invariant.above;
    }

pub returns : goal.returns
returns c =
    let ps = numbered c.args.first (all_launched c.args.counted.now) in
    limits-done ps c.args.limits.now c.loop-limit.limit-index c.loop-limit.cnf c.args.cnf.now c.loop-limit-test.false
    c.loop-limit.invariant.vars_are c.loop-limit.invariant.clauses_are
