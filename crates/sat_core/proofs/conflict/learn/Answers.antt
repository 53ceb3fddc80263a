use Rattle.std.proofs.Common.{ℕ, ◌+◌, [], ◌∷◌, ◌++◌, List, sym, ap, ◌∙◌}
use Rattle.cnf_core.specs.declared.line.Line.{Line}
use Rattle.sat_core.specs.Steps.{var_count}
use Rattle.sat_core.proofs.Ending.{line-shown, line-goes_on}
use Rattle.sat_core.proofs.conflict.learn.Goals as goal

pub returns-clause-shown : goal.returns-clause-shown
returns-clause-shown c =
    let old = c.args.trail.now in
    let a = c.in_ok-analysis.analysis in
    let e = c.in_ok-analysis.ensures in
    let f = c.requires.falsified in
    let line : Line = record { id = c.len.result + 1; lits = c.from.result; hints = c.from-2.result } in
    line-shown c.args.clauses.now (var_count old) old.steps.items a c.args.id line e.walked e.leads f.low f.high
    (ap (λ (n : ℕ). n + 1) c.len.ensures) c.from.ensures
    (c.from-2.ensures ∙ c.in_ok-push.ensures.items ∙ ap (λ (hs : List ℕ). hs ++ c.args.id ∷ []) c.reverse.ensures.items)

pub returns-clause-size : goal.returns-clause-size
returns-clause-size c = (c.take_back.ensures.state c.args.clauses.now c.requires.state).size

pub returns-clause-goes_on : goal.returns-clause-goes_on
returns-clause-goes_on c = λ some.
    let e = c.in_ok-analysis.ensures in
    line-goes_on c.args.clauses.now (var_count c.args.trail.now) c.args.trail.now c.take_back.new.trail c.in_ok-analysis.analysis c.from.result
    c.requires.before e.last e.walked e.stays (c.take_back.ensures.state c.args.clauses.now c.requires.state) c.take_back.ensures.steps c.from.ensures some

pub returns-clause-back : goal.returns-clause-back
returns-clause-back c = record { count = c.in_ok-analysis.analysis.backjump; front = c.take_back.ensures.steps; decides = c.in_ok-analysis.ensures.back }

pub returns-clause-unmarked : goal.returns-clause-unmarked
returns-clause-unmarked c = (let w = c.in_ok-analysis.ensures.walked in record { size = w.size; clear = w.clear })

pub count-requires-clause-players : goal.count-requires-clause-players
count-requires-clause-players c =
    let o = c.take_back.ensures.offers c.args.clauses.now c.requires.state in
    o.players ∙ sym o.scores

pub returns-clause-offers : goal.returns-clause-offers
returns-clause-offers c =
    c.count.ensures.offers c.take_back.new.trail.values.items (c.take_back.ensures.offers c.args.clauses.now c.requires.state)
