use Rattle.std.proofs.Common.{rules, ◌≡◌, ℕ, ◌+◌, ◌≤◌, get_or, sym, subst, arith}
use Rattle.schedule_meaning.specs.Broken.{number, IsFirstBroken, IsKept, Breaks}
use Rattle.schedule_meaning.specs.declared.fitting.Rule.{Rule}
use Rattle.schedule_meaning.specs.declared.fitting.Rule.TheVariants.{Rows}
use Rattle.schedule_meaning.proofs.Rules.{all_rules, broken_at, broken_does_not_fit, fits_where_kept, kept_after, no_rule_below, number_at, number_high}
use Rattle.schedule_meaning.proofs.fitting.fits.Goals as goal

pub loop-rule-init : goal.loop-rule-init
loop-rule-init c =
    no_rule_below c.args.graph.now c.args.table.now c.args.allocation c.args.k c.args.schedule.now.launches

pub loop-rule-preserved : goal.loop-rule-preserved
loop-rule-preserved c =
    let rule : Rule = get_or all_rules c.loop-rule.rule-index Rows in
    let e : number rule ≡ c.loop-rule.rule-index + 1 = number_at c.loop-rule.rule-index Rows c.loop-rule-test.true in
    let kept : IsKept c.args.graph.now c.args.table.now c.args.allocation c.args.k c.args.schedule.now.launches
    rule = search rules in
    kept_after c.args.graph.now c.args.table.now c.args.allocation c.args.k c.args.schedule.now.launches rule
    (c.loop-rule.rule-index + 1) e c.loop-rule.invariant kept

pub returns-in-Some-clause-broken : goal.returns-in-Some-clause-broken
returns-in-Some-clause-broken c =
    let rule : Rule = get_or all_rules c.loop-rule.rule-index Rows in
    let e : number rule ≡ c.loop-rule.rule-index + 1 = number_at c.loop-rule.rule-index Rows c.loop-rule-test.true in
    let broken : Breaks c.args.graph.now c.args.table.now c.args.allocation c.args.k c.args.schedule.now.launches rule
    c.in-Some.launch = search rules in
    subst (λ (n : ℕ). IsFirstBroken c.args.graph.now c.args.table.now c.args.allocation c.args.k
    c.args.schedule.now.launches c.in-Some.launch n) (sym c.number.ensures)
    (broken_at c.args.graph.now c.args.table.now c.args.allocation c.args.k c.args.schedule.now.launches rule
    (c.loop-rule.rule-index + 1) c.in-Some.launch e c.loop-rule.invariant broken)

pub returns-in-Some-clause-not : goal.returns-in-Some-clause-not
returns-in-Some-clause-not c =
    let rule : Rule = get_or all_rules c.loop-rule.rule-index Rows in
    let e : number rule ≡ c.loop-rule.rule-index + 1 = number_at c.loop-rule.rule-index Rows c.loop-rule-test.true in
    let broken : Breaks c.args.graph.now c.args.table.now c.args.allocation c.args.k c.args.schedule.now.launches rule
    c.in-Some.launch = search rules in
    broken_does_not_fit c.args.graph.now c.args.table.now c.args.allocation c.args.k c.args.schedule.now.launches
    c.in-Some.launch (number rule)
    (broken_at c.args.graph.now c.args.table.now c.args.allocation c.args.k c.args.schedule.now.launches rule
    (c.loop-rule.rule-index + 1) c.in-Some.launch e c.loop-rule.invariant broken)

pub returns-clause-fits : goal.returns-clause-fits
returns-clause-fits c =
    let end : 9 ≤ c.loop-rule.rule-index = omega (arith, c.loop-rule-test.false) in
    fits_where_kept c.args.graph.now c.args.table.now c.args.allocation c.args.k c.args.schedule.now.launches
    (λ r. c.loop-rule.invariant r (let high : number r ≤ 9 = number_high r in omega (arith, high, end)))
