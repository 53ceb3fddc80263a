use Rattle.std.proofs.Common.{[], ◌∷◌, ◌++◌, map, take, refl, sym, ap, ◌∙◌, arith}
use Rattle.std.proofs.lemmas.List.{append-nil, append_assoc, take_all, length-map}
use Rattle.goal_meaning.specs.Views.{axiom_view}
use Rattle.saturation.specs.GoalTerms.{rule_of}
use Rattle.saturation.proofs.RuleSteps.{next_axiom, more_rules}
use Rattle.saturation.proofs.axiom_rules.push_rules.Goals as goal

pub rule-requires : goal.rule-requires
rule-requires c = record { equation = (c.requires.0, next_axiom c.args.axioms.now c.loop-axiom.axiom-index c.axiom-item.result c.loop-axiom-test.true c.axiom-item.is c.requires.0 c.requires.1) }

pub loop-axiom-init : goal.loop-axiom-init
loop-axiom-init c = sym (append-nil c.args.rules.now.items)

pub loop-axiom-preserved : goal.loop-axiom-preserved
loop-axiom-preserved c =
    let old = c.args.rules.now.items in
    let before = map rule_of (take c.loop-axiom.axiom-index (map axiom_view c.args.axioms.now)) in
    let rule = c.in_ok-rule.field-0 in
    c.in_ok-push.ensures.items
    ∙ ap (λ xs. xs ++ rule ∷ []) c.loop-axiom.invariant
    ∙ append_assoc old before (rule ∷ [])
    ∙ ap (λ xs. old ++ xs) (more_rules c.args.axioms.now c.loop-axiom.axiom-index c.axiom-item.result c.loop-axiom-test.true c.axiom-item.is before rule refl c.in_ok-rule.ensures)

pub returns : goal.returns
returns c =
    c.loop-axiom.invariant
    ∙ ap (λ xs. c.args.rules.now.items ++ map rule_of xs) (take_all c.loop-axiom.axiom-index (map axiom_view c.args.axioms.now) (omega (arith, c.loop-axiom-test.false, length-map c.args.axioms.now axiom_view)))
