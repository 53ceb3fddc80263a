use Rattle.std.proofs.Common.{◌≡◌, ◌++◌, map, take}
use Rattle.goal_meaning.specs.Views.{axiom_view}
use Rattle.saturation.specs.GoalTerms.{rule_of}
use Rattle.saturation.proofs.axiom_rules.push_rules.Given as goal

abbrev pub invariant-loop-axiom : goal.invariant-loop-axiom
invariant-loop-axiom l = l.rules.items ≡ l.fn.rules.items ++ map rule_of (take l.axiom-index (map axiom_view l.axioms))
