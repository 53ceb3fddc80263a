use Rattle.std.proofs.Common.{◌≡◌, take}
use Rattle.cycle_encoding.specs.Variables.{all_overwritten}
use Rattle.cycle_encoding.specs.Shapes.{numbered}
use Rattle.cycle_encoding.specs.Steps.{target_groups, with_clauses}
use Rattle.cycle_encoding.proofs.families.add_targets.Given as goal

abbrev pub invariant-loop-set : goal.invariant-loop-set
invariant-loop-set l = l.cnf ≡ with_clauses l.initial.cnf (target_groups l.vars.frame.facts.now l.vars.over.cycles (numbered 0 l.vars.launches.now) (numbered l.vars.over.first (all_overwritten l.vars.frame.facts.now l.vars.over.cycles)) (take l.set-index l.vars.frame.facts.now.sets))
