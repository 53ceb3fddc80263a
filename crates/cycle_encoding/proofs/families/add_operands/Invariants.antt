use Rattle.std.proofs.Common.{◌≡◌, take, map}
use Rattle.std.specs.List.{filter}
use Rattle.schedule_meaning.specs.Launches.{operands_at}
use Rattle.cycle_encoding.specs.Families.{is_needed, operand_clause}
use Rattle.cycle_encoding.specs.Variables.{all_overwritten}
use Rattle.cycle_encoding.specs.Shapes.{numbered, implied}
use Rattle.cycle_encoding.specs.Steps.{with_clauses}
use Rattle.cycle_encoding.proofs.families.add_operands.Given as goal

abbrev pub invariant-loop-index : goal.invariant-loop-index
invariant-loop-index l = l.cnf ≡ with_clauses l.initial.cnf (implied (numbered 0 (take l.index l.vars.launches.now)) (λ x. map (operand_clause l.vars.frame.facts.now l.vars.frame.table.now (numbered l.vars.seen.first l.vars.seen.seen.items) (numbered l.vars.over.first (all_overwritten l.vars.frame.facts.now l.vars.over.cycles)) x) (filter (is_needed l.vars.frame.facts.now x) (operands_at l.vars.frame.facts.now x.row))))
