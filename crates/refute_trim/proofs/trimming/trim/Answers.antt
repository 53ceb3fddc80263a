use Rattle.std.proofs.Common.{List, length, subst, sym, arith}
use Rattle.std.proofs.lemmas.Grind.{common_steps}
use Rattle.cnf_core.specs.Refutation.{AreAccepted}
use Rattle.cnf_core.specs.declared.line.Line.{Line}
use Rattle.refute_trim.specs.Trimmed.{AreTrimmed}
use Rattle.refute_trim.proofs.Accepted.{ids}
use Rattle.refute_trim.proofs.Numbering.{trimmed_of}
use Rattle.refute_trim.proofs.trimming.trim.Goals as goal

pub new_numbers-requires-clause-ids : goal.new_numbers-requires-clause-ids
new_numbers-requires-clause-ids c = (
  length c.args.cnf.now.clauses,
  ids c.args.cnf.now c.as_slice-lines.result.now (subst (AreAccepted c.args.cnf.now) (sym c.as_slice-lines.ensures) c.requires.accepted),
)

pub returns-clause-trimmed : goal.returns-clause-trimmed
returns-clause-trimmed c =
    let f = c.args.cnf.now in
    let shown = c.as_slice-lines.result.now in
    let accepted = subst (AreAccepted f) (sym c.as_slice-lines.ensures) c.requires.accepted in
    subst (λ (ls : List Line). AreTrimmed (length f.clauses) ls c.in_ok-kept_lines.field-0) c.as_slice-lines.ensures
    (trimmed_of f shown c.mark_needed.new.needed c.deref.result.now c.deref-2.result.now c.in_ok-numbers.numbers.items c.deref-3.result.now c.clauses.result c.in_ok-kept_lines.field-0
    accepted c.mark_needed.ensures (grind (arith, common_steps)) (grind (arith, common_steps)) c.deref-3.ensures.value c.clauses.ensures.value c.in_ok-numbers.ensures.each c.in_ok-kept_lines.ensures)

pub returns-clause-refutes : goal.returns-clause-refutes
returns-clause-refutes c =
    c.trimmed_lines_refute.ensures.refute c.args.cnf.now c.args.lines.now.lines c.in_ok-kept_lines.field-0 c.requires (returns-clause-trimmed c)

pub returns-clause-hints : goal.returns-clause-hints
returns-clause-hints c =
    c.trimmed_lines_refute.ensures.hints c.args.cnf.now c.args.lines.now.lines c.in_ok-kept_lines.field-0 c.requires.accepted (returns-clause-trimmed c)
