use Rattle.std.proofs.Common.{◌≢◌, ◌+◌, sym, subst, ◌∙◌}
use Rattle.std.specs.Prelude.{All}
use Rattle.std.proofs.lemmas.Bool.{false≢true}
use Rattle.text_core.specs.LineTexts.{words_of_lines}
use Rattle.text_core.specs.Lines.{line_at}
use Rattle.run_texts.specs.declared.texts.RegisterWord.{RegisterWord}
use Rattle.run_texts.specs.SoFar.{IsRunTextTo}
use Rattle.run_texts.proofs.LastLines.{made, one_register}
use Rattle.run_texts.proofs.NextLines.{not_a_register, register_read}
use Rattle.run_texts.proofs.reading.read_register.Goals as goal
use Rattle.run_texts.proofs.reading.read_register.Goals.{then-not-is_empty-via-then-not-is_empty, then-not-is_empty-via-else-not-is_empty+then-has_register}

pub returns-in_default-clause-fault : goal.returns-in_default-clause-fault
returns-in_default-clause-fault c =
    not_a_register c.args.text.now c.args.line c.args.run.now c.requires.so_far c.requires.line c.line_fault.result c.line_fault.ensures c.requires.first
    (λ n. c.in_default.ensures n.next n.is)

pub returns-then-not-is_empty-clause-fault : goal.returns-then-not-is_empty-clause-fault
returns-then-not-is_empty-clause-fault c =
    not_a_register c.args.text.now c.args.line c.args.run.now c.requires.so_far c.requires.line c.line_fault-then-not-is_empty.result c.line_fault-then-not-is_empty.ensures c.requires.first
    (λ n. (let same = one_register (line_at c.args.text.now c.args.line).words n.next c.in-Some.given n.is c.in-Some.ensures in
    elim c.then-not-is_empty.branch [
      | then-not-is_empty-via-then-not-is_empty w ↦ false≢true (sym w.if-not-is_empty.true ∙ c.is_empty.ensures.1 n.places)
      | then-not-is_empty-via-else-not-is_empty+then-has_register w ↦ w.has_register.ensures.yes w.if-has_register.true
          (subst (λ l. All (λ (q : RegisterWord). q.register ≢ c.in-Some.given.register) l) (sym w.as_slice.ensures)
          (subst (λ (r : RegisterWord). All (λ (q : RegisterWord). q.register ≢ r.register) c.args.run.now.registers) same n.fresh))
    ]))

pub returns-clause-ok : goal.returns-clause-ok
returns-clause-ok c =
    let fresh : All (λ (q : RegisterWord). q.register ≢ c.in-Some.given.register) c.args.run.now.registers =
    subst (λ l. All (λ (q : RegisterWord). q.register ≢ c.in-Some.given.register) l) c.as_slice.ensures (c.has_register.ensures.no c.if-has_register.false) in
    subst (λ rs. IsRunTextTo (words_of_lines c.args.text.now) (c.args.line + 1) (made c.args.run.now.words rs c.args.run.now.places)) (sym c.in_ok-push.ensures.ok)
    (register_read c.args.text.now c.args.line c.args.run.now c.requires.so_far c.requires.line c.in-Some.given (c.is_empty.ensures.0 c.if-not-is_empty.false) c.in-Some.ensures fresh)
