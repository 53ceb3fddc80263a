-- The index is whole, or the open line is bad.
use Rattle.std.proofs.Common.{◌++◌, ◌∷◌, [], sym, subst, arith, length}
use Rattle.text_core.specs.Faults.{IsFaultBy}
use Rattle.text_core.specs.Lines.{HasLines, IsFirstLineFault}
use Rattle.text_core.specs.LineIndex.{IsIndex, lines_in}
use Rattle.text_core.proofs.LineFaults.{end_fault, end_index}
use Rattle.text_core.proofs.Splits.{first_small}
use Rattle.text_core.proofs.splitter.Splitter.finish.Goals as goal

pub returns-then-self-text-clause-fault : goal.returns-then-self-text-clause-fault
returns-then-self-text-clause-fault c =
    let s = c.args.self in
    let text = c.args.text.now in
    subst (IsFaultBy (IsFirstLineFault text)) (sym c.bad_line.ensures)
    (end_fault text (length text) s.line s.start s.words.items s.firsts.items s.first c.requires.bytes c.requires.split (omega arith) c.if-self-text.true)

pub overflow_cast-self-2 : goal.overflow_cast-self-2
overflow_cast-self-2 c =
    let s = c.args.self in
    omega (arith, c.requires.small, first_small c.args.text.now (length c.args.text.now) s.line s.start s.words.items s.firsts.items s.first c.requires.split)

pub new-requires : goal.new-requires
new-requires c =
    let s = c.args.self in
    let text = c.args.text.now in
    let index = end_index text (length text) s.line s.start s.words.items s.firsts.items s.first c.requires.bytes c.requires.split (omega arith) c.if-self-text.false c.requires.small in
    subst (λ ws. IsIndex text (lines_in text) ws c.push-2.new.self.items) (sym c.in_ok-push.ensures.items) (subst (λ fs. IsIndex text (lines_in text) (s.words.items ++ s.start ∷ []) fs) (sym c.in_ok-push-2.ensures.items) index)

pub returns-clause-lines : goal.returns-clause-lines
returns-clause-lines c =
    let s = c.args.self in
    let text = c.args.text.now in
    let index = end_index text (length text) s.line s.start s.words.items s.firsts.items s.first c.requires.bytes c.requires.split (omega arith) c.if-self-text.false c.requires.small in
    subst (λ ls. HasLines text ls) (sym c.new.ensures) index.lines_are
