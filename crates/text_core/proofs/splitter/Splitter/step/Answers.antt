-- Each byte leaves the index with what was split so far, or ends a line that is bad.
use Rattle.std.proofs.Common.{◌+◌, ◌++◌, ◌∷◌, [], ◌∙◌, ℕ, sym, subst, arith, ap, length}
use Rattle.text_core.specs.Faults.{IsFaultBy}
use Rattle.text_core.specs.Lines.{IsFirstLineFault}
use Rattle.text_core.proofs.LineFaults.{space_fault, feed_fault}
use Rattle.text_core.proofs.Splits.{split_byte, split_word, split_line, first_small, printed_byte, kept}
use Rattle.text_core.proofs.splitter.Splitter.step.Goals as goal

pub returns-then-at-self-clause-fault : goal.returns-then-at-self-clause-fault
returns-then-at-self-clause-fault c =
    let s = c.args.self.now in
    subst (IsFaultBy (IsFirstLineFault c.args.text.now)) (sym c.bad_line.ensures)
    (space_fault c.args.text.now c.args.at s.line s.start s.words.items s.firsts.items s.first c.requires.bytes c.requires.split c.requires.within c.if-at-self.true c.in-32.is)

pub returns-then-at-self-2-clause-fault : goal.returns-then-at-self-2-clause-fault
returns-then-at-self-2-clause-fault c =
    let s = c.args.self.now in
    subst (IsFaultBy (IsFirstLineFault c.args.text.now)) (sym c.bad_line-then-at-self-2.ensures)
    (feed_fault c.args.text.now c.args.at s.line s.start s.words.items s.firsts.items s.first c.requires.bytes c.requires.split c.requires.within c.if-at-self-2.true c.in-10.is)

pub end_line-requires-clause-first : goal.end_line-requires-clause-first
end_line-requires-clause-first c =
    let s = c.args.self.now in
    omega (arith, c.requires.small, c.in_ok-end_word-in-10.ensures.first, first_small c.args.text.now c.args.at s.line s.start s.words.items s.firsts.items s.first c.requires.split)

pub returns-in_ok-end_word-in-32-clause-split : goal.returns-in_ok-end_word-in-32-clause-split
returns-in_ok-end_word-in-32-clause-split c =
    let s = c.args.self.now in
    let n = c.end_word.new.self in
    let e = c.in_ok-end_word-in-32.ensures in
    kept c.args.text.now (c.args.at + 1) s.line n.line n.start s.first n.first n.words.items s.firsts.items n.firsts.items e.line e.firsts e.first
    (split_word c.args.text.now c.args.at s.line s.start s.words.items s.firsts.items s.first c.requires.split c.requires.within n.words.items n.start c.in-32.is c.if-at-self.false e.words e.start)

pub returns-in_ok-end_line-in-10-clause-split : goal.returns-in_ok-end_line-in-10-clause-split
returns-in_ok-end_line-in-10-clause-split c =
    let s = c.args.self.now in
    let n = c.end_line.new.self in
    let e = c.in_ok-end_word-in-10.ensures in
    let l = c.in_ok-end_line-in-10.ensures in
    let m = c.end_word-in-10.new.self in
    split_line c.args.text.now c.args.at s.line s.start s.words.items s.firsts.items s.first c.requires.split c.requires.within n.line n.start n.first n.words.items n.firsts.items c.in-10.is c.if-at-self-2.false (l.words ∙ e.words) (l.start ∙ e.start)
    (l.firsts ∙ (ap (λ fs. fs ++ m.first ∷ []) e.firsts ∙ ap (λ (k : ℕ). s.firsts.items ++ k ∷ []) e.first)) (l.first ∙ ap length (sym l.words)) l.line

pub returns-in_default-clause-split : goal.returns-in_default-clause-split
returns-in_default-clause-split c =
    let s = c.args.self.now in
    split_byte c.args.text.now c.args.at s.line s.start s.words.items s.firsts.items s.first c.requires.split c.requires.within (printed_byte c.args.text.now c.args.at c.requires.bytes c.requires.within (λ space. omega arith) (λ feed. omega arith))
