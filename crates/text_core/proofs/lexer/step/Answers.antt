use Rattle.std.proofs.Common.{◌+◌, sym, drop, length-drop, arith, subst}
use Rattle.std.proofs.lemmas.List.{take_all}
use Rattle.text_core.specs.ReadTo.{IsReadTo}
use Rattle.text_core.proofs.Lexemes.{read_skip, read_token, first_fault}
use Rattle.text_core.proofs.lexer.step.Goals as goal

pub returns-in-Ok-None-clause-read : goal.returns-in-Ok-None-clause-read
returns-in-Ok-None-clause-read c =
    let text = c.args.text.now in
    let rest = take_all _ (drop c.args.at text) (omega (arith, length-drop c.args.at text)) in
    read_skip text _ c.args.at c.piece_len-len.result c.args.tokens.now.items c.requires.read rest c.piece_len-len.ensures.piece c.piece_len-len.ensures.within (rw c.in-Ok-None.field-0-is at c.in-Ok-None.ensures)

pub returns-in_ok-push-in-Ok-Some-clause-read : goal.returns-in_ok-push-in-Ok-Some-clause-read
returns-in_ok-push-in-Ok-Some-clause-read c =
    let text = c.args.text.now in
    let rest = take_all _ (drop c.args.at text) (omega (arith, length-drop c.args.at text)) in
    subst (IsReadTo text (c.args.at + c.piece_len-len.result)) (sym c.in_ok-push-in-Ok-Some.ensures.items)
    (read_token text _ c.args.at c.piece_len-len.result c.args.tokens.now.items c.requires.read rest c.piece_len-len.ensures.piece c.piece_len-len.ensures.within c.in-Ok-Some.kind (rw c.in-Ok-Some.field-0-is at c.in-Ok-Some.ensures))

pub returns-in-Err-clause-fault : goal.returns-in-Err-clause-fault
returns-in-Err-clause-fault c =
    let text = c.args.text.now in
    let rest = take_all _ (drop c.args.at text) (omega (arith, length-drop c.args.at text)) in
    first_fault text _ c.args.at c.piece_len-len.result c.args.tokens.now.items c.in-Err.kind c.requires.read rest c.piece_len-len.ensures.piece c.in-Err.ensures
