use Rattle.std.proofs.Common.{drop, length-drop, arith}
use Rattle.std.proofs.lemmas.List.{take_all}
use Rattle.text_core.proofs.Lexemes.{piece_at}
use Rattle.text_core.proofs.pieces.piece_len.Goals as goal

pub returns-clause-piece : goal.returns-clause-piece
returns-clause-piece c =
    let text = c.args.text.now in
    piece_at text _ c.run.result c.begun.result c.requires (take_all _ (drop 1 text) (omega (arith, length-drop 1 text))) c.begun.ensures c.run.ensures.each c.run.ensures.whole
