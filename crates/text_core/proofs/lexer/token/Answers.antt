use Rattle.std.proofs.Common.{sym}
use Rattle.text_core.proofs.Atoms.{white_is, comment_is, opening_is, closing_is, stray_is}
use Rattle.text_core.proofs.lexer.token.Goals as goal

pub returns-in-White : goal.returns-in-White
returns-in-White c = white_is c.args.piece.now c.requires (sym c.in-White.ensures)

pub returns-in-Comment : goal.returns-in-Comment
returns-in-Comment c = comment_is c.args.piece.now c.requires (sym c.in-Comment.ensures)

pub returns-in-Opening : goal.returns-in-Opening
returns-in-Opening c = opening_is c.args.piece.now c.requires (sym c.in-Opening.ensures)

pub returns-in-Closing : goal.returns-in-Closing
returns-in-Closing c = closing_is c.args.piece.now c.requires (sym c.in-Closing.ensures)

pub returns-in-Stray : goal.returns-in-Stray
returns-in-Stray c = stray_is c.args.piece.now c.requires (sym c.in-Stray.ensures)
