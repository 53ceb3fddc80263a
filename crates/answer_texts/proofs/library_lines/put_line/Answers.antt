use Rattle.std.proofs.Common.{sym, ◌∙◌}
use Rattle.std.proofs.lemmas.Result.{on_ok_weaker}
use Rattle.answer_texts.proofs.PrintPieces.{families_text}
use Rattle.answer_texts.proofs.library_lines.put_line.Goals as goal

pub returns : goal.returns
returns c =
    on_ok_weaker c.put-2.result
    (families_text c.args.families.now c.args.text.now.items c.put.new.text.items c.put_names.new.text.items
    c.put-2.new.text.items (sym c.is_empty.ensures ∙ c.if-is_empty.false) c.in_ok-put.ensures c.in_ok-put_names.ensures)
    c.put-2.ensures
