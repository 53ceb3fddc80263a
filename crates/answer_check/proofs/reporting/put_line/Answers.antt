use Rattle.std.proofs.Common.{◌≡◌, ℕ, ◌++◌, List, codes, length, take, map, decimal, ap, subst, ◌∙◌, arith}
use Rattle.std.proofs.Math.Seq.{take-length}
use Rattle.launch_graph.specs.LineParts.{words_behind}
use Rattle.answer_check.proofs.Pieces.{line_is, ok_weaker}
use Rattle.answer_check.proofs.reporting.put_line.Goals as goal

pub returns : goal.returns
returns c =
    let numbers = c.args.numbers.now in
    let end : c.loop-number.number-index ≡ length c.args.numbers.now = omega arith in
    let whole : c.loop-number.text.items ≡ c.put_word-2.new.text.items ++ words_behind (map decimal c.args.numbers.now) =
    c.loop-number.invariant
    ∙ ap (λ xs. c.put_word-2.new.text.items ++ words_behind (map decimal xs))
    (ap (λ n. take n numbers) end ∙ take-length numbers) in
    ok_weaker c.put-2.result
    (λ e. line_is c.args.text.now.items c.args.first.now c.args.goal.now.name c.args.second.now (map decimal numbers)
    c.put.new.text.items c.put_word.new.text.items c.put_word-2.new.text.items c.loop-number.text.items c.put-2.new.text.items
    c.in_ok-put.ensures
    (subst (λ (name : List ℕ). c.put_word.new.text.items ≡ c.put.new.text.items ++ (codes " " ++ name)) c.bytes.ensures
    c.in_ok-put_word.ensures)
    c.in_ok-put_word-2.ensures whole e)
    c.put-2.ensures
