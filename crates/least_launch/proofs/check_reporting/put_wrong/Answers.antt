use Rattle.std.proofs.Common.{◌≡◌, ℕ, [], ◌∷◌, ◌++◌, List, codes, length, take, map, decimal, ap, subst, ◌∙◌, arith}
use Rattle.std.proofs.Math.Seq.{take-length}
use Rattle.launch_graph.specs.LineParts.{words_behind}
use Rattle.least_launch.proofs.Pieced.{ok_weaker, then_words, two_behind, whole_line}
use Rattle.least_launch.proofs.check_reporting.put_wrong.Goals as goal

pub returns : goal.returns
returns c =
    let numbers = c.args.numbers.now in
    let name = c.args.goal.now.name in
    let word = c.args.word.now in
    let begun = c.put.new.text.items in
    let end : c.loop-number.number-index ≡ length c.args.numbers.now = omega arith in
    let whole : c.loop-number.text.items
    ≡ c.put_word-2.new.text.items ++ words_behind (map decimal c.args.numbers.now) =
    c.loop-number.invariant
    ∙ ap (λ xs. c.put_word-2.new.text.items ++ words_behind (map decimal xs))
    (ap (λ n. take n numbers) end ∙ take-length numbers) in
    let named = subst (λ (n : List ℕ). c.put_word.new.text.items ≡ c.put.new.text.items ++ (codes " " ++ n))
    c.bytes.ensures
    c.in_ok-put_word.ensures in
    ok_weaker c.put-2.result
    (whole_line c.args.text.now.items (codes "no") (name ∷ word ∷ map decimal numbers) begun c.loop-number.text.items
    c.put-2.new.text.items c.in_ok-put.ensures
    (then_words begun (name ∷ word ∷ []) (map decimal numbers) c.put_word-2.new.text.items c.loop-number.text.items
    (two_behind begun name word c.put_word.new.text.items c.put_word-2.new.text.items named c.in_ok-put_word-2.ensures)
    whole))
    c.put-2.ensures
