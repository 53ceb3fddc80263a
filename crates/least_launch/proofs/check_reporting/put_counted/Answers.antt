use Rattle.std.proofs.Common.{◌≡◌, ◌++◌, codes, decimal, subst}
use Rattle.least_launch.proofs.Pieced.{ok_weaker, two_behind}
use Rattle.least_launch.proofs.check_reporting.put_counted.Goals as goal

pub returns : goal.returns
returns c =
    ok_weaker c.put_number.result
    (λ e. two_behind c.args.text.now.items c.args.word.now (decimal c.args.number) c.put_word.new.text.items
    c.put_number.new.text.items c.in_ok-put_word.ensures
    (subst (λ n. c.put_number.new.text.items ≡ c.put_word.new.text.items ++ (codes " " ++ decimal n)) c.from.ensures e))
    c.put_number.ensures
