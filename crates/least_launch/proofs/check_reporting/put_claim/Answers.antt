use Rattle.std.proofs.Common.{codes}
use Rattle.least_launch.proofs.Pieced.{ok_weaker, one_behind}
use Rattle.least_launch.proofs.check_reporting.put_claim.Goals as goal

pub returns-in-NoWorld : goal.returns-in-NoWorld
returns-in-NoWorld c =
    rw c.in-NoWorld.is
    (ok_weaker c.put_word.result
    (one_behind c.args.text.now.items (codes "noworld") c.put_word.new.text.items) c.put_word.ensures)
