use Rattle.std.specs.List.{filter}
use Rattle.cycle_encoding.proofs.Blocks.{AreExact}
use Rattle.cycle_encoding.proofs.Making.{are_pinned_shown}
use Rattle.cycle_encoding.proofs.Kept.{pinned_rules_kept, pinned_kept, kept-serve}
use Rattle.cycle_encoding.proofs.laws.parts_keep_rules.Goals as goal

pub returns : goal.returns
returns c =
    let counters = c.counters_count.ensures in
    let exact : AreExact =
    λ old p lits h. (counters.say old p lits h, counters.over old p lits h, counters.size old p lits) in
    record {
      rules = λ g table a k l ls t w n r f. pinned_rules_kept g table a k t ls r f n.keep n.keeps;
      kept = λ g table a k l ls t w n r f. pinned_kept g table a k t ls r f n.keep n.keeps;
      listed = λ g table a k l ls t w n r f x h. (kept-serve g table a k t w ls r f l n).members x h;
      shown = λ g table a k l ls t w n r f.
          are_pinned_shown exact g table k l (filter n.keep ls) (kept-serve g table a k t w ls r f l n)
          (pinned_rules_kept g table a k t ls r f n.keep n.keeps);
    }
