use Rattle.schedule_meaning.specs.declared.schedules.Allocation.TheVariants.{Block}
use Rattle.cycle_encoding.specs.CycleFormula.{wide}
use Rattle.cycle_encoding.proofs.Blocks.{AreExact}
use Rattle.cycle_encoding.proofs.Lists.{listed-all, pinned-listed, pinned-places}
use Rattle.cycle_encoding.proofs.Reading.{pinned_shown_apart, pinned_shown_keep}
use Rattle.cycle_encoding.proofs.Complete.{all-serve}
use Rattle.cycle_encoding.proofs.Making.{are_pinned_shown}
use Rattle.cycle_encoding.proofs.laws.cycle_clauses_say_rules.Goals as goal

pub returns : goal.returns
returns c =
    let counters = c.counters_count.ensures in
    let exact : AreExact = λ old p lits h. (counters.say old p lits h, counters.over old p lits h, counters.size old p lits) in
    record {
      shown = λ g table a k l v t w n s pins. pinned_shown_keep g table k l a exact w (pinned-listed g table a k t l n) v s pins;
      apart = λ g table a k l v t w n s. pinned_shown_apart g table k l a exact (pinned-listed g table a k t l n) v s;
      all_apart = λ g table k v t w s. pinned_shown_apart g table k (wide g table k) Block exact (listed-all g table Block k t) v s;
      all = λ g table k v t w s pins. pinned_shown_keep g table k (wide g table k) Block exact w (listed-all g table Block k t) v s pins;
      each = λ g table k ls t w r. are_pinned_shown exact g table k (wide g table k) ls (all-serve g table k ls t w r) r;
      places = λ g table a k ls t r. pinned-places g table a k t ls r;
    }
