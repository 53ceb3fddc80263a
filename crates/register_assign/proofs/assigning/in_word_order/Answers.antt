use Rattle.std.proofs.Common.{◌≡◌, rules}
use Rattle.std.proofs.lemmas.Fn.{always_returns_same}
use Rattle.register_assign.proofs.Sorting.{word_ordered, word_place}
use Rattle.register_assign.proofs.assigning.in_word_order.Goals as goal

-- The closure gives a launch's cycle, group and slot.
pub returns : goal.returns
returns c =
    let up = c.sort_unstable_by_key.ensures.sorted (word_place c.args.graph.now) (always_returns_same _ (λ a r. r ≡ word_place c.args.graph.now a.0.now) _ (λ a r q k. search rules)) in
    word_ordered c.args.graph.now c.args.launches.now c.sort_unstable_by_key.new.self.items (search rules) up
