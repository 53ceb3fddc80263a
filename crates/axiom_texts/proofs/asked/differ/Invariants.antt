use Rattle.std.proofs.Common.{◌≡◌, drop, map}
use Rattle.axiom_texts.specs.Asked as meant
use Rattle.axiom_texts.proofs.asked.differ.Given as goal

abbrev pub invariant-loop-at : goal.invariant-loop-at
invariant-loop-at l = meant.differ (map (λ word. word.now) l.words)
    ≡ meant.differ (map (λ word. word.now) (drop l.at l.words))
