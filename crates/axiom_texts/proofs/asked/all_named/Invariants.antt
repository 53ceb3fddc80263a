use Rattle.std.proofs.Common.{◌≡◌, ◌++◌, drop, map, option_map}
use Rattle.axiom_texts.specs.Asked.{families_named}
use Rattle.axiom_texts.proofs.asked.all_named.Given as goal

abbrev pub invariant-loop-word : goal.invariant-loop-word
invariant-loop-word l = families_named (map (λ word. word.now) l.words)
    ≡ option_map (λ others. l.families ++ others) (families_named (map (λ word. word.now) (drop l.word-index l.words)))
