use Rattle.std.proofs.Common.{◌≡◌, drop, map}
use Rattle.text_core.specs.Names.{is_among}
use Rattle.axiom_texts.proofs.asked.is_one_of.Given as goal

abbrev pub invariant-loop-other : goal.invariant-loop-other
invariant-loop-other l = is_among (map (λ other. other.now) l.words) l.word
    ≡ is_among (map (λ other. other.now) (drop l.other-index l.words)) l.word
