use Rattle.std.proofs.Common.{◌≡◌, ◌-◌, drop, length, map}
use Rattle.denali_cli.specs.OptionValues.{AreInRange, no_options}
use Rattle.denali_cli.specs.PlainForms.{set_options}
use Rattle.denali_cli.proofs.options.options_of.Given as goal

-- the options so far, and then what is left of the words
abbrev pub invariant-loop-at : goal.invariant-loop-at
invariant-loop-at l =
    (set_options l.options (drop l.at (map (λ word. word.now) l.words))
    ≡ set_options no_options (map (λ word. word.now) l.words))
    × AreInRange l.options

abbrev pub decreases-loop-at : goal.decreases-loop-at
decreases-loop-at l = length l.words - l.at
