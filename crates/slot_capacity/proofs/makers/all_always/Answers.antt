use Rattle.std.proofs.Common.{◌∙◌, ℕ, List, ap, map}
use Rattle.std.proofs.lemmas.List.{take_all}
use Rattle.cycle_encoding.specs.Variables.{classes_of}
use Rattle.slot_capacity.specs.Makers.{makers_of}
use Rattle.slot_capacity.specs.MakersSteps.{always_among}
use Rattle.slot_capacity.proofs.MakerLists.{map-of-map}
use Rattle.slot_capacity.proofs.makers.all_always.Goals as goal

pub returns : goal.returns
returns c =
    let g = c.args.reads.now.facts.now in
    let made = makers_of g c.args._spans.now in
    c.loop-rows.invariant
    ∙ ap (map (always_among g)) (take_all c.loop-rows.rows-index c.args.makers.now c.loop-rows-test.false)
    ∙ ap (λ (xs : List (List ℕ)). map (always_among g) xs) c.requires.makers
    ∙ map-of-map (always_among g) made (classes_of g)
