use Rattle.std.proofs.Common.{◌≤◌, length, subst, sym}
use Rattle.std.proofs.lemmas.List.{length-take-le}
use Rattle.least_launch.proofs.Behind.{front_within}
use Rattle.least_launch.proofs.tail_reading.front.Goals as goal

pub slice_bounds-result-end : goal.slice_bounds-result-end
slice_bounds-result-end c =
    sym (length-take-le c.place.result c.args.text.now
    (subst (λ n. n ≤ length c.args.text.now) (sym (c.place.ensures.line c.requires.at))
    (front_within c.args.text.now c.args.split.now c.args.at c.requires.split c.requires.at)))
