use Rattle.std.proofs.Common.{refl}
use Rattle.std.proofs.lemmas.Option.{MatchOption-at_some}
use Rattle.saturation.proofs.LaunchTerms.{found_leaf, leaf_class}
use Rattle.saturation.proofs.launching.leaf_number.Goals as goal

pub unwrap-requires : goal.unwrap-requires
unwrap-requires c = found_leaf c.args.graph.now c.args.op c.class_of.result c.class_of.ensures.row c.requires.there

pub returns : goal.returns
returns c =
    let class = c.unwrap.result in
    (class, leaf_class c.args.graph.now c.args.op class (MatchOption-at_some _ _ class c.unwrap.ensures c.class_of.ensures.row), refl)
