use Rattle.std.proofs.Common.{subst}
use Rattle.word_terms.specs.View.{tree_of}
use Rattle.saturation.specs.Trace.{IsBuilt}
use Rattle.saturation.specs.Instances.{asked_of}
use Rattle.saturation.proofs.RoundSteps.{CanJoin, join_can}
use Rattle.saturation.proofs.applying.apply.Goals as goal
use Rattle.saturation.proofs.applying.apply.Goals.{In-Ok}

can_join : (c : In-Ok) → CanJoin c.build.new.graph c.in-Ok.class c.args.one.now.class
can_join c =
    join_can (asked_of c.args.one.now) c.args.graph c.build.new.graph c.in-Ok.class c.requires.can
    (subst (λ ps. IsBuilt ps (tree_of c.args.one.now.right) c.args.graph c.in-Ok.class c.build.new.graph) c.as_slice.ensures c.in-Ok.ensures.built)

pub merge-requires-clause-a_made : goal.merge-requires-clause-a_made
merge-requires-clause-a_made c = (can_join c).a_made

pub merge-requires-clause-b_made : goal.merge-requires-clause-b_made
merge-requires-clause-b_made c = (can_join c).b_made

pub merge-requires-clause-one_sort : goal.merge-requires-clause-one_sort
merge-requires-clause-one_sort c = (can_join c).one_sort
