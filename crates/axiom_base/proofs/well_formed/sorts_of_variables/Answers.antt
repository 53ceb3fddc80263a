use Rattle.std.proofs.Common.{subst}
use Rattle.word_terms.specs.View.{tree_of}
use Rattle.axiom_base.specs.Steps.{IsSortOf}
use Rattle.axiom_base.proofs.Sides.{one_more_sort}
use Rattle.axiom_base.proofs.well_formed.sorts_of_variables.Goals as goal

pub loop-found-preserved : goal.loop-found-preserved
loop-found-preserved c =
    one_more_sort (tree_of c.args.term.now) c.args.sort c.loop-found.sorts c.push.new.self c.in-Some.found c.in_ok-push.ensures.ok c.loop-found.invariant
    (subst (λ n. IsSortOf (tree_of c.args.term.now) c.args.sort n c.in-Some.found) c.len.ensures c.in-Some.ensures.place)
