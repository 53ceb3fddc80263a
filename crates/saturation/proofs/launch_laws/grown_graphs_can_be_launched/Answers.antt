use Rattle.saturation.proofs.KnownOperators.{can_be_launched}
use Rattle.saturation.proofs.launch_laws.grown_graphs_can_be_launched.Goals as goal

pub returns : goal.returns
returns c = record {
  can = λ library input goal graph j is there is_graph few grown.
      can_be_launched library input goal graph j c.schemes_are_true.ensures.usable (c.axioms_make_rules_true.ensures.are_rules library input is) (c.library_axioms_are_well_formed.ensures.asked library)
      (λ goal_is. record {
        lets = c.expanded_terms_are_sorted.ensures.lets input.ops goal goal_is;
        assumes = c.expanded_terms_are_sorted.ensures.assumes input.ops goal goal_is;
        guard = c.expanded_terms_are_sorted.ensures.guard input.ops goal goal_is;
        sets = c.expanded_terms_are_sorted.ensures.sets input.ops goal goal_is;
      })
      is there is_graph few grown;
}
