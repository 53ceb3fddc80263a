use Rattle.saturation.proofs.LaunchStands.{stands_for}
use Rattle.saturation.proofs.launch_laws.launched_graphs_stand.Goals as goal

pub returns : goal.returns
returns c = record {
  stand = λ library input goal graph g is launched stands.
      stands_for library input goal graph g launched stands (λ world is_world holds. c.axioms_make_rules_true.ensures.true_rules library input goal world is holds);
}
