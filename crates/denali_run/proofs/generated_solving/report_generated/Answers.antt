use Rattle.denali_run.proofs.GeneratedResults.{not_without_world}
use Rattle.denali_run.proofs.generated_solving.report_generated.Goals as goal

pub unreachable-requires-in-NoWorld : goal.unreachable-requires-in-NoWorld
unreachable-requires-in-NoWorld c =
    not_without_world c.generated_goals_have_a_world.ensures c.args.size c.in-NoWorld.class c.in-NoWorld.a
    c.in-NoWorld.b c.args.answered.now c.in-NoWorld.is c.requires.right
