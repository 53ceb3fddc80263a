use Rattle.std.proofs.Common.{ap, if◌then◌else◌}
use Rattle.std.specs.Option.{option_map_or}
use Rattle.goal_meaning.specs.Expanded.{expanded}
use Rattle.goal_meaning.specs.Holds.{goal_value}
use Rattle.goal_meaning.specs.Outcomes.{exit, fall, is_left, new_memory, new_words}
use Rattle.goal_meaning.specs.Views.{TargetTree}
use Rattle.word_ops.specs.Worlds.{memory}
use Rattle.goal_meaning.proofs.laws.goals_have_outcomes.Goals as goal

pub returns : goal.returns
returns c = record {
  unguarded = λ declared world g e. ap (λ o. if is_left declared world o then exit else fall (new_words declared world (expanded g).sets) (new_memory declared world (expanded g).sets)) e;
  stays = λ declared world g e. ap (λ b. if b then exit else fall (new_words declared world (expanded g).sets) (new_memory declared world (expanded g).sets)) e;
  leaves = λ declared world g e. ap (λ b. if b then exit else fall (new_words declared world (expanded g).sets) (new_memory declared world (expanded g).sets)) e;
  memory = λ declared world g e. ap (λ o. option_map_or (λ (t : TargetTree). goal_value declared world t.value) o (memory world.memory_at_entry)) e;
}
