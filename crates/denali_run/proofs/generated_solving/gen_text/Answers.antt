use Rattle.goal_meaning.specs.Views.{input_view}
use Rattle.denali_run.proofs.GeneratedResults.{line_answers, one_right}
use Rattle.denali_run.proofs.generated_solving.gen_text.Goals as goal

pub returns : goal.returns
returns c = record {
  answered = line_answers c.args.size c.index.result.now c.report_generated.result
      (one_right c.args.size c.generated_settings-settings.result (input_view c.in_ok-input.input)
      c.in_ok-results.results.items c.index.result.now c.generated_settings-settings.ensures.value c.in_ok-input.ensures
      c.in_ok-results.ensures.right c.index.ensures)
      c.report_generated.ensures;
}
