use Rattle.std.proofs.Common.{◌≡◌, Some}
use Rattle.std.specs.Prelude.{slice_get}
use Rattle.std.proofs.lemmas.Result.{IfOk-weaker}
use Rattle.axiom_library.specs.declared.libraries.Library.{Library}
use Rattle.goal_meaning.specs.Views.{GoalTree, input_view}
use Rattle.saturation.specs.GoalTerms.{rules_of}
use Rattle.code_check.specs.Verified.{IsRightFor}
use Rattle.code_check.proofs.verifying.verify.Goals as goal

pub returns : goal.returns
returns c =
    let input = input_view c.args.input.now in
    let code = c.args.code.now in
    record {
      right = IfOk-weaker c.verify_by_rules.result
          (λ answer. (library : Library) → c.in_ok-rules.rules ≡ rules_of library input → (goal : GoalTree) → slice_get input.goals code.goal ≡ Some goal → IsRightFor input goal code c.args.rounds c.args.nodes library answer) _
          (λ answer h. h c.args.library c.in_ok-rules.ensures.rules) c.verify_by_rules.ensures.right;
    }
