use Rattle.std.proofs.Common.{rules, ◌≡◌, ◌∙◌, ◌||◌, false, ap}
use Rattle.std.proofs.lemmas.Result.{IfOk-weaker}
use Rattle.clap.specs.declared.builder.command.Command.TheViews.{out-Command}
use Rattle.denali_cli.proofs.Spelled.{or_false}
use Rattle.denali_cli.proofs.spelling.with_flag.Goals as goal

pub returns-clause-local : goal.returns-clause-local
returns-clause-local c =
    let global_is : c.action.result.global ≡ false = search rules in
    IfOk-weaker c.arg.result _ _ (λ r h. h.globals ∙ ap (λ g. (out-Command c.args.command).has_globals || g) global_is ∙ or_false _) c.arg.ensures
