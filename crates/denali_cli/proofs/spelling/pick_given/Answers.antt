use Rattle.std.proofs.Common.{◌∙◌}
use Rattle.clap.specs.Words.{found_of}
use Rattle.denali_cli.specs.OptionValues.{pick_value}
use Rattle.denali_cli.proofs.Spelled.{absent, present}
use Rattle.denali_cli.proofs.spelling.pick_given.Goals as goal

pub returns-in_default : goal.returns-in_default
returns-in_default c =
    absent pick_value (found_of c.args.matches.now) c.args.name.now c.get_str.result c.get_str.ensures c.in_default.is

pub returns-in_err-pick : goal.returns-in_err-pick
returns-in_err-pick c =
    c.from_residual.ensures
    ∙ present pick_value (found_of c.args.matches.now) c.args.name.now c.get_str.result c.get_str.ensures c.in-Some.word c.in-Some.is _ c.in_err-pick.ensures

pub returns : goal.returns
returns c =
    present pick_value (found_of c.args.matches.now) c.args.name.now c.get_str.result c.get_str.ensures c.in-Some.word c.in-Some.is _ c.in_ok-pick.ensures
