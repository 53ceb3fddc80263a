use Rattle.std.proofs.Common.{◌∙◌}
use Rattle.clap.specs.Words.{found_of}
use Rattle.denali_cli.specs.OptionValues.{library_value}
use Rattle.denali_cli.proofs.Spelled.{absent, present}
use Rattle.denali_cli.proofs.spelling.library_given.Goals as goal

pub returns-in_default : goal.returns-in_default
returns-in_default c =
    absent library_value (found_of c.args.matches.now) c.args.name.now c.get_str.result c.get_str.ensures c.in_default.is

pub returns-in_err-library : goal.returns-in_err-library
returns-in_err-library c =
    c.from_residual.ensures
    ∙ present library_value (found_of c.args.matches.now) c.args.name.now c.get_str.result c.get_str.ensures c.in-Some.word c.in-Some.is _ c.in_err-library.ensures

pub returns : goal.returns
returns c =
    present library_value (found_of c.args.matches.now) c.args.name.now c.get_str.result c.get_str.ensures c.in-Some.word c.in-Some.is _ c.in_ok-library.ensures
