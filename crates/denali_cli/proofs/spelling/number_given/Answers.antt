use Rattle.std.proofs.Common.{◌∙◌}
use Rattle.clap.specs.Words.{found_of}
use Rattle.denali_cli.specs.OptionValues.{number_within}
use Rattle.denali_cli.proofs.Spelled.{absent, present}
use Rattle.denali_cli.proofs.spelling.number_given.Goals as goal

pub returns-in_default-clause-value : goal.returns-in_default-clause-value
returns-in_default-clause-value c =
    absent (number_within c.args.low c.args.high) (found_of c.args.matches.now) c.args.name.now c.get_str.result c.get_str.ensures c.in_default.is

pub returns-in_err-number-clause-value : goal.returns-in_err-number-clause-value
returns-in_err-number-clause-value c =
    c.from_residual.ensures
    ∙ present (number_within c.args.low c.args.high) (found_of c.args.matches.now) c.args.name.now c.get_str.result c.get_str.ensures c.in-Some.word c.in-Some.is _ c.in_err-number.ensures.value

pub returns-clause-value : goal.returns-clause-value
returns-clause-value c =
    present (number_within c.args.low c.args.high) (found_of c.args.matches.now) c.args.name.now c.get_str.result c.get_str.ensures c.in-Some.word c.in-Some.is _ c.in_ok-number.ensures.value
