use Rattle.std.proofs.Common.{◌∙◌, ap, sym}
use Rattle.std.specs.Option.{option_and_then}
use Rattle.clap.specs.Words.{found_of, rows_of}
use Rattle.denali_cli.specs.Spellings.{command_in}
use Rattle.denali_cli.proofs.Spelled.{found_subcommand}
use Rattle.denali_cli.proofs.spelling.command_in.Goals as goal

pub returns-clause-value : goal.returns-clause-value
returns-clause-value c =
    c.command_named.ensures.value
    ∙ ap (option_and_then command_in)
    (sym (found_subcommand c.args.matches.now c.in_ok-name.name.now (rows_of (found_of c.in_ok-name.matches.now))
    (sym c.in_ok-name.ensures.name) (sym c.in_ok-name.ensures.rows)))
