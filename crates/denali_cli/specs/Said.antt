-- What the words after the program's name ask for: the command that they say in plain form, and else what clap makes of
-- them. Source: this project.
use Rattle.std.specs.Prelude.{ℕ, List, map}
use Rattle.std.specs.Option.{option_or}
use Rattle.std.specs.Borrow.{Bor}
use Rattle.std.specs.declared.option.Option.{Option}
use Rattle.denali_cli.specs.Commands.{Command}
use Rattle.denali_cli.specs.PlainForms.{plain_command}
use Rattle.denali_cli.specs.Spellings.{spelled_command}

abbrev pub command_of : List (List ℕ) → Option Command
command_of words = option_or (plain_command words) (spelled_command words)

-- what the code's words ask for
abbrev pub asked_by : List (Bor (List ℕ)) → Option Command
asked_by words = command_of (map (λ word. word.now) words)
