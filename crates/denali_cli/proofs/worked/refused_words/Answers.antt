-- By computing clap's definition.
use Rattle.std.proofs.Common.{◌≡◌, [], ◌∷◌, None, codes, refl}
use Rattle.std.specs.Fmt.{digits}
use Rattle.clap.proofs.OnLiterals.{clap_on_literals}
use Rattle.denali_cli.specs.Said.{command_of}
use Rattle.denali_cli.specs.Spellings.{matched}
use Rattle.denali_cli.proofs.worked.refused_words.Goals as goal

picks_nothing_else : command_of (codes "solve" ∷ codes "--pick" ∷ codes "middle" ∷ []) ≡ None
unfolding clap_on_literals matched digits
picks_nothing_else = refl

no_flag_of_procs : command_of (codes "proc" ∷ codes "--least" ∷ []) ≡ None
unfolding clap_on_literals matched digits
no_flag_of_procs = refl

checks_least_once : command_of (codes "check" ∷ codes "--least" ∷ codes "--least" ∷ []) ≡ None
unfolding clap_on_literals matched digits
checks_least_once = refl

flag_twice : command_of (codes "solve" ∷ codes "--least" ∷ codes "--least" ∷ []) ≡ None
unfolding clap_on_literals matched digits
flag_twice = refl

live_twice : command_of (codes "solve" ∷ codes "--live" ∷ codes "--live" ∷ []) ≡ None
unfolding clap_on_literals matched digits
live_twice = refl

live_anyway : command_of (codes "improve" ∷ codes "--live" ∷ []) ≡ None
unfolding clap_on_literals matched digits
live_anyway = refl

flag_with_value : command_of (codes "solve" ∷ codes "--least=true" ∷ []) ≡ None
unfolding clap_on_literals matched digits
flag_with_value = refl

no_flag_of_codes : command_of (codes "verify" ∷ codes "--least" ∷ []) ≡ None
unfolding clap_on_literals matched digits
no_flag_of_codes = refl

no_option_of_checks : command_of (codes "check" ∷ codes "--cycles=3" ∷ []) ≡ None
unfolding clap_on_literals matched digits
no_option_of_checks = refl

no_option_of_trims : command_of (codes "trim" ∷ codes "--cycles=3" ∷ []) ≡ None
unfolding clap_on_literals matched digits
no_option_of_trims = refl

no_cycles_of_codes : command_of (codes "verify" ∷ codes "--cycles" ∷ codes "3" ∷ []) ≡ None
unfolding clap_on_literals matched digits
no_cycles_of_codes = refl

no_option_of_runs : command_of (codes "run" ∷ codes "--rounds" ∷ codes "3" ∷ []) ≡ None
unfolding clap_on_literals matched digits
no_option_of_runs = refl

no_goal_0 : command_of (codes "cnf" ∷ codes "--goal" ∷ codes "0" ∷ []) ≡ None
unfolding clap_on_literals matched digits
no_goal_0 = refl

goal_twice : command_of (codes "cnf" ∷ codes "--goal" ∷ codes "1" ∷ codes "--goal" ∷ codes "1" ∷ []) ≡ None
unfolding clap_on_literals matched digits
goal_twice = refl

no_options_of_solve : command_of (codes "gen" ∷ codes "--rounds" ∷ codes "3" ∷ []) ≡ None
unfolding clap_on_literals matched digits
no_options_of_solve = refl

size_below : command_of (codes "gen" ∷ codes "--size" ∷ codes "0" ∷ []) ≡ None
unfolding clap_on_literals matched digits
size_below = refl

size_above : command_of (codes "gen" ∷ codes "--size=21" ∷ []) ≡ None
unfolding clap_on_literals matched digits
size_above = refl

size_twice : command_of (codes "gen" ∷ codes "--size=3" ∷ codes "--size=3" ∷ []) ≡ None
unfolding clap_on_literals matched digits
size_twice = refl

out_of_range : command_of (codes "solve" ∷ codes "--rounds=17" ∷ []) ≡ None
unfolding clap_on_literals matched digits
out_of_range = refl

leading_zero : command_of (codes "solve" ∷ codes "--rounds=03" ∷ []) ≡ None
unfolding clap_on_literals matched digits
leading_zero = refl

no_value : command_of (codes "solve" ∷ codes "--rounds" ∷ []) ≡ None
unfolding clap_on_literals matched digits
no_value = refl

empty_value : command_of (codes "solve" ∷ codes "--rounds=" ∷ []) ≡ None
unfolding clap_on_literals matched digits
empty_value = refl

twice : command_of (codes "solve" ∷ codes "--rounds=3" ∷ codes "--rounds" ∷ codes "3" ∷ []) ≡ None
unfolding clap_on_literals matched digits
twice = refl

word_after_dashes : command_of (codes "solve" ∷ codes "--" ∷ codes "x" ∷ []) ≡ None
unfolding clap_on_literals matched digits
word_after_dashes = refl

no_words : command_of [] ≡ None
unfolding clap_on_literals matched digits
no_words = refl

no_command : command_of (codes "--rounds" ∷ codes "3" ∷ codes "solve" ∷ []) ≡ None
unfolding clap_on_literals matched digits
no_command = refl

other_command : command_of (codes "solved" ∷ []) ≡ None
unfolding clap_on_literals matched digits
other_command = refl

other_option : command_of (codes "solve" ∷ codes "--round=3" ∷ []) ≡ None
unfolding clap_on_literals matched digits
other_option = refl

help : command_of (codes "--help" ∷ []) ≡ None
unfolding clap_on_literals matched digits
help = refl

help_of : command_of (codes "solve" ∷ codes "--help" ∷ []) ≡ None
unfolding clap_on_literals matched digits
help_of = refl

short_help : command_of (codes "solve" ∷ codes "-h" ∷ []) ≡ None
unfolding clap_on_literals matched digits
short_help = refl

help_command : command_of (codes "help" ∷ codes "solve" ∷ []) ≡ None
unfolding clap_on_literals matched digits
help_command = refl

version : command_of (codes "--version" ∷ []) ≡ None
unfolding clap_on_literals matched digits
version = refl

pub returns : goal.returns
returns c = record {
  picks_nothing_else = picks_nothing_else;
  no_flag_of_procs = no_flag_of_procs;
  checks_least_once = checks_least_once;
  flag_twice = flag_twice;
  live_twice = live_twice;
  live_anyway = live_anyway;
  flag_with_value = flag_with_value;
  no_flag_of_codes = no_flag_of_codes;
  no_option_of_checks = no_option_of_checks;
  no_option_of_trims = no_option_of_trims;
  no_cycles_of_codes = no_cycles_of_codes;
  no_option_of_runs = no_option_of_runs;
  no_goal_0 = no_goal_0;
  goal_twice = goal_twice;
  no_options_of_solve = no_options_of_solve;
  size_below = size_below;
  size_above = size_above;
  size_twice = size_twice;
  out_of_range = out_of_range;
  leading_zero = leading_zero;
  no_value = no_value;
  empty_value = empty_value;
  twice = twice;
  word_after_dashes = word_after_dashes;
  no_words = no_words;
  no_command = no_command;
  other_command = other_command;
  other_option = other_option;
  help = help;
  help_of = help_of;
  short_help = short_help;
  help_command = help_command;
  version = version;
}
