-- What any words ask for, by clap: the program as a command with subcommands and their options, and the values in the
-- matches that clap defines for such a command. Source: this project, over clap's own definitions of which words a
-- command takes and what it matches.
use Rattle.std.specs.Prelude.{Bool, true, false, List, [], ◌∷◌, None, Some, codes, if◌then◌else◌}
use Rattle.std.specs.Option.{option_map, option_map_or, option_and_then, unwrap_or}
use Rattle.std.specs.declared.option.Option.{Option}
use Rattle.std.specs.Str.{bytes_eq}
use Rattle.clap.specs.Words.{App, Kinds, Row, Rule, Text, fault_of, first_of, new_app, new_rule, subcommand_of, with_rule, with_subcommand}
use Rattle.clap.specs.declared.builder.action.ArgAction.TheVariants.{Set, SetTrue}
use Rattle.axiom_library.specs.Libraries.{no_library}
use Rattle.denali_cli.specs.Commands.{Command, Proc, Check, CheckLeast, Trim, Run, Gen, Lift, Cycles}
use Rattle.denali_cli.specs.declared.options.Options.{Options}
use Rattle.denali_cli.specs.PlainForms.{cnf_of, improve_of, solve_of, verify_with}
use Rattle.denali_cli.specs.OptionValues.{rounds_value, nodes_value, cycles_value, conflicts_value, pick_value, library_value, settings_of, size_value, default_size, goal_number_value, default_cycles, default_conflicts}

-- ---- the program

-- `--name VALUE`
abbrev pub option_rule : Text → Rule
option_rule name = record (new_rule name) { long = Some name; action = Some Set }

abbrev pub with_options : App → List Text → App
with_options a [] = a
with_options a (name ∷ names) = with_options (with_rule a (option_rule name)) names

-- `--name`, without a value
abbrev pub flag_rule : Text → Rule
flag_rule name = record (new_rule name) { long = Some name; action = Some SetTrue }

-- the options with a value of a command that solves goals
abbrev pub solving_app : Text → App
solving_app name = with_options (new_app name)
    (codes "rounds" ∷ codes "nodes" ∷ codes "cycles" ∷ codes "conflicts" ∷ codes "pick" ∷ codes "library" ∷ [])

abbrev pub solve_app : App
solve_app = with_rule (with_rule (solving_app (codes "solve")) (flag_rule (codes "least"))) (flag_rule (codes "live"))

abbrev pub proc_app : App
proc_app = with_rule (solving_app (codes "proc")) (flag_rule (codes "live"))

abbrev pub check_app : App
check_app = with_rule (new_app (codes "check")) (flag_rule (codes "least"))

abbrev pub verify_app : App
verify_app = with_options (new_app (codes "verify")) (codes "rounds" ∷ codes "nodes" ∷ codes "library" ∷ [])

abbrev pub gen_app : App
gen_app = with_options (new_app (codes "gen")) (codes "size" ∷ [])

abbrev pub cnf_app : App
cnf_app = with_options (new_app (codes "cnf")) (codes "goal" ∷ codes "cycles" ∷ [])

abbrev pub improve_app : App
improve_app = with_rule (solving_app (codes "improve")) (flag_rule (codes "least"))

abbrev pub cycles_app : App
cycles_app = with_options (new_app (codes "cycles")) (codes "cycles" ∷ codes "conflicts" ∷ [])

-- the words are those after the program's name, and one of them is to name a subcommand
abbrev pub of_words : App → App
of_words a = record a { top = record a.top { no_binary_name = true; subcommand_required = true } }

abbrev pub with_commands : App → List App → App
with_commands a [] = a
with_commands a (command ∷ commands) = with_commands (with_subcommand a command.top) commands

abbrev pub program : App
program = with_commands (of_words (new_app (codes "denali")))
    (solve_app ∷ proc_app ∷ check_app ∷ new_app (codes "trim") ∷ verify_app ∷ new_app (codes "run") ∷ gen_app ∷ cnf_app
    ∷ new_app (codes "lift") ∷ improve_app ∷ cycles_app ∷ [])

-- clap finds no fault
abbrev pub is_taken : Kinds → Bool
is_taken [] = true
is_taken (kind ∷ kinds) = false

-- the subcommand that the words name, and what they give for its options; none where clap refuses the words
unfoldable pub matched : List Text → Option (Text × List Row)
matched words = if is_taken (fault_of program words) then subcommand_of program words else None

-- ---- the values of its options

-- what is read of an option: nothing where it isn't given, and none where its text is no value
abbrev pub value_given : {A : Type 0} → (Text → Option A) → Option Text → Option (Option A)
value_given read None = Some None
value_given read (Some text) = option_map (λ value. Some value) (read text)

-- the flag is given
abbrev pub has_flag : Text → List Row → Bool
has_flag name rows = option_map_or (λ text. bytes_eq text (codes "true")) (first_of name rows) false

abbrev pub options_in : List Row → Option Options
options_in rows =
    option_and_then (λ rounds.
    option_and_then (λ nodes.
    option_and_then (λ cycles.
    option_and_then (λ conflicts.
    option_and_then (λ pick.
    option_map (λ library. record {
      rounds = rounds;
      nodes = nodes;
      cycles = cycles;
      conflicts = conflicts;
      pick = pick;
      library = library;
      least = has_flag (codes "least") rows;
      live = has_flag (codes "live") rows;
    })
    (value_given library_value (first_of (codes "library") rows)))
    (value_given pick_value (first_of (codes "pick") rows)))
    (value_given conflicts_value (first_of (codes "conflicts") rows)))
    (value_given cycles_value (first_of (codes "cycles") rows)))
    (value_given nodes_value (first_of (codes "nodes") rows)))
    (value_given rounds_value (first_of (codes "rounds") rows))

abbrev pub solve_in : List Row → Option Command
solve_in rows = option_map solve_of (options_in rows)

abbrev pub proc_in : List Row → Option Command
proc_in rows = option_map (λ o. Proc (settings_of no_library o)) (options_in rows)

abbrev pub check_in : List Row → Command
check_in rows = if has_flag (codes "least") rows then CheckLeast else Check

abbrev pub verify_in : List Row → Option Command
verify_in rows =
    option_and_then (λ rounds.
    option_and_then (λ nodes.
    option_map (λ library. verify_with rounds nodes library)
    (value_given library_value (first_of (codes "library") rows)))
    (value_given nodes_value (first_of (codes "nodes") rows)))
    (value_given rounds_value (first_of (codes "rounds") rows))

abbrev pub gen_in : List Row → Option Command
gen_in rows =
    option_map (λ size. Gen (unwrap_or size default_size)) (value_given size_value (first_of (codes "size") rows))

abbrev pub cnf_in : List Row → Option Command
cnf_in rows =
    option_and_then (λ goal.
    option_map (λ cycles. cnf_of goal cycles)
    (value_given cycles_value (first_of (codes "cycles") rows)))
    (value_given goal_number_value (first_of (codes "goal") rows))

abbrev pub improve_in : List Row → Option Command
improve_in rows = option_map improve_of (options_in rows)

abbrev pub cycles_in : List Row → Option Command
cycles_in rows =
    option_and_then (λ cycles.
    option_map (λ conflicts. Cycles (unwrap_or cycles default_cycles) (unwrap_or conflicts default_conflicts))
    (value_given conflicts_value (first_of (codes "conflicts") rows)))
    (value_given cycles_value (first_of (codes "cycles") rows))

-- the command on machine words of this name with these matches
abbrev pub command_on_words : Text → List Row → Option Command
command_on_words name rows =
    if bytes_eq name (codes "lift") then Some Lift
    else if bytes_eq name (codes "improve") then improve_in rows
    else if bytes_eq name (codes "cycles") then cycles_in rows
    else None

-- the command of this name with these matches
abbrev pub command_named : Text → List Row → Option Command
command_named name rows =
    if bytes_eq name (codes "solve") then solve_in rows
    else if bytes_eq name (codes "proc") then proc_in rows
    else if bytes_eq name (codes "check") then Some (check_in rows)
    else if bytes_eq name (codes "trim") then Some Trim
    else if bytes_eq name (codes "verify") then verify_in rows
    else if bytes_eq name (codes "run") then Some Run
    else if bytes_eq name (codes "gen") then gen_in rows
    else if bytes_eq name (codes "cnf") then cnf_in rows
    else command_on_words name rows

-- the command of a subcommand with these matches
abbrev pub command_in : Text × List Row → Option Command
command_in m = command_named m.0 m.1

-- the command that the words ask for as clap reads them
abbrev pub spelled_command : List Text → Option Command
spelled_command words = option_and_then command_in (matched words)
