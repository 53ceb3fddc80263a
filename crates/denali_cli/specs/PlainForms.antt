-- Words in plain form: a command, and then pairs of an option and its value, in any order, each option at most once and
-- each value one of its own, and each flag at most once among them. Source: this project.
use Rattle.std.specs.Prelude.{List, ℕ, Bool, true, [], ◌∷◌, ◌&&◌, ◌||◌, None, Some, is_none, not, codes, unwrap_or, if◌then◌else◌}
use Rattle.std.specs.Option.{option_and_then, option_map}
use Rattle.std.specs.declared.option.Option.{Option}
use Rattle.std.specs.Str.{bytes_eq}
use Rattle.axiom_library.specs.Libraries.{all_but_halves, no_library}
use Rattle.axiom_library.specs.declared.libraries.Library.{Library}
use Rattle.denali_run.specs.declared.settings.Settings.{Settings}
use Rattle.pick_rule.specs.declared.pick.Pick.TheVariants.{Activity}
use Rattle.denali_cli.specs.Commands.{Command, Solve, SolveLeast, Proc, Check, CheckLeast, Trim, Verify, Run, Gen, Cnf, Lift, Improve, ImproveLeast, Cycles}
use Rattle.denali_cli.specs.declared.options.Options.{Options}
use Rattle.denali_cli.specs.OptionValues.{rounds_value, nodes_value, cycles_value, conflicts_value, pick_value, library_value, no_options, settings_of, has_rounds_alone, default_rounds, default_nodes, size_value, default_size, goal_number_value, default_goal, default_cycles, default_conflicts}

-- the value for an option that wasn't set before
abbrev pub once : {A : Type 0} → Option A → Option A → Option A
once None value = value
once (Some old) value = None

-- the options with one more set, if it may be set to this value
abbrev pub set_option : Options → List ℕ → List ℕ → Option Options
set_option o name value =
    if bytes_eq name (codes "--rounds")
    then option_map (λ n. record o { rounds = Some n }) (once o.rounds (rounds_value value))
    else if bytes_eq name (codes "--nodes")
    then option_map (λ n. record o { nodes = Some n }) (once o.nodes (nodes_value value))
    else if bytes_eq name (codes "--cycles")
    then option_map (λ n. record o { cycles = Some n }) (once o.cycles (cycles_value value))
    else if bytes_eq name (codes "--conflicts")
    then option_map (λ n. record o { conflicts = Some n }) (once o.conflicts (conflicts_value value))
    else if bytes_eq name (codes "--pick")
    then option_map (λ p. record o { pick = Some p }) (once o.pick (pick_value value))
    else if bytes_eq name (codes "--library")
    then option_map (λ library. record o { library = Some library }) (once o.library (library_value value))
    else None

abbrev pub and_then : Option Options → (Options → Option Options) → Option Options
and_then None next = None
and_then (Some o) next = next o

-- the flags, which have no value
abbrev pub is_least : List ℕ → Bool
is_least name = bytes_eq name (codes "--least")

abbrev pub is_flag : List ℕ → Bool
is_flag name = is_least name || bytes_eq name (codes "--live")

-- the options with the flag set, which wasn't set before
abbrev pub set_flag : Options → List ℕ → Option Options
set_flag o name =
    if is_least name
    then (if o.least then None else Some (record o { least = true }))
    else (if o.live then None else Some (record o { live = true }))

-- the options with those set that the words have
abbrev pub set_options : Options → List (List ℕ) → Option Options
set_options o [] = Some o
set_options o (name ∷ []) = if is_flag name then set_flag o name else None
set_options o (name ∷ value ∷ words) =
    if is_flag name then and_then (set_flag o name) (λ p. set_options p (value ∷ words))
    else and_then (set_option o name value) (λ p. set_options p words)

-- the command of `solve` with these options
abbrev pub solve_of : Options → Command
solve_of o =
    if o.least then SolveLeast (settings_of no_library o) else Solve (settings_of no_library o)

-- the command of `proc` with these options, which are those of `solve` without `--least`
abbrev pub proc_of : Options → Option Command
proc_of o = if o.least then None else Some (Proc (settings_of no_library o))

-- the command of `check` with these words behind it: none, or `--least`
abbrev pub check_of : List (List ℕ) → Option Command
check_of [] = Some Check
check_of (name ∷ []) = if is_least name then Some CheckLeast else None
check_of (name ∷ word ∷ words) = None

-- a command without options
abbrev pub alone : Command → List (List ℕ) → Option Command
alone command [] = Some command
alone command (word ∷ words) = None

-- the size that the words of `gen` set
abbrev pub size_in : List (List ℕ) → Option ℕ
size_in [] = Some default_size
size_in (name ∷ []) = None
size_in (name ∷ value ∷ []) = if bytes_eq name (codes "--size") then size_value value else None
size_in (name ∷ value ∷ word ∷ words) = None

-- the command of `cnf` with what is set of its two options
abbrev pub cnf_of : Option ℕ → Option ℕ → Command
cnf_of goal cycles = Cnf (unwrap_or goal default_goal) (unwrap_or cycles default_cycles)

-- the command of `cnf` with one of its options
abbrev pub cnf_with_one : List ℕ → List ℕ → Option Command
cnf_with_one name value =
    if bytes_eq name (codes "--goal") then option_map (λ goal. cnf_of (Some goal) None) (goal_number_value value)
    else if bytes_eq name (codes "--cycles") then option_map (λ cycles. cnf_of None (Some cycles)) (cycles_value value)
    else None

-- with both, which have these values
abbrev pub cnf_with_both : List ℕ → List ℕ → Option Command
cnf_with_both goal cycles =
    option_and_then (λ number. option_map (λ k. cnf_of (Some number) (Some k)) (cycles_value cycles)) (goal_number_value goal)

-- with two options
abbrev pub cnf_with_two : List ℕ → List ℕ → List ℕ → List ℕ → Option Command
cnf_with_two name value other more =
    if bytes_eq name (codes "--goal")
    then (if bytes_eq other (codes "--cycles") then cnf_with_both value more else None)
    else if bytes_eq name (codes "--cycles")
    then (if bytes_eq other (codes "--goal") then cnf_with_both more value else None)
    else None

-- with an option, its value, and these words behind them
abbrev pub cnf_with_more : List ℕ → List ℕ → List (List ℕ) → Option Command
cnf_with_more name value [] = cnf_with_one name value
cnf_with_more name value (other ∷ []) = None
cnf_with_more name value (other ∷ more ∷ []) = cnf_with_two name value other more
cnf_with_more name value (other ∷ more ∷ word ∷ words) = None

-- the command of `cnf` with these words behind it
abbrev pub plain_cnf : List (List ℕ) → Option Command
plain_cnf [] = Some (cnf_of None None)
plain_cnf (name ∷ []) = None
plain_cnf (name ∷ value ∷ words) = cnf_with_more name value words

-- the command of `verify` with what is set of its options
abbrev pub verify_with : Option ℕ → Option ℕ → Option Library → Command
verify_with rounds nodes library =
    Verify (unwrap_or rounds default_rounds) (unwrap_or nodes default_nodes) (unwrap_or library no_library)

-- the command of `verify` with these options, which are those of rounds and rules
abbrev pub verify_of : Options → Option Command
verify_of o = if has_rounds_alone o then Some (verify_with o.rounds o.nodes o.library) else None

-- the settings of `improve` with these options: given words come without axioms, so it has a library of its own;
-- registers go by live ranges; and where no strategy is named, decisions are picked by activity
abbrev pub improve_settings : Options → Settings
improve_settings o = settings_of all_but_halves (record o { live = true; pick = Some (unwrap_or o.pick Activity) })

abbrev pub improve_of : Options → Command
improve_of o = if o.least then ImproveLeast (improve_settings o) else Improve (improve_settings o)

-- the command of `improve` with these options, which are those of `solve` without `--live`
abbrev pub plain_improve : Options → Option Command
plain_improve o = if o.live then None else Some (improve_of o)

-- no other option is set than the most cycles and the conflicts for each
abbrev pub has_cycles_alone : Options → Bool
has_cycles_alone o =
    is_none o.rounds && (is_none o.nodes && (is_none o.pick && (is_none o.library && (not o.least && not o.live))))

-- the command of `cycles` with these options
abbrev pub cycles_of : Options → Option Command
cycles_of o =
    if has_cycles_alone o then Some (Cycles (unwrap_or o.cycles default_cycles) (unwrap_or o.conflicts default_conflicts))
    else None

-- the command on machine words that the words name
abbrev pub plain_on_words : List ℕ → List (List ℕ) → Option Command
plain_on_words name words =
    if bytes_eq name (codes "lift")
    then alone Lift words
    else if bytes_eq name (codes "improve")
    then option_and_then plain_improve (set_options no_options words)
    else if bytes_eq name (codes "cycles")
    then option_and_then cycles_of (set_options no_options words)
    else None

-- the command of words in plain form; none for other words
abbrev pub plain_command : List (List ℕ) → Option Command
plain_command [] = None
plain_command (name ∷ words) =
    if bytes_eq name (codes "solve")
    then option_map solve_of (set_options no_options words)
    else if bytes_eq name (codes "proc")
    then option_and_then proc_of (set_options no_options words)
    else if bytes_eq name (codes "check")
    then check_of words
    else if bytes_eq name (codes "trim")
    then alone Trim words
    else if bytes_eq name (codes "verify")
    then option_and_then verify_of (set_options no_options words)
    else if bytes_eq name (codes "run")
    then alone Run words
    else if bytes_eq name (codes "gen")
    then option_map (λ size. Gen size) (size_in words)
    else if bytes_eq name (codes "cnf")
    then plain_cnf words
    else plain_on_words name words
