-- What options take for values, and what stands where they aren't set. Source: this project.
use Rattle.std.specs.Prelude.{ℕ, Bool, false, List, [], ◌∷◌, ◌==◌, None, Some, is_none, codes, decimal, nat_lt, not, ◌≤◌, ◌&&◌, if◌then◌else◌, unwrap_or, IfSome}
use Rattle.std.specs.Str.Parse.{digits_value}
use Rattle.std.specs.declared.option.Option.{Option}
use Rattle.std.specs.Str.{bytes_eq}
use Rattle.std.specs.List.{slice_split}
use Rattle.std.specs.Option.{option_and_then}
use Rattle.axiom_library.specs.Libraries.{all_but_halves, has_family, no_library, with_family}
use Rattle.axiom_library.specs.Names.{family_named}
use Rattle.axiom_library.specs.declared.libraries.Library.{Library}
use Rattle.text_core.specs.Limits.{most_goals}
use Rattle.schedule_meaning.specs.Limits.{most_cycles}
use Rattle.schedule_meaning.specs.declared.schedules.Allocation.TheVariants.{Block, Live}
use Rattle.pick_rule.specs.declared.pick.Pick.{Pick}
use Rattle.pick_rule.specs.declared.pick.Pick.TheVariants.{First, Last, Busy, Activity}
use Rattle.denali_run.specs.declared.settings.Settings.{Settings}
use Rattle.denali_cli.specs.declared.options.Options.{Options}

-- the number whose decimal digits the word is, within two bounds
abbrev pub number_within : ℕ → ℕ → List ℕ → Option ℕ
number_within low high word =
    if bytes_eq word (decimal (digits_value 10 word))
    && not (nat_lt (digits_value 10 word) low)
    && not (nat_lt high (digits_value 10 word))
    then Some (digits_value 10 word) else None

abbrev pub rounds_value : List ℕ → Option ℕ
rounds_value = number_within 0 16

abbrev pub nodes_value : List ℕ → Option ℕ
nodes_value = number_within 1 4096

abbrev pub cycles_value : List ℕ → Option ℕ
cycles_value = number_within 0 most_cycles

abbrev pub conflicts_value : List ℕ → Option ℕ
conflicts_value = number_within 1 1000000

abbrev pub pick_value : List ℕ → Option Pick
pick_value word =
    if bytes_eq word (codes "first") then Some First
    else if bytes_eq word (codes "last") then Some Last
    else if bytes_eq word (codes "busy") then Some Busy
    else if bytes_eq word (codes "activity") then Some Activity
    else None

-- the parts of a word between its commas
abbrev pub parts_of : List ℕ → List (List ℕ)
parts_of word = slice_split (λ b. b == 44) word

-- the library with the family of this name, which it doesn't have yet
abbrev pub with_named : Library → List ℕ → Option Library
with_named library name =
    option_and_then (λ family. if has_family library family then None else Some (with_family library family))
    (family_named name)

-- the library with the families of these names, each of which is new
abbrev pub library_of_names : Library → List (List ℕ) → Option Library
library_of_names library [] = Some library
library_of_names library (name ∷ names) =
    option_and_then (λ more. library_of_names more names) (with_named library name)

abbrev pub library_value : List ℕ → Option Library
library_value word =
    if bytes_eq word (codes "none") then Some no_library
    else if bytes_eq word (codes "all") then Some all_but_halves
    else library_of_names no_library (parts_of word)

-- how many operators a generated goal has
abbrev pub size_value : List ℕ → Option ℕ
size_value = number_within 1 20

abbrev pub default_size : ℕ
default_size = 10

-- the number of a goal in an answer
abbrev pub goal_number_value : List ℕ → Option ℕ
goal_number_value = number_within 1 most_goals

abbrev pub default_goal : ℕ
default_goal = 1

abbrev pub default_cycles : ℕ
default_cycles = 8

abbrev pub default_conflicts : ℕ
default_conflicts = 20000

-- ---- the options of `solve`

abbrev pub no_options : Options
no_options = record { rounds = None; nodes = None; cycles = None; conflicts = None; pick = None; library = None; least = false; live = false }

-- the numbers that are set are within their ranges
pub record AreInRange (o : Options) : Type 0 where
  pub rounds : IfSome o.rounds (λ n. n ≤ 16)
  pub nodes : IfSome o.nodes (λ n. (1 ≤ n) × (n ≤ 4096))
  pub cycles : IfSome o.cycles (λ n. n ≤ most_cycles)
  pub conflicts : IfSome o.conflicts (λ n. (1 ≤ n) × (n ≤ 1000000))

-- no other option is set than those of rounds and rules
abbrev pub has_rounds_alone : Options → Bool
has_rounds_alone o = is_none o.cycles && (is_none o.conflicts && (is_none o.pick && (not o.least && not o.live)))

abbrev pub default_rounds : ℕ
default_rounds = 4

abbrev pub default_nodes : ℕ
default_nodes = 512

-- where an option isn't set, its default stands, and the command's own library
abbrev pub settings_of : Library → Options → Settings
settings_of library o = record {
  rounds = unwrap_or o.rounds default_rounds;
  nodes = unwrap_or o.nodes default_nodes;
  cycles = unwrap_or o.cycles default_cycles;
  conflicts = unwrap_or o.conflicts default_conflicts;
  pick = unwrap_or o.pick First;
  library = unwrap_or o.library library;
  allocation = if o.live then Live else Block;
}
