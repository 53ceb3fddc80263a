-- By computing clap's definition.
use Rattle.std.proofs.Common.{◌≡◌, [], ◌∷◌, Some, codes, refl, true}
use Rattle.std.specs.Fmt.{digits}
use Rattle.clap.proofs.OnLiterals.{clap_on_literals}
use Rattle.pick_rule.specs.declared.pick.Pick.TheVariants.{Last, Busy, Activity}
use Rattle.axiom_library.specs.Libraries.{all_but_halves, no_library}
use Rattle.denali_cli.specs.Commands.{Solve, SolveLeast, Proc, Check, CheckLeast, Trim, Verify, Run, Gen, Cnf, Improve}
use Rattle.denali_cli.specs.OptionValues.{no_options, settings_of}
use Rattle.denali_cli.specs.Said.{command_of}
use Rattle.denali_cli.specs.Spellings.{matched, spelled_command}
use Rattle.denali_cli.proofs.worked.worked_words.Goals as goal

joined : command_of (codes "solve" ∷ codes "--rounds=3" ∷ codes "--pick=first" ∷ [])
    ≡ Some (Solve (settings_of no_library (record no_options { rounds = Some 3 })))
unfolding clap_on_literals matched digits
joined = refl

picks_last : command_of (codes "solve" ∷ codes "--pick" ∷ codes "last" ∷ [])
    ≡ Some (Solve (settings_of no_library (record no_options { pick = Some Last })))
unfolding clap_on_literals matched digits
picks_last = refl

picks_busiest : command_of (codes "solve" ∷ codes "--pick=busy" ∷ [])
    ≡ Some (Solve (settings_of no_library (record no_options { pick = Some Busy })))
unfolding clap_on_literals matched digits
picks_busiest = refl

picks_active : command_of (codes "solve" ∷ codes "--pick" ∷ codes "activity" ∷ [])
    ≡ Some (Solve (settings_of no_library (record no_options { pick = Some Activity })))
unfolding clap_on_literals matched digits
picks_active = refl

improves : command_of (codes "improve" ∷ [])
    ≡ Some (Improve (settings_of all_but_halves (record no_options { pick = Some Activity; live = true })))
unfolding clap_on_literals matched digits
improves = refl

improves_as_picked : command_of (codes "improve" ∷ codes "--pick" ∷ codes "first" ∷ [])
    ≡ Some (Improve (settings_of all_but_halves (record no_options { live = true })))
unfolding clap_on_literals matched digits
improves_as_picked = refl

mixed : command_of (codes "solve" ∷ codes "--cycles=0" ∷ codes "--nodes" ∷ codes "7" ∷ [])
    ≡ Some (Solve (settings_of no_library (record no_options { nodes = Some 7; cycles = Some 0 })))
unfolding clap_on_literals matched digits
mixed = refl

dashes : command_of (codes "solve" ∷ codes "--conflicts" ∷ codes "5" ∷ codes "--" ∷ [])
    ≡ Some (Solve (settings_of no_library (record no_options { conflicts = Some 5 })))
unfolding clap_on_literals matched digits
dashes = refl

plain : spelled_command (codes "solve" ∷ codes "--nodes" ∷ codes "7" ∷ codes "--rounds" ∷ codes "0" ∷ [])
    ≡ command_of (codes "solve" ∷ codes "--nodes" ∷ codes "7" ∷ codes "--rounds" ∷ codes "0" ∷ [])
unfolding clap_on_literals matched digits
plain = refl

bare : spelled_command (codes "solve" ∷ []) ≡ command_of (codes "solve" ∷ [])
unfolding clap_on_literals matched digits
bare = refl

links : command_of (codes "proc" ∷ codes "--cycles" ∷ codes "9" ∷ [])
    ≡ Some (Proc (settings_of no_library (record no_options { cycles = Some 9 })))
unfolding clap_on_literals matched digits
links = refl

joined_cycles : command_of (codes "proc" ∷ codes "--cycles=9" ∷ [])
    ≡ Some (Proc (settings_of no_library (record no_options { cycles = Some 9 })))
unfolding clap_on_literals matched digits
joined_cycles = refl

checks : command_of (codes "check" ∷ []) ≡ Some Check
unfolding clap_on_literals matched digits
checks = refl

checks_least : command_of (codes "check" ∷ codes "--least" ∷ []) ≡ Some CheckLeast
unfolding clap_on_literals matched digits
checks_least = refl

solves_least : command_of (codes "solve" ∷ codes "--least" ∷ []) ≡ Some (SolveLeast (settings_of no_library no_options))
unfolding clap_on_literals matched digits
solves_least = refl

flag_among_pairs : command_of (codes "solve" ∷ codes "--nodes" ∷ codes "7" ∷ codes "--least" ∷ codes "--rounds" ∷ codes "3" ∷ [])
    ≡ Some (SolveLeast (settings_of no_library (record no_options { rounds = Some 3; nodes = Some 7 })))
unfolding clap_on_literals matched digits
flag_among_pairs = refl

flag_in_another_spelling : command_of (codes "solve" ∷ codes "--least" ∷ codes "--rounds=3" ∷ [])
    ≡ Some (SolveLeast (settings_of no_library (record no_options { rounds = Some 3 })))
unfolding clap_on_literals matched digits
flag_in_another_spelling = refl

plain_flag : spelled_command (codes "solve" ∷ codes "--rounds" ∷ codes "3" ∷ codes "--least" ∷ [])
    ≡ command_of (codes "solve" ∷ codes "--rounds" ∷ codes "3" ∷ codes "--least" ∷ [])
unfolding clap_on_literals matched digits
plain_flag = refl

solves_live : command_of (codes "solve" ∷ codes "--live" ∷ codes "--least" ∷ [])
    ≡ Some (SolveLeast (settings_of no_library (record no_options { live = true })))
unfolding clap_on_literals matched digits
solves_live = refl

links_live : command_of (codes "proc" ∷ codes "--cycles=9" ∷ codes "--live" ∷ [])
    ≡ Some (Proc (settings_of no_library (record no_options { cycles = Some 9; live = true })))
unfolding clap_on_literals matched digits
links_live = refl

trims : command_of (codes "trim" ∷ []) ≡ Some Trim
unfolding clap_on_literals matched digits
trims = refl

verifies : command_of (codes "verify" ∷ []) ≡ Some (Verify 4 512 no_library)
unfolding clap_on_literals matched digits
verifies = refl

joined_rounds : command_of (codes "verify" ∷ codes "--rounds=3" ∷ []) ≡ Some (Verify 3 512 no_library)
unfolding clap_on_literals matched digits
joined_rounds = refl

rounds_and_rows : command_of (codes "verify" ∷ codes "--nodes" ∷ codes "7" ∷ codes "--rounds" ∷ codes "0" ∷ [])
    ≡ Some (Verify 0 7 no_library)
unfolding clap_on_literals matched digits
rounds_and_rows = refl

runs : command_of (codes "run" ∷ []) ≡ Some Run
unfolding clap_on_literals matched digits
runs = refl

runs_behind_dashes : command_of (codes "run" ∷ codes "--" ∷ []) ≡ Some Run
unfolding clap_on_literals matched digits
runs_behind_dashes = refl

generates : command_of (codes "gen" ∷ []) ≡ Some (Gen 10)
unfolding clap_on_literals matched digits
generates = refl

generates_size : command_of (codes "gen" ∷ codes "--size" ∷ codes "3" ∷ []) ≡ Some (Gen 3)
unfolding clap_on_literals matched digits
generates_size = refl

joined_size : command_of (codes "gen" ∷ codes "--size=3" ∷ []) ≡ Some (Gen 3)
unfolding clap_on_literals matched digits
joined_size = refl

clauses : command_of (codes "cnf" ∷ []) ≡ Some (Cnf 1 8)
unfolding clap_on_literals matched digits
clauses = refl

clauses_of_goal : command_of (codes "cnf" ∷ codes "--goal" ∷ codes "2" ∷ []) ≡ Some (Cnf 2 8)
unfolding clap_on_literals matched digits
clauses_of_goal = refl

clauses_for_cycles : command_of (codes "cnf" ∷ codes "--cycles" ∷ codes "0" ∷ []) ≡ Some (Cnf 1 0)
unfolding clap_on_literals matched digits
clauses_for_cycles = refl

clauses_of_both : command_of (codes "cnf" ∷ codes "--cycles" ∷ codes "4" ∷ codes "--goal" ∷ codes "2" ∷ [])
    ≡ Some (Cnf 2 4)
unfolding clap_on_literals matched digits
clauses_of_both = refl

joined_clauses : command_of (codes "cnf" ∷ codes "--goal=2" ∷ codes "--cycles" ∷ codes "4" ∷ [])
    ≡ Some (Cnf 2 4)
unfolding clap_on_literals matched digits
joined_clauses = refl

pub returns : goal.returns
returns c = record {
  joined = joined;
  picks_last = picks_last;
  picks_busiest = picks_busiest;
  picks_active = picks_active;
  improves = improves;
  improves_as_picked = improves_as_picked;
  mixed = mixed;
  dashes = dashes;
  plain = plain;
  bare = bare;
  links = links;
  joined_cycles = joined_cycles;
  checks = checks;
  checks_least = checks_least;
  solves_least = solves_least;
  flag_among_pairs = flag_among_pairs;
  flag_in_another_spelling = flag_in_another_spelling;
  plain_flag = plain_flag;
  solves_live = solves_live;
  links_live = links_live;
  trims = trims;
  verifies = verifies;
  joined_rounds = joined_rounds;
  rounds_and_rows = rounds_and_rows;
  runs = runs;
  runs_behind_dashes = runs_behind_dashes;
  generates = generates;
  generates_size = generates_size;
  joined_size = joined_size;
  clauses = clauses;
  clauses_of_goal = clauses_of_goal;
  clauses_for_cycles = clauses_for_cycles;
  clauses_of_both = clauses_of_both;
  joined_clauses = joined_clauses;
}
