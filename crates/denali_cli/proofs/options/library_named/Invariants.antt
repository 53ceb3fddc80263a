use Rattle.std.proofs.Common.{◌≡◌, ◌≤◌, length}
use Rattle.axiom_library.specs.Libraries.{no_library}
use Rattle.denali_cli.specs.OptionValues.{library_of_names, parts_of}
use Rattle.denali_cli.proofs.options.library_named.Given as goal

-- the families so far, and then the names that are left
abbrev pub invariant-loop-at : goal.invariant-loop-at
invariant-loop-at l =
    (library_of_names l.library (parts_of l.rest) ≡ library_of_names no_library (parts_of l.fn.names))
    × (length l.rest ≤ length l.fn.names)

abbrev pub decreases-loop-at : goal.decreases-loop-at
decreases-loop-at l = length l.rest
