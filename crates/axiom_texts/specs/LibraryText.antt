-- The text of families of axioms: family by family, each axiom in the order of its family's list, on a line of its own
-- and in the form in which an input's axioms are printed. Source: this project.
use Rattle.std.specs.Prelude.{ℕ, true, List, [], map, flat_map}
use Rattle.forms.specs.Printing.{lines_of, plains_from}
use Rattle.goal_meaning.specs.InputForms.{axiom_plain}
use Rattle.goal_meaning.specs.Views.{AxiomTree, GoalTree, InputTree}
use Rattle.machine_table.specs.declared.tables.Table.{Table}
use Rattle.axiom_library.specs.Families.{axioms_of}
use Rattle.axiom_library.specs.declared.families.Family.{Family}

abbrev pub library_text : List Family → List ℕ
library_text families = lines_of (plains_from (map (axiom_plain []) (flat_map axioms_of families)))

-- the input of a text that has only axioms and goals
abbrev pub of_goals : Table → List AxiomTree → List GoalTree → InputTree
of_goals table axioms goals =
    record { table = table; builtin = true; ops = []; axioms = axioms; goals = goals }
