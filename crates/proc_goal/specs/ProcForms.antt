-- The canonical text of a proc: the machine form where the text had one, an explicit pool, numbers in decimal, one space
-- between tokens except behind an opening and before a closing parenthesis, and a line feed behind each form. Source: this
-- project.
use Rattle.std.specs.Prelude.{ℕ, if◌then◌else◌, Option, Some, None, List, [], ◌∷◌, ◌++◌, map, codes, slice_index_or}
use Rattle.forms.specs.Forms.{name}
use Rattle.forms.specs.Printing.{Plain, atom, plains_from, keyword_list, lines_of}
use Rattle.machine_table.specs.Printing.{table_plain}
use Rattle.goal_meaning.specs.InputForms.{Naming, naming, term_plain, register_plain, pool_plain}
use Rattle.goal_meaning.specs.Views.{TargetTree}
use Rattle.goal_meaning.specs.declared.goals.InputReg.{InputReg}
use Rattle.proc_goal.specs.Views.{WhenTree, BlockTree, ProcTree, names_of_blocks}
use Rattle.proc_goal.specs.declared.procs.Target.{Target}
use Rattle.proc_goal.specs.declared.procs.Target.TheVariants.{Block, Done}

-- in a proc a name means a variable
abbrev pub naming_over : List InputReg → Naming
naming_over vars = naming [] vars []

abbrev pub proc_target_name : List (List ℕ) → Target → List ℕ
proc_target_name names (Block at) = slice_index_or names at []
proc_target_name names Done = codes "done"

abbrev pub proc_target_plain : List (List ℕ) → Target → Plain
proc_target_plain names t = atom (name (proc_target_name names t))

abbrev pub var_plain : InputReg → Plain
var_plain i = keyword_list (codes "var") (atom (name i.name) ∷ register_plain i.reg ∷ [])

abbrev pub when_plains : List InputReg → List (List ℕ) → Option WhenTree → List Plain
when_plains vars names None = []
when_plains vars names (Some w) =
    keyword_list (codes "when") (term_plain (naming_over vars) w.guard ∷ proc_target_plain names w.other ∷ []) ∷ []

-- the pin is the variable's register, and isn't written
abbrev pub set_plain : List InputReg → TargetTree → Plain
set_plain vars t = keyword_list (codes "set") (atom (name t.name) ∷ term_plain (naming_over vars) t.value ∷ [])

abbrev pub go_plain : List (List ℕ) → Target → Plain
go_plain names t = keyword_list (codes "go") (proc_target_plain names t ∷ [])

abbrev pub block_plain : List InputReg → List (List ℕ) → BlockTree → Plain
block_plain vars names b =
    keyword_list (codes "block")
    (atom (name b.name) ∷ (when_plains vars names b.when ++ (map (set_plain vars) b.sets ++ go_plain names b.go ∷ [])))

-- the pool is explicit
abbrev pub proc_plain : ProcTree → Plain
proc_plain p =
    keyword_list (codes "proc")
    (atom (name p.name)
    ∷ (map var_plain p.vars ++ (pool_plain p.pool ∷ map (block_plain p.vars (names_of_blocks p.blocks)) p.blocks)))

abbrev pub table_plains : ProcTree → List Plain
table_plains p = if p.builtin then [] else table_plain p.table ∷ []

abbrev pub proc_plains : ProcTree → List Plain
proc_plains p = table_plains p ++ proc_plain p ∷ []

abbrev pub proc_text : ProcTree → List ℕ
proc_text p = lines_of (plains_from (proc_plains p))
