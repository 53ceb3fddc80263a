-- The canonical text of a well-formed proc can be printed.
use Rattle.std.proofs.Common.{ℕ, ◌<◌, ◌++◌, refl, if◌then◌else◌, Bool, true, false, All, Option, Some, None, List, [], ◌∷◌, length, map}
use Rattle.std.specs.Prelude.{IfSome}
use Rattle.std.proofs.lemmas.List.Elements.{All-get_or, All-head, All-map, All-tail}
use Rattle.forms.specs.Printing.{CanPrint, CanPrintAll, Plain, plains_from}
use Rattle.text_core.specs.Names.{IsName}
use Rattle.machine_table.specs.Printing.{table_plain}
use Rattle.machine_table.specs.Tables.{IsTable}
use Rattle.machine_table.specs.declared.tables.Slot.{Slot}
use Rattle.machine_table.specs.declared.tables.Table.{Table}
use Rattle.word_ops.specs.declared.sorts.Sort.TheVariants as sorts
use Rattle.goal_meaning.specs.Views.{TargetTree}
use Rattle.goal_meaning.specs.WellFormed.{sort_of_target}
use Rattle.goal_meaning.specs.declared.goals.InputReg.{InputReg}
use Rattle.goal_reader.proofs.Fitting.{FitAll, pool_fits, register_fits}
use Rattle.proc_goal.specs.ProcForms.{block_plain, go_plain, proc_plain, proc_plains, proc_target_name, set_plain, table_plains, var_plain, when_plains}
use Rattle.proc_goal.specs.Views.{BlockTree, ProcTree, WhenTree}
use Rattle.proc_goal.specs.WellFormed.{IsGuard, IsProc, IsProcBlock, IsProcTarget, IsSet}
use Rattle.proc_goal.specs.declared.procs.Target.{Target}
use Rattle.proc_goal.specs.declared.procs.Target.TheVariants as targets
use Rattle.proc_goal.proofs.ProcGoals.{name_of_set}
use Rattle.proc_goal.proofs.WrittenTerms.{AreNamedVariables, term_printable}
use Rattle.proc_goal.proofs.WrittenProcs.{blocks_are, low_pool, low_vars, names_are, variables_are}

abbrev CanPrintEach : List Plain → Type 0
CanPrintEach ps = CanPrintAll (plains_from ps)

both_print : (xs ys : List Plain) → CanPrintEach xs → CanPrintEach ys → CanPrintEach (xs ++ ys)
both_print [] ys a b = b
both_print (x ∷ xs) ys a b = (a.0, both_print xs ys a.1 b)

each_prints : {Y : Type 0} (p : Y → Plain) (P : Y → Type 0) → ((y : Y) → P y → CanPrint (p y)) → (ys : List Y) → All P ys → CanPrintEach (map p ys)
each_prints p P step [] all = tt
each_prints p P step (y ∷ ys) all = (step y (All-head P y ys all), each_prints p P step ys (All-tail P y ys all))

-- ---- variables
abbrev IsPrintable : InputReg → Type 0
IsPrintable i = IsName i.name × (i.reg < 31)

variable_prints : (i : InputReg) → IsPrintable i → CanPrint (var_plain i)
variable_prints i h = (record { begins = refl; each = refl }, (h.0, ((register_fits 0 i.reg h.1).0, tt)))

-- ---- blocks
module _ (vars : List InputReg) (named_vars : AreNamedVariables vars) (names : List (List ℕ)) (named : All IsName names) where
  target_named : (t : Target) → IsProcTarget (length names) t → IsName (proc_target_name names t)
  target_named targets.Done there = record { begins = refl; each = refl }
  target_named (targets.Block at) there = All-get_or IsName names at [] there named

  when_prints : (o : Option WhenTree) → IfSome o (IsGuard vars (length names)) → CanPrintEach (when_plains vars names o)
  when_prints None h = tt
  when_prints (Some w) h = ((record { begins = refl; each = refl }, (term_printable vars named_vars sorts.Word w.guard h.guard, (target_named w.other h.other, tt))), tt)

  set_prints : (t : TargetTree) → IsSet vars t → CanPrint (set_plain vars t)
  set_prints t h =
      (record { begins = refl; each = refl }, (name_of_set vars named_vars.named t.name t.pin h.pinned, (term_printable vars named_vars (sort_of_target t.name) t.value h.value, tt)))

  go_prints : (t : Target) → IsProcTarget (length names) t → CanPrint (go_plain names t)
  go_prints t there = (record { begins = refl; each = refl }, (target_named t there, tt))

  block_prints : (b : BlockTree) → IsProcBlock vars (length names) b → CanPrint (block_plain vars names b)
  block_prints b h =
      let sets = map (set_plain vars) b.sets in (
        record { begins = refl; each = refl },
        (
          h.named,
          both_print (when_plains vars names b.when) (sets ++ go_plain names b.go ∷ []) (when_prints b.when h.when)
              (both_print sets (go_plain names b.go ∷ []) (each_prints (set_plain vars) (IsSet vars) set_prints b.sets h.sets) (go_prints b.go h.go, tt)),
        ),
      )

-- ---- a proc
module _ (table_prints : (table : Table) → IsTable table → All (λ (s : Slot). IsName s.name) table.slots → FitAll 64 (table_plain table ∷ [])) (p : ProcTree) (is : IsProc p) where
  proc_prints : CanPrint (proc_plain p)
  proc_prints =
      let named = All-map IsName (λ (b : BlockTree). b.name) p.blocks (λ k d l. (is.blocks k d l).named) in
      let vars = each_prints var_plain IsPrintable variable_prints p.vars (λ k d l. (is.variables k d l, low_vars p is k d l)) in
      let blocks = each_prints (block_plain p.vars (names_are p is)) (IsProcBlock p.vars (length (names_are p is))) (block_prints p.vars (variables_are p is) (names_are p is) named) p.blocks (blocks_are p is) in
      let pool = (pool_fits 1 p.pool (low_pool p is)).0 in (
        record { begins = refl; each = refl },
        (is.named, both_print (map var_plain p.vars) _ vars (pool, blocks)),
      )

  tables_print : (b : Bool) → CanPrintEach (if b then [] else table_plain p.table ∷ [])
  tables_print true = tt
  tables_print false = (table_prints p.table is.table is.slots).0

  pub text_printable : CanPrintEach (proc_plains p)
  text_printable = both_print (table_plains p) (proc_plain p ∷ []) (tables_print p.builtin) (proc_prints, tt)
