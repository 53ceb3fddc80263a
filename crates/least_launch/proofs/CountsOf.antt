-- How many launches have variables, and the counts of a formula with a counter behind it.
use Rattle.std.proofs.Common.{◌≡◌, ℕ, ◌+◌, ◌*◌, List, length, sym, ap, ◌∙◌, length-append}
use Rattle.std.specs.List.{range_with_len, sum_by}
use Rattle.cnf_core.specs.Counter.{at_most_clauses, at_most_size, at_most_vars}
use Rattle.cnf_core.specs.Formula.{Formula}
use Rattle.cnf_core.specs.declared.literal.Lit.{Lit}
use Rattle.cycle_encoding.specs.Counts.{row_count}
use Rattle.cycle_encoding.specs.CycleFormula.{Scope, allocation_in}
use Rattle.cycle_encoding.specs.Counts.{row_destinations}
use Rattle.cycle_encoding.specs.CycleFormula.{listed_in}
use Rattle.cycle_encoding.proofs.PinnedTotals.{destined-count}
use Rattle.cycle_encoding.proofs.RowPlaces.{sum_ones}
use Rattle.graph_meaning.specs.declared.graphs.LaunchGraph.{LaunchGraph}
use Rattle.machine_table.specs.declared.tables.Table.{Table}
use Rattle.schedule_meaning.specs.declared.schedules.Launch.{Launch}
use Rattle.schedule_meaning.specs.declared.schedules.To.{To}
use Rattle.least_launch.specs.FewerLaunches.{launch_literals, with_at_most}
use Rattle.least_launch.proofs.Launched.{count_is}

module _ (g : LaunchGraph) (table : Table) (k : ℕ) (s : Scope) where
  -- how many launches of a row have variables
  abbrev pub row_size : ℕ → ℕ
  row_size row = row_count g table k s row * sum_by (λ (to : To). 1) (row_destinations g (allocation_in s) row)

  pub row_is : (row count destinations : ℕ) → count ≡ row_count g table k s row
      → destinations ≡ length (row_destinations g (allocation_in s) row) → count * destinations ≡ row_size row
  row_is row count destinations c d =
      ap (λ n. count * n) (d ∙ sym (sum_ones g (allocation_in s) row))
      ∙ ap (λ n. n * sum_by (λ (to : To). 1) (row_destinations g (allocation_in s) row)) c

  -- over all rows
  pub rows_are : (n : ℕ) → n ≡ length g.rows + 1 + length g.sets → sum_by row_size (range_with_len 0 n)
      ≡ length (listed_in g table k s).launches
  rows_are n all = ap (λ m. sum_by row_size (range_with_len 0 m)) all ∙ sym (destined-count g table k s)

-- with a counter over as many literals as there are launches
pub vars_with : (n count a b total : ℕ) (launches : List Launch) (f : Formula) → a ≡ f.vars → count ≡ length launches
    → b ≡ at_most_vars n count → total ≡ a + b → total ≡ (with_at_most n (launch_literals launches) f).vars
vars_with n count a b total launches f ea ec eb et =
    et ∙ ap (λ m. m + b) ea ∙ ap (λ m. f.vars + m) (eb ∙ ap (at_most_vars n) (ec ∙ sym (count_is launches)))

abbrev pub SizesAre : Type 0
SizesAre = (old p : ℕ) (lits : List Lit) → length (at_most_clauses old p lits) ≡ at_most_size p (length lits)

pub clauses_with : SizesAre → (n count a b total : ℕ) (launches : List Launch) (f : Formula) → a ≡ length f.clauses
    → count ≡ length launches → b ≡ at_most_size n count → total ≡ a + b
    → total ≡ length (with_at_most n (launch_literals launches) f).clauses
clauses_with size n count a b total launches f ea ec eb et =
    et ∙ ap (λ m. m + b) ea
    ∙ ap (λ m. length f.clauses + m)
    (eb ∙ ap (at_most_size n) (ec ∙ sym (count_is launches)) ∙ sym (size f.vars n (launch_literals launches)))
    ∙ sym (length-append f.clauses (at_most_clauses f.vars n (launch_literals launches)))
