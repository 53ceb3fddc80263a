-- The encoding by which schedules with an allocation are asked for has this allocation, and so has its scope.
use Rattle.std.proofs.Common.{◌≡◌, refl, sym, ap, subst, ◌∙◌}
use Rattle.cycle_encoding.specs.Allocations.{allocation_of}
use Rattle.cycle_encoding.specs.CycleFormula.{Scope, allocation_in}
use Rattle.cycle_encoding.specs.Encodings.{IsScope}
use Rattle.cycle_encoding.specs.declared.encodings.Encoding.{Encoding}
use Rattle.denali_run.specs.Encodings.{encoding_for}
use Rattle.graph_meaning.specs.declared.graphs.LaunchGraph.{LaunchGraph}
use Rattle.machine_table.specs.declared.tables.Table.{Table}
use Rattle.schedule_meaning.specs.declared.schedules.Allocation.{Allocation}
use Rattle.schedule_meaning.specs.declared.schedules.Allocation.TheVariants.{Block, Live}

pub allocated : (a : Allocation) → allocation_of (encoding_for a) ≡ a
allocated Block = refl
allocated Live = refl

-- of a scope that was made for the encoding that the allocation gives
module _ (a : Allocation) (e : Encoding) (g : LaunchGraph) (table : Table) (s : Scope) (asked : e ≡ encoding_for a)
    (is : IsScope e g table s) where
  pub scope_for : IsScope (encoding_for a) g table s
  scope_for = subst (λ (x : Encoding). IsScope x g table s) asked is

  pub kept_so : allocation_in s ≡ a
  kept_so = ap allocation_of (is.encoding ∙ asked) ∙ allocated a

  -- it is the one that the scope's own allocation gives
  pub scope_by_own : IsScope (encoding_for (allocation_in s)) g table s
  scope_by_own = subst (λ (x : Allocation). IsScope (encoding_for x) g table s) (sym kept_so) scope_for
