-- The worked schedules, decided by computing.
use Rattle.std.proofs.Common.{◌≡◌, ℕ, List, [], ◌∷◌, ◌++◌, true, refl, sym, subst, inl, inr, ◌⊎◌, Some, None}
use Rattle.machine_table.specs.Tables.{ev6}
use Rattle.schedule_meaning.specs.Fits.{Fits}
use Rattle.schedule_meaning.specs.Broken.{IsFirstBroken}
use Rattle.schedule_meaning.specs.Worked.{sum_graph, two_slots, sum_in_three, sum_in_two, sum_twice, copy_graph, copy_graph_with, free_copy_graph, at_slot, copy_at, copy_with, copy_without_branch, copy_without_store, copy_without_sum, copy_of_no_row, copy_stored_above, step_graph, step_in_one, exchange_graph, exchange_in_two, exchange_in_one, chain_graph, chain_at_once, chain_in_turn}
use Rattle.machine_table.specs.declared.tables.Table.{Table}
use Rattle.graph_meaning.specs.declared.graphs.LaunchGraph.{LaunchGraph}
use Rattle.schedule_meaning.specs.declared.schedules.Allocation.{Allocation}
use Rattle.schedule_meaning.specs.declared.schedules.Allocation.TheVariants.{Block, Live}
use Rattle.schedule_meaning.specs.declared.schedules.Launch.{Launch}
use Rattle.schedule_meaning.proofs.Rules.{Found}
use Rattle.schedule_meaning.proofs.Deciding.{decided, broken_pair}

module _ (g : LaunchGraph) (table : Table) (allocation : Allocation) (k : ℕ) (ls : List Launch) where
  fits_by : (d : Fits g table allocation k ls ⊎ Found g table allocation k ls) → broken_pair g table allocation k ls d ≡ None → Fits g table allocation k ls
  fits_by (inl f) e = f
  fits_by (inr f) e = absurd (none_pair _ (sym e))
    where
      none_pair : (p : ℕ × ℕ) → None ≡ Some p → ⊥
      none_pair p h = cc

  breaks_by : (i r : ℕ) (d : Fits g table allocation k ls ⊎ Found g table allocation k ls) → broken_pair g table allocation k ls d ≡ Some (i, r) → IsFirstBroken g table allocation k ls i r
  breaks_by i r (inl f) e = absurd (none_pair _ e)
    where
      none_pair : (p : ℕ × ℕ) → None ≡ Some p → ⊥
      none_pair p h = cc
  breaks_by i r (inr f) e =
      subst (λ (p : ℕ × ℕ). IsFirstBroken g table allocation k ls p.0 p.1) (pair e) f.2
    where
      pair : {p q : ℕ × ℕ} → Some p ≡ Some q → p ≡ q
      pair h = cc

pub sum_fits : Fits sum_graph two_slots Block 3 sum_in_three
sum_fits = fits_by sum_graph two_slots Block 3 sum_in_three (decided sum_graph two_slots Block 3 sum_in_three) refl

pub too_early : IsFirstBroken sum_graph two_slots Block 2 sum_in_two 1 3
too_early = breaks_by sum_graph two_slots Block 2 sum_in_two 1 3 (decided sum_graph two_slots Block 2 sum_in_two) refl

pub given_twice : IsFirstBroken sum_graph two_slots Block 3 sum_twice 1 2
given_twice = breaks_by sum_graph two_slots Block 3 sum_twice 1 2 (decided sum_graph two_slots Block 3 sum_twice) refl

pub copy_fits : Fits copy_graph ev6 Block 5 (copy_with 1 4)
unfolding ev6
copy_fits = fits_by copy_graph ev6 Block 5 (copy_with 1 4) (decided copy_graph ev6 Block 5 (copy_with 1 4)) refl

pub free_copy_fits : Fits free_copy_graph ev6 Block 4 (copy_at 1 0 3)
unfolding ev6
free_copy_fits =
    fits_by free_copy_graph ev6 Block 4 (copy_at 1 0 3) (decided free_copy_graph ev6 Block 4 (copy_at 1 0 3)) refl

pub operand_of_the_store_too_early : IsFirstBroken copy_graph ev6 Block 5 (copy_with 1 0) 5 3
unfolding ev6
operand_of_the_store_too_early =
    breaks_by copy_graph ev6 Block 5 (copy_with 1 0) 5 3 (decided copy_graph ev6 Block 5 (copy_with 1 0)) refl

pub load_before_branch : IsFirstBroken copy_graph ev6 Block 5 (copy_with 0 4) 4 8
unfolding ev6
load_before_branch =
    breaks_by copy_graph ev6 Block 5 (copy_with 0 4) 4 8 (decided copy_graph ev6 Block 5 (copy_with 0 4)) refl

pub store_in_another_slot : IsFirstBroken copy_graph ev6 Block 5 copy_stored_above 5 1
unfolding ev6
store_in_another_slot =
    breaks_by copy_graph ev6 Block 5 copy_stored_above 5 1 (decided copy_graph ev6 Block 5 copy_stored_above) refl

pub row_past_the_branch : IsFirstBroken copy_graph ev6 Block 5 copy_of_no_row 3 1
unfolding ev6
row_past_the_branch =
    breaks_by copy_graph ev6 Block 5 copy_of_no_row 3 1 (decided copy_graph ev6 Block 5 copy_of_no_row) refl

pub store_too_late : IsFirstBroken copy_graph ev6 Block 4 (copy_with 1 4) 5 4
unfolding ev6
store_too_late =
    breaks_by copy_graph ev6 Block 4 (copy_with 1 4) 5 4 (decided copy_graph ev6 Block 4 (copy_with 1 4)) refl

pub target_not_reached : IsFirstBroken copy_graph ev6 Block 5 copy_without_sum 5 5
unfolding ev6
target_not_reached =
    breaks_by copy_graph ev6 Block 5 copy_without_sum 5 5 (decided copy_graph ev6 Block 5 copy_without_sum) refl

pub memory_not_reached : IsFirstBroken copy_graph ev6 Block 5 copy_without_store 5 6
unfolding ev6
memory_not_reached =
    breaks_by copy_graph ev6 Block 5 copy_without_store 5 6 (decided copy_graph ev6 Block 5 copy_without_store) refl

pub load_after_the_store : IsFirstBroken copy_graph ev6 Block 8 (copy_with 1 4 ++ at_slot 5 2 5 ∷ []) 6 6
unfolding ev6
load_after_the_store =
    breaks_by copy_graph ev6 Block 8 (copy_with 1 4 ++ at_slot 5 2 5 ∷ []) 6 6
    (decided copy_graph ev6 Block 8 (copy_with 1 4 ++ at_slot 5 2 5 ∷ [])) refl

pub two_stores_at_once : IsFirstBroken copy_graph ev6 Block 6 (copy_with 1 5 ++ at_slot 5 3 6 ∷ []) 6 6
unfolding ev6
two_stores_at_once =
    breaks_by copy_graph ev6 Block 6 (copy_with 1 5 ++ at_slot 5 3 6 ∷ []) 6 6
    (decided copy_graph ev6 Block 6 (copy_with 1 5 ++ at_slot 5 3 6 ∷ [])) refl

pub no_branch : IsFirstBroken copy_graph ev6 Block 5 copy_without_branch 5 7
unfolding ev6
no_branch =
    breaks_by copy_graph ev6 Block 5 copy_without_branch 5 7 (decided copy_graph ev6 Block 5 copy_without_branch) refl

pub two_branches : IsFirstBroken copy_graph ev6 Block 6 (copy_with 1 4 ++ at_slot 2 0 10 ∷ []) 7 7
unfolding ev6
two_branches =
    breaks_by copy_graph ev6 Block 6 (copy_with 1 4 ++ at_slot 2 0 10 ∷ []) 7 7
    (decided copy_graph ev6 Block 6 (copy_with 1 4 ++ at_slot 2 0 10 ∷ [])) refl

pub store_before_the_branch : IsFirstBroken free_copy_graph ev6 Block 6 (copy_at 5 1 4) 5 8
unfolding ev6
store_before_the_branch =
    breaks_by free_copy_graph ev6 Block 6 (copy_at 5 1 4) 5 8 (decided free_copy_graph ev6 Block 6 (copy_at 5 1 4)) refl

pub pool_too_small : IsFirstBroken (copy_graph_with true (0 ∷ 1 ∷ 2 ∷ [])) ev6 Block 6 (copy_with 1 4) 6 9
unfolding ev6
pool_too_small =
    breaks_by (copy_graph_with true (0 ∷ 1 ∷ 2 ∷ [])) ev6 Block 6 (copy_with 1 4) 6 9
    (decided (copy_graph_with true (0 ∷ 1 ∷ 2 ∷ [])) ev6 Block 6 (copy_with 1 4)) refl

pub step_fits : Fits step_graph ev6 Block 1 step_in_one
unfolding ev6
step_fits = fits_by step_graph ev6 Block 1 step_in_one (decided step_graph ev6 Block 1 step_in_one) refl

pub exchange_fits : Fits exchange_graph ev6 Block 2 exchange_in_two
unfolding ev6
exchange_fits =
    fits_by exchange_graph ev6 Block 2 exchange_in_two (decided exchange_graph ev6 Block 2 exchange_in_two) refl

pub overwritten_before_read : IsFirstBroken exchange_graph ev6 Block 1 exchange_in_one 0 3
unfolding ev6
overwritten_before_read =
    breaks_by exchange_graph ev6 Block 1 exchange_in_one 0 3 (decided exchange_graph ev6 Block 1 exchange_in_one) refl

pub held_while_read : IsFirstBroken chain_graph ev6 Live 3 chain_at_once 3 9
unfolding ev6
held_while_read = breaks_by chain_graph ev6 Live 3 chain_at_once 3 9 (decided chain_graph ev6 Live 3 chain_at_once) refl

pub free_when_read : Fits chain_graph ev6 Live 3 chain_in_turn
unfolding ev6
free_when_read = fits_by chain_graph ev6 Live 3 chain_in_turn (decided chain_graph ev6 Live 3 chain_in_turn) refl
