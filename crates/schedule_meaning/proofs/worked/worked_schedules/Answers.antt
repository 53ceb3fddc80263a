-- Each is decided by computing.
use Rattle.schedule_meaning.proofs.WorkedFits.{sum_fits, too_early, given_twice, copy_fits, free_copy_fits, operand_of_the_store_too_early, load_before_branch, store_in_another_slot, row_past_the_branch, store_too_late, target_not_reached, memory_not_reached, load_after_the_store, two_stores_at_once, no_branch, two_branches, store_before_the_branch, pool_too_small, step_fits, exchange_fits, overwritten_before_read, held_while_read, free_when_read}
use Rattle.machine_table.specs.Tables.{ev6}
use Rattle.schedule_meaning.proofs.TwoSlots.{two_slots_is_table}
use Rattle.schedule_meaning.proofs.worked.worked_schedules.Goals as goal

pub returns : goal.returns
unfolding ev6
returns c = record {
  table = two_slots_is_table;
  fits = sum_fits;
  operand_too_early = too_early;
  given_twice = given_twice;
  copy_fits = copy_fits;
  free_copy_fits = free_copy_fits;
  operand_of_the_store_too_early = operand_of_the_store_too_early;
  load_before_branch = load_before_branch;
  store_in_another_slot = store_in_another_slot;
  row_past_the_branch = row_past_the_branch;
  store_too_late = store_too_late;
  target_not_reached = target_not_reached;
  memory_not_reached = memory_not_reached;
  load_after_the_store = load_after_the_store;
  two_stores_at_once = two_stores_at_once;
  no_branch = no_branch;
  two_branches = two_branches;
  store_before_the_branch = store_before_the_branch;
  pool_too_small = pool_too_small;
  step_fits = step_fits;
  exchange_fits = exchange_fits;
  overwritten_before_read = overwritten_before_read;
  held_while_read = held_while_read;
  free_when_read = free_when_read;
}
