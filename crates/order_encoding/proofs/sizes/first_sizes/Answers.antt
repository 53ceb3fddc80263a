use Rattle.std.proofs.Common.{◌+◌, ◌*◌, ◌∙◌, ap}
use Rattle.order_encoding.proofs.sizes.first_sizes.Goals as goal

pub returns : goal.returns
returns c = record {
  cycle_vars = c.cycle_sizes.ensures.vars;
  cycle_size = c.cycle_sizes.ensures.clauses;
  few_cycle_vars = c.cycle_sizes.ensures.few_vars;
  few_cycle_clauses = c.cycle_sizes.ensures.few_clauses;
  memory_vars = c.memory_sizes.ensures.vars;
  memory_size = c.memory_sizes.ensures.clauses;
  few_memory_vars = c.memory_sizes.ensures.few_vars;
  few_memory_clauses = c.memory_sizes.ensures.few_clauses;
  held = c.times.ensures.value ∙ ap (λ n. (c.args.frame.now.k + 1) * n) c.memory_count-held.ensures.value;
}
