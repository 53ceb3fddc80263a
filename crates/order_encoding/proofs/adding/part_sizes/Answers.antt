use Rattle.std.proofs.Common.{◌∙◌, ap, sym, arith}
use Rattle.order_encoding.specs.OrderCounts.{part_size, part_vars}
use Rattle.order_encoding.proofs.adding.part_sizes.Goals as goal

pub returns-in-Memory-clause-vars : goal.returns-in-Memory-clause-vars
returns-in-Memory-clause-vars c =
    let f = c.args.frame.now in
    c.requires.first.memory_vars ∙ ap (λ p. part_vars p f.facts.now f.table.now f.k f.scope.now) (sym c.in-Memory.is)

pub returns-in-Memory-clause-clauses : goal.returns-in-Memory-clause-clauses
returns-in-Memory-clause-clauses c =
    let f = c.args.frame.now in
    c.requires.first.memory_size ∙ ap (λ p. part_size p f.facts.now f.table.now f.k f.scope.now) (sym c.in-Memory.is)

pub returns-in-Memory-clause-few_vars : goal.returns-in-Memory-clause-few_vars
returns-in-Memory-clause-few_vars c = (let few = c.requires.first.few_memory_vars in omega (arith, few))

pub returns-in-Memory-clause-few_clauses : goal.returns-in-Memory-clause-few_clauses
returns-in-Memory-clause-few_clauses c = (let few = c.requires.first.few_memory_clauses in omega (arith, few))
