use Rattle.std.proofs.Common.{◌≡◌, ℕ, length, get_or, None}
use Rattle.launch_graph.proofs.rows_reading.no_rows.Given as goal

abbrev pub invariant-loop : goal.invariant-loop
invariant-loop l = (length l.constants.items ≡ l.counter) × ((k : ℕ) → get_or l.constants.items k None ≡ None)
