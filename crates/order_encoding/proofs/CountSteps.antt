-- What a row adds to the counts of memory, and the classes of memories.
use Rattle.std.proofs.Common.{◌≡◌, ℕ, ◌+◌, ◌-◌, ◌*◌, Bool, true, false, not, cond, List, ◌∷◌, [], length, Option, Some, None, refl, sym, ap, ◌∙◌, arith}
use Rattle.std.specs.Prelude.{◌&&◌, ◌||◌, ◌==◌, nat_le, nat_lt, option_map, option_and_then}
use Rattle.std.specs.Option.{option_map_or}
use Rattle.std.specs.List.{count_by, filter, list_any, range_with_len}
use Rattle.std.proofs.lemmas.List.Sums.{sum_by-cons, length-filter}
use Rattle.machine_table.specs.Tables.{use_of, latency_of}
use Rattle.machine_table.specs.declared.tables.Table.{Table}
use Rattle.machine_table.specs.declared.tables.Use.{Use}
use Rattle.machine_table.specs.declared.tables.InstrKind.{InstrKind}
use Rattle.graph_meaning.specs.WellFormed.{next_class}
use Rattle.graph_meaning.specs.declared.graphs.LaunchGraph.{LaunchGraph}
use Rattle.schedule_meaning.specs.Launches.{instr_at, is_store, is_load}
use Rattle.cycle_encoding.specs.Variables.{slots_of}
use Rattle.cycle_encoding.specs.Facts.{may_use}
use Rattle.cycle_encoding.specs.Counts.{can_begin, one_if, row_is, row_use, row_count}
use Rattle.cycle_encoding.specs.CycleFormula.{Scope, first_cycle_in}
pub use Rattle.cycle_encoding.proofs.Tallies.{sum_more, count_more}
use Rattle.order_encoding.specs.OrderVariables.{is_memory_class, memory_classes}
use Rattle.order_encoding.specs.OrderCounts.{row_stores, row_uses}

-- the stores of a row in a cycle
module _ (g : LaunchGraph) (table : Table) (k : ℕ) (s : Scope) (cycle row : ℕ) where
  abbrev in_use : Option ℕ → Bool → Option Use → ℕ
  in_use first b o = option_map_or (λ u. option_map_or (λ n. length (slots_of table u) * one_if (b && can_begin k n u cycle)) first 0) o 0

  abbrev in_instr : Bool → Option InstrKind → ℕ
  in_instr b o = in_use (first_cycle_in s row) b (option_and_then (use_of table) o)

  no_times : (n : ℕ) → n * 0 ≡ 0
  no_times n = omega arith

  none_first : (n : ℕ) (o : Option ℕ) → option_map_or (λ (m : ℕ). n * 0) o 0 ≡ 0
  none_first n None = refl
  none_first n (Some m) = no_times n

  none_in : (b : Bool) (o : Option Use) → b ≡ false → in_use (first_cycle_in s row) b o ≡ 0
  none_in b None e = refl
  none_in true (Some u) e = absurd (let f : true ≡ false = e in cc)
  none_in false (Some u) e = none_first (length (slots_of table u)) (first_cycle_in s row)

  pub no_store : row_is g is_store row ≡ false → row_stores g table k s cycle row ≡ 0
  no_store e = none_in (row_is g is_store row) (row_use g table row) e

  pub stores_without_instr : instr_at g row ≡ None → row_stores g table k s cycle row ≡ 0
  stores_without_instr e = ap (in_instr (row_is g is_store row)) e

  no_use : (b : Bool) (o : Option Use) → option_map (λ u. u.latency) o ≡ None → in_use (first_cycle_in s row) b o ≡ 0
  no_use b None h = refl
  no_use b (Some u) h = absurd (let f : Some u.latency ≡ None = h in cc)

  pub stores_without_use : (instr : InstrKind) → instr_at g row ≡ Some instr → latency_of table instr ≡ None → row_stores g table k s cycle row ≡ 0
  stores_without_use instr e h = ap (in_instr (row_is g is_store row)) e ∙ no_use (row_is g is_store row) (use_of table instr) h

  no_first : (b : Bool) (o : Option Use) → in_use None b o ≡ 0
  no_first b None = refl
  no_first b (Some u) = refl

  pub stores_without_first : first_cycle_in s row ≡ None → row_stores g table k s cycle row ≡ 0
  stores_without_first f = ap (λ (o : Option ℕ). in_use o (row_is g is_store row) (row_use g table row)) f ∙ no_first (row_is g is_store row) (row_use g table row)

  use_stores : (instr : InstrKind) (n : ℕ) (b in_time : Bool) (o : Option Use) (latency : ℕ) → use_of table instr ≡ o → option_map (λ u. u.latency) o ≡ Some latency → b ≡ true → (nat_le n cycle && nat_lt cycle (k + 1 - latency)) ≡ in_time → in_use (Some n) b o ≡ count_by (may_use table instr) (range_with_len 0 (length table.slots)) * one_if in_time
  use_stores instr n b in_time None latency e h t c = absurd (let f : None ≡ Some latency = h in cc)
  use_stores instr n b in_time (Some u) latency e h t c =
      let l : u.latency ≡ latency = cc in
      let test : (λ s. list_any (λ r. r == s) u.slots) ≡ may_use table instr = ap (λ (o : Option Use). λ s. option_map_or (λ (u : Use). list_any (λ r. r == s) u.slots) o false) (sym e) in
      ap (λ x. length (slots_of table u) * one_if (x && (nat_le n cycle && nat_lt cycle (k + 1 - u.latency)))) t
      ∙ ap (λ m. length (slots_of table u) * one_if (nat_le n cycle && nat_lt cycle (k + 1 - m))) l
      ∙ ap (λ x. length (slots_of table u) * one_if x) c
      ∙ ap (λ t. length (filter t (range_with_len 0 (length table.slots))) * one_if in_time) test
      ∙ ap (λ n. n * one_if in_time) (length-filter (may_use table instr) (range_with_len 0 (length table.slots)))

  in_known : (instr : InstrKind) (latency n : ℕ) (in_time : Bool) → instr_at g row ≡ Some instr → latency_of table instr ≡ Some latency → first_cycle_in s row ≡ Some n → row_is g is_store row ≡ true → (nat_le n cycle && nat_lt cycle (k + 1 - latency)) ≡ in_time → row_stores g table k s cycle row ≡ count_by (may_use table instr) (range_with_len 0 (length table.slots)) * one_if in_time
  in_known instr latency n in_time e h f t c =
      ap (in_instr (row_is g is_store row)) e
      ∙ ap (λ (o : Option ℕ). in_use o (row_is g is_store row) (use_of table instr)) f
      ∙ use_stores instr n (row_is g is_store row) in_time (use_of table instr) latency refl h t c

  pub stores_in_time : (instr : InstrKind) (latency n : ℕ) → instr_at g row ≡ Some instr → latency_of table instr ≡ Some latency → first_cycle_in s row ≡ Some n → row_is g is_store row ≡ true → (nat_le n cycle && nat_lt cycle (k + 1 - latency)) ≡ true → row_stores g table k s cycle row ≡ count_by (may_use table instr) (range_with_len 0 (length table.slots))
  stores_in_time instr latency n e h f t c =
      in_known instr latency n true e h f t c
      ∙ (let z : (n : ℕ) → n * 1 ≡ n = λ n. omega arith in z (count_by (may_use table instr) (range_with_len 0 (length table.slots))))

  pub stores_too_late : (instr : InstrKind) (latency n : ℕ) → instr_at g row ≡ Some instr → latency_of table instr ≡ Some latency → first_cycle_in s row ≡ Some n → row_is g is_store row ≡ true → (nat_le n cycle && nat_lt cycle (k + 1 - latency)) ≡ false → row_stores g table k s cycle row ≡ 0
  stores_too_late instr latency n e h f t c = in_known instr latency n false e h f t c ∙ no_times (count_by (may_use table instr) (range_with_len 0 (length table.slots)))

-- clauses of use
uses_stored : (n : ℕ) (a b : Bool) → b ≡ true → n * (one_if (a || b) + one_if b * 2) ≡ n * 3
uses_stored n true true e = refl
uses_stored n false true e = refl
uses_stored n a false e = absurd (let f : false ≡ true = e in cc)

uses_loaded : (n : ℕ) (a b : Bool) → b ≡ false → a ≡ true → n * (one_if (a || b) + one_if b * 2) ≡ n
uses_loaded n true false e h = omega arith
uses_loaded n false b e h = absurd (let f : false ≡ true = h in cc)
uses_loaded n a true e h = absurd (let f : true ≡ false = e in cc)

uses_nothing : (n : ℕ) (a b : Bool) → b ≡ false → a ≡ false → n * (one_if (a || b) + one_if b * 2) ≡ 0
uses_nothing n false false e h = omega arith
uses_nothing n true b e h = absurd (let f : true ≡ false = h in cc)
uses_nothing n a true e h = absurd (let f : true ≡ false = e in cc)

module _ (g : LaunchGraph) (table : Table) (k : ℕ) (s : Scope) (row : ℕ) where
  pub uses_of_store : row_is g is_store row ≡ true → row_count g table k s row * row_uses g row ≡ row_count g table k s row * 3
  uses_of_store e = uses_stored (row_count g table k s row) (row_is g is_load row) (row_is g is_store row) e

  pub uses_of_load : row_is g is_store row ≡ false → row_is g is_load row ≡ true → row_count g table k s row * row_uses g row ≡ row_count g table k s row
  uses_of_load e h = uses_loaded (row_count g table k s row) (row_is g is_load row) (row_is g is_store row) e h

  pub no_uses : row_is g is_store row ≡ false → row_is g is_load row ≡ false → row_count g table k s row * row_uses g row ≡ 0
  no_uses e h = uses_nothing (row_count g table k s row) (row_is g is_load row) (row_is g is_store row) e h

-- classes of memories
pub memories_are : (g : LaunchGraph) → length (memory_classes g) ≡ count_by (is_memory_class g) (range_with_len 0 (next_class g.rows))
memories_are g = length-filter (is_memory_class g) (range_with_len 0 (next_class g.rows))

one_kept : (b : ℕ → Bool) (x : ℕ) (xs : List ℕ) (p : Bool) → count_by b (cond p (x ∷ xs) xs) ≡ cond {A = ℕ} (p && b x) 1 0 + count_by b xs
one_kept b x xs true = sum_by-cons (λ y. cond {A = ℕ} (b y) 1 0) x xs
one_kept b x xs false = omega arith

count_kept : (a b : ℕ → Bool) (xs : List ℕ) → count_by b (filter a xs) ≡ count_by (λ x. a x && b x) xs
count_kept a b [] = refl
count_kept a b (x ∷ xs) =
    one_kept b x (filter a xs) (a x) ∙ ap (λ n. cond {A = ℕ} (a x && b x) 1 0 + n) (count_kept a b xs) ∙ sym (sum_by-cons (λ y. cond {A = ℕ} (a y && b y) 1 0) x xs)

pub others_are : (g : LaunchGraph) → count_by (λ c. not (c == g.entry)) (memory_classes g) ≡ count_by (λ c. is_memory_class g c && not (c == g.entry)) (range_with_len 0 (next_class g.rows))
others_are g = count_kept (is_memory_class g) (λ c. not (c == g.entry)) (range_with_len 0 (next_class g.rows))
