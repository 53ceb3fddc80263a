-- Sums and counts over numbers, one more at a time.
use Rattle.std.proofs.Common.{◌≡◌, ℕ, ◌+◌, ◌-◌, ◌*◌, Bool, false, cond, ◌∷◌, [], length, Option, Some, None, refl, sym, ap, ◌∙◌, arith}
use Rattle.std.specs.Prelude.{◌&&◌, ◌==◌, nat_le, nat_lt, option_map, option_and_then}
use Rattle.std.specs.Option.{option_map_or}
use Rattle.std.specs.List.{count_by, sum_by, filter, list_any, range_with_len}
use Rattle.std.proofs.lemmas.List.Sums.{sum_by-append, sum_by-cons, length-filter}
use Rattle.machine_table.specs.Tables.{use_of, latency_of}
use Rattle.schedule_meaning.specs.Launches.{instr_at}
use Rattle.machine_table.specs.declared.tables.Table.{Table}
use Rattle.machine_table.specs.declared.tables.Use.{Use}
use Rattle.machine_table.specs.declared.tables.InstrKind.{InstrKind}
use Rattle.graph_meaning.specs.declared.graphs.LaunchGraph.{LaunchGraph}
use Rattle.cycle_encoding.specs.Variables.{slots_of}
use Rattle.cycle_encoding.specs.CycleFormula.{Scope, first_cycle_in}
use Rattle.cycle_encoding.specs.Facts.{may_use}
use Rattle.cycle_encoding.specs.Counts.{row_use, row_count, row_has, cycles_of, can_begin}
use Rattle.cycle_encoding.proofs.Rows.{range_more}

pub sum_more : (f : ℕ → ℕ) (n : ℕ) → sum_by f (range_with_len 0 (n + 1)) ≡ sum_by f (range_with_len 0 n) + f n
sum_more f n =
    let a = ap (sum_by f) (range_more n) ∙ sum_by-append f (range_with_len 0 n) (n ∷ []) in
    let b = sum_by-cons f n [] in
    let z : sum_by f [] ≡ 0 = refl in
    omega arith

pub count_more : (test : ℕ → Bool) (n : ℕ) → count_by test (range_with_len 0 (n + 1)) ≡ count_by test (range_with_len 0 n) + cond {A = ℕ} (test n) 1 0
count_more test n = sum_more (λ m. cond {A = ℕ} (test m) 1 0) n

-- a row's launches, by its instruction, latency and first cycle
module _ (g : LaunchGraph) (table : Table) (k : ℕ) (s : Scope) (row : ℕ) where
  abbrev use_count : Option ℕ → Option Use → ℕ
  use_count first o = option_map_or (λ u. option_map_or (λ n. length (slots_of table u) * cycles_of k n u) first 0) o 0

  abbrev count_of : Option ℕ → Option InstrKind → ℕ
  count_of first o = use_count first (option_and_then (use_of table) o)

  count_known : (instr : InstrKind) (n : ℕ) (o : Option Use) (latency : ℕ) → use_of table instr ≡ o → option_map (λ u. u.latency) o ≡ Some latency → use_count (Some n) o ≡ count_by (may_use table instr) (range_with_len 0 (length table.slots)) * (k + 1 - latency - n)
  count_known instr n None latency e h = absurd (let f : None ≡ Some latency = h in cc)
  count_known instr n (Some u) latency e h =
      let l : u.latency ≡ latency = cc in
      let test : (λ s. list_any (λ r. r == s) u.slots) ≡ may_use table instr = ap (λ (o : Option Use). λ s. option_map_or (λ (u : Use). list_any (λ r. r == s) u.slots) o false) (sym e) in
      ap (λ m. length (slots_of table u) * (k + 1 - m - n)) l
      ∙ ap (λ t. length (filter t (range_with_len 0 (length table.slots))) * (k + 1 - latency - n)) test
      ∙ ap (λ m. m * (k + 1 - latency - n)) (length-filter (may_use table instr) (range_with_len 0 (length table.slots)))

  pub count_is : (instr : InstrKind) (latency n : ℕ) → instr_at g row ≡ Some instr → latency_of table instr ≡ Some latency → first_cycle_in s row ≡ Some n → row_count g table k s row ≡ count_by (may_use table instr) (range_with_len 0 (length table.slots)) * (k + 1 - latency - n)
  count_is instr latency n e h f = ap (count_of (first_cycle_in s row)) e ∙ ap (λ (o : Option ℕ). use_count o (use_of table instr)) f ∙ count_known instr n (use_of table instr) latency refl h

  no_first : (o : Option Use) → use_count None o ≡ 0
  no_first None = refl
  no_first (Some u) = refl

  pub count_without_first : first_cycle_in s row ≡ None → row_count g table k s row ≡ 0
  count_without_first f = ap (λ (o : Option ℕ). use_count o (row_use g table row)) f ∙ no_first (row_use g table row)

  no_use : (o : Option Use) → option_map (λ u. u.latency) o ≡ None → use_count (first_cycle_in s row) o ≡ 0
  no_use None h = refl
  no_use (Some u) h = absurd (let f : Some u.latency ≡ None = h in cc)

  pub count_without_use : (instr : InstrKind) → instr_at g row ≡ Some instr → latency_of table instr ≡ None → row_count g table k s row ≡ 0
  count_without_use instr e h = ap (count_of (first_cycle_in s row)) e ∙ no_use (use_of table instr) h

  pub count_without_instr : instr_at g row ≡ None → row_count g table k s row ≡ 0
  count_without_instr e = ap (count_of (first_cycle_in s row)) e

  module _ (slot cycle : ℕ) where
    abbrev use_has : Option ℕ → Option Use → Bool
    use_has first o = option_map_or (λ u. option_map_or (λ n. list_any (λ r. r == slot) u.slots && can_begin k n u cycle) first false) o false

    abbrev has_of : Option ℕ → Option InstrKind → Bool
    has_of first o = use_has first (option_and_then (use_of table) o)

    has_known : (instr : InstrKind) (n : ℕ) (o : Option Use) (latency : ℕ) → use_of table instr ≡ o → option_map (λ u. u.latency) o ≡ Some latency → use_has (Some n) o ≡ (may_use table instr slot && (nat_le n cycle && nat_lt cycle (k + 1 - latency)))
    has_known instr n None latency e h = absurd (let f : None ≡ Some latency = h in cc)
    has_known instr n (Some u) latency e h =
        let l : u.latency ≡ latency = cc in
        ap (λ m. list_any (λ r. r == slot) u.slots && (nat_le n cycle && nat_lt cycle (k + 1 - m))) l
        ∙ ap (λ (o : Option Use). option_map_or (λ (u : Use). list_any (λ r. r == slot) u.slots) o false && (nat_le n cycle && nat_lt cycle (k + 1 - latency))) (sym e)

    pub has_is : (instr : InstrKind) (latency n : ℕ) → instr_at g row ≡ Some instr → latency_of table instr ≡ Some latency → first_cycle_in s row ≡ Some n → row_has g table k s slot cycle row ≡ (may_use table instr slot && (nat_le n cycle && nat_lt cycle (k + 1 - latency)))
    has_is instr latency n e h f = ap (has_of (first_cycle_in s row)) e ∙ ap (λ (o : Option ℕ). use_has o (use_of table instr)) f ∙ has_known instr n (use_of table instr) latency refl h

    has_no_first : (o : Option Use) → use_has None o ≡ false
    has_no_first None = refl
    has_no_first (Some u) = refl

    pub has_without_first : first_cycle_in s row ≡ None → row_has g table k s slot cycle row ≡ false
    has_without_first f = ap (λ (o : Option ℕ). use_has o (row_use g table row)) f ∙ has_no_first (row_use g table row)

    has_none : (o : Option Use) → option_map (λ u. u.latency) o ≡ None → use_has (first_cycle_in s row) o ≡ false
    has_none None h = refl
    has_none (Some u) h = absurd (let f : Some u.latency ≡ None = h in cc)

    pub has_without_use : (instr : InstrKind) → instr_at g row ≡ Some instr → latency_of table instr ≡ None → row_has g table k s slot cycle row ≡ false
    has_without_use instr e h = ap (has_of (first_cycle_in s row)) e ∙ has_none (use_of table instr) h

    pub has_without_instr : instr_at g row ≡ None → row_has g table k s slot cycle row ≡ false
    has_without_instr e = ap (has_of (first_cycle_in s row)) e
