-- Lists of launches by where they go, one more destination, cycle, slot or row at a time.
use Rattle.std.proofs.Common.{◌≡◌, ℕ, ◌+◌, ◌-◌, true, false, List, ◌∷◌, ◌++◌, [], length, Option, Some, None, refl, sym, ap, ◌∙◌}
use Rattle.std.specs.Prelude.{◌==◌, option_map}
use Rattle.std.specs.Option.{option_map_or}
use Rattle.std.specs.List.{filter, flat_map, list_any, range_with_len}
use Rattle.std.proofs.lemmas.List.{append-nil, map-id}
use Rattle.std.proofs.lemmas.List.Concat.{flat_map-append}
use Rattle.std.proofs.lemmas.List.FromFn.{map-range_with_len_more}
use Rattle.machine_table.specs.Tables.{use_of, latency_of}
use Rattle.schedule_meaning.specs.Launches.{instr_at}
use Rattle.machine_table.specs.declared.tables.Table.{Table}
use Rattle.machine_table.specs.declared.tables.Use.{Use}
use Rattle.machine_table.specs.declared.tables.InstrKind.{InstrKind}
use Rattle.graph_meaning.specs.declared.graphs.LaunchGraph.{LaunchGraph}
use Rattle.schedule_meaning.specs.declared.schedules.Launch.{Launch}
use Rattle.schedule_meaning.specs.declared.schedules.To.{To}
use Rattle.schedule_meaning.specs.declared.schedules.Allocation.{Allocation}
use Rattle.cycle_encoding.specs.Variables.{slots_of}
use Rattle.cycle_encoding.specs.Variables.{destinations, use_launches, row_launches}
use Rattle.cycle_encoding.specs.Counts.{row_destinations}
use Rattle.cycle_encoding.specs.Facts.{may_use}
use Rattle.cycle_encoding.specs.Facts.{cycle_launches, destined_slot, destined_slots}
use Rattle.cycle_encoding.proofs.Listed.{flat_more, kept_more}

range_more : (first n : ℕ) → range_with_len first (n + 1) ≡ range_with_len first n ++ ((first + n) ∷ [])
range_more first n =
    sym (map-id (range_with_len first (n + 1))) ∙ map-range_with_len_more (λ (x : ℕ). x) first n (first + n) refl
    ∙ ap (λ (xs : List ℕ). xs ++ ((first + n) ∷ [])) (map-id (range_with_len first n))

pub rows_more : (g : LaunchGraph) (table : Table) (allocation : Allocation) (k : ℕ) (firsts : ℕ → Option ℕ) (row : ℕ) → flat_map (λ row. row_launches g table allocation k (firsts row) row) (range_with_len 0 (row + 1)) ≡ flat_map (λ row. row_launches g table allocation k (firsts row) row) (range_with_len 0 row) ++ row_launches g table allocation k (firsts row) row
rows_more g table allocation k firsts row = flat_more (λ row. row_launches g table allocation k (firsts row) row) row

pub slot_more : (table : Table) (instr : InstrKind) (row first cycles : ℕ) (tos : List To) (slot : ℕ) → may_use table instr slot ≡ true → destined_slots table instr row first cycles tos (slot + 1) ≡ destined_slots table instr row first cycles tos slot ++ destined_slot row first cycles tos slot
slot_more table instr row first cycles tos slot e = kept_more (destined_slot row first cycles tos) (may_use table instr) slot true e

pub slot_left : (table : Table) (instr : InstrKind) (row first cycles : ℕ) (tos : List To) (slot : ℕ) → may_use table instr slot ≡ false → destined_slots table instr row first cycles tos (slot + 1) ≡ destined_slots table instr row first cycles tos slot
slot_left table instr row first cycles tos slot e = kept_more (destined_slot row first cycles tos) (may_use table instr) slot false e ∙ append-nil (destined_slots table instr row first cycles tos slot)

pub cycle_more : (row slot first n : ℕ) (tos : List To) → destined_slot row first (n + 1) tos slot ≡ destined_slot row first n tos slot ++ cycle_launches row slot tos (first + n)
cycle_more row slot first n tos =
    ap (flat_map (cycle_launches row slot tos)) (range_more first n)
    ∙ flat_map-append (cycle_launches row slot tos) (range_with_len first n) ((first + n) ∷ [])
    ∙ ap (λ ls. destined_slot row first n tos slot ++ ls) (append-nil (cycle_launches row slot tos (first + n)))

-- the launches of a row, by its first cycle, its instruction and its latency
module _ (g : LaunchGraph) (table : Table) (allocation : Allocation) (k : ℕ) (first : Option ℕ) (row : ℕ) where
  abbrev of_use : Option ℕ → List To → Option Use → List Launch
  of_use first tos o = option_map_or (λ u. option_map_or (λ n. use_launches table k row n tos u) first []) o []

  abbrev launches_of : Option ℕ → Option InstrKind → List Launch
  launches_of first o = option_map_or (λ i. of_use first (destinations g allocation i row) (use_of table i)) o []

  by_use : (instr : InstrKind) (n : ℕ) (tos : List To) (o : Option Use) (latency : ℕ) → use_of table instr ≡ o → option_map (λ u. u.latency) o ≡ Some latency → of_use (Some n) tos o ≡ destined_slots table instr row n (k + 1 - latency - n) tos (length table.slots)
  by_use instr n tos None latency e h = absurd (let f : None ≡ Some latency = h in cc)
  by_use instr n tos (Some u) latency e h =
      let l : u.latency ≡ latency = cc in
      let test : (λ s. list_any (λ r. r == s) u.slots) ≡ may_use table instr = ap (λ (o : Option Use). λ s. option_map_or (λ (u : Use). list_any (λ r. r == s) u.slots) o false) (sym e) in
      ap (λ m. flat_map (destined_slot row n (k + 1 - m - n) tos) (slots_of table u)) l
      ∙ ap (λ t. flat_map (destined_slot row n (k + 1 - latency - n) tos) (filter t (range_with_len 0 (length table.slots)))) test

  pub row_is : (instr : InstrKind) (latency n : ℕ) (tos : List To) → instr_at g row ≡ Some instr → latency_of table instr ≡ Some latency → first ≡ Some n → tos ≡ row_destinations g allocation row → row_launches g table allocation k first row ≡ destined_slots table instr row n (k + 1 - latency - n) tos (length table.slots)
  row_is instr latency n tos e h f d =
      let same : tos ≡ destinations g allocation instr row = d ∙ ap (λ (o : Option InstrKind). option_map_or (λ i. destinations g allocation i row) o []) e in
      ap (launches_of first) e ∙ ap (λ (o : Option ℕ). of_use o (destinations g allocation instr row) (use_of table instr)) f
      ∙ by_use instr n (destinations g allocation instr row) (use_of table instr) latency refl h
      ∙ ap (λ (ts : List To). destined_slots table instr row n (k + 1 - latency - n) ts (length table.slots)) (sym same)

  without_first : (tos : List To) (o : Option Use) → of_use None tos o ≡ []
  without_first tos None = refl
  without_first tos (Some u) = refl

  none_first : (o : Option InstrKind) → launches_of None o ≡ []
  none_first None = refl
  none_first (Some i) = without_first (destinations g allocation i row) (use_of table i)

  pub row_without_first : first ≡ None → row_launches g table allocation k first row ≡ []
  row_without_first f = ap (λ (o : Option ℕ). launches_of o (instr_at g row)) f ∙ none_first (instr_at g row)

  without_use : (tos : List To) (o : Option Use) → option_map (λ u. u.latency) o ≡ None → of_use first tos o ≡ []
  without_use tos None h = refl
  without_use tos (Some u) h = absurd (let f : Some u.latency ≡ None = h in cc)

  pub row_without_use : (instr : InstrKind) → instr_at g row ≡ Some instr → latency_of table instr ≡ None → row_launches g table allocation k first row ≡ []
  row_without_use instr e h = ap (launches_of first) e ∙ without_use (destinations g allocation instr row) (use_of table instr) h

  pub row_without_instr : instr_at g row ≡ None → row_launches g table allocation k first row ≡ []
  row_without_instr e = ap (launches_of first) e
