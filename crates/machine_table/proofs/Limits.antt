-- What a table within the limits says of a slot that may be used.
use Rattle.std.proofs.Common.{◌≡◌, ℕ, zero, suc, ◌<◌, ◌≤◌, List, [], ◌∷◌, length, map, refl, subst, arith, Bool, true, false, cond, Option, Some, None}
use Rattle.std.specs.Prelude.{All, Contains, IsSomeAnd, find, unwrap_or, option_map, slice_index, ◌==◌}
use Rattle.std.proofs.lemmas.List.Elements.{All-head, All-tail, All-contains}
use Rattle.std.proofs.lemmas.Option.{same_Some, none-some}
use Rattle.machine_table.specs.InstrOrder.{kind_number}
use Rattle.machine_table.specs.Tables.{use_of, latency_of, MayUse, IsTable, IsUse, cluster_of}
use Rattle.machine_table.specs.declared.tables.InstrKind.{InstrKind}
use Rattle.machine_table.specs.declared.tables.Slot.{Slot}
use Rattle.machine_table.specs.declared.tables.Table.{Table}
use Rattle.machine_table.specs.declared.tables.Use.{Use}

found_in : {X : Type 0} (p : X → Bool) (P : X → Type 0) (xs : List X) (x : X) → All P xs → find p xs ≡ Some x → P x
found_in p P [] x h e = absurd (none-some x e)
found_in p P (y ∷ ys) x h e = found_step (p y) e (found_in p P ys x (All-tail P y ys h))
  where
    found_step : (b : Bool) → cond b (Some y) (find p ys) ≡ Some x → (find p ys ≡ Some x → P x) → P x
    found_step true e rest = subst P (same_Some y x e) (All-head P y ys h)
    found_step false e rest = rest e

use_kept : (table : Table) (instr : InstrKind) (u : Use) → IsTable table → use_of table instr ≡ Some u → IsUse table u
use_kept table instr u t e = found_in (λ u. kind_number u.instr == kind_number instr) (IsUse table) table.uses u t.uses e

latency_step : (o : Option Use) (slot : ℕ) → ((u : Use) → o ≡ Some u → (1 ≤ u.latency) × (u.latency ≤ 16)) → IsSomeAnd o (λ u. Contains u.slots slot) → (1 ≤ unwrap_or (option_map (λ u. u.latency) o) 0) × (unwrap_or (option_map (λ u. u.latency) o) 0 ≤ 16)
latency_step None slot h may = absurd may
latency_step (Some u) slot h may = h u refl

pub latency_kept : (table : Table) (instr : InstrKind) (slot : ℕ) → IsTable table → MayUse table instr slot → (1 ≤ unwrap_or (latency_of table instr) 0) × (unwrap_or (latency_of table instr) 0 ≤ 16)
latency_kept table instr slot t may = latency_step (use_of table instr) slot (λ u e. (use_kept table instr u t e).latency) may

slot_step : (table : Table) (o : Option Use) (slot : ℕ) → ((u : Use) → o ≡ Some u → All (λ s. s < length table.slots) u.slots) → IsSomeAnd o (λ u. Contains u.slots slot) → slot < length table.slots
slot_step table None slot h may = absurd may
slot_step table (Some u) slot h may = All-contains (λ s. s < length table.slots) u.slots slot (h u refl) may

pub slot_kept : (table : Table) (instr : InstrKind) (slot : ℕ) → IsTable table → MayUse table instr slot → slot < length table.slots
slot_kept table instr slot t may = slot_step table (use_of table instr) slot (λ u e. (use_kept table instr u t e).exist) may

cluster_at : (slots : List Slot) (slot : ℕ) → All (λ s. s.cluster ≤ 3) slots → slot < length slots → slice_index (map (λ s. s.cluster) slots) slot ≤ 3
cluster_at [] slot h l = absurd (omega arith)
cluster_at (s ∷ ss) zero h l = All-head (λ (s : Slot). s.cluster ≤ 3) s ss h
cluster_at (s ∷ ss) (suc slot) h l = cluster_at ss slot (All-tail (λ (s : Slot). s.cluster ≤ 3) s ss h) (omega arith)

pub cluster_kept : (table : Table) (slot : ℕ) → IsTable table → slot < length table.slots → cluster_of table slot ≤ 3
cluster_kept table slot t l = cluster_at table.slots slot t.clusters l
