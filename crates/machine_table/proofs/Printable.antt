-- What a table within the limits prints is made of names and of words, and is three lists deep.
use Rattle.std.proofs.Common.{ℕ, zero, suc, ◌<◌, ◌≤◌, List, [], ◌∷◌, length, map, refl, arith}
use Rattle.std.specs.Prelude.{All, slice_index_or}
use Rattle.std.proofs.lemmas.List.Elements.{All-head, All-tail}
use Rattle.forms.specs.Printing.{Plain, plains_from, CanPrint, CanPrintAll, levels, most_levels}
use Rattle.machine_table.specs.Printing.{slot_plain, slot_name_plain, use_plain, table_plain}
use Rattle.machine_table.specs.Tables.{IsTable, IsUse}
use Rattle.machine_table.specs.declared.tables.Slot.{Slot}
use Rattle.machine_table.specs.declared.tables.Table.{Table}
use Rattle.machine_table.specs.declared.tables.Use.{Use}
use Rattle.machine_table.proofs.Named.{is_named}
use Rattle.text_core.specs.Names.{IsName}

each_prints : {X : Type 0} (f : X → Plain) (P : X → Type 0) (xs : List X) → ((x : X) → P x → CanPrint (f x)) → All P xs → CanPrintAll (plains_from (map f xs))
each_prints f P [] one h = tt
each_prints f P (x ∷ xs) one h = (one x (All-head P x xs h), each_prints f P xs one (All-tail P x xs h))

each_level : {X : Type 0} (f : X → Plain) (n : ℕ) (xs : List X) → ((x : X) → levels (f x) ≤ n) → most_levels (plains_from (map f xs)) ≤ n
each_level f n [] one = omega arith
each_level f n (x ∷ xs) one = let a = one x in let b = each_level f n xs one in omega (arith, a, b)

abbrev Named : Slot → Type 0
Named slot = IsName slot.name

name_at : (slots : List Slot) (at : ℕ) → All Named slots → at < length slots → IsName (slice_index_or (map (λ (s : Slot). s.name) slots) at [])
name_at [] at h l = absurd (omega arith)
name_at (s ∷ ss) zero h l = All-head Named s ss h
name_at (s ∷ ss) (suc at) h l = name_at ss at (All-tail Named s ss h) (omega arith)

slot_prints : (s : Slot) → (s.cluster ≤ 3) × Named s → CanPrint (slot_plain s)
slot_prints s h = (h.1, (omega (arith, h.0), tt))

both : {X : Type 0} (P Q : X → Type 0) (xs : List X) → All P xs → All Q xs → All (λ x. P x × Q x) xs
both P Q xs p q k d l = (p k d l, q k d l)

use_prints : (table : Table) (u : Use) → All Named table.slots → IsUse table u → CanPrint (use_plain table u)
use_prints table u named h =
    let latency = h.latency.1 in
    (record { begins = refl; each = refl }, (omega (arith, latency), (each_prints (slot_name_plain table) (λ s. s < length table.slots) u.slots (λ s l. name_at table.slots s named l) h.exist, (is_named u.instr, tt))))

pub table_prints : (table : Table) → IsTable table → All Named table.slots → CanPrint (table_plain table)
table_prints table t named =
    let cross = t.cross in (
      record { begins = refl; each = refl },
      (
        (record { begins = refl; each = refl }, each_prints slot_plain (λ s. (s.cluster ≤ 3) × Named s) table.slots slot_prints (both (λ s. s.cluster ≤ 3) Named table.slots t.clusters named)),
        (
          (record { begins = refl; each = refl }, (omega (arith, cross), tt)),
          each_prints (use_plain table) (IsUse table) table.uses (λ u h. use_prints table u named h) t.uses,
        ),
      ),
    )

slot_level : (s : Slot) → levels (slot_plain s) ≤ 1
slot_level s = omega arith

use_level : (table : Table) (u : Use) → levels (use_plain table u) ≤ 2
use_level table u = let a = each_level (slot_name_plain table) 0 u.slots (λ s. omega arith) in omega (arith, a)

pub table_level : (table : Table) → levels (table_plain table) ≤ 3
table_level table =
    let slots = each_level slot_plain 1 table.slots slot_level in
    let uses = each_level (use_plain table) 2 table.uses (use_level table) in
    omega (arith, slots, uses)
