-- The table of the Alpha 21264 is within the limits, decided by computing.
use Rattle.std.proofs.Common.{◌≢◌, ◌<◌, ◌≤◌, length, refl, arith}
use Rattle.std.specs.Prelude.{All, AllPairs, bytes_eq}
use Rattle.std.proofs.lemmas.Slice.Eq.{bytes_eq-Decides}
use Rattle.machine_table.specs.InstrOrder.{kind_number}
use Rattle.machine_table.specs.Tables.{IsTable, IsUse, ev6}
use Rattle.machine_table.specs.declared.tables.Table.{Table}
use Rattle.machine_table.specs.declared.tables.Use.{Use}
use Rattle.machine_table.proofs.Decide.{Dec, dec_by, dec_map, dec_nat, dec_lt, dec_le, dec_and, dec_not, dec_all, dec_pairs, sure}

module _ (table : Table) where
  abbrev pub dec_use : (u : Use) → Dec (IsUse table u)
  dec_use u =
      dec_map
      (λ h. record { latency = h.0; some = h.1.0; exist = h.1.1.0; once = h.1.1.1 })
      (λ n h. n (h.latency, (h.some, (h.exist, h.once))))
      (dec_and (dec_and (dec_le 1 u.latency) (dec_le u.latency 16))
      (dec_and (dec_lt 0 (length u.slots))
      (dec_and (dec_all (λ s. s < length table.slots) (λ s. dec_lt s (length table.slots)) u.slots)
      (dec_pairs (λ s r. s ≢ r) (λ s r. dec_not (dec_nat s r)) u.slots))))

  abbrev pub dec_uses : Dec (All (IsUse table) table.uses)
  dec_uses = dec_all (IsUse table) dec_use table.uses

  abbrev pub dec_order : Dec (AllPairs (λ u v. kind_number u.instr < kind_number v.instr) table.uses)
  dec_order = dec_pairs (λ u v. kind_number u.instr < kind_number v.instr) (λ u v. dec_lt (kind_number u.instr) (kind_number v.instr)) table.uses

  abbrev pub dec_names : Dec (AllPairs (λ s r. s.name ≢ r.name) table.slots)
  dec_names = dec_pairs (λ s r. s.name ≢ r.name) (λ s r. dec_not (dec_by (bytes_eq s.name r.name) (bytes_eq-Decides s.name r.name))) table.slots

  abbrev pub dec_clusters : Dec (All (λ s. s.cluster ≤ 3) table.slots)
  dec_clusters = dec_all (λ s. s.cluster ≤ 3) (λ s. dec_le s.cluster 3) table.slots

pub ev6_is_table : IsTable ev6
unfolding ev6
ev6_is_table = record {
  slots = (omega arith, omega arith);
  clusters = sure (dec_clusters ev6) refl;
  names = sure (dec_names ev6) refl;
  cross = omega arith;
  uses = sure (dec_uses ev6) refl;
  order = sure (dec_order ev6) refl;
}
