-- A table of slots and latencies, and when a value is ready in a cluster; the table `ev6`. Source: Alpha 21264 Hardware
-- Reference Manual, "Instruction Issue Rules", for the four integer pipes in two clusters with a delay between them;
-- which instructions go where and how long they take in `ev6` is this project's profile.
use Rattle.std.specs.Prelude.{ℕ, ◌+◌, ◌<◌, ◌≤◌, ◌≢◌, List, [], ◌∷◌, ◌++◌, map, length, slice_index, Option, find, ◌==◌, option_map, unwrap_or, IsSomeAnd, Contains, All, AllPairs, if◌then◌else◌, codes}
use Rattle.word_ops.specs.declared.operates.Operate.{Operate}
use Rattle.word_ops.specs.declared.operates.Pipes.{Pipes}
use Rattle.word_ops.specs.declared.operates.Pipes.TheVariants.{Any, Shifters, Multiplier}
use Rattle.word_ops.specs.declared.sorts.Access.TheVariants.{Quad, Byte, Word, Long}
use Rattle.word_ops.specs.Operates.{operates, row_of}
use Rattle.machine_table.specs.InstrOrder.{kind_number}
use Rattle.machine_table.specs.declared.tables.InstrKind.{InstrKind}
use Rattle.machine_table.specs.declared.tables.InstrKind.TheVariants as kinds
use Rattle.machine_table.specs.declared.tables.Slot.{Slot}
use Rattle.machine_table.specs.declared.tables.Use.{Use}
use Rattle.machine_table.specs.declared.tables.Table.{Table}

-- what the table says of an instruction, if it names it
abbrev pub use_of : Table → InstrKind → Option Use
use_of table instr = find (λ u. kind_number u.instr == kind_number instr) table.uses

abbrev pub latency_of : Table → InstrKind → Option ℕ
latency_of table instr = option_map (λ u. u.latency) (use_of table instr)

-- the table allows the slot for the instruction
abbrev pub MayUse : Table → InstrKind → ℕ → Type 0
MayUse table instr slot = IsSomeAnd (use_of table instr) (λ u. Contains u.slots slot)

abbrev pub cluster_of : Table → ℕ → ℕ
cluster_of table slot = slice_index (map (λ s. s.cluster) table.slots) slot

-- the cycle from which a value that the instruction makes in this slot is seen in a cluster
abbrev pub ready : Table → ℕ → ℕ → InstrKind → ℕ → ℕ
ready table cycle slot instr cluster =
    cycle + unwrap_or (latency_of table instr) 0 + (if cluster_of table slot == cluster then 0 else table.cross)

-- One use of a table, within the limits: at least one slot, each of which exists and stands once.
pub record IsUse (table : Table) (u : Use) : Type 0 where
  pub latency : (1 ≤ u.latency) × (u.latency ≤ 16)
  pub some : 0 < length u.slots
  pub exist : All (λ s. s < length table.slots) u.slots
  pub once : AllPairs (λ s r. s ≢ r) u.slots

-- A table within the limits: its slots have different names, and its uses stand in the order of the instructions, so
-- that each instruction has one at most.
pub record IsTable (table : Table) : Type 0 where
  pub slots : (1 ≤ length table.slots) × (length table.slots ≤ 8)
  pub clusters : All (λ s. s.cluster ≤ 3) table.slots
  pub names : AllPairs (λ s r. s.name ≢ r.name) table.slots
  pub cross : table.cross ≤ 4
  pub uses : All (IsUse table) table.uses
  pub order : AllPairs (λ u v. kind_number u.instr < kind_number v.instr) table.uses

-- ---- the table ev6

abbrev pub slot_of : List ℕ → ℕ → Slot
slot_of name cluster = record { name = name; cluster = cluster }

-- uses of one latency and the same slots
abbrev pub uses_of : ℕ → List ℕ → List InstrKind → List Use
uses_of latency slots instrs = map (λ instr. record { instr = instr; latency = latency; slots = slots }) instrs

-- the upper slots are 0 and 1, the lower ones 2 and 3; slot 1 alone multiplies
abbrev pub pipe_slots : Pipes → List ℕ
pipe_slots Any = 0 ∷ 1 ∷ 2 ∷ 3 ∷ []
pipe_slots Shifters = 0 ∷ 1 ∷ []
pipe_slots Multiplier = 1 ∷ []

abbrev pub pipe_latency : Pipes → ℕ
pipe_latency Multiplier = 7
pipe_latency _ = 1

abbrev pub operate_use : Operate → Use
operate_use operate = record {
  instr = kinds.Operate operate;
  latency = pipe_latency (row_of operate).pipes;
  slots = pipe_slots (row_of operate).pipes;
}

unfoldable pub ev6 : Table
ev6 = record {
  slots = slot_of (codes "U0") 0 ∷ slot_of (codes "U1") 1 ∷ slot_of (codes "L0") 0 ∷ slot_of (codes "L1") 1 ∷ [];
  cross = 1;
  uses = map operate_use operates
      ++ uses_of 1 (0 ∷ 1 ∷ 2 ∷ 3 ∷ []) (kinds.Lda ∷ kinds.Ldah ∷ [])
      ++ uses_of 3 (2 ∷ 3 ∷ []) (kinds.Load Quad ∷ [])
      ++ uses_of 1 (2 ∷ 3 ∷ []) (kinds.Store Quad ∷ [])
      ++ uses_of 3 (2 ∷ 3 ∷ []) (kinds.Load Byte ∷ kinds.Load Word ∷ kinds.Load Long ∷ [])
      ++ uses_of 1 (2 ∷ 3 ∷ []) (kinds.Store Byte ∷ kinds.Store Word ∷ kinds.Store Long ∷ [])
      ++ uses_of 1 (0 ∷ 1 ∷ []) (kinds.Beq ∷ []);
}
