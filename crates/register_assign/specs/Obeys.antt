-- When instructions with cycles and slots keep to a table in k cycles.
-- Source: this project, over the pipes and clusters of the Alpha 21264 Hardware Reference Manual.
use Rattle.std.specs.Prelude.{◌≡◌, ℕ, ◌+◌, ◌<◌, ◌≤◌, List, [], ◌∷◌, Option, Some, None, unwrap_or, All, AllPairs, IsTrue, Bool, slice_get, if◌then◌else◌, Contains}
use Rattle.machine_table.specs.Tables.{MayUse, latency_of, cluster_of, ready}
use Rattle.schedule_meaning.specs.Launches.{is_load, is_store}
use Rattle.alpha_encode.specs.Codes.{is_unary}
use Rattle.word_ops.specs.declared.sorts.Access.TheVariants.{Quad}
use Rattle.machine_table.specs.declared.tables.InstrKind.{InstrKind}
use Rattle.machine_table.specs.declared.tables.InstrKind.TheVariants as kinds
use Rattle.alpha_encode.specs.declared.instructions.Second.{Second}
use Rattle.alpha_encode.specs.declared.instructions.Second.TheVariants.{Reg, Literal}
use Rattle.alpha_encode.specs.declared.instructions.Instr.{Instr}
use Rattle.alpha_encode.specs.declared.instructions.Instr.TheVariants.{Operate, Lda, Ldah, Load, Store, Ldq, Stq, Beq}
use Rattle.register_assign.specs.declared.listings.Item.{Item}
use Rattle.machine_table.specs.declared.tables.Table.{Table}

-- what the instruction is on a table, where LDQ and STQ are as LDQ_U and STQ_U
abbrev pub kind_of : Instr → InstrKind
kind_of (Operate op ra second rc) = kinds.Operate op
kind_of (Lda ra rb disp) = kinds.Lda
kind_of (Ldah ra rb disp) = kinds.Ldah
kind_of (Load access ra rb disp) = kinds.Load access
kind_of (Store access ra rb disp) = kinds.Store access
kind_of (Ldq ra rb disp) = kinds.Load Quad
kind_of (Stq ra rb disp) = kinds.Store Quad
kind_of (Beq ra disp) = kinds.Beq

abbrev pub loads : Instr → Bool
loads i = is_load (kind_of i)

abbrev pub stores : Instr → Bool
stores i = is_store (kind_of i)

abbrev pub second_reads : Second → List ℕ
second_reads (Reg r) = r ∷ []
second_reads (Literal n) = []

-- the registers that an instruction reads
abbrev pub reads : Instr → List ℕ
reads (Operate op ra second rc) = if is_unary op then second_reads second else ra ∷ second_reads second
reads (Lda ra rb disp) = rb ∷ []
reads (Ldah ra rb disp) = rb ∷ []
reads (Load access ra rb disp) = rb ∷ []
reads (Store access ra rb disp) = ra ∷ rb ∷ []
reads (Ldq ra rb disp) = rb ∷ []
reads (Stq ra rb disp) = ra ∷ rb ∷ []
reads (Beq ra disp) = ra ∷ []

-- the register that it writes
abbrev pub writes : Instr → Option ℕ
writes (Operate op ra second rc) = Some rc
writes (Lda ra rb disp) = Some ra
writes (Ldah ra rb disp) = Some ra
writes (Load access ra rb disp) = Some ra
writes (Ldq ra rb disp) = Some ra
writes _ = None

abbrev pub latency_in : Table → Instr → ℕ
latency_in table i = unwrap_or (latency_of table (kind_of i)) 0

-- the cycle from which what the item writes is seen in a cluster
abbrev pub ready_from : Table → Item → ℕ → ℕ
ready_from table item cluster = ready table item.cycle item.slot (kind_of item.instr) cluster

-- of the items before place i, m is the last that writes the register
pub record IsLastWriter (items : List Item) (i r : ℕ) (m : Item) : Type 0 where
  pub place : ℕ
  pub earlier : place < i
  pub there : slice_get items place ≡ Some m
  pub writes_it : writes m.instr ≡ Some r
  pub last : (j : ℕ) (n : Item) → place < j → j < i → slice_get items j ≡ Some n → ¬ (writes n.instr ≡ Some r)

-- what the item at place i reads is register 31, or was never written, or is ready
abbrev pub HasOperands : Table → List Item → ℕ → Item → Type 0
HasOperands table items i item =
    (r : ℕ) (m : Item) → Contains (reads item.instr) r → ¬ (r ≡ 31) → IsLastWriter items i r m →
    ready_from table m (cluster_of table item.slot) ≤ item.cycle

pub record Obeys (table : Table) (k : ℕ) (items : List Item) : Type 0 where
  pub rising : AllPairs (λ a b. a.cycle ≤ b.cycle) items
  pub below : All (λ a. a.cycle < k) items
  pub in_time : All (λ a. a.cycle + latency_in table a.instr ≤ k) items
  pub slots : All (λ a. MayUse table (kind_of a.instr) a.slot) items
  pub apart : AllPairs (λ a b. ¬ ((a.cycle ≡ b.cycle) × (a.slot ≡ b.slot))) items
  pub operands : (i : ℕ) (item : Item) → slice_get items i ≡ Some item → HasOperands table items i item
  pub one_store : AllPairs (λ a b. IsTrue (stores a.instr) → IsTrue (stores b.instr) → ¬ (a.cycle ≡ b.cycle)) items
