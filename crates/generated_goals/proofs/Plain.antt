-- The five operates of chains as instructions of the table ev6.
use Rattle.std.proofs.Common.{◌≡◌, ℕ, ◌%◌, Some, Bool, true, false, refl, arith}
use Rattle.std.specs.Prelude.{◌==◌, if◌then◌else◌}
use Rattle.machine_table.specs.Tables.{MayUse, ev6, latency_of}
use Rattle.machine_table.specs.declared.tables.InstrKind.TheVariants.{Operate}
use Rattle.word_ops.specs.declared.operates.Operate.{Operate as OperateOf}
use Rattle.word_ops.specs.declared.operates.Operate.TheVariants.{Addq, Subq, Xor, Bis, S4addq}
use Rattle.generated_goals.specs.Generated.{picked}

-- it can be launched in the first slot, and takes one cycle
pub record IsPlain (op : OperateOf) : Type 0 where
  pub may : MayUse ev6 (Operate op) 0
  pub latency : latency_of ev6 (Operate op) ≡ Some 1

addq : IsPlain Addq
unfolding ev6
addq = record { may = (0, omega arith, refl); latency = refl }

subq : IsPlain Subq
unfolding ev6
subq = record { may = (0, omega arith, refl); latency = refl }

xor : IsPlain Xor
unfolding ev6
xor = record { may = (0, omega arith, refl); latency = refl }

bis : IsPlain Bis
unfolding ev6
bis = record { may = (0, omega arith, refl); latency = refl }

s4addq : IsPlain S4addq
unfolding ev6
s4addq = record { may = (0, omega arith, refl); latency = refl }

-- what holds of the five holds of each that is picked
module _ (P : OperateOf → Type 0) (a : P Addq) (b : P Subq) (c : P Xor) (d : P Bis) (e : P S4addq) where
  by_tests : (m n o p : Bool) → P (if m then Addq else if n then Subq else if o then Xor else if p then Bis else S4addq)
  by_tests true n o p = a
  by_tests false true o p = b
  by_tests false false true p = c
  by_tests false false false true = d
  by_tests false false false false = e

  pub each_picked : (n : ℕ) → P (picked n)
  each_picked n = by_tests (n % 5 == 0) (n % 5 == 1) (n % 5 == 2) (n % 5 == 3)

pub picked_is_plain : (n : ℕ) → IsPlain (picked n)
picked_is_plain n = each_picked IsPlain addq subq xor bis s4addq n
