-- The code of each operate is in range, and a search for it finds that operate.
use Rattle.std.proofs.Common.{◌≡◌, ℕ, ◌<◌, Some, find, refl, arith}
use Rattle.word_ops.specs.declared.operates.Operate.{Operate}
use Rattle.word_ops.specs.declared.operates.Operate.TheVariants.{Addl}
use Rattle.word_ops.specs.Operates.{code_of, has_code, operates}

-- 6 bits of opcode, 7 bits of function code, and no opcode of another format
pub record IsOperateCode (code : ℕ × ℕ) : Type 0 where
  pub opcode : (15 < code.0) × (code.0 < 40)
  pub function : code.1 < 128

pub code_in_range : (op : Operate) → IsOperateCode (code_of op)
code_in_range Addl = record { opcode = (omega arith, omega arith); function = omega arith }
code_in_range _ = record { opcode = (omega arith, omega arith); function = omega arith }

pub find-own_code : (op : Operate) → find (has_code (code_of op).0 (code_of op).1) operates ≡ Some op
find-own_code Addl = refl
find-own_code _ = refl
