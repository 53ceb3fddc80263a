-- Worked procs, and listings of their blocks.
-- Source: this project.
use Rattle.std.specs.Prelude.{ℕ, pos, List, [], ◌∷◌, None, Some, true, codes}
use Rattle.std.specs.FinMap.{empty}
use Rattle.word_ops.specs.Memory.{Memory, put_word}
use Rattle.word_ops.specs.declared.sorts.Access.TheVariants.{Quad}
use Rattle.word_ops.specs.declared.operates.Operate.TheVariants as operates
use Rattle.word_ops.specs.declared.operators.WordOp.{WordOp}
use Rattle.word_ops.specs.declared.operators.WordOp.TheVariants as ops
use Rattle.word_ops.specs.declared.sorts.Op.{Op}
use Rattle.word_ops.specs.declared.sorts.Op.TheVariants as op
use Rattle.word_terms.specs.Tree.{Tree, application, operands_of}
use Rattle.alpha_encode.specs.declared.instructions.Instr.{Instr}
use Rattle.alpha_encode.specs.declared.instructions.Instr.TheVariants.{Operate, Load, Store, Beq}
use Rattle.alpha_encode.specs.declared.instructions.Second.TheVariants.{Reg, Literal}
use Rattle.alpha_machine.specs.States.{MachineState}
use Rattle.goal_meaning.specs.Views.{TargetTree}
use Rattle.goal_meaning.specs.declared.goals.InputReg.{InputReg}
use Rattle.machine_table.specs.Tables.{ev6}
use Rattle.proc_goal.specs.Views.{BlockTree, ProcTree}
use Rattle.proc_goal.specs.declared.procs.Target.TheVariants.{Block, Done}

abbrev pub variable : List ℕ → ℕ → InputReg
variable name reg = record { name = name; reg = reg }

abbrev pub in_register : ℕ → Tree Op
in_register r = application (op.Input r) (operands_of [])

abbrev pub of_two : WordOp → Tree Op → Tree Op → Tree Op
of_two o t u = application (op.Word o) (operands_of (t ∷ u ∷ []))

abbrev pub plus : Tree Op → ℕ → Tree Op
plus t n = of_two (ops.Operate operates.Addq) t (application (op.Constant n) (operands_of []))

abbrev pub pinned : List ℕ → ℕ → Tree Op → TargetTree
pinned name reg t = record { name = name; value = t; pin = Some reg }

-- (block a (set p (addq p 1)) (go done)), p in $16
abbrev pub step_block : BlockTree
step_block = record { name = codes "a"; when = None; sets = pinned (codes "p") 16 (plus (in_register 16) 1) ∷ []; go = Done }

abbrev pub step_listing : List Instr
step_listing = Operate operates.Addq 16 (Literal 1) 16 ∷ []

abbrev pub worked_proc : List InputReg → BlockTree → ProcTree
worked_proc vars block = record {
  table = ev6;
  builtin = true;
  name = codes "work";
  vars = vars;
  pool = 0 ∷ 1 ∷ [];
  blocks = block ∷ [];
}

-- (block top (when (cmpult p r) done) (set M (store M q (select M p))) (set p (addq p 8)) (set q (addq q 8)) (go top)),
-- p, q and r in $16, $17 and $18
abbrev pub copy_block : BlockTree
copy_block = record {
  name = codes "top";
  when = Some (record { guard = of_two (ops.Operate operates.Cmpult) (in_register 16) (in_register 18); other = Done });
  sets = record {
    name = codes "M";
    value = application (op.Store Quad)
        (operands_of (application op.Entry (operands_of []) ∷ in_register 17
        ∷ application (op.Select Quad) (operands_of (application op.Entry (operands_of []) ∷ in_register 16 ∷ [])) ∷ []));
    pin = None;
  }
      ∷ pinned (codes "p") 16 (plus (in_register 16) 8) ∷ pinned (codes "q") 17 (plus (in_register 17) 8) ∷ [];
  go = Block 0;
}

abbrev pub copy_proc : ProcTree
copy_proc = worked_proc (variable (codes "p") 16 ∷ variable (codes "q") 17 ∷ variable (codes "r") 18 ∷ []) copy_block

abbrev pub copy_listing : List Instr
copy_listing =
    Operate operates.Cmpult 16 (Reg 18) 0 ∷ Beq 0 (pos 5) ∷ Load Quad 1 16 (pos 0)
    ∷ Operate operates.Addq 16 (Literal 8) 16 ∷ Store Quad 1 17 (pos 0) ∷ Operate operates.Addq 17 (Literal 8) 17 ∷ []

-- p, q and r are 64, 128 and 80, and the memory has 9 at 64 and 5 at 72
abbrev pub copy_memory : Memory
copy_memory = put_word (put_word empty 8 9) 9 5

abbrev pub with_registers : ℕ → ℕ → ℕ → Memory → MachineState
with_registers p q r memory = record {
  registers = 0 ∷ 0 ∷ 0 ∷ 0 ∷ 0 ∷ 0 ∷ 0 ∷ 0 ∷ 0 ∷ 0 ∷ 0 ∷ 0 ∷ 0 ∷ 0 ∷ 0 ∷ 0 ∷ p ∷ q ∷ r ∷ 0 ∷ 0 ∷ 0 ∷ 0 ∷ 0 ∷ 0 ∷ 0 ∷ 0
      ∷ 0 ∷ 0 ∷ 0 ∷ 0 ∷ 0 ∷ [];
  memory = memory;
  pc = 0;
}

-- (block swap (set p q) (set q p) (go done))
abbrev pub exchange_proc : ProcTree
exchange_proc =
    worked_proc (variable (codes "p") 16 ∷ variable (codes "q") 17 ∷ [])
    (record {
      name = codes "swap";
      when = None;
      sets = pinned (codes "p") 16 (in_register 17) ∷ pinned (codes "q") 17 (in_register 16) ∷ [];
      go = Done;
    })
