use Rattle.std.proofs.Common.{◌≡◌, ◌∙◌, List, length, sym, ap, true, false, rules}
use Rattle.std.specs.Prelude.{is_some}
use Rattle.machine_table.specs.InstrOrder.{operate_kind}
use Rattle.schedule_meaning.specs.declared.schedules.Operand.{Operand}
use Rattle.schedule_meaning.proofs.OperandPlaces.{of_operate, of_address, operate_count}
use Rattle.schedule_meaning.proofs.operands.word_operand_count.Goals as goal

pub returns-then-is_some : goal.returns-then-is_some
returns-then-is_some c =
    let kind : is_some (operate_kind c.args.op) ≡ true = search rules in
    sym (ap (λ (os : List Operand). length os) (of_operate c.args.op c.args.operands.now kind) ∙ operate_count c.args.operands.now)

pub returns : goal.returns
returns c =
    let kind : is_some (operate_kind c.args.op) ≡ false = search rules in
    sym (ap (λ (os : List Operand). length os) (of_address c.args.op c.args.operands.now kind))
