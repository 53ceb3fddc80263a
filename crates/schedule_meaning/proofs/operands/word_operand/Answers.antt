use Rattle.std.proofs.Common.{◌≡◌, ◌∙◌, ◌∷◌, [], List, sym, ap, true, false, rules}
use Rattle.std.specs.Prelude.{is_some, slice_get}
use Rattle.machine_table.specs.InstrOrder.{operate_kind}
use Rattle.schedule_meaning.specs.Readers.{operand_of}
use Rattle.schedule_meaning.specs.declared.schedules.Operand.{Operand}
use Rattle.schedule_meaning.proofs.OperandPlaces.{of_operate, of_address}
use Rattle.schedule_meaning.proofs.operands.word_operand.Goals as goal

pub returns-then-is_some : goal.returns-then-is_some
returns-then-is_some c =
    let kind : is_some (operate_kind c.args.op) ≡ true = search rules in
    c.operate_operand.ensures
    ∙ sym (ap (λ (os : List Operand). slice_get os c.args.at) (of_operate c.args.op c.args.operands.now kind))

pub returns : goal.returns
returns c =
    let kind : is_some (operate_kind c.args.op) ≡ false = search rules in
    c.only_operand.ensures
    ∙ ap (λ class. slice_get (operand_of class false ∷ []) c.args.at) c.operand_class.ensures
    ∙ sym (ap (λ (os : List Operand). slice_get os c.args.at) (of_address c.args.op c.args.operands.now kind))
