use Rattle.std.proofs.Common.{◌+◌, ◌<◌, ◌≤◌, ◌∙◌, ℕ, length, sym, ap, arith, Some}
use Rattle.std.specs.Prelude.{◌==◌}
use Rattle.schedule_meaning.specs.Readers.{operand_of}
use Rattle.schedule_meaning.proofs.OperandPlaces.{operate_place, operate_past}
use Rattle.schedule_meaning.proofs.operands.operate_operand.Goals as goal

pub returns-then-at-operands : goal.returns-then-at-operands
returns-then-at-operands c =
    let inside : c.args.at < length c.args.operands.now = omega arith in
    ap (λ (class : ℕ). Some (operand_of class (c.args.at + 1 == length c.args.operands.now))) c.operand_class.ensures
    ∙ sym (operate_place c.args.operands.now c.args.at inside)

pub returns : goal.returns
returns c =
    let past : length c.args.operands.now ≤ c.args.at = omega arith in
    sym (operate_past c.args.operands.now c.args.at past)
