use Rattle.std.proofs.Common.{◌≡◌, ◌≤◌, [], ◌∷◌, sym, arith}
use Rattle.schedule_meaning.specs.Readers.{operand_of}
use Rattle.schedule_meaning.proofs.OperandPlaces.{first_of, past_end}
use Rattle.schedule_meaning.proofs.operands.only_operand.Goals as goal

pub returns-then-at-eq0 : goal.returns-then-at-eq0
returns-then-at-eq0 c =
    let first : c.args.at ≡ 0 = omega arith in
    sym (first_of (operand_of c.args.class c.args.second) [] c.args.at first)

pub returns : goal.returns
returns c =
    let past : 1 ≤ c.args.at = omega arith in
    sym (past_end (operand_of c.args.class c.args.second ∷ []) c.args.at past)
