use Rattle.std.proofs.Common.{◌≡◌, ◌≤◌, [], ◌∷◌, sym, arith}
use Rattle.schedule_meaning.specs.Launches.{plain}
use Rattle.schedule_meaning.proofs.OperandPlaces.{first_of, second_of, past_end}
use Rattle.schedule_meaning.proofs.operands.one_of_two.Goals as goal

pub returns-then-at-eq0 : goal.returns-then-at-eq0
returns-then-at-eq0 c =
    let first : c.args.at ≡ 0 = omega arith in
    sym (first_of (plain c.args.one) (plain c.args.other ∷ []) c.args.at first)

pub returns-then-at-eq1 : goal.returns-then-at-eq1
returns-then-at-eq1 c =
    let second : c.args.at ≡ 1 = omega arith in
    sym (second_of (plain c.args.one) (plain c.args.other) [] c.args.at second)

pub returns : goal.returns
returns c =
    let past : 2 ≤ c.args.at = omega arith in
    sym (past_end (plain c.args.one ∷ plain c.args.other ∷ []) c.args.at past)
