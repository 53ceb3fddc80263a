use Rattle.std.proofs.Common.{◌∙◌, sym, inl, inr, arith}
use Rattle.std.specs.Prelude.{nat_le}
use Rattle.std.proofs.lemmas.Bool.{and_cases, and_parts, leb-false, leb-true}
use Rattle.slot_capacity.proofs.ClauseSteps.{own-none, own-some}
use Rattle.slot_capacity.proofs.LaunchedVars.{cycles-size}
use Rattle.slot_capacity.proofs.clauses.own_var.Goals as goal

pub returns-then-not-has_cycle : goal.returns-then-not-has_cycle
returns-then-not-has_cycle c =
    let x = c.args.one in
    own-none x c.args.cycle c.args.before
    (elim (and_cases (nat_le x.first c.args.cycle) (nat_le c.args.cycle x.last)
    (sym c.has_cycle.ensures ∙ c.if-not-has_cycle.true)) [
      | inl low ↦ inl (leb-false x.first c.args.cycle low)
      | inr high ↦ inr (leb-false c.args.cycle x.last high)
    ])

pub returns : goal.returns
returns c =
    let x = c.args.one in
    let p =
    and_parts (nat_le x.first c.args.cycle) (nat_le c.args.cycle x.last)
    (sym c.has_cycle.ensures ∙ c.if-not-has_cycle.false) in
    own-some x c.args.cycle c.args.before (leb-true x.first c.args.cycle p.0) (leb-true c.args.cycle x.last p.1)

pub overflow_add-result : goal.overflow_add-result
overflow_add-result c =
    let x = c.args.one in
    let p =
    and_parts (nat_le x.first c.args.cycle) (nat_le c.args.cycle x.last)
    (sym c.has_cycle.ensures ∙ c.if-not-has_cycle.false) in
    let low = leb-true x.first c.args.cycle p.0 in
    let high = leb-true c.args.cycle x.last p.1 in
    let size = cycles-size x in
    let few = c.requires in
    omega arith

pub overflow_add-result-2 : goal.overflow_add-result-2
overflow_add-result-2 c =
    let x = c.args.one in
    let p =
    and_parts (nat_le x.first c.args.cycle) (nat_le c.args.cycle x.last)
    (sym c.has_cycle.ensures ∙ c.if-not-has_cycle.false) in
    let low = leb-true x.first c.args.cycle p.0 in
    let high = leb-true c.args.cycle x.last p.1 in
    let size = cycles-size x in
    let few = c.requires in
    omega arith
