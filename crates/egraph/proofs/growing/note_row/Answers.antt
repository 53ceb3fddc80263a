use Rattle.std.proofs.Common.{get_or, subst, sym, arith, Contains}
use Rattle.std.specs.Result.{OnOk}
use Rattle.std.specs.declared.result.Result.{Result}
use Rattle.std.specs.declared.result.Result.TheVariants.{Ok, Err}
use Rattle.std.proofs.lemmas.List.{take_all}
use Rattle.std.proofs.lemmas.List.Elements.{Contains-push}
use Rattle.egraph.specs.Keys.{listed_at}
use Rattle.egraph.specs.Tables.{Grows}
use Rattle.egraph.proofs.Growth.{grows_same, grows_added, grows_on, noted_more}
use Rattle.egraph.proofs.growing.note_row.Goals as goal

pub returns-in_err-add-clause-uses : goal.returns-in_err-add-clause-uses
returns-in_err-add-clause-uses c = grows_on c.args.uses.now c.loop-used.uses c.add.new.self c.loop-used.invariant.grows (grows_same c.loop-used.uses c.add.new.self c.in_err-add.ensures.err)

pub loop-used-preserved : goal.loop-used-preserved
loop-used-preserved c =
    let i = c.loop-used.used-index in
    let x = get_or c.args.operands.now i 0 in
    let old = c.loop-used.uses in
    let new = c.add.new.self in
    let more : Grows old new = grows_added old new x c.args.place c.in_ok-add.ensures.added c.in_ok-add.ensures.others in
    record {
      grows = grows_on c.args.uses.now old new c.loop-used.invariant.grows more;
      noted = noted_more old new c.args.operands.now i c.args.place c.loop-used-test.true more c.in_ok-add.ensures.added c.loop-used.invariant.noted;
    }

on_ok : {T E A B : Type 0} (r : Result T E) → OnOk r A → (A → B) → OnOk r B
on_ok (Ok t) a f = f a
on_ok (Err e) a f = tt

always : {T E A : Type 0} (r : Result T E) → A → OnOk r A
always (Ok t) a = a
always (Err e) a = tt

pub returns-clause-own_noted : goal.returns-clause-own_noted
returns-clause-own_noted c =
    always c.add-3.result (subst (λ xs. Contains xs c.args.place) (sym c.in_ok-add-2.ensures.added) (Contains-push (listed_at c.args.own.now c.args.class) c.args.place))

pub returns-clause-uses_noted : goal.returns-clause-uses_noted
returns-clause-uses_noted c =
    let past = c.loop-used-test.false in
    always c.add-3.result (λ used h. c.loop-used.invariant.noted used
    (subst (λ xs. Contains xs used) (sym (take_all c.loop-used.used-index c.args.operands.now (omega (arith, past)))) h))

pub returns-clause-member_noted : goal.returns-clause-member_noted
returns-clause-member_noted c =
    on_ok c.add-3.result c.add-3.ensures.added
    (λ e. subst (λ xs. Contains xs c.args.class) (sym e) (Contains-push (listed_at c.args.members.now c.args.class) c.args.class))
