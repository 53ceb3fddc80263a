use Rattle.std.proofs.Common.{◌∙◌, ◌<◌, List, ℕ, sym, subst, length, get_or, arith, inl, inr}
use Rattle.std.specs.Prelude.{Contains}
use Rattle.std.proofs.lemmas.List.{take_all}
use Rattle.graph_meaning.proofs.Gathered.{more_has, put_has, put_size, put_still, put_within}
use Rattle.graph_meaning.proofs.powers.note_uses.Goals as goal

pub loop-class-preserved : goal.loop-class-preserved
loop-class-preserved c =
    let v = c.loop-class.invariant in
    let i = c.loop-class.class-index in
    let uses = c.loop-class.uses.items in
    let new = c.note_use.new.uses.items in
    let at = c.args.at in
    let class = get_or c.args.operands.now i 0 in
    let lt : class < length uses =
    (let a = c.requires.operands i 0 c.loop-class-test.true in let s = v.size in omega arith) in
    let e = c.in_ok-note_use.ensures in
    record {
      size = put_size uses new class at lt e ∙ v.size;
      within = λ d k m. elim (put_within uses new class at lt e d k m) [ inl o ↦ v.within d k o | inr q ↦ inr q ];
      still = λ d k m. put_still uses new class at lt e d k (v.still d k m);
      has = more_has uses new c.args.operands.now i at c.loop-class-test.true (put_still uses new class at lt e) v.has
          (put_has uses new class at lt e);
    }

pub returns-clause-has : goal.returns-clause-has
returns-clause-has c = λ class m.
    c.loop-class.invariant.has class
    (subst (λ (xs : List ℕ). Contains xs class)
    (sym (take_all c.loop-class.class-index c.args.operands.now c.loop-class-test.false)) m)
