use Rattle.std.proofs.Common.{◌-◌, ◌<◌, length, sym, ◌∙◌, subst, arith}
use Rattle.std.proofs.lemmas.Bool.{iff_false}
use Rattle.std.proofs.lemmas.List.{get_or_read}
use Rattle.sat_core.specs.Steps.{var_count}
use Rattle.sat_core.specs.Watches.{IsFalseFrom}
use Rattle.sat_core.proofs.Choosing.{falls-false, falls-not}
use Rattle.sat_core.proofs.trail.Trail.false_from.Goals as goal

pub returns-then-is_false : goal.returns-then-is_false
returns-then-is_false c = λ clauses h.
    let t = c.args.self.now in
    let within : c.args.lit.var - 1 < length t.indices.items = (let a = c.requires.exist.above in let b = c.requires.exist.within in let s = c.requires.slots in omega arith) in
    subst (IsFalseFrom t.steps.items c.args.lit) (sym (get_or_read t.indices.items (c.args.lit.var - 1) c.index.result.now within c.index.ensures 0))
    (falls-false clauses (var_count t) t.steps.items t.values.items t.indices.items t.decisions.items c.args.lit c.requires.exist h (c.is_false.ensures.0 c.if-is_false.true))

pub returns-else-is_false : goal.returns-else-is_false
returns-else-is_false c = λ clauses h.
    let t = c.args.self.now in
    subst (IsFalseFrom t.steps.items c.args.lit) (sym (c.len.ensures ∙ t.steps.ok.0))
    (falls-not clauses (var_count t) t.steps.items t.values.items t.indices.items t.decisions.items c.args.lit c.requires.exist h (iff_false c.is_false.ensures c.if-is_false.false))
