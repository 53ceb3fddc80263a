use Rattle.std.proofs.Common.{◌≡◌, rules, Option, Some, refl, sym, subst, inl, inr, arith}
use Rattle.std.specs.Prelude.{MatchOption}
use Rattle.cnf_core.specs.declared.literal.Lit.{Lit}
use Rattle.sat_core.specs.Watches.{IsNoLater}
use Rattle.sat_core.proofs.Choosing.{no-later}
use Rattle.sat_core.proofs.choice.later_of.Goals as goal

pub returns-then-false_from-clause-later : goal.returns-then-false_from-clause-later
returns-then-false_from-clause-later c = λ clauses h.
    let steps = c.args.trail.now.steps.items in
    let less = c.if-false_from.true in
    let later = no-later steps c.in-Some.old c.args.lit c.false_from.result c.false_from-in-Some.result (c.false_from.ensures clauses h) (c.false_from-in-Some.ensures clauses h) (omega arith) in
    inr (inl ((λ e. search rules), refl, subst (λ (o : Option Lit). MatchOption o (Unit {0}) (λ m. IsNoLater steps m c.args.lit)) (sym c.in-Some.is) later))

pub returns-else-false_from-clause-later : goal.returns-else-false_from-clause-later
returns-else-false_from-clause-later c = λ clauses h.
    let steps = c.args.trail.now.steps.items in
    let less = c.if-false_from.false in
    let later = no-later steps c.args.lit c.in-Some.old c.false_from-in-Some.result c.false_from.result (c.false_from-in-Some.ensures clauses h) (c.false_from.ensures clauses h) (omega arith) in
    inr (inr (subst (λ (o : Option Lit). MatchOption o ⊥ (λ m. (Some c.in-Some.old ≡ o) × IsNoLater steps c.args.lit m)) (sym c.in-Some.is) (refl, later)))
