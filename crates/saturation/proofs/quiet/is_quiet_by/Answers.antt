use Rattle.std.proofs.Common.{rules, ◌≡◌, true, false, map, sym, subst, inl, inr, arith}
use Rattle.std.proofs.lemmas.Bool.{cases_eq}
use Rattle.std.proofs.lemmas.Bool.Decides.{nat_tests}
use Rattle.std.proofs.Common.{◌≡◌, map, sym, subst, arith, eq-eqb}
use Rattle.std.proofs.lemmas.List.{length-map}
use Rattle.axiom_base.specs.Schemes.{plain, computed, folding}
use Rattle.word_ops.specs.Operators.{operators}
use Rattle.saturation.specs.Asking.{fold_asked}
use Rattle.saturation.specs.Grown.{AreMet}
use Rattle.saturation.proofs.Folded.{folds_asked}
use Rattle.saturation.proofs.MetMatches.{parts_of, quiet_of, asked_none, asked_some}
use Rattle.saturation.proofs.quiet.is_quiet_by.Goals as goal

pub returns-then-not-branch : goal.returns-then-not-branch
returns-then-not-branch c =
    let f : c.in_ok-are_met.field-0 ≡ false = search rules in
    (λ t. absurd (cc), λ q. (let t : c.in_ok-are_met.field-0 ≡ true = c.in_ok-are_met.ensures.1 (subst (λ rs. AreMet c.args.graph.now (map plain rs)) (sym c.equations.ensures) (parts_of c.args.graph.now c.args.rules.now q).0) in absurd (cc)))

pub returns-then-not-branch-2 : goal.returns-then-not-branch-2
returns-then-not-branch-2 c =
    let f : c.in_ok-are_met-2.field-0 ≡ false = search rules in
    (λ t. absurd (cc), λ q. (let t : c.in_ok-are_met-2.field-0 ≡ true = c.in_ok-are_met-2.ensures.1 (subst (λ rs. AreMet c.args.graph.now (map plain rs)) (sym c.axioms.ensures) (parts_of c.args.graph.now c.args.rules.now q).1) in absurd (cc)))

pub returns-then-not-branch-3 : goal.returns-then-not-branch-3
returns-then-not-branch-3 c =
    let f : c.in_ok-are_kinds_met.field-0 ≡ false = search rules in
    (λ t. absurd (cc), λ q. (let t : c.in_ok-are_kinds_met.field-0 ≡ true = c.in_ok-are_kinds_met.ensures.1 (subst (λ ks. AreMet c.args.graph.now (map computed ks)) (sym c.kinds.ensures) (parts_of c.args.graph.now c.args.rules.now q).2) in absurd (cc)))

pub returns : goal.returns
returns c =
    let g = c.args.graph.now in
    let added = c.args.rules.now in
    let found = c.in_ok-found.found in
    let t1 : c.in_ok-are_met.field-0 ≡ true = search rules in
    let t2 : c.in_ok-are_met-2.field-0 ≡ true = search rules in
    let t3 : c.in_ok-are_kinds_met.field-0 ≡ true = search rules in
    let a = subst (λ rs. AreMet g (map plain rs)) c.equations.ensures (c.in_ok-are_met.ensures.0 t1) in
    let b = subst (λ rs. AreMet g (map plain rs)) c.axioms.ensures (c.in_ok-are_met-2.ensures.0 t2) in
    let k = subst (λ ks. AreMet g (map computed ks)) c.kinds.ensures (c.in_ok-are_kinds_met.ensures.0 t3) in
    let asked = folds_asked c.operators_are_listed.ensures.each c.matches_have_sorts.ensures.folds g found c.in_ok-found.ensures.exact c.in_ok-found.ensures.need in
    let count = length-map found fold_asked in (
      λ t.
          (let e : c.len.result ≡ 0 = grind (arith, nat_tests, t) in
          quiet_of g added a b k (asked_none g (map folding operators) (map fold_asked found) asked (omega (arith, e, count, c.len.ensures)))),
      λ q.
          eq-eqb c.len.result 0 (elim (cases_eq c.len.result 0) [
            | inl e ↦ e
            | inr n ↦ absurd (asked_some g (map folding operators) (map fold_asked found) asked (omega (arith, n, count, c.len.ensures)) (parts_of g added q).3)
          ]),
    )
