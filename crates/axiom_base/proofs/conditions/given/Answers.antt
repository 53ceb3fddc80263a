use Rattle.std.proofs.Common.{ℕ, rules, subst, get_or}
use Rattle.std.proofs.lemmas.List.{get_or_default}
use Rattle.word_ops.specs.Words.{IsWord}
use Rattle.axiom_base.specs.Conditions.{Condition}
use Rattle.axiom_base.proofs.Giving.{two_exact, one_exact, none_exact}
use Rattle.axiom_base.proofs.conditions.given.Goals as goal

pub returns-then-gives_two : goal.returns-then-gives_two
returns-then-gives_two c =
    let cs = c.args.values.now in
    two_exact c.args.kind cs c.two_given.result (c.if-gives_two.ensures) c.requires
    (λ k d l. subst IsWord (get_or_default cs k 0 d l) (c.type_inv.values k).fits) (search rules) (c.two_given.ensures (get_or cs 1 0))

pub returns-in-Some : goal.returns-in-Some
returns-in-Some c =
    let cs = c.args.values.now in
    one_exact c.args.kind cs c.in-Some.e (c.if-gives_two.ensures) c.requires
    (λ k d l. subst IsWord (get_or_default cs k 0 d l) (c.type_inv.values k).fits) (search rules)
    (subst (λ d. Condition c.args.kind (get_or cs 0 0) d c.in-Some.e 0) c.second.ensures c.in-Some.ensures)

pub returns-in-None : goal.returns-in-None
returns-in-None c =
    let cs = c.args.values.now in
    none_exact c.args.kind cs (c.if-gives_two.ensures)
    (subst (λ d. (e : ℕ) → IsWord e → Condition c.args.kind (get_or cs 0 0) d e 0 → ⊥) c.second.ensures c.in-None.ensures)
