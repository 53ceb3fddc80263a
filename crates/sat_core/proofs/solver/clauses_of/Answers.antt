use Rattle.std.proofs.Common.{◌≡◌, ℕ, ◌+◌, ◌-◌, ◌++◌, ◌∷◌, [], List, take, Some, arith, sym, ap, ◌∙◌, subst}
use Rattle.std.specs.Prelude.{slice_get}
use Rattle.std.proofs.lemmas.List.{take_more}
use Rattle.std.proofs.lemmas.Option.{get_or_from_slice_get, slice_get_within}
use Rattle.cnf_core.specs.declared.literal.Lit.{Lit}
use Rattle.sat_core.proofs.solver.clauses_of.Goals as goal

pub loop-index-preserved : goal.loop-index-preserved
loop-index-preserved c =
    let all = c.args.cnf.now.clauses in
    let clause = c.clause.result.now in
    let i = c.loop-index.index in
    let at : i + 1 - 1 ≡ i = omega arith in
    let is : slice_get all i ≡ Some clause = subst (λ (k : ℕ). slice_get all k ≡ Some clause) at c.clause.ensures.value in
    c.in_ok-push.ensures.ok
    ∙ ap (λ (front : List (List Lit)). front ++ clause ∷ []) c.loop-index.invariant
    ∙ ap (λ (last : List Lit). take i all ++ last ∷ []) (sym (get_or_from_slice_get all i clause clause is))
    ∙ sym (take_more all i clause (slice_get_within all i clause is))
