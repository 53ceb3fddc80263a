use Rattle.std.proofs.Common.{◌≡◌, ℕ, ◌++◌, ◌∷◌, [], List, length, ap, ◌∙◌}
use Rattle.cnf_core.specs.declared.literal.Lit.{Lit}
use Rattle.cnf_core.proofs.Splitting.{pushed-ends, pushed-pieces}
use Rattle.cnf_core.proofs.store.Clauses.push.Goals as goal

pub invariant_of-self-2 : goal.invariant_of-self-2
invariant_of-self-2 c =
    let size : c.len.result ≡ length c.extend_from_slice.new.self.items = c.len.ensures ∙ c.extend_from_slice.new.self.ok.0 in
    let ends : c.push.new.self.items ≡ c.self.inside.ends.items ++ length c.extend_from_slice.new.self.items ∷ [] =
    c.in_ok-push.ensures.items ∙ ap (λ (es : List ℕ). es ++ c.len.result ∷ []) c.reserve.ensures.items ∙ ap (λ (n : ℕ). c.self.inside.ends.items ++ n ∷ []) size in
    pushed-ends c.self.inside.ends.items c.push.new.self.items c.self.inside.literals.items c.args.clause.now c.extend_from_slice.new.self.items c.self.invariant c.in_ok-extend_from_slice.ensures.items ends

pub returns-clause-ok : goal.returns-clause-ok
returns-clause-ok c =
    let size : c.len.result ≡ length c.extend_from_slice.new.self.items = c.len.ensures ∙ c.extend_from_slice.new.self.ok.0 in
    let ends : c.push.new.self.items ≡ c.self.inside.ends.items ++ length c.extend_from_slice.new.self.items ∷ [] =
    c.in_ok-push.ensures.items ∙ ap (λ (es : List ℕ). es ++ c.len.result ∷ []) c.reserve.ensures.items ∙ ap (λ (n : ℕ). c.self.inside.ends.items ++ n ∷ []) size in
    pushed-pieces c.self.inside.ends.items c.push.new.self.items c.self.inside.literals.items c.args.clause.now c.extend_from_slice.new.self.items c.self.invariant c.in_ok-extend_from_slice.ensures.items ends
    ∙ ap (λ (parts : List (List Lit)). parts ++ c.args.clause.now ∷ []) c.self.view_is
