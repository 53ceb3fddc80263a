use Rattle.std.proofs.Common.{◌≡◌, ℕ, ◌∷◌, List, take, get_or, ap, ◌∙◌, arith}
use Rattle.cnf_core.specs.declared.literal.Lit.{Lit}
use Rattle.cnf_core.proofs.Splitting.{truncated-ends, truncated-pieces, kept-all}
use Rattle.cnf_core.proofs.store.Clauses.truncate.Goals as goal

pub invariant_of-self : goal.invariant_of-self
invariant_of-self c =
    let size = c.self.inside.ends.ok.0 in
    let literals : c.truncate.new.self.items ≡ take (get_or (0 ∷ c.self.inside.ends.items) c.args.count 0) c.self.inside.literals.items =
    c.truncate.ensures.items ∙ ap (λ (n : ℕ). take n c.self.inside.literals.items) (c.start_of-end.ensures ∙ ap (λ (es : List ℕ). get_or (0 ∷ es) c.args.count 0) c.deref.ensures.value) in
    truncated-ends c.self.inside.ends.items c.truncate-then-count-len.new.self.items c.self.inside.literals.items c.truncate.new.self.items c.args.count c.self.invariant (omega arith) literals c.truncate-then-count-len.ensures.items

pub returns-then-count-len : goal.returns-then-count-len
returns-then-count-len c =
    let size = c.self.inside.ends.ok.0 in
    let literals : c.truncate.new.self.items ≡ take (get_or (0 ∷ c.self.inside.ends.items) c.args.count 0) c.self.inside.literals.items =
    c.truncate.ensures.items ∙ ap (λ (n : ℕ). take n c.self.inside.literals.items) (c.start_of-end.ensures ∙ ap (λ (es : List ℕ). get_or (0 ∷ es) c.args.count 0) c.deref.ensures.value) in
    truncated-pieces c.self.inside.ends.items c.truncate-then-count-len.new.self.items c.self.inside.literals.items c.truncate.new.self.items c.args.count c.self.invariant (omega arith) literals c.truncate-then-count-len.ensures.items
    ∙ ap (λ (parts : List (List Lit)). take c.args.count parts) c.self.view_is

pub returns-else-count-len : goal.returns-else-count-len
returns-else-count-len c =
    let size = c.self.inside.ends.ok.0 in
    kept-all c.self.inside.ends.items c.self.inside.literals.items c.args.self.now c.args.count c.self.view_is (omega arith)
