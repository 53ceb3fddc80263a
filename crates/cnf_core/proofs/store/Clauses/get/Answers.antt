use Rattle.std.proofs.Common.{◌≡◌, ◌<◌, ℕ, List, [], ◌∷◌, length, sym, ap, ◌∙◌, subst, Some, arith}
use Rattle.std.specs.Prelude.{slice_get, slice_range, slice_index}
use Rattle.std.proofs.lemmas.Option.{slice_get-get_or}
use Rattle.cnf_core.specs.declared.literal.Lit.{Lit}
use Rattle.cnf_core.specs.Pieces.{pieces}
use Rattle.cnf_core.proofs.Splitting.{part-few, pieces-at, length_pieces}
use Rattle.cnf_core.proofs.store.Clauses.get.Goals as goal

pub part-requires-clause-place : goal.part-requires-clause-place
part-requires-clause-place c =
    subst (λ (es : List ℕ). c.args.place < length es) (sym c.deref-2.ensures.value)
    (part-few c.self.inside.ends.items c.self.inside.literals.items c.args.self.now c.args.place c.self.view_is c.requires)

pub returns : goal.returns
returns c =
    let ends = c.self.inside.ends.items in
    let literals = c.self.inside.literals.items in
    let place = c.args.place in
    let few = part-few ends literals c.args.self.now place c.self.view_is c.requires in
    let size = length_pieces 0 ends literals in
    let over = subst (λ (es : List ℕ). c.part.result.now ≡ slice_range c.deref.result.now (slice_index (0 ∷ es) place) (slice_index es place)) c.deref-2.ensures.value c.part.ensures in
    let is = subst (λ (xs : List Lit). c.part.result.now ≡ slice_range xs (slice_index (0 ∷ ends) place) (slice_index ends place)) c.deref.ensures.value over in
    ap (λ (parts : List (List Lit)). slice_get parts place) (sym c.self.view_is)
    ∙ slice_get-get_or (pieces 0 ends literals) place [] (omega arith)
    ∙ ap (λ (part : List Lit). Some part) (pieces-at 0 ends literals place [] few ∙ sym is)
