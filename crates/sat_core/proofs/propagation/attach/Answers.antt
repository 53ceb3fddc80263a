use Rattle.std.proofs.Common.{◌≡◌, ℕ, ◌^◌, ◌<◌, arith, subst, [], length, get_or, ap, sym, ◌∙◌}
use Rattle.std.proofs.lemmas.Bool.{eqb-true}
use Rattle.std.proofs.lemmas.Option.{get_or_from_slice_get}
use Rattle.std.specs.List.{All}
use Rattle.std.proofs.lemmas.List.Elements.{All-weaker}
use Rattle.cnf_core.specs.declared.literal.Lit.{Lit}
use Rattle.cnf_core.specs.Formula.{IsLitOf}
use Rattle.sat_core.specs.Steps.{var_count}
use Rattle.sat_core.proofs.Watching.{list-within}
use Rattle.sat_core.proofs.Visiting.{attached, chosen-exist}
use Rattle.sat_core.proofs.propagation.attach.Goals as goal

pub add-requires-clause-packed : goal.add-requires-clause-packed
add-requires-clause-packed c =
    let clauses = c.args.clauses.now in
    let n = var_count c.args.trail.now in
    let w = c.args.watches.now in
    let is : c.get-clause.result.now ≡ get_or clauses (length w.pairs.items) [] =
    sym (get_or_from_slice_get clauses c.len.result c.get-clause.result.now [] c.get-clause.ensures) ∙ ap (λ (k : ℕ). get_or clauses k []) c.len.ensures in
    let few = c.requires.watched.few in
    All-weaker (IsLitOf n) (λ (l : Lit). l.var < 2 ^ 31) (λ l at. (let high = at.within in omega arith)) c.get-clause.result.now
    (subst (All (IsLitOf n)) (sym is) (c.requires.exist (length w.pairs.items) [] c.requires.more))

pub add-requires-clause-above_a : goal.add-requires-clause-above_a
add-requires-clause-above_a c =
    let clauses = c.args.clauses.now in
    let n = var_count c.args.trail.now in
    let w = c.args.watches.now in
    let p = c.watched_pair-pair.result in
    let is : c.get-clause.result.now ≡ get_or clauses (length w.pairs.items) [] =
    sym (get_or_from_slice_get clauses c.len.result c.get-clause.result.now [] c.get-clause.ensures) ∙ ap (λ (k : ℕ). get_or clauses k []) c.len.ensures in
    let at = (chosen-exist clauses n c.args.trail.now.steps.items (length w.pairs.items) c.get-clause.result.now p c.requires.exist c.requires.more is (c.watched_pair-pair.ensures clauses c.requires.state)).0 in
    at.above

pub add-requires-clause-list_a : goal.add-requires-clause-list_a
add-requires-clause-list_a c =
    let clauses = c.args.clauses.now in
    let n = var_count c.args.trail.now in
    let w = c.args.watches.now in
    let p = c.watched_pair-pair.result in
    let is : c.get-clause.result.now ≡ get_or clauses (length w.pairs.items) [] =
    sym (get_or_from_slice_get clauses c.len.result c.get-clause.result.now [] c.get-clause.ensures) ∙ ap (λ (k : ℕ). get_or clauses k []) c.len.ensures in
    let at = (chosen-exist clauses n c.args.trail.now.steps.items (length w.pairs.items) c.get-clause.result.now p c.requires.exist c.requires.more is (c.watched_pair-pair.ensures clauses c.requires.state)).0 in
    list-within n (length w.lists.items) p.a at c.requires.watched.count

pub add-requires-clause-above_b : goal.add-requires-clause-above_b
add-requires-clause-above_b c =
    let clauses = c.args.clauses.now in
    let n = var_count c.args.trail.now in
    let w = c.args.watches.now in
    let p = c.watched_pair-pair.result in
    let is : c.get-clause.result.now ≡ get_or clauses (length w.pairs.items) [] =
    sym (get_or_from_slice_get clauses c.len.result c.get-clause.result.now [] c.get-clause.ensures) ∙ ap (λ (k : ℕ). get_or clauses k []) c.len.ensures in
    let at = (chosen-exist clauses n c.args.trail.now.steps.items (length w.pairs.items) c.get-clause.result.now p c.requires.exist c.requires.more is (c.watched_pair-pair.ensures clauses c.requires.state)).1 in
    at.above

pub add-requires-clause-list_b : goal.add-requires-clause-list_b
add-requires-clause-list_b c =
    let clauses = c.args.clauses.now in
    let n = var_count c.args.trail.now in
    let w = c.args.watches.now in
    let p = c.watched_pair-pair.result in
    let is : c.get-clause.result.now ≡ get_or clauses (length w.pairs.items) [] =
    sym (get_or_from_slice_get clauses c.len.result c.get-clause.result.now [] c.get-clause.ensures) ∙ ap (λ (k : ℕ). get_or clauses k []) c.len.ensures in
    let at = (chosen-exist clauses n c.args.trail.now.steps.items (length w.pairs.items) c.get-clause.result.now p c.requires.exist c.requires.more is (c.watched_pair-pair.ensures clauses c.requires.state)).1 in
    list-within n (length w.lists.items) p.b at c.requires.watched.count

pub returns-clause-watched : goal.returns-clause-watched
returns-clause-watched c =
    let clauses = c.args.clauses.now in
    let t = c.args.trail.now in
    let n = var_count t in
    let w = c.args.watches.now in
    let w' = c.add.new.self in
    let p = c.watched_pair-pair.result in
    let is : c.get-clause.result.now ≡ get_or clauses (length w.pairs.items) [] =
    sym (get_or_from_slice_get clauses c.len.result c.get-clause.result.now [] c.get-clause.ensures) ∙ ap (λ (k : ℕ). get_or clauses k []) c.len.ensures in
    let e = c.in_ok-add.ensures in
    attached clauses n t.steps.items t.values.items t.indices.items t.decisions.items w.lists.items w'.lists.items w.pairs.items w'.pairs.items w.qhead w'.qhead c.get-clause.result.now p _
    c.requires.state c.requires.exist c.requires.before c.requires.watched c.requires.more c.requires.opens is (c.watched_pair-pair.ensures clauses c.requires.state) e.one e.two e.pairs e.qhead (λ two. eqb-true (length c.get-clause.result.now) 2 two)
