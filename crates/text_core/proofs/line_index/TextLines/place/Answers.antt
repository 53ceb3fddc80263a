use Rattle.std.proofs.Common.{arith, ◌∙◌, ap, get_or, ◌<◌, length}
use Rattle.text_core.proofs.Indexes.{seen, counted, first_within, place_is, end_is, place_small, read_at}
use Rattle.text_core.proofs.line_index.TextLines.place.Goals as goal

pub index-requires : goal.index-requires
index-requires c =
    let a = c.self.inside in
    let index = seen a.text.now _ c.args.self.now a.words.items a.firsts.items c.self.view_is c.self.invariant in
    omega (arith, a.firsts.ok.0, c.requires, counted _ _ _ _ index)

pub index-requires-2 : goal.index-requires-2
index-requires-2 c =
    let a = c.self.inside in
    let index = seen a.text.now _ c.args.self.now a.words.items a.firsts.items c.self.view_is c.self.invariant in
    let first = read_at a.firsts.items c.args.line c.index.result.now c.index.ensures (omega (arith, c.requires, counted _ _ _ _ index)) in
    omega (arith, a.words.ok.0, first, first_within _ _ _ _ index c.args.line c.requires)

pub returns-clause-line : goal.returns-clause-line
returns-clause-line c = λ less.
    let a = c.self.inside in
    let index = seen a.text.now _ c.args.self.now a.words.items a.firsts.items c.self.view_is c.self.invariant in
    let first = read_at a.firsts.items c.args.line c.index.result.now c.index.ensures (omega (arith, less, counted _ _ _ _ index)) in
    let within : c.index.result.now < length a.words.items = omega (arith, first, first_within _ _ _ _ index c.args.line c.requires) in
    read_at a.words.items c.index.result.now c.index-2.result.now c.index-2.ensures within ∙ (ap (λ n. get_or a.words.items n 0) first ∙ place_is _ _ _ _ index c.args.line less)

pub returns-clause-end : goal.returns-clause-end
returns-clause-end c = λ end.
    let a = c.self.inside in
    let index = seen a.text.now _ c.args.self.now a.words.items a.firsts.items c.self.view_is c.self.invariant in
    let first = read_at a.firsts.items c.args.line c.index.result.now c.index.ensures (omega (arith, end, counted _ _ _ _ index)) in
    let within : c.index.result.now < length a.words.items = omega (arith, first, first_within _ _ _ _ index c.args.line c.requires) in
    read_at a.words.items c.index.result.now c.index-2.result.now c.index-2.ensures within ∙ (ap (λ n. get_or a.words.items n 0) first ∙ end_is _ _ _ _ index c.args.line end)

pub returns-clause-small : goal.returns-clause-small
returns-clause-small c =
    let a = c.self.inside in
    let index = seen a.text.now _ c.args.self.now a.words.items a.firsts.items c.self.view_is c.self.invariant in
    let first = read_at a.firsts.items c.args.line c.index.result.now c.index.ensures (omega (arith, c.requires, counted _ _ _ _ index)) in
    let within : c.index.result.now < length a.words.items = omega (arith, first, first_within _ _ _ _ index c.args.line c.requires) in
    omega (arith, read_at a.words.items c.index.result.now c.index-2.result.now c.index-2.ensures within, place_small _ _ _ _ index c.index.result.now within)
