use Rattle.std.proofs.Common.{arith, ◌+◌}
use Rattle.text_core.proofs.Indexes.{seen, counted, few_words, first_within, words_counted, words_of, words_some, read_at}
use Rattle.text_core.proofs.line_index.TextLines.words.Goals as goal

pub index-requires : goal.index-requires
index-requires c =
    let a = c.self.inside in
    let index = seen a.text.now _ c.args.self.now a.words.items a.firsts.items c.self.view_is c.self.invariant in
    omega (arith, a.firsts.ok.0, c.requires, counted _ _ _ _ index)

pub index-requires-2 : goal.index-requires-2
index-requires-2 c =
    let a = c.self.inside in
    let index = seen a.text.now _ c.args.self.now a.words.items a.firsts.items c.self.view_is c.self.invariant in
    omega (arith, a.firsts.ok.0, c.requires, counted _ _ _ _ index)

pub overflow_sub-result : goal.overflow_sub-result
overflow_sub-result c =
    let a = c.self.inside in
    let index = seen a.text.now _ c.args.self.now a.words.items a.firsts.items c.self.view_is c.self.invariant in
    let long = counted _ _ _ _ index in
    let next = read_at a.firsts.items (c.args.line + 1) c.index.result.now c.index.ensures (omega (arith, c.requires, long)) in
    let first = read_at a.firsts.items c.args.line c.index-2.result.now c.index-2.ensures (omega (arith, c.requires, long)) in
    omega (arith, next, first, words_of _ _ _ _ index c.args.line c.requires)

pub returns-clause-count : goal.returns-clause-count
returns-clause-count c =
    let a = c.self.inside in
    let index = seen a.text.now _ c.args.self.now a.words.items a.firsts.items c.self.view_is c.self.invariant in
    let long = counted _ _ _ _ index in
    let next = read_at a.firsts.items (c.args.line + 1) c.index.result.now c.index.ensures (omega (arith, c.requires, long)) in
    let first = read_at a.firsts.items c.args.line c.index-2.result.now c.index-2.ensures (omega (arith, c.requires, long)) in
    omega (arith, next, first, words_of _ _ _ _ index c.args.line c.requires)

pub returns-clause-some : goal.returns-clause-some
returns-clause-some c =
    let a = c.self.inside in
    let index = seen a.text.now _ c.args.self.now a.words.items a.firsts.items c.self.view_is c.self.invariant in
    let long = counted _ _ _ _ index in
    let next = read_at a.firsts.items (c.args.line + 1) c.index.result.now c.index.ensures (omega (arith, c.requires, long)) in
    let first = read_at a.firsts.items c.args.line c.index-2.result.now c.index-2.ensures (omega (arith, c.requires, long)) in
    omega (arith, next, first, words_of _ _ _ _ index c.args.line c.requires, words_some _ _ _ _ index c.args.line c.requires)

pub returns-clause-few : goal.returns-clause-few
returns-clause-few c =
    let a = c.self.inside in
    let index = seen a.text.now _ c.args.self.now a.words.items a.firsts.items c.self.view_is c.self.invariant in
    let next = read_at a.firsts.items (c.args.line + 1) c.index.result.now c.index.ensures (omega (arith, c.requires, counted _ _ _ _ index)) in
    omega (arith, next, first_within _ _ _ _ index (c.args.line + 1) (omega (arith, c.requires)), words_counted _ _ _ _ index, few_words _ _ _ _ index)
