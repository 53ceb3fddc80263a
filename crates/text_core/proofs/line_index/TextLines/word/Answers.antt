use Rattle.std.proofs.Common.{arith, subst, sym}
use Rattle.text_core.specs.Lines.{IsLineWord}
use Rattle.text_core.proofs.Indexes.{seen, counted, words_counted, word_within, word_cut, read_at, word_slice}
use Rattle.text_core.proofs.line_index.TextLines.word.Goals as goal

pub index-requires : goal.index-requires
index-requires c =
    let a = c.self.inside in
    let index = seen a.text.now _ c.args.self.now a.words.items a.firsts.items c.self.view_is c.self.invariant in
    omega (arith, a.firsts.ok.0, c.requires.line, counted _ _ _ _ index)

pub index-requires-2 : goal.index-requires-2
index-requires-2 c =
    let a = c.self.inside in
    let index = seen a.text.now _ c.args.self.now a.words.items a.firsts.items c.self.view_is c.self.invariant in
    let first = read_at a.firsts.items c.args.line c.index.result.now c.index.ensures (omega (arith, c.requires.line, counted _ _ _ _ index)) in
    omega (arith, a.words.ok.0, first, words_counted _ _ _ _ index, word_within _ _ _ _ index c.args.line c.args.at c.requires.line c.requires.at)

pub index-requires-3 : goal.index-requires-3
index-requires-3 c =
    let a = c.self.inside in
    let index = seen a.text.now _ c.args.self.now a.words.items a.firsts.items c.self.view_is c.self.invariant in
    let first = read_at a.firsts.items c.args.line c.index.result.now c.index.ensures (omega (arith, c.requires.line, counted _ _ _ _ index)) in
    omega (arith, a.words.ok.0, first, words_counted _ _ _ _ index, word_within _ _ _ _ index c.args.line c.args.at c.requires.line c.requires.at)

pub overflow_sub-result : goal.overflow_sub-result
overflow_sub-result c =
    let a = c.self.inside in
    let index = seen a.text.now _ c.args.self.now a.words.items a.firsts.items c.self.view_is c.self.invariant in
    let cut = word_cut _ _ _ _ c.args.line c.args.at c.index.result.now c.index-2.result.now c.index-3.result.now index c.requires.line c.requires.at c.index.ensures c.index-2.ensures c.index-3.ensures in
    omega (arith, cut.1, cut.0.some)

pub slice_bounds-result-count : goal.slice_bounds-result-count
slice_bounds-result-count c =
    let a = c.self.inside in
    let index = seen a.text.now _ c.args.self.now a.words.items a.firsts.items c.self.view_is c.self.invariant in
    let cut = word_cut _ _ _ _ c.args.line c.args.at c.index.result.now c.index-2.result.now c.index-3.result.now index c.requires.line c.requires.at c.index.ensures c.index-2.ensures c.index-3.ensures in
    omega (arith, cut.1, cut.0.some)

pub slice_bounds-result-start : goal.slice_bounds-result-start
slice_bounds-result-start c =
    let a = c.self.inside in
    let index = seen a.text.now _ c.args.self.now a.words.items a.firsts.items c.self.view_is c.self.invariant in
    let cut = word_cut _ _ _ _ c.args.line c.args.at c.index.result.now c.index-2.result.now c.index-3.result.now index c.requires.line c.requires.at c.index.ensures c.index-2.ensures c.index-3.ensures in
    omega (arith, cut.1, cut.0.some, cut.0.within)

pub slice_bounds-result-end : goal.slice_bounds-result-end
slice_bounds-result-end c =
    let a = c.self.inside in
    let index = seen a.text.now _ c.args.self.now a.words.items a.firsts.items c.self.view_is c.self.invariant in
    let cut = word_cut _ _ _ _ c.args.line c.args.at c.index.result.now c.index-2.result.now c.index-3.result.now index c.requires.line c.requires.at c.index.ensures c.index-2.ensures c.index-3.ensures in
    omega (arith, cut.1, cut.0.some, cut.0.within)

pub returns-clause-value : goal.returns-clause-value
returns-clause-value c =
    let a = c.self.inside in
    let index = seen a.text.now _ c.args.self.now a.words.items a.firsts.items c.self.view_is c.self.invariant in
    let cut = word_cut _ _ _ _ c.args.line c.args.at c.index.result.now c.index-2.result.now c.index-3.result.now index c.requires.line c.requires.at c.index.ensures c.index-2.ensures c.index-3.ensures in
    word_slice _ _ _ _ cut.0 cut.1

pub returns-clause-word : goal.returns-clause-word
returns-clause-word c =
    let a = c.self.inside in
    let index = seen a.text.now _ c.args.self.now a.words.items a.firsts.items c.self.view_is c.self.invariant in
    let cut = word_cut _ _ _ _ c.args.line c.args.at c.index.result.now c.index-2.result.now c.index-3.result.now index c.requires.line c.requires.at c.index.ensures c.index-2.ensures c.index-3.ensures in
    subst IsLineWord (sym (word_slice _ _ _ _ cut.0 cut.1)) cut.0.is
