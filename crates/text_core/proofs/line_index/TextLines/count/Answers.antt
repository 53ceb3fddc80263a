use Rattle.std.proofs.Common.{arith}
use Rattle.text_core.proofs.Indexes.{seen, counted, few_lines}
use Rattle.text_core.proofs.line_index.TextLines.count.Goals as goal

pub overflow_cast-result : goal.overflow_cast-result
overflow_cast-result c =
    let a = c.self.inside in
    let index = seen a.text.now _ c.args.self.now a.words.items a.firsts.items c.self.view_is c.self.invariant in
    omega (arith, c.len.ensures, a.firsts.ok.0, counted _ _ _ _ index, few_lines _ _ _ _ index)

pub returns : goal.returns
returns c =
    let a = c.self.inside in
    let index = seen a.text.now _ c.args.self.now a.words.items a.firsts.items c.self.view_is c.self.invariant in
    omega (arith, c.len.ensures, a.firsts.ok.0, counted _ _ _ _ index, few_lines _ _ _ _ index)
