-- The tokens are read when no list is open in the end.
use Rattle.std.proofs.Common.{◌<◌, length, ap, map, arith}
use Rattle.std.proofs.lemmas.Bool.Decides.{nat_tests}
use Rattle.text_core.specs.Building.{frame_of}
use Rattle.text_core.specs.Sexps.{sexp_tree}
use Rattle.text_core.proofs.Steps.{empty_of, read_none, read_all, unclosed_list}
use Rattle.text_core.proofs.parser.forest.Goals as goal

pub loop-at-init : goal.loop-at-init
loop-at-init c =
    let read = read_none (map frame_of c.new.result.items) (map sexp_tree c.new-2.result.items) c.args.tokens.now (ap (map frame_of) c.new.ensures.items) (ap (map sexp_tree) c.new-2.ensures.items) in
    record { built = read.built; nested = read.nested }

pub returns-then-is_empty-clause-trees : goal.returns-then-is_empty-clause-trees
returns-then-is_empty-clause-trees c =
    let parser = c.loop-at.parser in
    let none = empty_of parser.outer.items (grind (arith, nat_tests, parser.outer.ok.0, c.is_empty.ensures, c.if-is_empty.true)) in
    read_all (map frame_of parser.outer.items) (map sexp_tree parser.parts.items) c.args.tokens.now c.loop-at.at (ap (map frame_of) none) c.loop-at-test.false (record { built = c.loop-at.invariant.built; nested = c.loop-at.invariant.nested })

pub returns-clause-fault : goal.returns-clause-fault
returns-clause-fault c =
    let parser = c.loop-at.parser in
    let some : 0 < length parser.outer.items = grind (arith, nat_tests, parser.outer.ok.0, c.is_empty.ensures, c.if-is_empty.false) in
    unclosed_list parser.outer.items c.index.result.now (map sexp_tree parser.parts.items) c.args.tokens.now c.loop-at.at some c.index.ensures c.loop-at-test.false (record { built = c.loop-at.invariant.built; nested = c.loop-at.invariant.nested })
