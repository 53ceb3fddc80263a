use Rattle.std.proofs.Common.{◌≡◌, ◌+◌, ◌<◌, ◌∙◌, sym, get_or, ap, subst, arith}
use Rattle.std.proofs.lemmas.Option.{get_or_from_slice_get}
use Rattle.text_core.specs.declared.tokens.Token.{Token}
use Rattle.text_core.specs.declared.tokens.TokenKind.TheVariants as kinds
use Rattle.text_core.specs.Building.{IsStillOpen, depth_behind}
use Rattle.text_core.proofs.Outermost.{still_more, deep_fault, outermost_fault, depth_behind-le, at_zero}
use Rattle.text_core.proofs.parser.fault_inside.Goals as goal

any : Token
any = record { kind = kinds.Opening; place = 0; len = 0 }

pub returns-then-depth-eq0 : goal.returns-then-depth-eq0
unfolding any
returns-then-depth-eq0 c =
    let tokens = c.args.tokens.now in
    let opens : (get_or tokens c.args.at any).kind ≡ kinds.Opening = ap (λ (t : Token). t.kind) (get_or_from_slice_get tokens c.args.at c.requires.opening.token any c.requires.opening.found) ∙ c.requires.opening.opens in
    deep_fault tokens c.args.at c.args.outermost c.loop-index.index c.loop-index.depth any c.requires.within opens c.requires.nested c.requires.inside c.loop-index.auto.index c.loop-index-test.true c.loop-index.invariant.outer c.loop-index.invariant.some (sym c.open_behind-depth.ensures ∙ c.if-depth-eq0.true)

pub loop-index-preserved : goal.loop-index-preserved
unfolding any
loop-index-preserved c =
    let tokens = c.args.tokens.now in
    let kind = (get_or tokens c.loop-index.index any).kind in
    let depth : c.open_behind-depth.result ≡ depth_behind kind c.loop-index.depth = c.open_behind-depth.ensures in
    let some : 0 < c.open_behind-depth.result = at_zero c.open_behind-depth.result c.if-depth-eq0.false in
    let still = still_more tokens c.args.at c.args.outermost c.loop-index.index c.loop-index.depth any c.loop-index.invariant.outer c.loop-index-test.true (omega (arith, some, depth)) in
    record {
      some = some;
      few = omega (arith, depth, depth_behind-le kind c.loop-index.depth, c.loop-index.invariant.few, c.loop-index.auto.index);
      outer = subst (IsStillOpen tokens c.args.at c.args.outermost (c.loop-index.index + 1)) (sym depth) still;
    }

pub returns : goal.returns
returns c = outermost_fault c.args.tokens.now c.args.at c.args.outermost c.loop-index.index c.loop-index.depth c.requires.nested c.loop-index-test.false c.loop-index.invariant.outer
