use Rattle.std.proofs.Common.{◌≡◌, ◌++◌, map, ap, sym, ◌∙◌, rules}
use Rattle.std.proofs.lemmas.List.{append-nil, take_all}
use Rattle.pattern_match.specs.Bindings.{substitution, substitution_match}
use Rattle.pattern_match.proofs.Substitutions.{add_more}
use Rattle.pattern_match.proofs.searching.add_matches.Goals as goal

pub loop-bound-init : goal.loop-bound-init
loop-bound-init c = sym (append-nil c.args.out.now.items)

pub loop-bound-preserved : goal.loop-bound-preserved
loop-bound-preserved c =
    let known : c.from.result ≡ substitution c.as_slice.result.now = search rules in
    add_more c.args.class c.args.bounds.now c.loop-bound.bound-index c.bound-item.result c.as_slice.result.now c.from.result c.args.out.now.items c.loop-bound.out.items c.push.new.self.items c.loop-bound-test.true c.bound-item.is c.as_slice.ensures known c.loop-bound.invariant c.in_ok-push.ensures.items

pub returns : goal.returns
returns c = c.loop-bound.invariant ∙ ap (λ xs. c.args.out.now.items ++ map (substitution_match c.args.class) xs) (take_all c.loop-bound.bound-index c.args.bounds.now c.loop-bound-test.false)
