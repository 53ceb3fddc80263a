use Rattle.std.proofs.Common.{◌≡◌, replicate, None, sym, ◌∙◌, subst, rules}
use Rattle.pattern_match.specs.Bindings.{IsUnknown}
use Rattle.pattern_match.proofs.Substitutions.{unknown_all}
use Rattle.pattern_match.proofs.searching.start.Goals as goal

pub returns : goal.returns
returns c =
    let is : c.in_ok-vec.field-0.items ≡ replicate c.args.count None = search rules in
    (c.from-unknown.result, subst (IsUnknown c.args.count) (sym (c.from-unknown.ensures ∙ is)) (unknown_all c.args.count), c.in_ok-vec-2.ensures.items)
