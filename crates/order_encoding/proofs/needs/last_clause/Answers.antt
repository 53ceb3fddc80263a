use Rattle.std.proofs.Common.{◌∙◌, ◌++◌, ◌-◌, List, ap}
use Rattle.cnf_core.specs.declared.literal.Lit.{Lit}
use Rattle.cycle_encoding.specs.Families.{is_lost}
use Rattle.cycle_encoding.specs.Shapes.{negated, numbered, vars_of}
use Rattle.cycle_encoding.specs.Variables.{all_overwritten}
use Rattle.order_encoding.specs.LiveVariables.{all_needs, pooled_classes}
use Rattle.order_encoding.specs.LiveFamilies.{is_need_at}
use Rattle.order_encoding.proofs.needs.last_clause.Goals as goal

pub returns : goal.returns
returns c =
    let g = c.args.live.now.facts.now in
    let k = c.args.live.now.needs.cycles in
    let class = c.args.class in
    let ns = numbered c.args.live.now.needs.first (all_needs k (pooled_classes g (numbered 0 c.args.live.now.launches.now))) in
    let vs = numbered c.args.live.now.over.now.first (all_overwritten g c.args.live.now.over.now.cycles) in
    let need = c.need_var.ensures ∙ ap (λ t. vars_of (is_need_at class t) ns) c.saturating_sub-last.ensures in
    c.in_ok-push_lost.ensures ∙ ap (λ n. c.push_lit.new.lits.items ++ negated (is_lost g class n) vs) c.from.ensures
    ∙ ap (λ (ls : List Lit). ls ++ negated (is_lost g class k) vs) (c.in_ok-push_lit.ensures ∙ ap (λ (ls : List Lit). c.new-clause.result.items ++ ls) need ∙ ap (λ (ls : List Lit). ls ++ vars_of (is_need_at class (k - 1)) ns) c.new-clause.ensures.items)
