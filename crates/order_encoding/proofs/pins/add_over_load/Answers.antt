use Rattle.std.proofs.Common.{◌==◌, ◌∷◌, ◌&&◌, [], ◌∙◌, List, ap, map, subst, sym, arith}
use Rattle.std.specs.Prelude.{option_to_list}
use Rattle.std.specs.List.{All, range_with_len}
use Rattle.std.proofs.lemmas.List.FromFn.{length-range_with_len}
use Rattle.cnf_core.specs.declared.literal.Lit.{Lit}
use Rattle.cnf_core.specs.Formula as formula
use Rattle.cnf_core.specs.Formula.{IsLitOf}
use Rattle.schedule_meaning.specs.Launches.{is_load, launches, overwrites}
use Rattle.cycle_encoding.specs.Shapes.{negated, negative, numbered}
use Rattle.cycle_encoding.specs.Steps.{of_thing}
use Rattle.cycle_encoding.proofs.Lost.{negated-over}
use Rattle.order_encoding.specs.PinFamilies.{loads_alone}
use Rattle.order_encoding.proofs.AddSteps.{due, not_due, then_is}
use Rattle.order_encoding.proofs.HoldSteps.{negated-vars}
use Rattle.order_encoding.proofs.pins.add_over_load.Goals as goal

pub returns-then-not-overwrites_by_load : goal.returns-then-not-overwrites_by_load
returns-then-not-overwrites_by_load c =
    let g = c.args.plan.now.frame.facts.now in
    let l = c.args.made.launch in
    let ws = numbered c.args.first (range_with_len 0 c.args.plan.now.frame.k) in
    not_due c.args.cnf.now c.args.made.var (launches g is_load l && overwrites g l) (negated (λ t. t == l.cycle) ws ∷ []) (sym c.overwrites_by_load.ensures ∙ c.if-not-overwrites_by_load.true)

pub add_implied-requires-clause-lit : goal.add_implied-requires-clause-lit
add_implied-requires-clause-lit c =
    let l = c.args.made.launch in
    let ws = numbered c.args.first (range_with_len 0 c.args.plan.now.frame.k) in
    let n = c.args.cnf.now.vars in
    let is = c.negated_option-store.ensures ∙ ap (λ (ls : List Lit). map formula.negated ls) c.cycle_var.ensures ∙ negated-vars (λ t. t == l.cycle) ws in
    let size = length-range_with_len 0 c.args.plan.now.frame.k in
    let exist = c.requires.exist in
    subst (λ (ls : List Lit). All (IsLitOf n) ls) (sym is) (negated-over (λ t. t == l.cycle) c.args.first n (range_with_len 0 c.args.plan.now.frame.k) (omega arith))

pub returns : goal.returns
returns c =
    let g = c.args.plan.now.frame.facts.now in
    let l = c.args.made.launch in
    let ws = numbered c.args.first (range_with_len 0 c.args.plan.now.frame.k) in
    let is = c.negated_option-store.ensures ∙ ap (λ (ls : List Lit). map formula.negated ls) c.cycle_var.ensures ∙ negated-vars (λ t. t == l.cycle) ws in
    then_is c.add_implied.result c.args.cnf.now c.add_implied.new.cnf ((negative c.args.made.var ∷ option_to_list c.negated_option-store.result) ∷ []) (of_thing c.args.made.var (loads_alone g ws l))
    (due c.args.made.var (launches g is_load l && overwrites g l) (option_to_list c.negated_option-store.result) (negated (λ t. t == l.cycle) ws) (sym c.overwrites_by_load.ensures ∙ c.if-not-overwrites_by_load.false) is) c.add_implied.ensures
