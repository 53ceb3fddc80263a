use Rattle.std.proofs.Common.{◌∙◌, ◌+◌, ◌∷◌, [], sym, ap, arith}
use Rattle.std.specs.Prelude.{option_to_list}
use Rattle.std.proofs.lemmas.List.Elements.{All-cons}
use Rattle.cnf_core.specs.Formula.{IsLitOf}
use Rattle.cycle_encoding.specs.Shapes.{numbered, negative, positive}
use Rattle.order_encoding.specs.OrderVariables.{all_held}
use Rattle.order_encoding.specs.OrderFamilies.{is_held_at}
use Rattle.order_encoding.proofs.AddSteps.{lits_exist, then_is}
use Rattle.order_encoding.proofs.HeldSteps.{stay_is}
use Rattle.order_encoding.proofs.memory.add_stay.Goals as goal

pub add-requires-clause-exist : goal.add-requires-clause-exist
add-requires-clause-exist c =
    let held = c.args.vars.now.held in
    let n = c.args.cnf.now.vars in
    let a = c.requires.exist in
    let b = c.requires.cycles in
    let lt = c.requires.cycle in
    let e = ap option_to_list (sym c.in-Some.is) ∙ c.held_after.ensures in
    let last = lits_exist (is_held_at c.args.class (c.args.cycle + 1)) held.first n (all_held c.args.vars.now.facts.now held.cycles) (c.in-Some.next ∷ []) e (omega arith) in
    All-cons (IsLitOf n) (negative c.args.var) (positive (c.args.vars.now.stores + c.args.cycle + 1) ∷ c.in-Some.next ∷ []) c.requires.var (All-cons (IsLitOf n) (positive (c.args.vars.now.stores + c.args.cycle + 1)) (c.in-Some.next ∷ []) (record { above = omega arith; within = omega arith }) last)

pub returns-in-Some : goal.returns-in-Some
returns-in-Some c =
    let held = c.args.vars.now.held in
    let ms = numbered held.first (all_held c.args.vars.now.facts.now held.cycles) in
    let e = ap option_to_list (sym c.in-Some.is) ∙ c.held_after.ensures in
    then_is c.add.result c.args.cnf.now c.add.new.self ((negative c.args.var ∷ positive (c.args.vars.now.stores + c.args.cycle + 1) ∷ c.in-Some.next ∷ []) ∷ []) _ (stay_is ms c.args.vars.now.stores held.cycles c.args.cycle c.args.class c.args.var (c.in-Some.next ∷ []) c.requires.cycle e) c.add.ensures.ok

pub returns-in-None : goal.returns-in-None
returns-in-None c =
    let held = c.args.vars.now.held in
    let ms = numbered held.first (all_held c.args.vars.now.facts.now held.cycles) in
    let e = ap option_to_list (sym c.in-None.is) ∙ c.held_after.ensures in
    then_is c.add-in-None.result c.args.cnf.now c.add-in-None.new.self ((negative c.args.var ∷ positive (c.args.vars.now.stores + c.args.cycle + 1) ∷ []) ∷ []) _ (stay_is ms c.args.vars.now.stores held.cycles c.args.cycle c.args.class c.args.var [] c.requires.cycle e) c.add-in-None.ensures.ok
