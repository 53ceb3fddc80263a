use Rattle.std.proofs.Common.{◌∙◌, ◌<◌, ℕ, List, get_or, sym, ap, subst, arith}
use Rattle.std.specs.Prelude.{length, All}
use Rattle.cnf_core.specs.declared.literal.Lit.{Lit}
use Rattle.cnf_core.specs.Formula.{IsLitOf}
use Rattle.schedule_meaning.specs.Launches.{goes_to}
use Rattle.cycle_encoding.specs.Shapes.{numbered, vars_of}
use Rattle.cycle_encoding.specs.Variables.{pinned_sets}
use Rattle.cycle_encoding.proofs.Blocks.{vars-over}
use Rattle.cycle_encoding.proofs.Rows.{vars-short}
use Rattle.order_encoding.proofs.PinSteps.{set-counted, set-vars-room, set-room, vars-now}
use Rattle.order_encoding.proofs.pins.add_pin_counters.Goals as goal

pub at_most_one-requires-clause-exist : goal.at_most_one-requires-clause-exist
at_most_one-requires-clause-exist c =
    let ls = c.args.plan.now.launches.now in
    let pins = pinned_sets c.args.plan.now.frame.facts.now in
    let i = c.loop-set.set-index in
    let group = λ (j : ℕ). vars_of (goes_to j) (numbered 0 ls) in
    let same = c.pins-set-items.ensures.value in
    let lt : i < length pins = subst (λ (js : List ℕ). i < length js) same c.loop-set-test.true in
    let is = c.deref.ensures.value ∙ c.in_ok-lits.ensures ∙ ap (λ (js : List ℕ). group (get_or js i 0)) same in
    let now = vars-now group pins i 0 lt c.args.cnf.now c.loop-set.cnf c.deref.result.now c.loop-set.invariant is in
    let exist = c.requires.exist in
    subst (λ (l : List Lit). All (IsLitOf c.loop-set.cnf.vars) l) (sym is) (vars-over (goes_to (get_or pins i 0)) 0 c.loop-set.cnf.vars ls (omega arith))

pub at_most_one-requires-clause-short : goal.at_most_one-requires-clause-short
at_most_one-requires-clause-short c =
    let ls = c.args.plan.now.launches.now in
    let pins = pinned_sets c.args.plan.now.frame.facts.now in
    let i = c.loop-set.set-index in
    let group = λ (j : ℕ). vars_of (goes_to j) (numbered 0 ls) in
    let same = c.pins-set-items.ensures.value in
    let lt : i < length pins = subst (λ (js : List ℕ). i < length js) same c.loop-set-test.true in
    let is = c.deref.ensures.value ∙ c.in_ok-lits.ensures ∙ ap (λ (js : List ℕ). group (get_or js i 0)) same in
    let a = vars-short (goes_to (get_or pins i 0)) 0 ls in
    let b = ap (λ (l : List Lit). length l) is in
    let exist = c.requires.exist in
    let vars = c.requires.vars in
    omega arith

pub at_most_one-requires-clause-vars : goal.at_most_one-requires-clause-vars
at_most_one-requires-clause-vars c =
    let ls = c.args.plan.now.launches.now in
    let pins = pinned_sets c.args.plan.now.frame.facts.now in
    let i = c.loop-set.set-index in
    let group = λ (j : ℕ). vars_of (goes_to j) (numbered 0 ls) in
    let same = c.pins-set-items.ensures.value in
    let lt : i < length pins = subst (λ (js : List ℕ). i < length js) same c.loop-set-test.true in
    let is = c.deref.ensures.value ∙ c.in_ok-lits.ensures ∙ ap (λ (js : List ℕ). group (get_or js i 0)) same in
    set-vars-room group pins i 0 lt c.args.cnf.now c.loop-set.cnf c.deref.result.now c.loop-set.invariant is c.requires.vars

pub at_most_one-requires-clause-room : goal.at_most_one-requires-clause-room
at_most_one-requires-clause-room c =
    let ls = c.args.plan.now.launches.now in
    let pins = pinned_sets c.args.plan.now.frame.facts.now in
    let i = c.loop-set.set-index in
    let group = λ (j : ℕ). vars_of (goes_to j) (numbered 0 ls) in
    let same = c.pins-set-items.ensures.value in
    let lt : i < length pins = subst (λ (js : List ℕ). i < length js) same c.loop-set-test.true in
    let is = c.deref.ensures.value ∙ c.in_ok-lits.ensures ∙ ap (λ (js : List ℕ). group (get_or js i 0)) same in
    set-room group pins i 0 lt c.args.cnf.now c.loop-set.cnf c.deref.result.now c.loop-set.invariant is c.counters_count.ensures.size c.requires.room

pub loop-set-preserved : goal.loop-set-preserved
loop-set-preserved c =
    let ls = c.args.plan.now.launches.now in
    let pins = pinned_sets c.args.plan.now.frame.facts.now in
    let i = c.loop-set.set-index in
    let group = λ (j : ℕ). vars_of (goes_to j) (numbered 0 ls) in
    let same = c.pins-set-items.ensures.value in
    let lt : i < length pins = subst (λ (js : List ℕ). i < length js) same c.loop-set-test.true in
    let is = c.deref.ensures.value ∙ c.in_ok-lits.ensures ∙ ap (λ (js : List ℕ). group (get_or js i 0)) same in
    c.in_ok-at_most_one.ensures.exact ∙ set-counted group pins i 0 lt c.args.cnf.now c.loop-set.cnf c.deref.result.now c.loop-set.invariant is
