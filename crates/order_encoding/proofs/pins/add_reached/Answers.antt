use Rattle.std.proofs.Common.{◌∙◌, ◌+◌, ◌<◌, ◌≤◌, ◌∷◌, [], ℕ, List, take, get_or, ap, subst, arith}
use Rattle.std.specs.Prelude.{length, not}
use Rattle.std.specs.List.{flat_map}
use Rattle.std.proofs.lemmas.List.{take_all}
use Rattle.cnf_core.specs.declared.literal.Lit.{Lit}
use Rattle.schedule_meaning.specs.Launches.{goes_to}
use Rattle.cycle_encoding.specs.Shapes.{numbered, vars_of, when}
use Rattle.cycle_encoding.specs.Steps.{with_clauses}
use Rattle.cycle_encoding.specs.Variables.{pinned_sets}
use Rattle.cycle_encoding.proofs.Adding.{added, size-with, vars-with}
use Rattle.order_encoding.specs.PinFamilies.{has_own_input}
use Rattle.order_encoding.proofs.PinSteps.{set-more, set-part, passing-sets}
use Rattle.order_encoding.proofs.pins.add_reached.Goals as goal

pub add_reached_set-requires-clause-exist : goal.add_reached_set-requires-clause-exist
add_reached_set-requires-clause-exist c =
    let xs = numbered 0 c.args.plan.now.launches.now in
    let pins = pinned_sets c.args.plan.now.frame.facts.now in
    let i = c.loop-set.set-index in
    let f = λ (j : ℕ). vars_of (goes_to j) xs in
    let test = λ (j : ℕ). not (has_own_input c.args.plan.now.frame.facts.now j) in
    let F : ℕ → List (List Lit) = λ j. when (test j) (f j ∷ []) in
    let same = c.pins-set-items.ensures.value in
    let lt : i < length pins = subst (λ (js : List ℕ). i < length js) same c.loop-set-test.true in
    let at = ap (λ (js : List ℕ). F (get_or js i 0)) same in
    let v = vars-with c.args.cnf.now c.loop-set.cnf (flat_map F (take i pins)) c.loop-set.invariant in
    let exist = c.requires.exist in
    let few = c.requires.few in
    omega arith

pub add_reached_set-requires-clause-few : goal.add_reached_set-requires-clause-few
add_reached_set-requires-clause-few c =
    let xs = numbered 0 c.args.plan.now.launches.now in
    let pins = pinned_sets c.args.plan.now.frame.facts.now in
    let i = c.loop-set.set-index in
    let f = λ (j : ℕ). vars_of (goes_to j) xs in
    let test = λ (j : ℕ). not (has_own_input c.args.plan.now.frame.facts.now j) in
    let F : ℕ → List (List Lit) = λ j. when (test j) (f j ∷ []) in
    let same = c.pins-set-items.ensures.value in
    let lt : i < length pins = subst (λ (js : List ℕ). i < length js) same c.loop-set-test.true in
    let at = ap (λ (js : List ℕ). F (get_or js i 0)) same in
    let v = vars-with c.args.cnf.now c.loop-set.cnf (flat_map F (take i pins)) c.loop-set.invariant in
    let exist = c.requires.exist in
    let few = c.requires.few in
    omega arith

pub add_reached_set-requires-clause-room : goal.add_reached_set-requires-clause-room
add_reached_set-requires-clause-room c =
    let xs = numbered 0 c.args.plan.now.launches.now in
    let pins = pinned_sets c.args.plan.now.frame.facts.now in
    let i = c.loop-set.set-index in
    let f = λ (j : ℕ). vars_of (goes_to j) xs in
    let test = λ (j : ℕ). not (has_own_input c.args.plan.now.frame.facts.now j) in
    let F : ℕ → List (List Lit) = λ j. when (test j) (f j ∷ []) in
    let same = c.pins-set-items.ensures.value in
    let lt : i < length pins = subst (λ (js : List ℕ). i < length js) same c.loop-set-test.true in
    let at = ap (λ (js : List ℕ). F (get_or js i 0)) same in
    let a = size-with c.args.cnf.now c.loop-set.cnf (flat_map F (take i pins)) c.loop-set.invariant in
    let b = set-part F pins i 0 lt in
    let d = ap (λ (cs : List (List Lit)). length cs) (passing-sets f test pins) in
    let e = ap (λ (cs : List (List Lit)). length cs) at in
    let room = c.requires.room in
    omega arith

pub loop-set-preserved : goal.loop-set-preserved
loop-set-preserved c =
    let xs = numbered 0 c.args.plan.now.launches.now in
    let pins = pinned_sets c.args.plan.now.frame.facts.now in
    let i = c.loop-set.set-index in
    let f = λ (j : ℕ). vars_of (goes_to j) xs in
    let test = λ (j : ℕ). not (has_own_input c.args.plan.now.frame.facts.now j) in
    let F : ℕ → List (List Lit) = λ j. when (test j) (f j ∷ []) in
    let same = c.pins-set-items.ensures.value in
    let lt : i < length pins = subst (λ (js : List ℕ). i < length js) same c.loop-set-test.true in
    let at = ap (λ (js : List ℕ). F (get_or js i 0)) same in
    added c.args.cnf.now c.loop-set.cnf c.add_reached_set.new.cnf (F (get_or pins i 0)) (flat_map F (take i pins)) (flat_map F (take (i + 1) pins)) c.loop-set.invariant
    (c.in_ok-add_reached_set.ensures ∙ ap (with_clauses c.loop-set.cnf) at) (set-more F pins i 0 lt)

pub returns : goal.returns
returns c =
    let xs = numbered 0 c.args.plan.now.launches.now in
    let pins = pinned_sets c.args.plan.now.frame.facts.now in
    let f = λ (j : ℕ). vars_of (goes_to j) xs in
    let test = λ (j : ℕ). not (has_own_input c.args.plan.now.frame.facts.now j) in
    let F : ℕ → List (List Lit) = λ j. when (test j) (f j ∷ []) in
    let long = ap (λ (js : List ℕ). length js) c.pins-set-items.ensures.value in
    let end : length pins ≤ c.loop-set.set-index = omega (arith, long, c.loop-set-test.false) in
    c.loop-set.invariant ∙ ap (with_clauses c.args.cnf.now) (ap (flat_map F) (take_all c.loop-set.set-index pins end) ∙ passing-sets f test pins)
