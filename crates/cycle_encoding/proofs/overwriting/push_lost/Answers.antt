use Rattle.std.proofs.Common.{◌+◌, ◌*◌, ◌<◌, ℕ, List, length, refl, subst, arith}
use Rattle.cycle_encoding.specs.Families.{is_lost}
use Rattle.cycle_encoding.proofs.Lost.{lost-step, place-within, place-small}
use Rattle.cycle_encoding.proofs.overwriting.push_lost.Goals as goal

pub overflow_cast-first : goal.overflow_cast-first
overflow_cast-first c = (let small = place-small c.args.facts.now c.args.vars.now.cycles c.args.vars.now.first c.args.vars.now.sets.items c.requires.vars c.loop-place.place (subst (λ (xs : List ℕ). c.loop-place.place < length xs) c.as_slice-set-items.ensures.value c.loop-place-test.true) in omega arith)

pub overflow_mul-first : goal.overflow_mul-first
overflow_mul-first c = (let within = place-within c.args.facts.now c.args.vars.now.cycles c.args.vars.now.first c.args.vars.now.sets.items c.requires.vars c.loop-place.place (subst (λ (xs : List ℕ). c.loop-place.place < length xs) c.as_slice-set-items.ensures.value c.loop-place-test.true) in omega arith)

pub overflow_add-first-in-loop-place : goal.overflow_add-first-in-loop-place
overflow_add-first-in-loop-place c = (let within = place-within c.args.facts.now c.args.vars.now.cycles c.args.vars.now.first c.args.vars.now.sets.items c.requires.vars c.loop-place.place (subst (λ (xs : List ℕ). c.loop-place.place < length xs) c.as_slice-set-items.ensures.value c.loop-place-test.true) in omega arith)

pub push_lost_of-requires : goal.push_lost_of-requires
push_lost_of-requires c = record { few = (let within = place-within c.args.facts.now c.args.vars.now.cycles c.args.vars.now.first c.args.vars.now.sets.items c.requires.vars c.loop-place.place (subst (λ (xs : List ℕ). c.loop-place.place < length xs) c.as_slice-set-items.ensures.value c.loop-place-test.true) in omega arith) }

pub loop-place-preserved : goal.loop-place-preserved
loop-place-preserved c =
    lost-step c.args.facts.now c.args.vars.now.cycles c.args.vars.now.first c.args.vars.now.sets.items c.requires.vars (is_lost c.args.facts.now c.args.class c.args.cycle) c.as_slice-set-items.result.now c.loop-place.place _ (c.args.vars.now.first + c.loop-place.place * (c.args.vars.now.cycles + 1)) c.args.clause.now.items c.loop-place.clause.items c.push_lost_of.new.clause.items c.as_slice-set-items.ensures.value c.loop-place-test.true refl c.loop-place.invariant c.in_ok-push_lost_of.ensures
