use Rattle.std.proofs.Common.{◌≡◌, ◌∙◌, ◌+◌, ◌<◌, ℕ, List, true, false, sym, ap, arith}
use Rattle.std.specs.Prelude.{length}
use Rattle.std.specs.List.{filter, flat_map, range_with_len}
use Rattle.std.proofs.lemmas.List.{append-nil}
use Rattle.cnf_core.specs.declared.literal.Lit.{Lit}
use Rattle.cycle_encoding.specs.Shapes.{numbered}
use Rattle.cycle_encoding.specs.Steps.{with_clauses}
use Rattle.cycle_encoding.specs.Variables.{is_overwriting, all_overwritten, Overwritten}
use Rattle.cycle_encoding.proofs.Adding.{added, size-with, vars-with}
use Rattle.cycle_encoding.proofs.Listed.{kept_more}
use Rattle.order_encoding.specs.PinFamilies.{set_clauses}
use Rattle.cycle_encoding.specs.Steps.{set_overwritten}
use Rattle.order_encoding.specs.OrderSteps.{clauses_in_set}
use Rattle.order_encoding.proofs.PinSteps.{set-clauses, place-within, kept-part, place-more}
use Rattle.order_encoding.proofs.pins.add_overwritten.Goals as goal
use Rattle.order_encoding.proofs.pins.add_overwritten.Goals.{then-is_overwriting+in_ok-add_set, else-is_overwriting}

pub add_set-requires-clause-launches : goal.add_set-requires-clause-launches
add_set-requires-clause-launches c =
    let g = c.args.plan.now.frame.facts.now in
    let k = c.args.plan.now.frame.k in
    let first = c.args.plan.now.over.now.first in
    let j = c.loop-set.set in
    let ls = c.args.plan.now.launches.now in
    let xs = numbered 0 ls in
    let vs = numbered first (all_overwritten g k) in
    let S = set_clauses k xs vs in
    let test = is_overwriting g in
    let end = c.set_count-set-end.ensures in
    let lt : j < length g.sets = (let a = c.loop-set-test.true in omega arith) in
    let t = sym c.is_overwriting.ensures ∙ c.if-is_overwriting.true in
    let place = c.loop-set.invariant.before in
    let few = c.requires.launches in
    omega arith

pub add_set-requires-clause-exist : goal.add_set-requires-clause-exist
add_set-requires-clause-exist c =
    let g = c.args.plan.now.frame.facts.now in
    let k = c.args.plan.now.frame.k in
    let first = c.args.plan.now.over.now.first in
    let j = c.loop-set.set in
    let ls = c.args.plan.now.launches.now in
    let xs = numbered 0 ls in
    let vs = numbered first (all_overwritten g k) in
    let S = set_clauses k xs vs in
    let test = is_overwriting g in
    let end = c.set_count-set-end.ensures in
    let lt : j < length g.sets = (let a = c.loop-set-test.true in omega arith) in
    let t = sym c.is_overwriting.ensures ∙ c.if-is_overwriting.true in
    let place = c.loop-set.invariant.before in
    let within = place-within g k first j lt t in
    let v = vars-with c.args.cnf.now c.loop-set.cnf (flat_map S (filter test (range_with_len 0 j))) c.loop-set.invariant.cnf in
    let exist = c.requires.exist in
    omega arith

pub add_set-requires-clause-few : goal.add_set-requires-clause-few
add_set-requires-clause-few c =
    let g = c.args.plan.now.frame.facts.now in
    let k = c.args.plan.now.frame.k in
    let first = c.args.plan.now.over.now.first in
    let j = c.loop-set.set in
    let ls = c.args.plan.now.launches.now in
    let xs = numbered 0 ls in
    let vs = numbered first (all_overwritten g k) in
    let S = set_clauses k xs vs in
    let test = is_overwriting g in
    let end = c.set_count-set-end.ensures in
    let lt : j < length g.sets = (let a = c.loop-set-test.true in omega arith) in
    let t = sym c.is_overwriting.ensures ∙ c.if-is_overwriting.true in
    let place = c.loop-set.invariant.before in
    let v = vars-with c.args.cnf.now c.loop-set.cnf (flat_map S (filter test (range_with_len 0 j))) c.loop-set.invariant.cnf in
    let few = c.requires.few in
    omega arith

pub add_set-requires-clause-room : goal.add_set-requires-clause-room
add_set-requires-clause-room c =
    let g = c.args.plan.now.frame.facts.now in
    let k = c.args.plan.now.frame.k in
    let first = c.args.plan.now.over.now.first in
    let j = c.loop-set.set in
    let ls = c.args.plan.now.launches.now in
    let xs = numbered 0 ls in
    let vs = numbered first (all_overwritten g k) in
    let S = set_clauses k xs vs in
    let test = is_overwriting g in
    let end = c.set_count-set-end.ensures in
    let lt : j < length g.sets = (let a = c.loop-set-test.true in omega arith) in
    let t = sym c.is_overwriting.ensures ∙ c.if-is_overwriting.true in
    let place = c.loop-set.invariant.before in
    let a = size-with c.args.cnf.now c.loop-set.cnf (flat_map S (filter test (range_with_len 0 j))) c.loop-set.invariant.cnf in
    let d = kept-part S test j (length g.sets) lt t in
    let e = ap (λ (cs : List (List Lit)). length cs) (set-clauses g k first j lt t xs ∙ ap (λ n. clauses_in_set k xs n j) (sym place)) in
    let room = c.requires.room in
    omega arith

pub returns : goal.returns
returns c =
    let g = c.args.plan.now.frame.facts.now in
    let k = c.args.plan.now.frame.k in
    let S = set_clauses k (numbered 0 c.args.plan.now.launches.now) (numbered c.args.plan.now.over.now.first (all_overwritten g k)) in
    let end = c.set_count-set-end.ensures in
    let e : c.loop-set.set ≡ length g.sets = (let a = c.loop-set.auto.set-end in let b = c.loop-set-test.false in omega arith) in
    c.loop-set.invariant.cnf ∙ ap (λ n. with_clauses c.args.cnf.now (flat_map S (filter (is_overwriting g) (range_with_len 0 n)))) e

pub overflow_add-before-then-is_overwriting : goal.overflow_add-before-then-is_overwriting
overflow_add-before-then-is_overwriting c =
    let g = c.args.plan.now.frame.facts.now in
    let k = c.args.plan.now.frame.k in
    let first = c.args.plan.now.over.now.first in
    let j = c.loop-set.set in
    let ls = c.args.plan.now.launches.now in
    let xs = numbered 0 ls in
    let vs = numbered first (all_overwritten g k) in
    let S = set_clauses k xs vs in
    let test = is_overwriting g in
    let end = c.set_count-set-end.ensures in
    let lt : j < length g.sets = (let a = c.loop-set-test.true in omega arith) in
    let t = sym c.is_overwriting.ensures ∙ c.if-is_overwriting.true in
    let place = c.loop-set.invariant.before in
    let within = place-within g k first j lt t in
    let exist = c.requires.exist in
    let few = c.requires.few in
    omega arith

pub loop-set-preserved : goal.loop-set-preserved
loop-set-preserved c =
    let g = c.args.plan.now.frame.facts.now in
    let k = c.args.plan.now.frame.k in
    let first = c.args.plan.now.over.now.first in
    let j = c.loop-set.set in
    let ls = c.args.plan.now.launches.now in
    let xs = numbered 0 ls in
    let vs = numbered first (all_overwritten g k) in
    let S = set_clauses k xs vs in
    let test = is_overwriting g in
    let end = c.set_count-set-end.ensures in
    let lt : j < length g.sets = (let a = c.loop-set-test.true in omega arith) in
    let before = c.loop-set.invariant.before in
    let C = λ (n : ℕ). flat_map S (filter test (range_with_len 0 n)) in
    elim c.if-is_overwriting.branch [
      | then-is_overwriting+in_ok-add_set w ↦
          (let t = sym c.is_overwriting.ensures ∙ w.if-is_overwriting.true in
          record {
            before = w.before-is ∙ ap (λ n. n + (k + 1)) before ∙ place-more g k first j t;
            cnf = w.cnf-is ∙ added c.args.cnf.now c.loop-set.cnf w.add_set.new.cnf (S j) (C j) (C (j + 1)) c.loop-set.invariant.cnf
                (w.in_ok-add_set.ensures ∙ ap (with_clauses c.loop-set.cnf) (ap (λ n. clauses_in_set k xs n j) before ∙ sym (set-clauses g k first j lt t xs)))
                (kept_more S test j true t);
          })
      | else-is_overwriting w ↦
          (let t = sym c.is_overwriting.ensures ∙ w.if-is_overwriting.false in
          record {
            before = w.before-is ∙ before ∙ ap (λ (os : List Overwritten). first + length os) (sym (kept_more (set_overwritten k) test j false t ∙ append-nil (flat_map (set_overwritten k) (filter test (range_with_len 0 j)))));
            cnf = w.cnf-is ∙ c.loop-set.invariant.cnf ∙ ap (with_clauses c.args.cnf.now) (sym (kept_more S test j false t ∙ append-nil (C j)));
          })
    ]
