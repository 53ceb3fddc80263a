use Rattle.std.proofs.Common.{◌≡◌, ◌∙◌, ◌<◌, ap, sym, subst, List, ℕ, length, get_or, arith}
use Rattle.std.specs.Prelude.{Contains}
use Rattle.std.proofs.lemmas.List.{get_or_default}
use Rattle.std.proofs.lemmas.List.FromFn.{length-map-range_with_len, get_or-map-range_with_len}
use Rattle.cycle_encoding.specs.Wanting.{giving_rows, IsFollowed}
use Rattle.cycle_encoding.proofs.WantSteps.{more-followed, all-followed, few-listed}
use Rattle.cycle_encoding.proofs.wanting.close.Goals as goal

pub bounds-rows-class : goal.bounds-rows-class
bounds-rows-class c =
    let g = c.args.facts.now in
    let v = c.loop-at.invariant in
    let at = c.loop-at.at in
    let class = c.index-class.result.now in
    let lt : at < length c.loop-at.wants.order.items = (let a = c.if-at-len.false in let b = c.len.ensures in omega arith) in
    let member : Contains c.loop-at.wants.order.items class = (at, lt, sym c.index-class.ensures) in
    let within : class < c.args.classes = (let a = v.marks.within class member in let b = v.size in let s = c.requires.size in omega arith) in
    let size = ap (λ (xs : List (List ℕ)). length xs) c.requires.rows ∙ length-map-range_with_len (giving_rows g) 0 c.args.classes in
    omega arith

pub follow-requires-clause-rows : goal.follow-requires-clause-rows
follow-requires-clause-rows c =
    let g = c.args.facts.now in
    let v = c.loop-at.invariant in
    let at = c.loop-at.at in
    let class = c.index-class.result.now in
    let lt : at < length c.loop-at.wants.order.items = (let a = c.if-at-len.false in let b = c.len.ensures in omega arith) in
    let member : Contains c.loop-at.wants.order.items class = (at, lt, sym c.index-class.ensures) in
    let within : class < c.args.classes = (let a = v.marks.within class member in let b = v.size in let s = c.requires.size in omega arith) in
    c.as_slice-found.ensures ∙ c.index-rows-class.is
    ∙ ap (λ (xs : List (List ℕ)). get_or xs class c.index-rows-class.result) c.requires.rows
    ∙ get_or-map-range_with_len (giving_rows g) 0 c.args.classes class class c.index-rows-class.result within (omega arith)

pub follow-requires-clause-wanted : goal.follow-requires-clause-wanted
follow-requires-clause-wanted c =
    let g = c.args.facts.now in
    let v = c.loop-at.invariant in
    let at = c.loop-at.at in
    let class = c.index-class.result.now in
    let lt : at < length c.loop-at.wants.order.items = (let a = c.if-at-len.false in let b = c.len.ensures in omega arith) in
    let member : Contains c.loop-at.wants.order.items class = (at, lt, sym c.index-class.ensures) in
    let within : class < c.args.classes = (let a = v.marks.within class member in let b = v.size in let s = c.requires.size in omega arith) in
    v.marks.wanted class member

pub loop-at-preserved : goal.loop-at-preserved
loop-at-preserved c =
    let g = c.args.facts.now in
    let v = c.loop-at.invariant in
    let at = c.loop-at.at in
    let class = c.index-class.result.now in
    let lt : at < length c.loop-at.wants.order.items = (let a = c.if-at-len.false in let b = c.len.ensures in omega arith) in
    let member : Contains c.loop-at.wants.order.items class = (at, lt, sym c.index-class.ensures) in
    let within : class < c.args.classes = (let a = v.marks.within class member in let b = v.size in let s = c.requires.size in omega arith) in
    let n = c.in_ok-follow.ensures in
    let e : class ≡ get_or c.loop-at.wants.order.items at 0 = c.index-class.ensures ∙ get_or_default c.loop-at.wants.order.items at class 0 lt in
    record {
      size = n.size ∙ v.size;
      marks = n.marks;
      still = λ class h. n.still class (v.still class h);
      done = more-followed g c.loop-at.wants.marks.items c.follow.new.wants.marks.items c.loop-at.wants.order.items c.follow.new.wants.order.items at lt n.still n.size n.longer (subst (IsFollowed g c.follow.new.wants.marks.items) e n.followed) v.done;
    }

pub returns-then-at-len-clause-followed : goal.returns-then-at-len-clause-followed
returns-then-at-len-clause-followed c = all-followed c.args.facts.now c.loop-at.wants.marks.items c.loop-at.wants.order.items c.loop-at.at (let a = c.if-at-len.true in let b = c.len.ensures in omega arith) c.loop-at.invariant.done

pub returns-clause-followed : goal.returns-clause-followed
returns-clause-followed c =
    let v = c.loop-at.invariant in
    let few = few-listed c.args.facts.now c.loop-at.wants.marks.items c.loop-at.wants.order.items v.marks in
    all-followed c.args.facts.now c.loop-at.wants.marks.items c.loop-at.wants.order.items c.loop-at.at (let a = c.loop-at-test.false in let b = v.size in let s = c.requires.size in omega arith) v.done
