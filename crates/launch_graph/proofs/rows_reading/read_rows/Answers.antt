use Rattle.std.proofs.Common.{◌≡◌, ◌+◌, ◌-◌, ◌<◌, ◌≤◌, [], ◌∷◌, ◌++◌, length, refl, sym, ap, subst, ◌∙◌, arith}
use Rattle.std.proofs.lemmas.List.{length_push}
use Rattle.std.proofs.lemmas.Result.{err_from_is_err_and}
use Rattle.text_core.specs.Faults.{IsFaultBy}
use Rattle.launch_graph.specs.GraphStages.{rows}
use Rattle.launch_graph.specs.LineFaults.{IsFirstFaultOf}
use Rattle.launch_graph.specs.RowsRead.{AreRowsTo, HasRead}
use Rattle.launch_graph.proofs.FirstFaults.{missing_first}
use Rattle.launch_graph.proofs.GraphRuns.{never_rows}
use Rattle.launch_graph.proofs.RowsStart.{rows_start}
use Rattle.launch_graph.proofs.rows_reading.read_rows.Goals as goal

pub loop-init : goal.loop-init
loop-init c =
    let so = c.in_ok-so_far.so_far in
    let e = c.in_ok-so_far.ensures in
    record {
      place = omega arith;
      order = c.requires.first;
      size = e.size;
      few = subst (λ us. length us ≤ 16) (sym e.used) (omega arith);
      has = λ version from all b. (
        [],
        subst (λ n. AreRowsTo version c.args.text.now from all [] c.args.marks.now n so) (sym b.first_is ∙ (let z : c.args.first ≡ c.args.first + 0 = omega arith in z))
            (rows_start c.args.text.now from all c.args.marks.now so b.low b.header_is b.few b.are b.marks_are e.used e.index e.rows e.next e.size e.none),
        refl,
      );
    }

pub loop-preserved : goal.loop-preserved
loop-preserved c =
    let lines = c.args.text.now in
    let marks = c.args.marks.now in
    let i = c.loop.invariant in
    let new = c.next_row.new.so_far in
    let lt : c.loop.line < length lines = (let e = c.count-end.ensures.count in let l = c.if-line-end.false in let o = i.order in omega arith) in
    record {
      place = (let p = i.place in omega arith);
      order = omega (arith, lt);
      size = c.next_row.ensures.size ∙ i.size;
      few = c.in_ok-next_row.ensures.few;
      has = λ version from all b.
          (let h = i.has version from all b in
          let n : length h.0 ≡ c.loop.counter = h.2 in
          let low : length h.0 < length marks = (let t = c.loop-test.true in omega (arith, n, t)) in
          let a = subst (λ k. AreRowsTo version lines from all h.0 marks k c.loop.so_far) (sym i.place) h.1 in
          let more = c.in_ok-next_row.ensures.ok version from all h.0 a low in
          let place : c.loop.line + 1 ≡ c.args.first + (c.loop.counter + 1) = (let p = i.place in omega (arith, p)) in (
            h.0 ++ more.0 ∷ [],
            subst (λ k. AreRowsTo version lines from all (h.0 ++ more.0 ∷ []) marks k new) place more.1,
            length_push h.0 more.0 ∙ ap (λ k. k + 1) n,
          ));
    }

pub returns-then-line-end-clause-fault : goal.returns-then-line-end-clause-fault
returns-then-line-end-clause-fault c = λ version from all b.
    (let h = c.loop.invariant.has version from all b in
    let f = c.line_fault.ensures in
    let end : c.loop.line ≡ length c.args.text.now = c.if-line-end.true ∙ c.count-end.ensures.count in
    let a = subst (λ n. AreRowsTo version c.args.text.now from all h.0 c.args.marks.now n c.loop.so_far) (sym c.loop.invariant.place) h.1 in
    subst (IsFaultBy (IsFirstFaultOf version c.args.text.now from)) (sym f.is)
    (missing_first c.operators_are_listed.ensures.names c.args.text.now from (length c.args.marks.now) all h.0 c.loop.line
    (rows (length c.args.marks.now - length h.0)) a.clean f.place end f.placed (never_rows (length c.args.marks.now - length h.0))))

pub returns-in_err-next_row-clause-fault : goal.returns-in_err-next_row-clause-fault
returns-in_err-next_row-clause-fault c =
    let p = err_from_is_err_and c.from_residual-in_err-next_row.result c.from_residual-in_err-next_row.ensures.1 in
    rw (p.1, p.2)
    (λ version from all b.
    (let h = c.loop.invariant.has version from all b in
    let n : length h.0 ≡ c.loop.counter = h.2 in
    let low : c.loop.counter < length c.args.marks.now = c.loop-test.true in
    c.in_err-next_row.ensures.fault version from all h.0
    (subst (λ n. AreRowsTo version c.args.text.now from all h.0 c.args.marks.now n c.loop.so_far) (sym c.loop.invariant.place) h.1)
    (omega arith)))

pub returns-clause-ok : goal.returns-clause-ok
returns-clause-ok c =
    let all : c.loop.counter ≡ length c.args.marks.now = (let a = c.loop.auto.counter-end in let t = c.loop-test.false in omega arith) in
    subst (λ n. HasRead c.args.text.now c.args.marks.now c.args.first n c.loop.so_far) all c.loop.invariant.has
