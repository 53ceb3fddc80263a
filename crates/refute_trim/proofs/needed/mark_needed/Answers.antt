use Rattle.std.proofs.Common.{◌≡◌, ◌+◌, ◌-◌, ◌<◌, ℕ, Bool, List, Some, true, false, length, set, ap, sym, subst, ◌∙◌, arith}
use Rattle.std.specs.Prelude.{slice_get}
use Rattle.std.proofs.lemmas.List.{get_or_default}
use Rattle.std.proofs.lemmas.Option.{slice_get-get_or}
use Rattle.cnf_core.specs.declared.line.Line.{Line}
use Rattle.refute_trim.specs.Marks.{AreMarked}
use Rattle.refute_trim.proofs.Marking.{AreVisitedBack, unmarked_more, visited_all, visited_more, visited_none}
use Rattle.refute_trim.proofs.needed.mark_needed.Goals as goal
use Rattle.refute_trim.proofs.needed.mark_needed.Goals.{then-needed-at, else-needed-at}

pub loop-done-init : goal.loop-done-init
loop-done-init c =
    subst (λ (ms : List Bool). AreVisitedBack c.args.lines.now 0 (set ms (length c.args.lines.now - 1) true)) (sym c.requires.none)
    (visited_none c.args.lines.now c.requires.some)

pub loop-done-preserved : goal.loop-done-preserved
loop-done-preserved c =
    let f = c.args.cnf.now in
    let lines = c.args.lines.now in
    let done = c.loop-done.done in
    let at = length lines - 1 - done in
    let old = c.loop-done.needed in
    let less = c.loop-done-test.true in
    let size = c.loop-done.invariant.size in
    let place : at + done + 1 ≡ length lines = omega (arith, less) in
    let within : at < length lines = omega (arith, less) in
    let inside : at < length old = omega (arith, within, size) in
    elim c.if-needed-at.branch [
      | then-needed-at w ↦
          (let line = w.index-lines-at.result in
          let there : slice_get lines at ≡ Some line = slice_get-get_or lines at line within ∙ ap Some (sym w.index-lines-at.is) in
          let marks : AreMarked (length f.clauses) line.hints old w.mark_hints.new.needed =
          subst (λ n. AreMarked n line.hints old w.mark_hints.new.needed) c.clauses-clauses.ensures.value
          (subst (λ (l : Line). AreMarked c.clauses-clauses.result l.hints old w.mark_hints.new.needed) (sym w.index-lines-at.is)
          (subst (λ (hints : List ℕ). AreMarked c.clauses-clauses.result hints old w.mark_hints.new.needed) w.as_slice.ensures w.mark_hints.ensures)) in
          subst (AreVisitedBack lines (done + 1)) (sym w.needed-is)
          (visited_more f lines c.requires.accepted done at line old w.mark_hints.new.needed there place c.loop-done.invariant (get_or_default old at false _ inside ∙ w.if-needed-at.true) marks))
      | else-needed-at w ↦
          subst (AreVisitedBack lines (done + 1)) (sym w.needed-is)
          (unmarked_more f lines c.requires.accepted done at old place c.loop-done.invariant (get_or_default old at false _ inside ∙ w.if-needed-at.false))
    ]

pub returns : goal.returns
returns c =
    let end : c.loop-done.done ≡ length c.args.lines.now = omega (arith, c.loop-done-test.false, c.loop-done.auto.done-end) in
    visited_all c.args.lines.now c.loop-done.needed (subst (λ d. AreVisitedBack c.args.lines.now d c.loop-done.needed) end c.loop-done.invariant)
