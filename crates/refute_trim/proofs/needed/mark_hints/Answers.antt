use Rattle.std.proofs.Common.{◌+◌, Bool, List, take, subst, sym}
use Rattle.refute_trim.specs.Marks.{AreMarked}
use Rattle.refute_trim.proofs.Marking.{clause_more, marked_more}
use Rattle.refute_trim.proofs.needed.mark_hints.Goals as goal
use Rattle.refute_trim.proofs.needed.mark_hints.Goals.{then-hint-clauses, else-hint-clauses}

pub loop-hint-preserved : goal.loop-hint-preserved
loop-hint-preserved c =
    elim c.if-hint-clauses.branch [
      | then-hint-clauses w ↦
          subst (λ (ms : List Bool). AreMarked c.args.clauses (take (c.loop-hint.hint-index + 1) c.args.hints.now) c.args.needed.now ms) (sym w.needed-is)
          (marked_more c.args.clauses c.args.hints.now c.loop-hint.hint-index _ c.args.needed.now c.loop-hint.needed c.loop-hint-test.true c.requires c.loop-hint.invariant w.if-hint-clauses.true)
      | else-hint-clauses w ↦
          subst (λ (ms : List Bool). AreMarked c.args.clauses (take (c.loop-hint.hint-index + 1) c.args.hints.now) c.args.needed.now ms) (sym w.needed-is)
          (clause_more c.args.clauses c.args.hints.now c.loop-hint.hint-index _ c.args.needed.now c.loop-hint.needed c.loop-hint-test.true c.loop-hint.invariant w.if-hint-clauses.false)
    ]
