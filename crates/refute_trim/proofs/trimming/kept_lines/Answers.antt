use Rattle.std.proofs.Common.{◌+◌, ◌<◌, List, false, length, sym, subst, ◌∙◌, arith}
use Rattle.std.proofs.lemmas.List.{get_or_default}
use Rattle.cnf_core.specs.declared.line.Line.{Line}
use Rattle.refute_trim.proofs.Numbering.{AreKeptTo, kept_more, kept_same}
use Rattle.refute_trim.proofs.trimming.kept_lines.Goals as goal
use Rattle.refute_trim.proofs.trimming.kept_lines.Goals.{then-needed-at+in_ok-renumbered+in_ok-push, else-needed-at}

pub loop-at-preserved : goal.loop-at-preserved
loop-at-preserved c =
    let n = c.args.clauses in
    let lines = c.args.lines.now in
    let marks = c.args.needed.now in
    let numbers = c.args.numbers.now in
    let at = c.loop-at.at in
    let kept = c.loop-at.kept in
    let within = c.loop-at-test.true in
    let size = c.requires.marks in
    let inside : at < length marks = omega (arith, within, size) in
    elim c.if-needed-at.branch [
      | then-needed-at+in_ok-renumbered+in_ok-push w ↦
          subst (λ (ls : List Line). AreKeptTo n lines marks numbers (at + 1) ls) (sym (w.kept-is ∙ w.in_ok-push.ensures.ok))
          (kept_more n lines marks numbers at kept c.index-lines-at.result w.in_ok-renumbered.field-0 within inside c.index-lines-at.is (get_or_default marks at false _ inside ∙ w.if-needed-at.true) c.loop-at.invariant w.in_ok-renumbered.ensures)
      | else-needed-at w ↦
          subst (λ (ls : List Line). AreKeptTo n lines marks numbers (at + 1) ls) (sym w.kept-is)
          (kept_same n lines marks numbers at kept (get_or_default marks at false _ inside ∙ w.if-needed-at.false) c.loop-at.invariant)
    ]
