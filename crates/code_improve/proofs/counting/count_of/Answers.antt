use Rattle.std.proofs.Common.{Some, subst}
use Rattle.denali_run.specs.Trials.{IsTrial}
use Rattle.denali_run.specs.declared.searching.Trial.{Trial}
use Rattle.denali_run.proofs.RisingCycles.{least_after}
use Rattle.code_improve.proofs.counting.count_of.Goals as goal

pub returns-in-Refuted : goal.returns-in-Refuted
returns-in-Refuted c = λ clauses_for g table s ends.
    let r = c.args.reached.now in
    let lines = c.in-Refuted.field-0 in (
      ends.last lines c.in-Refuted.is,
      (
        Some lines,
        least_after clauses_for g table s.allocation s.conflicts r.k r.below lines ends.least
            (subst (λ (t : Trial). IsTrial clauses_for g table s.allocation r.k s.conflicts t) c.in-Refuted.is ends.trial),
      ),
    )
