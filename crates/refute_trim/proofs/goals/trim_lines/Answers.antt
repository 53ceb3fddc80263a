use Rattle.std.proofs.Common.{refl, subst}
use Rattle.order_encoding.specs.WholeFormula.{IsSizeFault}
use Rattle.refute_trim.proofs.Claiming.{is_kept, is_refused, is_too_large}
use Rattle.refute_trim.proofs.goals.trim_lines.Goals as goal

pub returns-in-Err-Size : goal.returns-in-Err-Size
returns-in-Err-Size c = λ claimed printed refute cycles.
    let size = subst (IsSizeFault c.args.encoding c.args.graph.now c.args.table.now c.args.k) c.in-Err-Size.field-0-is c.in-Err-Size.ensures.refused in
    let large = is_too_large c.args.encoding c.args.table.now c.args.graph.now c.args.k claimed c.args.lines.now printed refute cycles
    c.in-Err-Size.vars c.in-Err-Size.clauses size in
    rw (c.in-Err-Size.vars-is, c.in-Err-Size.clauses-is) large

pub returns-in-Ok-check : goal.returns-in-Ok-check
returns-in-Ok-check c = λ claimed printed refute cycles.
    is_kept c.args.encoding c.args.table.now c.args.graph.now c.args.k claimed c.args.lines.now printed refute cycles
    c.in-Ok.encoded.cnf c.in_ok-trim-in-Ok-check.field-0 c.in-Ok.ensures.is c.in-Ok.ensures.small (c.in-Ok-check.ensures.exact.0 refl) c.in_ok-trim-in-Ok-check.ensures.trimmed

pub returns : goal.returns
returns c = λ claimed printed refute cycles.
    is_refused c.args.encoding c.args.table.now c.args.graph.now c.args.k claimed c.args.lines.now printed refute cycles
    c.in-Ok.encoded.cnf c.in-Err.rejected.line c.in-Err.rejected.why c.in-Ok.ensures.is c.in-Ok.ensures.small c.in-Err.ensures.refused
