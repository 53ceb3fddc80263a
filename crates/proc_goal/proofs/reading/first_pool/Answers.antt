use Rattle.std.proofs.Common.{codes, sym, ap, ◌∙◌}
use Rattle.std.specs.Option.{option_copied}
use Rattle.forms.specs.Forms.{sexp_form}
use Rattle.proc_goal.specs.ProcReading.{absent, there}
use Rattle.proc_goal.proofs.Slices.{first_form, nothing_first, other_first}
use Rattle.proc_goal.proofs.ProcWrites.{pool_keyword}
use Rattle.proc_goal.proofs.reading.first_pool.Goals as goal

pub returns-in_default-clause-pool : goal.returns-in_default-clause-pool
returns-in_default-clause-pool c =
    absent (nothing_first c.args.text.now (codes "pool") c.args.items.now (sym c.first.ensures.value ∙ ap option_copied c.in_default.is))

pub returns-then-not-has_head-clause-pool : goal.returns-then-not-has_head-clause-pool
returns-then-not-has_head-clause-pool c =
    absent
    (other_first c.args.text.now (codes "pool") c.args.items.now c.in-Some.item.now (sym c.first.ensures.value ∙ ap option_copied c.in-Some.is)
    (sym c.has_head.ensures ∙ c.if-not-has_head.true))

pub returns-clause-pool : goal.returns-clause-pool
returns-clause-pool c =
    let text = c.args.text.now in
    there (sexp_form text c.in-Some.item.now) (first_form text c.args.items.now c.in-Some.item.now (sym c.first.ensures.value ∙ ap option_copied c.in-Some.is)) (sym c.has_head.ensures ∙ c.if-not-has_head.false)
    (c.from.ensures ∙ c.in_ok-registers.ensures.pool) c.in_ok-registers.ensures.clear

pub pool-requires-clause-keyword : goal.pool-requires-clause-keyword
pool-requires-clause-keyword c =
    pool_keyword (sexp_form c.args.text.now c.in-Some.item.now) (sym c.has_head.ensures ∙ c.if-not-has_head.false)
