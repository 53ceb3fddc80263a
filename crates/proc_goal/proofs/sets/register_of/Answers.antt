use Rattle.std.proofs.Common.{◌≡◌, codes, bytes_eq, sym, ap, ◌∙◌}
use Rattle.std.proofs.lemmas.Slice.Eq.{bytes_eq-Decides}
use Rattle.proc_goal.proofs.ListForms.{pinned_at}
use Rattle.proc_goal.proofs.sets.register_of.Goals as goal

pub returns-then-eq : goal.returns-then-eq
returns-then-eq c =
    let same = (bytes_eq-Decides c.bytes.result.now c.args.name.now).0 (sym c.eq.ensures ∙ c.if-eq.true) in
    pinned_at c.args.vars.now c.args.name.now c.loop-var.var-index c.var-item.result c.loop-var-test.true c.var-item.is (sym c.bytes.ensures ∙ same)
