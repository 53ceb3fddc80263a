use Rattle.std.proofs.Common.{◌∙◌, sym, subst, List, ℕ}
use Rattle.std.specs.Prelude.{Contains}
use Rattle.cycle_encoding.proofs.WantSteps.{root-needs}
use Rattle.cycle_encoding.proofs.wanting.want_root.Goals as goal

pub want_all-requires-clause-wanted : goal.want_all-requires-clause-wanted
want_all-requires-clause-wanted c = λ class h. root-needs c.args.facts.now c.args.row (sym c.is_root.ensures ∙ c.if-not-is_root.false) class (subst (λ (cs : List ℕ). Contains cs class) c.requires.needs h)
