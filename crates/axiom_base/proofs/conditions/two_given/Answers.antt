use Rattle.axiom_base.proofs.Giving.{only_four}
use Rattle.axiom_base.proofs.conditions.two_given.Goals as goal

pub returns-in_default : goal.returns-in_default
returns-in_default c =
    let n = c.in_default in λ d e f w v h. only_four c.args.kind c.requires n.not-C21 n.not-C32 n.not-C33 n.not-C35
