use Rattle.std.proofs.Common.{sym, ◌∙◌}
use Rattle.cycle_encoding.proofs.TooLarge.{few_vars, few_clauses, limit_passed, keeps_within}
use Rattle.cycle_encoding.proofs.counts.Sizes.within_limits.Goals as goal

pub returns-then-pass_limit-clause-size : goal.returns-then-pass_limit-clause-size
returns-then-pass_limit-clause-size c =
    λ f ev ec. limit_passed c.args.self.vars c.args.self.clauses f ev ec (sym c.pass_limit.ensures.value ∙ c.if-pass_limit.true)

pub returns-clause-within : goal.returns-clause-within
returns-clause-within c =
    let no = sym c.pass_limit.ensures.value ∙ c.if-pass_limit.false in
    λ f ev ec.
    keeps_within c.args.self.vars c.args.self.clauses f ev ec
    (few_vars c.args.self.vars c.args.self.clauses no) (few_clauses c.args.self.vars c.args.self.clauses no)

pub returns-clause-few_vars : goal.returns-clause-few_vars
returns-clause-few_vars c = few_vars c.args.self.vars c.args.self.clauses (sym c.pass_limit.ensures.value ∙ c.if-pass_limit.false)

pub returns-clause-few_clauses : goal.returns-clause-few_clauses
returns-clause-few_clauses c =
    few_clauses c.args.self.vars c.args.self.clauses (sym c.pass_limit.ensures.value ∙ c.if-pass_limit.false)
