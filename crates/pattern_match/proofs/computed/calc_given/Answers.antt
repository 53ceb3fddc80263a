use Rattle.std.proofs.Common.{◌-◌, drop, length, subst, arith}
use Rattle.std.proofs.lemmas.List.{take_all, length-drop}
use Rattle.std.specs.Prelude.{MatchOption}
use Rattle.std.proofs.lemmas.Option.{MatchOption-at_some}
use Rattle.axiom_base.specs.Conditions.{IsCalc}
use Rattle.axiom_base.specs.declared.kinds.Given.{Given}
use Rattle.pattern_match.specs.Matches.{HaveConstants}
use Rattle.pattern_match.proofs.ConstantsOf.{given_exactly}
use Rattle.pattern_match.proofs.computed.calc_given.Goals as goal

pub returns : goal.returns
returns c =
    let g = c.args.graph.now in
    let kind = c.args.kind in
    let classes = c.args.classes.now in
    let words = c.in-Some.words.items in
    let h = MatchOption-at_some _ _ c.in-Some.words c.in-Some.is c.in_ok-words.ensures.exact in
    given_exactly g c.requires.graph kind classes words c.calc.result
    (subst (λ n. HaveConstants g (drop n classes) words) c.first_constant.ensures.number (subst (λ cs. HaveConstants g cs words) (take_all (length classes - c.first_constant.result) (drop c.first_constant.result classes) (omega (arith, length-drop c.first_constant.result classes))) h))
    (subst (λ ws. MatchOption c.calc.result ((given : Given) → IsCalc kind ws given → ⊥) (IsCalc kind ws)) c.deref.ensures.value c.calc.ensures.exact)
