use Rattle.std.proofs.Common.{◌≡◌, true, false, refl, sym, subst, subst₂}
use Rattle.std.proofs.lemmas.Option.{MatchOption-at_none, MatchOption-at_some}
use Rattle.pattern_match.specs.Matches.{AreGiven, CanGive}
use Rattle.pattern_match.specs.Classes.{IsClass, CanFindClass}
use Rattle.pattern_match.proofs.ComputedMatching.{met_given, right_can}
use Rattle.pattern_match.proofs.computed.unmet_given.Goals as goal
use Rattle.pattern_match.proofs.computed.unmet_given.Goals.{In-Some}

given_is : (c : In-Some) → AreGiven c.args.graph.now c.args.kind c.args.one.now.classes c.in-Some.given
given_is c = subst (λ cs. AreGiven c.args.graph.now c.args.kind cs c.in-Some.given) c.as_slice-classes.ensures (MatchOption-at_some _ _ c.in-Some.given c.in-Some.is c.in_ok-given.ensures)

pub calc_given-requires : goal.calc_given-requires
calc_given-requires c = subst (CanGive c.args.graph.now c.args.kind) (sym c.as_slice-classes.ensures) c.requires.can

pub has_class-requires : goal.has_class-requires
has_class-requires c =
    let law = c.computed_rules_are_true.ensures in
    let given = given_is (goal.at.has_class-requires c).In-Some in
    record { can = subst₂ (CanFindClass c.args.graph.now) (sym c.as_slice-classes.ensures) (sym c.in_ok-right.ensures.tree) (right_can law.usable law.last c.args.graph.now c.requires.can.graph c.args.kind c.args.one.now.classes c.in-Some.given given.calc.first given.calc.second c.requires.can) }

pub returns-in_default : goal.returns-in_default
returns-in_default c = λ given u. MatchOption-at_none _ _ c.in_default.is c.in_ok-given.ensures given (subst (λ cs. AreGiven c.args.graph.now c.args.kind cs given) (sym c.as_slice-classes.ensures) u.are)

pub returns-then-branch : goal.returns-then-branch
returns-then-branch c =
    let g = c.args.graph.now in
    let kind = c.args.kind in
    let m = c.args.one.now in
    let law = c.computed_rules_are_true.ensures in
    let given = given_is (goal.at.returns-then-branch c).In-Some in
    let has = subst₂ (λ cs t. IsClass g cs t m.class) c.as_slice-classes.ensures c.in_ok-right.ensures.tree (c.in_ok-has_class.ensures.exact.0 c.if-branch.true) in
    met_given law.one g c.requires.can.graph kind m.classes m refl c.in-Some.given given has

pub returns : goal.returns
returns c =
    let g = c.args.graph.now in
    let kind = c.args.kind in
    let m = c.args.one.now in
    let f : c.in_ok-has_class.field-0 ≡ false = c.if-branch.false in
    record {
      are = given_is (goal.at.returns c).In-Some;
      unmet = λ k.
          (let t : c.in_ok-has_class.field-0 ≡ true = c.in_ok-has_class.ensures.exact.1 (subst₂ (λ cs t. IsClass g cs t m.class) (sym c.as_slice-classes.ensures) (sym c.in_ok-right.ensures.tree) k) in
          absurd (cc));
    }
