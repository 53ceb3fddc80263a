use Rattle.std.proofs.Common.{◌≡◌, ◌+◌, get_or, take, slice_index, sym, subst}
use Rattle.std.proofs.lemmas.Option.{MatchOption-at_some, MatchOption-at_none}
use Rattle.word_terms.specs.Keys.{op_signature}
use Rattle.egraph.specs.Graph.{HasConstant, LacksConstant}
use Rattle.pattern_match.specs.Matches.{HaveConstants}
use Rattle.pattern_match.proofs.ConstantsOf.{no_list, constants_more}
use Rattle.pattern_match.proofs.constants.constants_at.Goals as goal
use Rattle.pattern_match.proofs.constants.constants_at.Goals.{After-constant_of}

itself : (c : After-constant_of) → slice_index c.args.graph.now.current (get_or c.args.classes.now c.loop-class.class-index 0) ≡ get_or c.args.classes.now c.loop-class.class-index 0
itself c = (c.rows_name_present_classes.ensures.present c.args.graph.now (get_or c.args.classes.now c.loop-class.class-index 0) c.requires.graph (c.requires.present c.loop-class.class-index 0 c.loop-class-test.true)).itself

pub returns-in_default : goal.returns-in_default
returns-in_default c =
    let g = c.args.graph.now in
    let classes = c.args.classes.now in
    let i = c.loop-class.class-index in
    let here = itself (goal.at.returns-in_default c).After-constant_of in
    record {
      exact = λ words h. no_list g classes words i (get_or classes i 0) c.loop-class-test.true (λ j. get_or classes i 0)
          (subst (LacksConstant op_signature g.rows) here (MatchOption-at_none _ _ c.in_default.is c.constant_of.ensures.constant)) h;
    }

pub loop-class-preserved : goal.loop-class-preserved
loop-class-preserved c =
    let g = c.args.graph.now in
    let classes = c.args.classes.now in
    let i = c.loop-class.class-index in
    let here = itself (goal.at.loop-class-preserved c).After-constant_of in
    let has = subst (λ x. HasConstant op_signature g.rows x c.in-Some.word) here (MatchOption-at_some _ _ c.in-Some.word c.in-Some.is c.constant_of.ensures.constant) in
    subst (HaveConstants g (take (i + 1) classes)) (sym c.in_ok-push.ensures.items) (constants_more g classes c.loop-class.words.items i c.in-Some.word c.loop-class-test.true c.loop-class.invariant has)
