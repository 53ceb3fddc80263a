use Rattle.std.proofs.lemmas.Option.{MatchOption-at_some, MatchOption-at_none}
use Rattle.word_terms.specs.View.{tree_of}
use Rattle.pattern_match.proofs.ReadingSteps.{class_test}
use Rattle.pattern_match.proofs.reading.has_class.Goals as goal

pub returns-in-Some : goal.returns-in-Some
returns-in-Some c = record {
  exact = class_test c.args.graph.now c.args.places.now (tree_of c.args.pattern.now) c.requires.can.graph c.in-Some.found c.args.class
      (MatchOption-at_some _ _ c.in-Some.found c.in-Some.is c.in_ok-found.ensures.exact);
}

pub returns-in-None : goal.returns-in-None
returns-in-None c = record {
  exact = (λ t. absurd (cc), λ h. absurd (MatchOption-at_none _ _ c.in-None.is c.in_ok-found.ensures.exact c.args.class h));
}
