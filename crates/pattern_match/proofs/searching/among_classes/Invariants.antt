use Rattle.word_terms.specs.View.{tree_of}
use Rattle.pattern_match.specs.Bindings.{AreMatches, IsSubstitutionByClass}
use Rattle.pattern_match.proofs.searching.among_classes.Given as goal

abbrev pub invariant-loop-class : goal.invariant-loop-class
invariant-loop-class l = AreMatches l.graph (tree_of l.pattern) (IsSubstitutionByClass l.graph (tree_of l.pattern) l.count l.class) l.out.items
