use Rattle.word_terms.specs.View.{tree_of}
use Rattle.saturation.specs.OverLets.{none_over, one_over}
use Rattle.saturation.proofs.StartSteps.{term_can}
use Rattle.saturation.proofs.first_graph.insert_term.Goals as goal

pub build-requires : goal.build-requires
build-requires c = record { can = term_can c.args.lets.now c.args.graph.now (tree_of c.args.term.now) c.requires.can }

pub returns : goal.returns
returns c = record { inserted = one_over c.in_ok-build.ensures.built none_over }
