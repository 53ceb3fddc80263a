use Rattle.std.proofs.Common.{sym, subst, option_map}
use Rattle.word_terms.specs.View.{tree_of}
use Rattle.saturation.specs.OverLets.{AreInsertedOver, none_over}
use Rattle.saturation.specs.GoalTerms.{guard_terms}
use Rattle.saturation.proofs.first_graph.insert_guard.Goals as goal

pub returns-in-None : goal.returns-in-None
returns-in-None c = record { inserted = subst (λ o. AreInsertedOver c.args.lets.now (guard_terms (option_map tree_of o)) c.args.graph.now c.args.graph.now) (sym c.in-None.is) none_over }
