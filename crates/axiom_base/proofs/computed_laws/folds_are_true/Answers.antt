use Rattle.axiom_base.proofs.Folds.{fold_is_true, fold_usable}
use Rattle.axiom_base.proofs.computed_laws.folds_are_true.Goals as goal

pub returns : goal.returns
returns c = record { true_rules = fold_is_true; usable = fold_usable c.meanings_are_in_range.ensures.words }
