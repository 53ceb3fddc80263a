use Rattle.std.proofs.Common.{ℕ, List, [], map}
use Rattle.std.specs.List.{AllZip}
use Rattle.word_ops.specs.declared.sorts.Op.{Op}
use Rattle.word_terms.specs.Tree.{Tree}
use Rattle.pattern_match.specs.Classes.{IsClass}
use Rattle.goal_meaning.specs.Expanded.{expanded_target}
use Rattle.goal_meaning.specs.Views.{target_view}
use Rattle.code_check.specs.Compared.{ArePresentClasses, AreSameBelow}
use Rattle.code_check.specs.Terms.{TermState}
use Rattle.code_check.proofs.comparing.first_different_target.Given as goal

abbrev pub invariant-loop-at : goal.invariant-loop-at
invariant-loop-at l =
    (es : List (Tree Op)) (ts : TermState) (memory : ℕ) →
    AllZip (IsClass l.graph []) es l.lets →
    ArePresentClasses l.graph l.classes memory ts →
    AreSameBelow l.graph l.places (map (expanded_target es) (map target_view l.sets)) ts l.at
