use Rattle.std.specs.List.{AllZip}
use Rattle.std.proofs.Common.{ℕ, List, [], false, ◌≡◌, rules, sym, ◌∙◌}
use Rattle.std.specs.Prelude.{IsTrue, ◌↔◌}
use Rattle.std.proofs.lemmas.Result.{IfOk-weaker}
use Rattle.word_ops.specs.declared.sorts.Op.{Op}
use Rattle.word_terms.specs.Tree.{Tree, substituted}
use Rattle.word_terms.specs.View.{tree_of}
use Rattle.pattern_match.specs.Classes.{IsClass}
use Rattle.goal_meaning.specs.Expanded.{expanded_target}
use Rattle.goal_meaning.specs.Outcomes.{is_memory}
use Rattle.goal_meaning.specs.Views.{target_view}
use Rattle.code_check.specs.Compared.{ArePresentClasses}
use Rattle.code_check.specs.Same.{HaveSameClass}
use Rattle.code_check.specs.Terms.{TermState}
use Rattle.code_check.proofs.Comparisons.{memory_tells, target_tells, unnamed_tells}
use Rattle.code_check.proofs.comparing.is_same_target.Goals as goal

pub returns-then-is_memory_set : goal.returns-then-is_memory_set
returns-then-is_memory_set c = λ es ts memory zip are.
    memory_tells c.args.graph.now c.args.places.now (expanded_target es (target_view c.args.set.now)) ts c.args.at (sym c.is_memory_set.ensures ∙ search rules)

pub returns-in-Some : goal.returns-in-Some
returns-in-Some c =
    let g = c.args.graph.now in
    let t = target_view c.args.set.now in
    let word : is_memory t ≡ false = sym c.is_memory_set.ensures ∙ search rules in
    IfOk-weaker c.has_term.result (λ same. (es : List (Tree Op)) (ts : TermState) (memory : ℕ) → AllZip (IsClass g []) es c.args.lets.now → ArePresentClasses g c.args.classes.now memory ts →
    (IsTrue same ↔ HaveSameClass g (ts.registers c.in-Some.register) (substituted es (tree_of c.args.set.now.value)))) _
    (λ same h es ts memory zip are. target_tells g c.args.places.now c.requires.differ (expanded_target es t) ts c.args.at c.in-Some.register same word c.in-Some.ensures (h es ts memory zip are))
    c.has_term.ensures

pub returns-in-None : goal.returns-in-None
returns-in-None c = λ es ts memory zip are.
    unnamed_tells c.args.graph.now c.args.places.now (expanded_target es (target_view c.args.set.now)) ts c.args.at c.in-None.ensures
