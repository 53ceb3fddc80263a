-- The axioms of an input and of a library as rules: laws.
use Rattle.std.proofs.Common.{◌≡◌, List, [], ◌∷◌, ◌++◌, map, All, sym, subst, arith}
use Rattle.std.proofs.lemmas.List.{map-append}
use Rattle.std.proofs.lemmas.List.Elements.{All-append, All-cons, All-head, All-map, All-tail, All-weaker}
use Rattle.word_ops.specs.Worlds.{World}
use Rattle.axiom_base.specs.Rewrites.{Rewrite, IsRule, IsTrueIn, value_in}
use Rattle.axiom_library.specs.Asked.{asked_axioms, asked_equations}
use Rattle.axiom_library.specs.declared.libraries.Library.{Library}
use Rattle.goal_meaning.specs.Expanded.{expanded}
use Rattle.goal_meaning.specs.Holds.{HoldsOfAll, HoldsFor, IsMet}
use Rattle.goal_meaning.specs.Names.{declared_name}
use Rattle.goal_meaning.specs.Views.{AxiomTree, TwoTrees, GoalTree, InputTree}
use Rattle.goal_meaning.specs.WellFormed.{IsAxiom, IsInput}
use Rattle.goal_meaning.specs.declared.goals.DeclaredOp.{DeclaredOp}
use Rattle.saturation.specs.Derives.{Pair}
use Rattle.saturation.specs.GoalTerms.{rule_of, rules_of, assumed_pair, assumed_pairs}
use Rattle.saturation.specs.GraphStands.{RulesHold}
use Rattle.saturation.proofs.Renumbering.{axiom_is_rule, axiom_is_true}

rules : (declared : List DeclaredOp) (xs : List AxiomTree) → All (IsAxiom declared) xs → All IsRule (map rule_of xs)
rules declared xs is = All-map IsRule rule_of xs (All-weaker (IsAxiom declared) (λ a. IsRule (rule_of a)) (λ a h. axiom_is_rule a declared h) xs is)

-- the axioms are those that a text with other operators may have
true_rules : (others declared : List DeclaredOp) (world : World) (xs : List AxiomTree) → All (IsAxiom others) xs → All (HoldsOfAll declared world) xs → All (IsTrueIn world (declared_name declared)) (map rule_of xs)
true_rules others declared world [] is holds = λ n d l. absurd (omega arith)
true_rules others declared world (x ∷ xs) is holds =
    All-cons (IsTrueIn world (declared_name declared)) (rule_of x) (map rule_of xs)
    (axiom_is_true x others declared world (All-head (IsAxiom others) x xs is) (All-head (HoldsOfAll declared world) x xs holds))
    (true_rules others declared world xs (All-tail (IsAxiom others) x xs is) (All-tail (HoldsOfAll declared world) x xs holds))

abbrev IsEqual : List DeclaredOp → World → Pair → Type 0
IsEqual declared world p = value_in world (declared_name declared) [] p.0 ≡ value_in world (declared_name declared) [] p.1

met : (declared : List DeclaredOp) (world : World) (xs : List TwoTrees) → All (IsMet declared world) xs → All (IsEqual declared world) (map assumed_pair xs)
met declared world [] h = λ n d l. absurd (omega arith)
met declared world (x ∷ xs) h =
    All-cons (IsEqual declared world) (assumed_pair x) (map assumed_pair xs) (All-head (IsMet declared world) x xs h) (met declared world xs (All-tail (IsMet declared world) x xs h))

-- the rules of the text's axioms, of the library's and the library's equations
of_all : (P : Rewrite → Type 0) (library : Library) (input : InputTree) → All P (map rule_of input.axioms) → All P (map rule_of (asked_axioms library)) → All P (asked_equations library) → All P (rules_of library input).axioms
of_all P library input first second third =
    All-append P (map rule_of (input.axioms ++ asked_axioms library)) (asked_equations library)
    (subst (All P) (sym (map-append rule_of input.axioms (asked_axioms library))) (All-append P (map rule_of input.axioms) (map rule_of (asked_axioms library)) first second))
    third

module _ (library : Library) (asked_are : All (IsAxiom []) (asked_axioms library)) where
  pub are_rules : (input : InputTree) → IsInput input → All IsRule (asked_equations library) → All IsRule (rules_of library input).axioms
  are_rules input is equations = of_all IsRule library input (rules input.ops input.axioms is.axioms) (rules [] (asked_axioms library) asked_are) equations

  pub rules_hold :
      (input : InputTree) (goal : GoalTree) (world : World) →
      IsInput input →
      HoldsFor input goal world →
      All (HoldsOfAll input.ops world) (asked_axioms library) →
      All (IsTrueIn world (declared_name input.ops)) (asked_equations library) →
      RulesHold world (declared_name input.ops) (rules_of library input) (assumed_pairs goal)
  rules_hold input goal world is holds asked equations = record {
    axioms_hold =
        of_all (IsTrueIn world (declared_name input.ops)) library input
        (true_rules input.ops input.ops world input.axioms is.axioms holds.axioms)
        (true_rules [] input.ops world (asked_axioms library) asked_are asked)
        equations;
    equal_hold = met input.ops world (expanded goal).assumes holds.assumes;
  }
