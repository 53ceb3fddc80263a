-- Goals whose parts are equal are equal.
use Rattle.std.proofs.Common.{◌≡◌, ℕ, List, Option, ◌∙◌, ap}
use Rattle.word_ops.specs.declared.sorts.Op.{Op}
use Rattle.word_terms.specs.Tree.{Tree}
use Rattle.goal_meaning.specs.Views.{GoalTree, LetTree, TargetTree, TwoTrees}
use Rattle.goal_meaning.specs.declared.goals.InputReg.{InputReg}

pub same_goal : (a b : GoalTree) → a.name ≡ b.name → a.inputs ≡ b.inputs → a.pool ≡ b.pool → a.lets ≡ b.lets → a.assumes ≡ b.assumes → a.guard ≡ b.guard → a.sets ≡ b.sets → a ≡ b
same_goal a b name inputs pool lets assumes guard sets =
    ap (λ (x : List ℕ). record a { name = x }) name
    ∙ ap (λ (x : List InputReg). record a { name = b.name; inputs = x }) inputs
    ∙ ap (λ (x : List ℕ). record a { name = b.name; inputs = b.inputs; pool = x }) pool
    ∙ ap (λ (x : List LetTree). record a { name = b.name; inputs = b.inputs; pool = b.pool; lets = x }) lets
    ∙ ap (λ (x : List TwoTrees). record a { name = b.name; inputs = b.inputs; pool = b.pool; lets = b.lets; assumes = x }) assumes
    ∙ ap (λ (x : Option (Tree Op)). record b { guard = x; sets = a.sets }) guard
    ∙ ap (λ (x : List TargetTree). record b { sets = x }) sets
