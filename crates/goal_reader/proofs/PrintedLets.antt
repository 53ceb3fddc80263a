-- Lets are printed by names that are read as they are.
use Rattle.std.proofs.Common.{◌≡◌, ◌≢◌, ℕ, zero, suc, ◌+◌, ◌<◌, ◌++◌, List, [], ◌∷◌, map, length, refl, sym, ap, ◌∙◌, subst, arith}
use Rattle.std.specs.Prelude.{AllPairs, slice_index_or}
use Rattle.std.proofs.lemmas.List.{append-nil}
use Rattle.forms.specs.Forms.{Form}
use Rattle.forms.specs.Printing.{plain_of}
use Rattle.goal_meaning.specs.declared.goals.DeclaredOp.{DeclaredOp}
use Rattle.goal_meaning.specs.declared.goals.InputReg.{InputReg}
use Rattle.goal_meaning.specs.Expanded.{let_names}
use Rattle.goal_meaning.specs.InputForms.{Naming, naming, goal_naming, let_plain}
use Rattle.goal_meaning.specs.Views.{LetTree, GoalTree}
use Rattle.goal_meaning.specs.WellFormed.{input_registers}
use Rattle.goal_reader.specs.declared.scopes.Named.TheVariants.{Memory, Input}
use Rattle.goal_reader.specs.Scopes.{SortedName, sorted_names}
use Rattle.goal_reader.specs.Roles.{let_scope}
use Rattle.goal_reader.specs.Grammar.{WritesLets, no_lets, one_let, sorted_from, scope_of_goal}
use Rattle.goal_reader.proofs.LetScopes.{names_more, names_from}
use Rattle.goal_reader.proofs.LetForms.{in_goal, let_found, no_input, no_memory, number_is, variable_nowhere}
use Rattle.goal_reader.proofs.Moved.{AreNamed, let_again, no_more_form, one_more_form}
use Rattle.goal_reader.proofs.PrintedNames.{goal_named, operator_told}

within_front : (xs ys : List (List ℕ)) (k : ℕ) → k < length xs → slice_index_or xs k [] ≡ slice_index_or (xs ++ ys) k []
within_front [] ys k l = absurd (omega (arith, l))
within_front (x ∷ xs) ys zero l = refl
within_front (x ∷ xs) ys (suc k) l = within_front xs ys k (omega (arith, l))

counted : (lets : List SortedName) → length (sorted_names lets) ≡ length lets
counted [] = refl
counted (l ∷ ls) = ap suc (counted ls)

module _ (declared : List DeclaredOp) (inputs : List InputReg) (lets : List SortedName) where
  pub let_named : (rest : List (List ℕ)) → AllPairs (λ a b. a ≢ b) (input_registers inputs) → AreNamed (let_scope declared inputs lets) (naming declared inputs (sorted_names lets ++ rest))
  let_named rest apart = record {
    memory_is = λ n e. (goal_named declared inputs apart).memory_is n (in_goal declared inputs lets n Memory no_memory e);
    input_is = λ n r e. (goal_named declared inputs apart).input_is n r (in_goal declared inputs lets n (Input r) (no_input r) e);
    variable_is = λ n k e. absurd (variable_nowhere declared inputs lets n k e);
    let_is = λ n k s e.
        let l = let_found declared inputs lets n k s e in
        let same : k ≡ l.place = (number_is k (l.place + 0) s l.sort l.is).0 ∙ (let z : l.place + 0 ≡ l.place = omega arith in z) in
        let low : l.place < length (sorted_names lets) = (let b = l.below in let c = counted lets in omega (arith, b, c)) in
        l.named ∙ within_front (sorted_names lets) rest l.place low ∙ ap (λ m. slice_index_or (sorted_names lets ++ rest) m []) (sym same);
    operator_is = λ n op e. let o = operator_told declared n op e in (o.0, o.1 inputs);
  }

-- the names behind all lets of a goal
pub whole_named : (declared : List DeclaredOp) (goal : GoalTree) → AllPairs (λ a b. a ≢ b) (input_registers goal.inputs) → AreNamed (scope_of_goal declared goal) (goal_naming declared goal)
whole_named declared goal apart =
    subst (λ ns. AreNamed (scope_of_goal declared goal) (naming declared goal.inputs ns)) (append-nil (sorted_names (sorted_from [] goal.lets)) ∙ names_from [] goal.lets)
    (let_named declared goal.inputs (sorted_from [] goal.lets) [] apart)

module _ (declared : List DeclaredOp) (inputs : List InputReg) where
  -- other forms that print as the lets do write them too
  pub lets_again : AllPairs (λ a b. a ≢ b) (input_registers inputs) → (all : List (List ℕ)) {before : List SortedName} {fs : List Form} {ls : List LetTree} → WritesLets declared inputs before fs ls → all ≡ sorted_names before ++ let_names ls
      → (gs : List Form) → map plain_of gs ≡ map (let_plain (naming declared inputs all)) ls → WritesLets declared inputs before gs ls
  lets_again apart all {before} no_lets is gs e = subst (λ fs. WritesLets declared inputs before fs []) (sym (no_more_form gs e)) no_lets
  lets_again apart all {before} (one_let {form = f} {one = l} {others = ls} one others) is gs e =
      let names : Naming = naming declared inputs all in
      let m = one_more_form gs (let_plain names l) (map (let_plain names) ls) e in
      let named = subst (λ ns. AreNamed (let_scope declared inputs before) (naming declared inputs ns)) (sym is) (let_named declared inputs before (let_names (l ∷ ls)) apart) in
      subst (λ fs. WritesLets declared inputs before fs (l ∷ ls)) (sym m.2)
      (one_let (let_again (let_scope declared inputs before) names named f m.0 l one m.3) (lets_again apart all others (is ∙ sym (names_more before l (let_names ls))) m.1 m.4))
