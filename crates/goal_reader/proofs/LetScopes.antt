-- What names mean behind lets, one let after another.
use Rattle.std.proofs.Common.{◌≡◌, ℕ, suc, ◌+◌, ◌++◌, List, [], ◌∷◌, length, refl, sym, ap, ◌∙◌, arith}
use Rattle.std.specs.List.{cons_option}
use Rattle.std.proofs.lemmas.List.{append-nil, append_assoc, map-append}
use Rattle.forms.specs.Forms.{Form}
use Rattle.goal_meaning.specs.declared.goals.DeclaredOp.{DeclaredOp}
use Rattle.goal_meaning.specs.declared.goals.InputReg.{InputReg}
use Rattle.goal_meaning.specs.Expanded.{let_names, let_values}
use Rattle.goal_meaning.specs.Views.{LetTree}
use Rattle.goal_meaning.specs.WellFormed.{sorts_of_lets}
use Rattle.goal_reader.specs.Scopes.{SortedName, let_leaves, sorted_names, sorts_of_names}
use Rattle.goal_reader.specs.Roles.{goal_scope, let_scope, let_in, lets_from}
use Rattle.goal_reader.specs.Grammar.{sorted_let, sorted_from}
use Rattle.goal_reader.specs.Drafts.{let_leaf}

leaves_more : (at : ℕ) (ls : List SortedName) (l : SortedName) → let_leaves at (ls ++ l ∷ []) ≡ let_leaves at ls ++ let_leaf (at + length ls) l.name l.sort ∷ []
leaves_more at [] l = ap (λ n. let_leaf n l.name l.sort ∷ []) (let e : at ≡ at + 0 = omega arith in e)
leaves_more at (m ∷ ls) l =
    ap (λ xs. let_leaf at m.name m.sort ∷ xs)
    (leaves_more (at + 1) ls l ∙ ap (λ n. let_leaves (at + 1) ls ++ let_leaf n l.name l.sort ∷ []) (let e : at + 1 + length ls ≡ at + suc (length ls) = omega arith in e))

module _ (declared : List DeclaredOp) (inputs : List InputReg) where
  pub scope_more : (ls : List SortedName) (l : SortedName) → (let_scope declared inputs ls).leaves ++ let_leaf (length ls) l.name l.sort ∷ [] ≡ (let_scope declared inputs (ls ++ l ∷ [])).leaves
  scope_more ls l =
      append_assoc (goal_scope declared inputs).leaves (let_leaves 0 ls) (let_leaf (length ls) l.name l.sort ∷ [])
      ∙ ap (λ xs. (goal_scope declared inputs).leaves ++ xs)
      (ap (λ n. let_leaves 0 ls ++ let_leaf n l.name l.sort ∷ []) (let e : length ls ≡ 0 + length ls = omega arith in e) ∙ sym (leaves_more 0 ls l))

  -- the lets of forms, one form more
  pub lets_from_more : (before : List SortedName) (fs : List Form) (f : Form)
      → lets_from declared inputs before (fs ++ f ∷ []) ≡ lets_from declared inputs before fs ++ cons_option (let_in (let_scope declared inputs (lets_from declared inputs before fs)) f) []
  lets_from_more before [] f = refl
  lets_from_more before (g ∷ fs) f = lets_from_more (before ++ cons_option (let_in (let_scope declared inputs before) g) []) fs f

pub from_more : (before : List SortedName) (ls : List LetTree) (l : LetTree) → sorted_from before (ls ++ l ∷ []) ≡ sorted_from before ls ++ sorted_let (sorted_from before ls) l ∷ []
from_more before [] l = refl
from_more before (m ∷ ls) l = from_more (before ++ sorted_let before m ∷ []) ls l

pub names_more : (before : List SortedName) (l : LetTree) (rest : List (List ℕ)) → sorted_names (before ++ sorted_let before l ∷ []) ++ rest ≡ sorted_names before ++ l.name ∷ rest
names_more before l rest =
    ap (λ ns. ns ++ rest) (map-append (λ (x : SortedName). x.name) before (sorted_let before l ∷ [])) ∙ append_assoc (sorted_names before) (l.name ∷ []) rest

pub names_from : (before : List SortedName) (ls : List LetTree) → sorted_names (sorted_from before ls) ≡ sorted_names before ++ let_names ls
names_from before [] = sym (append-nil (sorted_names before))
names_from before (l ∷ ls) = names_from (before ++ sorted_let before l ∷ []) ls ∙ names_more before l (let_names ls)

pub sorts_more : (before : List SortedName) (l : LetTree) → sorts_of_names (before ++ sorted_let before l ∷ []) ≡ sorts_of_names before ++ (sorted_let before l).sort ∷ []
sorts_more before l = map-append (λ (x : SortedName). x.sort) before (sorted_let before l ∷ [])

pub sorts_from : (before : List SortedName) (ls : List LetTree) → sorts_of_names (sorted_from before ls) ≡ sorts_of_lets (sorts_of_names before) (let_values ls)
sorts_from before [] = refl
sorts_from before (l ∷ ls) = sorts_from (before ++ sorted_let before l ∷ []) ls ∙ ap (λ ss. sorts_of_lets ss (let_values ls)) (sorts_more before l)
