-- The sort that a form tells is that of the term that it writes.
use Rattle.std.proofs.Common.{◌≡◌, ℕ, List, Some, option_map, slice_get, refl, sym, ap, ◌∙◌}
use Rattle.word_ops.specs.Meanings.{sort_of}
use Rattle.word_ops.specs.declared.sorts.Sort.{Sort}
use Rattle.word_ops.specs.declared.sorts.Op.{Op}
use Rattle.word_terms.specs.Tree.{Tree}
use Rattle.text_core.specs.declared.faults.Kind.{Kind}
use Rattle.forms.specs.Forms.{Form, parts_of, part}
use Rattle.goal_reader.specs.declared.scopes.Scope.{Scope}
use Rattle.goal_reader.specs.Terms.{Writes, memory, input, variable, binding, constant, application}
use Rattle.goal_reader.specs.Roles as roles
use Rattle.goal_reader.specs.Roles.{sort_in, sort_of_leaf, ◌>>=◌, a_list, assume, IsOwn, too_few}
use Rattle.std.proofs.Common.{length, ◌<◌}

pub sort_told : {scope : Scope} {sort : Sort} {form : Form} {t : Tree Op} → Writes scope sort form t → sort_in scope form ≡ Some sort
sort_told (memory l) = ap (option_map sort_of_leaf) l
sort_told (input l) = ap (option_map sort_of_leaf) l
sort_told (variable l) = ap (option_map sort_of_leaf) l
sort_told (binding l) = ap (option_map sort_of_leaf) l
sort_told constant = refl
sort_told (application k s n each) = ap (option_map sort_of) k ∙ ap Some (sym s)

pub sort_of_part : (scope : Scope) (form one : Form) (at : ℕ) {sort : Sort} {t : Tree Op} → slice_get (parts_of form) at ≡ Some one → Writes scope sort one t → (part at form >>= sort_in scope) ≡ Some sort
sort_of_part scope form one at g w = ap (λ f. f >>= sort_in scope) g ∙ sort_told w

pub assume_only : (scope : Scope) (form : Form) (k : Kind) → IsOwn (a_list (assume scope)) form k → length (parts_of form) < 3
assume_only scope form k (too_few l) = l

pub binding_only : (scope : Scope) (names : List (List ℕ)) (form : Form) (k : Kind) → IsOwn (a_list (roles.binding scope names)) form k → length (parts_of form) < 3
binding_only scope names form k (too_few l) = l
