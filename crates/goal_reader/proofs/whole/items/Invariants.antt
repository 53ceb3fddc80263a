use Rattle.forms.specs.Forms.{sexp_form}
use Rattle.forms.proofs.First.{ClearTo}
use Rattle.goal_reader.specs.Roles.{a_list, goal, IsOwn, part_role, goal_keywords}
use Rattle.goal_reader.specs.Order.{IsOrderOf}
use Rattle.goal_reader.specs.Drafts.{KeepsSoFar, IsDraft, IsWritten, items_before, names_of_goals}
use Rattle.goal_reader.proofs.whole.items.Given as given

abbrev pub invariant-loop-index : given.invariant-loop-index
invariant-loop-index l = record {
  draft : IsDraft l.fn.declared (items_before (sexp_form l.text l.form) l.index) l.draft;
  written : IsWritten (items_before (sexp_form l.text l.form) l.index) l.draft;
  keeps : KeepsSoFar l.fn.declared l.draft;
  order : IsOrderOf goal_keywords (items_before (sexp_form l.text l.form) l.index) l.order;
  clear : ClearTo IsOwn part_role (a_list (goal l.fn.declared (names_of_goals l.goals))) (sexp_form l.text l.form) l.index;
}
