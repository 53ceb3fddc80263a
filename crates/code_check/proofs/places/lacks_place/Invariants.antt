use Rattle.std.proofs.Common.{◌≡◌, map, drop}
use Rattle.forms.specs.Forms.{sexp_forms}
use Rattle.goal_meaning.specs.Views.{target_view}
use Rattle.code_check.specs.CodeRoles.{lacks_place}
use Rattle.code_check.proofs.places.lacks_place.Given as goal

abbrev pub invariant-loop-set : goal.invariant-loop-set
invariant-loop-set l = lacks_place (map target_view l.sets) (sexp_forms l.text l.forms) ≡ lacks_place (map target_view (drop l.set-index l.sets)) (sexp_forms l.text l.forms)
