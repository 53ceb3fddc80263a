use Rattle.std.proofs.Common.{ap, sym}
use Rattle.forms.specs.Forms.{place_of}
use Rattle.forms.proofs.Views.{atom_form, list_form}
use Rattle.forms.proofs.reading.place.Goals as goal

pub returns-in-Atom : goal.returns-in-Atom
returns-in-Atom c = λ text. sym (ap place_of (atom_form text (c.sexps_are_forms.ensures.atoms text) c.args.form.now c.in-Atom.token c.in-Atom.is))

pub returns-in-List : goal.returns-in-List
returns-in-List c = λ text. sym (ap place_of (list_form text (c.sexps_are_forms.ensures.lists text) c.args.form.now c.in-List.place c.in-List.parts c.in-List.is))
