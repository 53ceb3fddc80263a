use Rattle.std.proofs.Common.{ap, sym}
use Rattle.forms.specs.Forms.{number_in}
use Rattle.forms.proofs.Views.{atom_number, atom_no_number, list_form}
use Rattle.forms.proofs.reading.number.Goals as goal

pub returns-in-Number : goal.returns-in-Number
returns-in-Number c = λ text. sym (atom_number text (c.sexps_are_forms.ensures.atoms text) c.args.form.now c.in-Atom.token c.in-Number.value c.in-Atom.is c.in-Number.is)

pub returns-in_default : goal.returns-in_default
returns-in_default c = λ text. sym (atom_no_number text (c.sexps_are_forms.ensures.atoms text) c.args.form.now c.in-Atom.token c.in-Atom.is c.in_default.not-Number)

pub returns-in-List : goal.returns-in-List
returns-in-List c = λ text. sym (ap number_in (list_form text (c.sexps_are_forms.ensures.lists text) c.args.form.now c.in-List.place c.in-List.parts c.in-List.is))
