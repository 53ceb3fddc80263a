use Rattle.std.proofs.Common.{Some, ap, ◌∙◌, sym, subst}
use Rattle.forms.specs.Forms.{name_in}
use Rattle.forms.specs.Reading.{IsSexpOf}
use Rattle.forms.proofs.Views.{atom_name, atom_no_name, list_form}
use Rattle.text_core.specs.Names.{IsName}
use Rattle.forms.proofs.reading.name.Goals as goal

pub bytes-requires : goal.bytes-requires
bytes-requires c = c.sexps_are_forms.ensures.within c.args.text.now c.in-Atom.token (subst (IsSexpOf c.args.text.now) c.in-Atom.is c.requires.of)

pub returns-in-Name-clause-name : goal.returns-in-Name-clause-name
returns-in-Name-clause-name c =
    atom_name c.args.text.now (c.sexps_are_forms.ensures.atoms c.args.text.now) c.args.form.now c.in-Atom.token c.in-Atom.is c.in-Name.is ∙ ap Some (sym c.bytes.ensures)

pub returns-in-Name-clause-named : goal.returns-in-Name-clause-named
returns-in-Name-clause-named c =
    subst IsName (sym c.bytes.ensures) (c.sexps_are_forms.ensures.named c.args.text.now c.in-Atom.token (subst (IsSexpOf c.args.text.now) c.in-Atom.is c.requires.of) c.in-Name.is)

pub returns-in_default-clause-name : goal.returns-in_default-clause-name
returns-in_default-clause-name c = atom_no_name c.args.text.now (c.sexps_are_forms.ensures.atoms c.args.text.now) c.args.form.now c.in-Atom.token c.in-Atom.is c.in_default.not-Name

pub returns-in-List-clause-name : goal.returns-in-List-clause-name
returns-in-List-clause-name c = ap name_in (list_form c.args.text.now (c.sexps_are_forms.ensures.lists c.args.text.now) c.args.form.now c.in-List.place c.in-List.parts c.in-List.is)
