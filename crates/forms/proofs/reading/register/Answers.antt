use Rattle.std.proofs.Common.{Some, ap, ◌∙◌, sym, subst}
use Rattle.forms.specs.Forms.{register_in}
use Rattle.forms.specs.Reading.{IsSexpOf}
use Rattle.forms.proofs.Views.{atom_register, atom_no_register, list_form}
use Rattle.forms.proofs.reading.register.Goals as goal

pub bytes-requires : goal.bytes-requires
bytes-requires c = c.sexps_are_forms.ensures.within c.args.text.now c.in-Atom.token (subst (IsSexpOf c.args.text.now) c.in-Atom.is c.requires.of)

pub returns-in-Register : goal.returns-in-Register
returns-in-Register c =
    atom_register c.args.text.now (c.sexps_are_forms.ensures.atoms c.args.text.now) c.args.form.now c.in-Atom.token c.in-Atom.is c.in-Register.is ∙ ap Some (sym c.bytes.ensures)

pub returns-in_default : goal.returns-in_default
returns-in_default c = atom_no_register c.args.text.now (c.sexps_are_forms.ensures.atoms c.args.text.now) c.args.form.now c.in-Atom.token c.in-Atom.is c.in_default.not-Register

pub returns-in-List : goal.returns-in-List
returns-in-List c = ap register_in (list_form c.args.text.now (c.sexps_are_forms.ensures.lists c.args.text.now) c.args.form.now c.in-List.place c.in-List.parts c.in-List.is)
