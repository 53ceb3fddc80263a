use Rattle.forms.proofs.Views.{form_atom, form_list, atom_within, atom_named, parts_are_of, stands}
use Rattle.forms.proofs.laws.sexps_are_forms.Goals as goal

pub returns : goal.returns
returns c =
    let atoms = c.sexps_are_trees.ensures.atoms in
    let lists = c.sexps_are_trees.ensures.lists in
    record {
      atoms = form_atom atoms lists;
      lists = form_list atoms lists;
      within = atom_within atoms lists;
      named = atom_named atoms lists;
      parts = parts_are_of atoms lists;
      stands = stands;
    }
