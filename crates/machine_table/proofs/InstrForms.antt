-- A form that is read as the name of an instruction.
use Rattle.std.proofs.Common.{◌≡◌, ℕ, false, Some, List, sym, ap, ◌∙◌}
use Rattle.forms.specs.Forms.{Form, name_in}
use Rattle.machine_table.proofs.Leaves.{instr_clear}
use Rattle.machine_table.proofs.Parts.{name_is}
use Rattle.machine_table.specs.InstrOrder.{instr_name, instr_named}
use Rattle.machine_table.specs.Reading.{IsInstrRead}
use Rattle.text_core.specs.Names.{is_among}
use Rattle.machine_table.specs.declared.tables.InstrKind.{InstrKind}

pub instr_read : (before : List (List ℕ)) (form : Form) (bytes : List ℕ) (one : InstrKind) → name_in form ≡ Some bytes → instr_name one ≡ bytes → instr_named bytes ≡ Some one → is_among before bytes ≡ false → IsInstrRead before form one
instr_read before form bytes one named is found fresh = record {
  named = name_is form (instr_name one) (named ∙ ap Some (sym is));
  fresh = ap (is_among before) is ∙ fresh;
  clear = instr_clear form bytes named before one found fresh;
}
