-- The canonical text of an input: the machine form where the input had one, explicit pools, numbers in decimal, one
-- space between tokens except behind an opening and before a closing parenthesis, and a line feed behind each form.
-- Source: this project; the notation follows Denali's guarded multi-assignment (PLDI 2002).
use Rattle.std.specs.Prelude.{ℕ, List}
use Rattle.forms.specs.Printing.{plains_from, lines_of}
use Rattle.goal_meaning.specs.InputForms.{input_plains}
use Rattle.goal_meaning.specs.Views.{InputTree}

abbrev pub input_text : InputTree → List ℕ
input_text i = lines_of (plains_from (input_plains i))
