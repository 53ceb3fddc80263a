use Rattle.std.proofs.Common.{rules, ◌≡◌, ◌++◌, List, map, sym, ◌∙◌, ap}
use Rattle.forms.specs.Printing.{lines_of, plains_from}
use Rattle.goal_meaning.specs.InputForms.{axiom_plain, declaration_plain, goal_plain, machine_plains}
use Rattle.goal_meaning.specs.Views.{axiom_view, goal_view, input_view}
use Rattle.goal_meaning.specs.declared.goals.Axiom.{Axiom}
use Rattle.goal_meaning.specs.declared.goals.Goal.{Goal}
use Rattle.goal_meaning.specs.declared.goals.DeclaredOp.{DeclaredOp}
use Rattle.goal_reader.proofs.Printed.{input_lines, input_printed}
use Rattle.goal_reader.proofs.printing.print.Goals as goal
use Rattle.goal_reader.proofs.printing.print.Goals.{then-input, else-input+in_ok-text}

pub returns : goal.returns
returns c =
    let i = c.args.input.now in
    let declared = c.as_slice-declared.ensures in
    let axs : List DeclaredOp → List Axiom → List _ = λ ds xs. lines_of (plains_from (map (λ (a : Axiom). axiom_plain ds (axiom_view a)) xs)) in
    let gs : List DeclaredOp → List Goal → List _ = λ ds xs. lines_of (plains_from (map (λ (g : Goal). goal_plain ds (goal_view g)) xs)) in
    let first : c.if-input.text.items ≡ lines_of (plains_from (machine_plains (input_view i))) = elim c.if-input.branch [
      | then-input w ↦ search rules
      | else-input+in_ok-text w ↦ search rules
    ] in
    input_printed c.if-input.text.items c.put_declarations.new.text.items c.put_axioms.new.text.items c.put_goals.new.text.items _ _ _ _
    first
    (c.in_ok-put_declarations.ensures ∙ ap (λ ds. c.if-input.text.items ++ lines_of (plains_from (map declaration_plain ds))) declared)
    (c.in_ok-put_axioms.ensures ∙ ap (λ ds. c.put_declarations.new.text.items ++ axs ds c.as_slice.result.now) declared ∙ ap (λ xs. c.put_declarations.new.text.items ++ axs i.ops xs) c.as_slice.ensures)
    (c.in_ok-put_goals.ensures ∙ ap (λ ds. c.put_axioms.new.text.items ++ gs ds c.as_slice-2.result.now) declared ∙ ap (λ xs. c.put_axioms.new.text.items ++ gs i.ops xs) c.as_slice-2.ensures)
    ∙ sym (input_lines i)
