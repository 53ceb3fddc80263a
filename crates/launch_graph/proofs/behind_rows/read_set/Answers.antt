use Rattle.std.proofs.Common.{◌∙◌, length, sym, ap, subst, Option, Bool, if◌then◌else◌}
use Rattle.std.specs.Prelude.{MatchOption}
use Rattle.std.proofs.lemmas.Bool.{false≢true}
use Rattle.text_core.specs.Lines.{line_at}
use Rattle.word_ops.specs.declared.sorts.Sort.{Sort}
use Rattle.word_ops.specs.declared.sorts.Sort.TheVariants as sorts
use Rattle.graph_meaning.specs.declared.graphs.SetClass.{SetClass}
use Rattle.launch_graph.specs.BehindRows.{IsRight}
use Rattle.text_core.specs.LineTexts.{SaysNone}
use Rattle.launch_graph.specs.LineReading.{IsSetLine}
use Rattle.launch_graph.specs.RowFaults.{IsWrongClass}
use Rattle.launch_graph.specs.GraphStages.{pins_among}
use Rattle.launch_graph.proofs.BehindLines.{stuck, stuck_in, late_guard, repeated_set, wrong_set, wrong_set_class}
use Rattle.launch_graph.proofs.SetLines.{new_pin}
use Rattle.launch_graph.proofs.behind_rows.read_set.Goals.{then-is_memory, else-is_memory}
use Rattle.launch_graph.proofs.behind_rows.read_set.Goals as goal

abbrev sort_for : Bool → Sort
sort_for memory = if memory then sorts.Memory else sorts.Word

pub returns-then-begins_with-clause-fault : goal.returns-then-begins_with-clause-fault
returns-then-begins_with-clause-fault c = λ stage takes.
    stuck c.operators_are_listed.ensures.names c.args.text.now c.args.marks.now c.args.line c.requires stage c.line_fault.result
    (late_guard c.args.text.now c.args.line c.requires (c.begins_with.ensures.0 c.if-begins_with.true) stage takes) c.line_fault.ensures c.args.version

pub returns-in_default-clause-fault : goal.returns-in_default-clause-fault
returns-in_default-clause-fault c = λ stage takes.
    (let words = (line_at c.args.text.now c.args.line).words in
    let none = subst (λ (o : Option SetClass). MatchOption o (SaysNone (IsSetLine c.args.version) words) (IsSetLine c.args.version words)) c.in_default.is c.in_ok-set.ensures in
    stuck_in c.operators_are_listed.ensures.names c.args.text.now c.args.marks.now c.args.line c.requires c.args.version stage c.line_fault-in_default.result
    (wrong_set c.args.text.now c.args.line c.requires c.args.version (c.begins_with-2.ensures.0 c.if-not-begins_with.false) none stage takes) c.line_fault-in_default.ensures)

pub returns-then-repeats_pin-clause-fault : goal.returns-then-repeats_pin-clause-fault
returns-then-repeats_pin-clause-fault c = λ stage takes.
    (let words = (line_at c.args.text.now c.args.line).words in
    let s = c.in-Some.set in
    let is = subst (λ (o : Option SetClass). MatchOption o (SaysNone (IsSetLine c.args.version) words) (IsSetLine c.args.version words)) c.in-Some.is c.in_ok-set.ensures in
    stuck_in c.operators_are_listed.ensures.names c.args.text.now c.args.marks.now c.args.line c.requires c.args.version stage c.line_fault-then-repeats_pin.result
    (repeated_set c.args.text.now c.args.line c.requires c.args.version s is (sym c.repeats_pin.ensures ∙ c.if-repeats_pin.true) stage takes) c.line_fault-then-repeats_pin.ensures)

pub returns-then-is_wrong-clause-fault : goal.returns-then-is_wrong-clause-fault
returns-then-is_wrong-clause-fault c = λ stage takes.
    (let words = (line_at c.args.text.now c.args.line).words in
    let s = c.in-Some.set in
    let is = subst (λ (o : Option SetClass). MatchOption o (SaysNone (IsSetLine c.args.version) words) (IsSetLine c.args.version words)) c.in-Some.is c.in_ok-set.ensures in
    wrong_set_class c.operators_are_listed.ensures.names c.args.text.now c.args.marks.now c.args.line c.requires c.args.version s c.line_fault-then-is_wrong.result stage takes
    is (new_pin (pins_among c.args.sets.now) s.pin (sym c.repeats_pin.ensures ∙ c.if-repeats_pin.false)) (λ all m. subst (λ (sort : Sort). IsWrongClass (length c.args.marks.now) all sort s.class) (elim c.if-is_memory.branch [ then-is_memory w ↦ w.wanted-is ∙ ap sort_for (sym w.if-is_memory.true ∙ c.is_memory.ensures) | else-is_memory w ↦ w.wanted-is ∙ ap sort_for (sym w.if-is_memory.false ∙ c.is_memory.ensures) ]) ((c.is_wrong.ensures.wrong all m).0 c.if-is_wrong.true))
    c.line_fault-then-is_wrong.ensures)

pub returns-clause-ok : goal.returns-clause-ok
returns-clause-ok c =
    let words = (line_at c.args.text.now c.args.line).words in
    let s = c.in-Some.set in
    record {
      is = subst (λ (o : Option SetClass). MatchOption o (SaysNone (IsSetLine c.args.version) words) (IsSetLine c.args.version words)) c.in-Some.is c.in_ok-set.ensures;
      pin = new_pin (pins_among c.args.sets.now) s.pin (sym c.repeats_pin.ensures ∙ c.if-repeats_pin.false);
      right = subst (λ (sort : Sort). IsRight c.args.marks.now sort s.class) (elim c.if-is_memory.branch [ then-is_memory w ↦ w.wanted-is ∙ ap sort_for (sym w.if-is_memory.true ∙ c.is_memory.ensures) | else-is_memory w ↦ w.wanted-is ∙ ap sort_for (sym w.if-is_memory.false ∙ c.is_memory.ensures) ])
          (λ all m bad. false≢true (sym c.if-is_wrong.false ∙ (c.is_wrong.ensures.wrong all m).1 bad));
    }
