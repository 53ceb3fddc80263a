use Rattle.std.proofs.Common.{◌≡◌, ◌∙◌, ◌++◌, ◌∷◌, [], ℕ, Bool, List, false, ap, arith, get_or, map, sym}
use Rattle.std.specs.Prelude.{◌&&◌, ◌||◌}
use Rattle.std.specs.List.{filter, range_with_len}
use Rattle.graph_meaning.specs.declared.graphs.LaunchGraph.{LaunchGraph}
use Rattle.graph_meaning.specs.WellFormed.{next_class}
use Rattle.cycle_encoding.specs.Variables.{classes_of}
use Rattle.cycle_encoding.proofs.Choices.{chosen, not_chosen}
use Rattle.slot_capacity.specs.Due.{can_be_due}
use Rattle.slot_capacity.specs.Makers.{has}
use Rattle.slot_capacity.proofs.Loops.{range-step}
use Rattle.slot_capacity.proofs.ClassMarks.{more-by-marks}
use Rattle.slot_capacity.proofs.due.more_due.Goals.{then-is_more_due+in_ok-push, else-is_more_due}
use Rattle.slot_capacity.proofs.due.more_due.Goals as goal

pub loop-class-preserved : goal.loop-class-preserved
loop-class-preserved c =
    let g = c.args.makers.now.frame.facts.now in
    let class = c.loop-class.class in
    let due = c.in_ok-due_marks.due_marks.items in
    let read = c.in_ok-read_marks.read_marks.items in
    let test = λ (x : ℕ). get_or due x false || (can_be_due g x && get_or read x false) in
    let mid = c.loop-class.more.items in
    let now = c.if-is_more_due.more.items in
    let told : c.is_more_due.result ≡ test class =
    c.is_more_due.ensures
    ∙ ap (λ (ms : List Bool). get_or ms class false
    || (can_be_due g class && get_or c.deref-in-loop-class-2.result.now class false)) c.deref-in-loop-class.ensures.value
    ∙ ap (λ (ms : List Bool). get_or due class false || (can_be_due g class && get_or ms class false))
    c.deref-in-loop-class-2.ensures.value in
    range-step test class mid now c.loop-class.invariant
    (elim c.if-is_more_due.branch [
      | then-is_more_due+in_ok-push w ↦
          chosen (test class) (mid ++ class ∷ []) mid now (sym told ∙ w.if-is_more_due.true)
          (ap (λ o. o.items) w.more-is ∙ w.in_ok-push.ensures.items)
      | else-is_more_due w ↦
          not_chosen (test class) (mid ++ class ∷ []) mid now (sym told ∙ w.if-is_more_due.false)
          (ap (λ o. o.items) w.more-is)
    ])

pub returns : goal.returns
returns c =
    let g = c.args.makers.now.frame.facts.now in
    let m = c.args.makers.now in
    let due = c.in_ok-due_marks.due_marks.items in
    let read = c.in_ok-read_marks.read_marks.items in
    let test = λ (x : ℕ). get_or due x false || (can_be_due g x && get_or read x false) in
    let end = c.next_class-class-end.ensures ∙ ap (λ (g : LaunchGraph). next_class g.rows) c.graph.ensures in
    let past = c.loop-class-test.false in
    let within = c.loop-class.auto.class-end in
    let last : c.loop-class.class ≡ next_class g.rows = omega arith in
    c.loop-class.invariant ∙ ap (λ n. filter test (range_with_len 0 n)) last
    ∙ more-by-marks g m.spans.items m.rows.items m.always.items c.requires c.args.due.now due read
    c.in_ok-due_marks.ensures
    (c.in_ok-read_marks.ensures
    ∙ ap (λ (xs : List ℕ). map (has xs) (classes_of g)) (c.deref.ensures.value ∙ c.in_ok-read.ensures))
