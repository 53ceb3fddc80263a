use Rattle.std.proofs.Common.{◌&&◌, not, bytes_eq, sym, ap, ap₂, ◌∙◌}
use Rattle.goal_meaning.specs.Views.{target_view}
use Rattle.code_check.specs.CodeRoles.{is_word_named}
use Rattle.code_check.proofs.Searches.{found_here, none_left, not_here}
use Rattle.code_check.proofs.places.word_target.Goals as goal
use Rattle.code_check.proofs.places.word_target.Goals.{else-not-is_memory_set-via-then-not-is_memory_set+else-eq, else-not-is_memory_set-via-else-not-is_memory_set}

pub returns-then-eq : goal.returns-then-eq
returns-then-eq c =
    found_here (is_word_named c.args.name.now) target_view c.args.sets.now c.loop-number.number c.index-sets-number.result c.loop-number-test.true c.index-sets-number.is
    c.loop-number.invariant (ap₂ (λ memory named. not memory && named) (sym c.is_memory_set.ensures ∙ c.if-not-is_memory_set.true) (ap (λ n. bytes_eq n c.args.name.now) (sym c.bytes.ensures) ∙ sym c.eq.ensures ∙ c.if-eq.true))

pub loop-number-preserved : goal.loop-number-preserved
loop-number-preserved c =
    let name = c.args.name.now in
    let set = c.index-sets-number.result in
    not_here (is_word_named name) target_view c.args.sets.now c.loop-number.number set c.loop-number-test.true c.index-sets-number.is
    c.loop-number.invariant (elim c.else-not-is_memory_set.branch [
      | else-not-is_memory_set-via-then-not-is_memory_set+else-eq w ↦ ap₂ (λ memory named. not memory && named) (sym c.is_memory_set.ensures ∙ w.if-not-is_memory_set.true) (ap (λ n. bytes_eq n name) (sym w.bytes.ensures) ∙ sym w.eq.ensures ∙ w.if-eq.false)
      | else-not-is_memory_set-via-else-not-is_memory_set w ↦ ap (λ memory. not memory && bytes_eq (target_view set).name name) (sym c.is_memory_set.ensures ∙ w.if-not-is_memory_set.false)
    ])

pub returns : goal.returns
returns c = none_left (is_word_named c.args.name.now) target_view c.args.sets.now c.loop-number.number c.loop-number-test.false c.loop-number.invariant
