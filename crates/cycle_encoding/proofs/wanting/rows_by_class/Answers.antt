use Rattle.std.proofs.Common.{◌≡◌, ◌∙◌, ap, sym, rules}
use Rattle.schedule_meaning.specs.Launches.{gives_word, class_at}
use Rattle.cycle_encoding.specs.Counts.{row_is}
use Rattle.cycle_encoding.specs.Steps.{put_at}
use Rattle.cycle_encoding.proofs.Choices.{chosen, not_chosen}
use Rattle.cycle_encoding.proofs.WantSteps.{rows-put}
use Rattle.cycle_encoding.proofs.wanting.rows_by_class.Goals.{then-gives_word+in_ok-put_into, else-gives_word}
use Rattle.cycle_encoding.proofs.wanting.rows_by_class.Goals as goal

pub loop-row-preserved : goal.loop-row-preserved
loop-row-preserved c =
    let g = c.args.facts.now in
    let row = c.loop-row.row in
    let b = row_is g gives_word row in
    let mid = c.loop-row.lists.items in
    let now = c.if-gives_word.lists.items in
    let more = put_at mid (class_at g row) row in
    let test : c.gives_word.result ≡ b = search rules in
    rows-put g _ row mid now c.loop-row.invariant
    (elim c.if-gives_word.branch [
      | then-gives_word+in_ok-put_into w ↦
          (let class : w.class_at.result ≡ class_at g row = search rules in
          chosen b more mid now (sym test ∙ w.if-gives_word.true) (ap (λ o. o.items) w.lists-is ∙ w.in_ok-put_into.ensures ∙ ap (λ n. put_at mid n row) class))
      | else-gives_word w ↦ not_chosen b more mid now (sym test ∙ w.if-gives_word.false) (ap (λ o. o.items) w.lists-is)
    ])
