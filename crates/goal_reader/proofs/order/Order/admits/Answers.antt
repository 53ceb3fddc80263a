use Rattle.std.proofs.Common.{◌≡◌, length, arith, sym, ap, ◌∙◌}
use Rattle.goal_reader.specs.Roles.{of_rank}
use Rattle.goal_reader.proofs.Ranks.{none_of, none_later, out_of_order}
use Rattle.goal_reader.proofs.order.Order.admits.Goals as goal
use Rattle.goal_reader.proofs.order.Order.admits.Goals.{then-at-self-2, else-at-self-2}

pub returns-then-at-self-clause-admission : goal.returns-then-at-self-clause-admission
returns-then-at-self-clause-admission c = λ keywords before h. out_of_order keywords before c.args.self.now c.args.at h c.if-at-self.true

pub returns-then-most-count-clause-admission : goal.returns-then-most-count-clause-admission
returns-then-most-count-clause-admission c = λ keywords before h.
    let late = c.if-at-self.false in
    let n : c.if-at-self-2.count ≡ length (of_rank keywords c.args.at before) = elim c.if-at-self-2.branch [
      | then-at-self-2 w ↦ w.count-is ∙ h.counted ∙ ap (λ n. length (of_rank keywords n before)) (sym w.if-at-self-2.true)
      | else-at-self-2 w ↦ (let other = w.if-at-self-2.false in w.count-is ∙ sym (ap length (none_of keywords c.args.self.now.last c.args.at before (omega (arith, late, other)) h.latest)))
    ] in
    let l = c.if-most-count.true in
    (none_later keywords c.args.self.now.last c.args.at before c.if-at-self.false h.latest, omega (arith, n, l))

pub returns-clause-admission : goal.returns-clause-admission
returns-clause-admission c = λ keywords before h.
    let late = c.if-at-self.false in
    let n : c.if-at-self-2.count ≡ length (of_rank keywords c.args.at before) = elim c.if-at-self-2.branch [
      | then-at-self-2 w ↦ w.count-is ∙ h.counted ∙ ap (λ n. length (of_rank keywords n before)) (sym w.if-at-self-2.true)
      | else-at-self-2 w ↦ (let other = w.if-at-self-2.false in w.count-is ∙ sym (ap length (none_of keywords c.args.self.now.last c.args.at before (omega (arith, late, other)) h.latest)))
    ] in
    let l = c.if-most-count.false in
    (none_later keywords c.args.self.now.last c.args.at before c.if-at-self.false h.latest, omega (arith, n, l))

pub returns-clause-next : goal.returns-clause-next
returns-clause-next c = λ e.
    let ne = c.if-at-self.false in
    let l = c.if-most-count.false in (
      omega (arith, ne),
      λ same. elim c.if-at-self-2.branch [
        | then-at-self-2 w ↦ (let n = w.count-is in omega (arith, n, l))
        | else-at-self-2 w ↦ absurd (w.if-at-self-2.false same)
      ],
    )
