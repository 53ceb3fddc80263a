use Rattle.std.proofs.Common.{◌≡◌, ◌∙◌, ◌+◌, ◌-◌, ℕ, ap, sym, arith}
use Rattle.std.specs.List.{sum_by, range_with_len}
use Rattle.order_encoding.proofs.LiveTallies.{cycles_more}
use Rattle.order_encoding.proofs.live_counts.cycles_from.Goals as goal

pub loop-step-preserved : goal.loop-step-preserved
loop-step-preserved c =
    let k = c.args.k in
    let first = c.args.first in
    let step = c.loop-step.step in
    let F : ℕ → ℕ = λ t. 1 + (k - (t + 1)) in
    let e : c.from.result ≡ k - (first + step + 1) = (let a = c.from.ensures in let b = c.saturating_sub-in-loop-step.ensures in omega (arith, a, b)) in
    record {
      is = ap (λ m. m + (1 + c.from.result)) c.loop-step.invariant.is ∙ ap (λ m. sum_by F (range_with_len first step) + (1 + m)) e ∙ sym (cycles_more k first step);
      small = (let was = c.loop-step.invariant.small in let few = c.requires in omega (arith, e, was, few));
    }
