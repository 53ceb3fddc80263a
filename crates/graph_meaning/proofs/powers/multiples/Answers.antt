use Rattle.std.proofs.Common.{◌≤◌, List, ℕ, sym, subst, arith}
use Rattle.std.specs.Prelude.{All}
use Rattle.std.proofs.lemmas.List.{get_or_default}
use Rattle.graph_meaning.specs.Raising.{IsState}
use Rattle.graph_meaning.proofs.Raises.{first_state}
use Rattle.graph_meaning.proofs.Shown.{few}
use Rattle.graph_meaning.proofs.powers.multiples.Goals as goal

pub look_at_all-requires-clause-state : goal.look_at_all-requires-clause-state
look_at_all-requires-clause-state c =
    subst (λ (q : List ℕ). IsState c.args.rows.now c.in_ok-powers.powers.items q) (sym c.new-queue.ensures.items)
    (first_state c.args.rows.now c.in_ok-powers.powers.items c.in_ok-powers.ensures.each)

pub returns-clause-low : goal.returns-clause-low
returns-clause-low c =
    let m = c.follow_queue.new.powers.items in
    let size = c.in_ok-follow_queue.ensures.size in
    subst (λ (xs : List ℕ). All (λ n. n ≤ 3) xs) (sym c.from.ensures)
    (λ k d l. subst (λ n. n ≤ 3) (get_or_default m k 0 d l)
    (few c.args.rows.now (c.in_ok-follow_queue.ensures.greatest k (omega arith)).shown))
