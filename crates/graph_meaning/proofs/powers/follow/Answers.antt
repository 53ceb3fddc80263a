use Rattle.std.proofs.Common.{◌≡◌, ◌≤◌, ◌∙◌, ℕ, List, None, ap, sym, subst}
use Rattle.std.specs.Prelude.{All, slice_index, slice_index_or}
use Rattle.graph_meaning.specs.Multiples.{IsShown}
use Rattle.graph_meaning.specs.Raising.{said, row_says}
use Rattle.graph_meaning.proofs.Raises.{each_low, ok_then, raised, raised_state, raised_to, says_by, says_shown, settles}
use Rattle.graph_meaning.proofs.powers.follow.Goals.{After-raise}
use Rattle.graph_meaning.proofs.powers.follow.Goals as goal

pub said-n-requires-clause-powers : goal.said-n-requires-clause-powers
said-n-requires-clause-powers c =
    subst (λ (xs : List ℕ). All (λ n. n ≤ 3) xs) (sym c.deref.ensures.value)
    (each_low c.args.rows.now c.args.powers.now.items c.args.queue.now.items c.requires.state)

says : (c : After-raise) → c.said-n.result ≡ row_says c.args.rows.now c.args.powers.now.items c.args.row.now
says c =
    let ks = c.args.constants.now in
    let m = c.args.powers.now.items in
    let row = c.args.row.now in
    says_by c.args.rows.now ks m c.args.queue.now.items row c.requires.constants c.requires.below c.said-n.result
    (c.said-n.ensures
    ∙ ap (λ (xs : List ℕ). said row.op (λ k. slice_index_or ks k None) (slice_index xs) c.as_slice.result.now)
    c.deref.ensures.value
    ∙ ap (λ (ys : List ℕ). said row.op (λ k. slice_index_or ks k None) (slice_index m) ys) c.as_slice.ensures)

pub returns-clause-state : goal.returns-clause-state
returns-clause-state c =
    let rows = c.args.rows.now in
    let m = c.args.powers.now.items in
    let q = c.args.queue.now.items in
    let row = c.args.row.now in
    let shown =
    subst (IsShown rows row.class) (sym (says c))
    (says_shown rows c.args.constants.now m q row c.requires.constants c.requires.below c.requires.state
    c.requires.row) in
    ok_then c.raise.result c.raise.ensures
    (raised_state m q row.class c.said-n.result c.requires.below.0 rows c.raise.new.powers.items c.raise.new.queue.items
    c.requires.state shown)

pub returns-clause-raises : goal.returns-clause-raises
returns-clause-raises c =
    ok_then c.raise.result c.raise.ensures
    (raised c.args.powers.now.items c.args.queue.now.items c.args.row.now.class c.said-n.result c.requires.below.0
    c.raise.new.powers.items c.raise.new.queue.items)

pub returns-clause-followed : goal.returns-clause-followed
returns-clause-followed c =
    let m = c.args.powers.now.items in
    let q = c.args.queue.now.items in
    let row = c.args.row.now in
    let m' = c.raise.new.powers.items in
    let q' = c.raise.new.queue.items in
    let n = c.said-n.result in
    let lt = c.requires.below.0 in
    ok_then c.raise.result c.raise.ensures
    (λ r. settles c.args.rows.now m q m' q' (raised m q row.class n lt m' q' r) row
    (subst (λ k. k ≤ slice_index m' row.class) (says c) (raised_to m q row.class n lt m' q' r)))
