use Rattle.std.proofs.Common.{None}
use Rattle.std.specs.Prelude.{slice_index_or}
use Rattle.graph_meaning.proofs.Raises.{mask_shown, mask_shown_before}
use Rattle.graph_meaning.proofs.powers.raise_pair.Goals as goal

pub returns-clause-state : goal.returns-clause-state
returns-clause-state c =
    let rows = c.args.rows.now in
    let row = c.args.row.now in
    let ks = c.args.constants.now in
    let x = c.args.x in
    let y = c.args.y in
    let r = c.requires in
    c.in_ok-raise_by_mask-2.ensures.state rows
    (c.in_ok-raise_by_mask.ensures.state rows r.state
    (mask_shown rows row r.row r.op r.zero x y r.operands (slice_index_or ks y None) (r.constants.each y r.y)))
    (mask_shown_before rows row r.row r.op r.zero x y r.operands (slice_index_or ks x None) (r.constants.each x r.x))
