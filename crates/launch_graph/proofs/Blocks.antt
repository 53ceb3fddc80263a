-- Lines that are rows, each of them.
use Rattle.std.proofs.Common.{◌≡◌, ℕ, zero, suc, ◌<◌, List, [], ◌∷◌, ◌++◌, length, take, get_or, refl, ap, ◌∙◌, arith}
use Rattle.word_ops.specs.Names.{name_of}
use Rattle.word_ops.specs.declared.operators.WordOp.{WordOp}
use Rattle.text_core.specs.Lines.{Line}
use Rattle.launch_graph.specs.declared.row_lines.RowLine.{RowLine}
use Rattle.launch_graph.specs.RowLines.{IsRowLine}
use Rattle.launch_graph.specs.LineFaults.{AreRowLines, none, row, other}
use Rattle.launch_graph.specs.CleanLines.{EachRow, no_rows}
use Rattle.launch_graph.specs.CleanLines.EachRow.{row as each_row}
use Rattle.launch_graph.proofs.OneRow.{one_row_line}

pub each_lines : (ls : List Line) (rs : List RowLine) → EachRow ls rs → AreRowLines ls rs
each_lines ls rs no_rows = none
each_lines ls rs (each_row {lines = ks} {rows = qs} is h) = row is (each_lines ks qs h)

pub each_length : (ls : List Line) (rs : List RowLine) → EachRow ls rs → length ls ≡ length rs
each_length ls rs no_rows = refl
each_length ls rs (each_row {lines = ks} {rows = qs} is h) = ap suc (each_length ks qs h)

pub each_push : (ls : List Line) (rs : List RowLine) (l : Line) (r : RowLine) → EachRow ls rs → IsRowLine l.words r → EachRow (ls ++ l ∷ []) (rs ++ r ∷ [])
each_push ls rs l r no_rows is = each_row is no_rows
each_push ls rs l r (each_row {lines = ks} {rows = qs} also h) is = each_row also (each_push ks qs l r h is)

pub each_take : (ls : List Line) (rs : List RowLine) (k : ℕ) → EachRow ls rs → EachRow (take k ls) (take k rs)
each_take ls rs zero h = no_rows
each_take ls rs (suc k) no_rows = no_rows
each_take ls rs (suc k) (each_row {lines = ks} {rows = qs} is h) = each_row is (each_take ks qs k h)

pub each_at : (ls : List Line) (rs : List RowLine) (k : ℕ) (d : Line) (e : RowLine) → EachRow ls rs → k < length rs → IsRowLine (get_or ls k d).words (get_or rs k e)
each_at ls rs k d e no_rows lt = absurd (omega arith)
each_at ls rs zero d e (each_row is h) lt = is
each_at ls rs (suc k) d e (each_row {lines = ks} {rows = qs} is h) lt = each_at ks qs k d e h (omega arith)

module _ (names : (o p : WordOp) → name_of o ≡ name_of p → o ≡ p) where
  pub rows_once : (ls : List Line) (rs qs : List RowLine) → AreRowLines ls rs → AreRowLines ls qs → rs ≡ qs
  rows_once [] rs qs none none = refl
  rows_once (l ∷ ls) rs qs (row {one = r} {rows = rows} is h) (row {one = q} {rows = more} also j) =
      ap (λ x. x ∷ rows) (one_row_line names l.words r q is also) ∙ ap (λ xs. q ∷ xs) (rows_once ls rows more h j)
  rows_once (l ∷ ls) rs qs (row {one = r} {rows = rows} is h) (other never j) = absurd (never r is)
  rows_once (l ∷ ls) rs qs (other never h) (row {one = q} {rows = more} also j) = absurd (never q also)
  rows_once (l ∷ ls) rs qs (other never h) (other never' j) = rows_once ls rs qs h j
