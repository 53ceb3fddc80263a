-- Well-formed graphs that have the same lines are one graph.
use Rattle.std.proofs.Common.{◌≡◌, ◌<◌, ◌^◌, List, [], ◌∷◌, ◌++◌, length, map, refl, sym, ap, subst, ◌∙◌, append_assoc, arith, codes, decimal}
use Rattle.std.specs.Prelude.{All}
use Rattle.std.proofs.lemmas.Fmt.{decimal_injective}
use Rattle.std.proofs.lemmas.List.Elements.{All-head, All-tail}
use Rattle.word_ops.specs.Names.{name_of}
use Rattle.word_ops.specs.declared.operators.WordOp.{WordOp}
use Rattle.text_core.specs.LineTexts.{Words}
use Rattle.graph_meaning.specs.declared.graphs.LaunchGraph.{LaunchGraph}
use Rattle.launch_graph.specs.declared.row_lines.RowLine.{RowLine}
use Rattle.launch_graph.specs.GraphLines.{graph_lines, said, said_row, rows_words, entry_words, in_words, pool_words, guard_lines, set_words}
use Rattle.launch_graph.specs.GraphTexts.{EndsGraph}
use Rattle.launch_graph.specs.RowLines.{IsRowLine, row_words}
use Rattle.graph_meaning.specs.WellFormed.{IsLaunchGraph}
use Rattle.launch_graph.proofs.ClassLines.{head_same, rest_same}
use Rattle.launch_graph.proofs.LineWords.{entry_fits, guard_fits, inputs_fit, rows_fit, sets_low}
use Rattle.launch_graph.proofs.OneGraph.{HaveOneList, rows_alike, same_graph, same_inputs, same_targets}
use Rattle.launch_graph.proofs.OneRow.{one_row_line}
use Rattle.launch_graph.proofs.Printed.{map_count}
use Rattle.launch_graph.proofs.WholeGraphs.{cons_same}

-- a row and the words that say it
abbrev Says : RowLine → Type 0
Says r = IsRowLine (row_words r) r

-- the lines of a graph, and others behind them, one after another
lines_then : (g : LaunchGraph) (behind : List Words) → graph_lines (said g) ++ behind
    ≡ rows_words (length (map said_row g.rows)) ∷ (map row_words (map said_row g.rows)
    ++ (entry_words g.entry ∷ (map in_words g.inputs
    ++ (pool_words g.pool ∷ (guard_lines g.guard ++ (map set_words g.sets ++ behind))))))
lines_then g behind = simp append_assoc

module _ (names : (o p : WordOp) → name_of o ≡ name_of p → o ≡ p) where
  same_row_lines : (rs qs : List RowLine) (x y : List Words) → length rs ≡ length qs → All Says rs → All Says qs
      → map row_words rs ++ x ≡ map row_words qs ++ y → (rs ≡ qs) × (x ≡ y)
  same_row_lines [] [] x y n a b e = (refl, e)
  same_row_lines [] (q ∷ qs) x y n a b e = absurd (omega arith)
  same_row_lines (r ∷ rs) [] x y n a b e = absurd (omega arith)
  same_row_lines (r ∷ rs) (q ∷ qs) x y n a b e =
      let both = cons_same (row_words r) (row_words q) (map row_words rs ++ x) (map row_words qs ++ y) e in
      let rest = same_row_lines rs qs x y (omega arith) (All-tail Says r rs a) (All-tail Says q qs b) both.1 in
      let said_once : r ≡ q =
      one_row_line names (row_words r) r q (All-head Says r rs a)
      (subst (λ ws. IsRowLine ws q) (sym both.0) (All-head Says q qs b)) in
      (ap (λ z. z ∷ rs) said_once ∙ ap (λ zs. q ∷ zs) rest.0, rest.1)

  module _ (lists : HaveOneList) (g h : LaunchGraph) (is : IsLaunchGraph g) (also : IsLaunchGraph h)
      (behind other : List Words) (ends : EndsGraph behind) (stops : EndsGraph other)
      (same : graph_lines (said g) ++ behind ≡ graph_lines (said h) ++ other) where
    abbrev after : LaunchGraph → List Words → List Words
    after k rest =
        entry_words k.entry ∷ (map in_words k.inputs
        ++ (pool_words k.pool ∷ (guard_lines k.guard ++ (map set_words k.sets ++ rest))))

    abbrev ones : List RowLine
    ones = map said_row g.rows

    abbrev others : List RowLine
    others = map said_row h.rows

    lines : (rows_words (length ones) ≡ rows_words (length others))
        × (map row_words ones ++ after g behind ≡ map row_words others ++ after h other)
    lines =
        cons_same (rows_words (length ones)) (rows_words (length others)) (map row_words ones ++ after g behind)
        (map row_words others ++ after h other) (sym (lines_then g behind) ∙ same ∙ lines_then h other)

    counts : length ones ≡ length others
    counts =
        let one : length ones ≡ length g.rows = map_count said_row g.rows in
        let two : length others ≡ length h.rows = map_count said_row h.rows in
        let few : length g.rows < 2 ^ 30 = is.few in
        let low : length h.rows < 2 ^ 30 = also.few in
        decimal_injective (length ones) (length others) (omega arith) (omega arith)
        (head_same (decimal (length ones)) (decimal (length others)) [] []
        (rest_same (codes "rows") (codes "rows") (decimal (length ones) ∷ []) (decimal (length others) ∷ []) lines.0))

    -- well-formed graphs with the same lines are one graph, and the same lines stand behind them
    pub lines_once : (g ≡ h) × (behind ≡ other)
    lines_once =
        let rows = same_row_lines ones others (after g behind) (after h other) counts (rows_fit g is) (rows_fit h also) lines.1 in
        let first = cons_same (entry_words g.entry) (entry_words h.entry)
        (map in_words g.inputs ++ (pool_words g.pool ∷ (guard_lines g.guard ++ (map set_words g.sets ++ behind))))
        (map in_words h.inputs ++ (pool_words h.pool ∷ (guard_lines h.guard ++ (map set_words h.sets ++ other)))) rows.1 in
        let second = same_inputs g.inputs h.inputs g.pool h.pool (guard_lines g.guard ++ (map set_words g.sets ++ behind))
        (guard_lines h.guard ++ (map set_words h.sets ++ other)) (inputs_fit g is) (inputs_fit h also) is.pool also.pool
        first.1 in
        let third = same_targets g.guard h.guard g.sets h.sets behind other (guard_fits g is g.guard is.guard)
        (guard_fits h also h.guard also.guard) (sets_low g is) (sets_low h also) ends stops second.2 in
        let low : g.entry < 2 ^ 31 = entry_fits g is in
        let less : h.entry < 2 ^ 31 = entry_fits h also in
        let entries : g.entry ≡ h.entry =
        decimal_injective g.entry h.entry (omega arith) (omega arith)
        (head_same (decimal g.entry) (decimal h.entry) [] []
        (rest_same (codes "entry") (codes "entry") (decimal g.entry ∷ []) (decimal h.entry ∷ []) first.0)) in
        let same_rows = rows_alike g h is also rows.0 in
        (same_graph lists g h is also same_rows entries second.0 second.1 third.0 third.1, third.2)
