-- The next row of a block: it is a fault, the first, or one more row.
use Rattle.std.proofs.Common.{◌≡◌, ◌≢◌, ℕ, zero, suc, ◌+◌, ◌-◌, ◌<◌, ◌≤◌, List, [], ◌∷◌, ◌++◌, length, get_or, sym, ap, subst, ◌∙◌, arith, inl, Some}
use Rattle.std.specs.Prelude.{Contains, slice_get}
use Rattle.std.proofs.lemmas.List.{length_push}
use Rattle.std.proofs.lemmas.Option.{slice_get-get_or, same_Some, get_or_from_slice_get, slice_get_within}
use Rattle.word_ops.specs.Names.{name_of}
use Rattle.word_ops.specs.Meanings.{arity_of_op}
use Rattle.word_ops.specs.declared.operators.WordOp.{WordOp}
use Rattle.word_ops.specs.declared.sorts.Op.{Op}
use Rattle.text_core.specs.Lines.{Line, line_at, BeginsAt}
use Rattle.text_core.specs.LineTexts.{Words}
use Rattle.text_core.specs.declared.faults.Kind.TheVariants.{BadLine, BadRow, BadClass}
use Rattle.launch_graph.specs.declared.class_marks.Mark.{Mark}
use Rattle.graph_meaning.specs.declared.graphs.LaunchRow.{LaunchRow}
use Rattle.launch_graph.specs.declared.index.RowKey.{RowKey}
use Rattle.launch_graph.specs.declared.numbering.UsedName.{UsedName}
use Rattle.launch_graph.specs.declared.row_lines.LineOp.TheVariants.{Use}
use Rattle.launch_graph.specs.declared.row_lines.RowLine.{RowLine}
use Rattle.launch_graph.specs.declared.rows_reading.RowsSoFar.{RowsSoFar}
use Rattle.launch_graph.specs.GraphLines.{said_row, said_op}
use Rattle.launch_graph.specs.GraphStages.{Stage, rows, over, Step, row, entry}
use Rattle.launch_graph.specs.LineFaults.{IsFirstFaultOf}
use Rattle.launch_graph.specs.Numbering.{IsNumberedOp, plain, again, anew, HasNoNumber, row_key, AreNumbered}
use Rattle.launch_graph.specs.RowFaults.{IsBadRow, IsBadClass, repeated}
use Rattle.launch_graph.specs.RowLines.{IsRowLine, IsLineOp}
use Rattle.launch_graph.specs.RowsRead.{AreRowsTo, line_op_name}
use Rattle.launch_graph.specs.SeenRows.{IsSeen}
use Rattle.graph_meaning.specs.WellFormed.{declared_index}
use Rattle.launch_graph.proofs.CleanSteps.{clean_row}
use Rattle.launch_graph.proofs.FirstFaults.{bad_line_first, bad_row_first, bad_class_first}
use Rattle.launch_graph.proofs.GoodGraphs.{map_get, any_launch}
use Rattle.launch_graph.proofs.MadeGraphs.{same_said_op}
use Rattle.launch_graph.proofs.MoreNumbered.{numbered_more, not_declared, plain_said}
use Rattle.launch_graph.proofs.NumberedRows.{bad_of, good_of, counted, arity_then}
use Rattle.launch_graph.proofs.Printed.{map_count}
use Rattle.launch_graph.proofs.SameKeys.{same_op, same_four}

rows_not_over : (n : ℕ) → rows n ≢ over
rows_not_over n e = cc

-- a stage with rows to go takes rows alone
only_rows : {version : ℕ} (n : ℕ) (words : Words) (t : Stage) → 0 < n → ((r : RowLine) → IsRowLine words r → ⊥) → Step version (rows n) words t → ⊥
only_rows zero words t some never (entry class low is) = omega arith
only_rows (suc n) words t some never (row r is) = never r is

module _ {version : ℕ} (names : (o p : WordOp) → name_of o ≡ name_of p → o ≡ p)
    (lines : List Line) (from : ℕ) (all before : List RowLine) (marks : List Mark) (at : ℕ) (so : RowsSoFar)
    (a : AreRowsTo version lines from all before marks at so) (more : length before < length marks) (lt : at < length lines)
    (place : ℕ) (placed : BeginsAt lines at place) where
  abbrev stage : Stage
  stage = rows (length marks - length before)

  pub no_row_first : ((r : RowLine) → IsRowLine (line_at lines at).words r → ⊥) → IsFirstFaultOf version lines from place BadLine
  no_row_first never =
      bad_line_first names lines from (length marks) all before at stage a.clean place lt placed
      (λ t step. only_rows (length marks - length before) (line_at lines at).words t (omega arith) never step)

  module _ (one : RowLine) (is : IsRowLine (line_at lines at).words one) where
    abbrev after : ℕ
    after = length marks - length (before ++ one ∷ [])

    -- the row alone leads on
    step : Step version stage (line_at lines at).words (rows after)
    step =
        let n : length (before ++ one ∷ []) ≡ length before + 1 = length_push before one in
        let k : length marks - length before ≡ suc after = omega arith in
        subst (λ m. Step version (rows m) (line_at lines at).words (rows after)) (sym k) (row one is)

    pub bad_first : IsBadRow before one → IsFirstFaultOf version lines from place BadRow
    bad_first bad =
        bad_row_first names lines from (length marks) all before at stage a.clean (rows after) lt step one (rows_not_over after) a.place_is more is
        place placed bad

    pub no_number_first : HasNoNumber so.used one.op (length one.operands) → IsFirstFaultOf version lines from place BadRow
    no_number_first none = bad_first (bad_of before so.used so.index so.rows a.numbered one none)

    module _ (used : List UsedName) (op : Op) (n : IsNumberedOp so.used used one.op (length one.operands) op) where
      contains_said : (k : ℕ) (r : LaunchRow) → slice_get so.rows k ≡ Some r → Contains before (said_row r)
      contains_said k r there =
          let c : length so.rows ≡ length before = counted before so.used so.index so.rows a.numbered in
          let low : k < length so.rows = slice_get_within so.rows k r there in (
            k,
            omega arith,
            ap (λ rs. get_or rs k (said_row r)) (sym a.numbered.said_are) ∙ map_get said_row k so.rows (said_row r) any_launch low
                ∙ ap said_row (get_or_from_slice_get so.rows k r any_launch there),
          )

      -- an earlier row of the same operator says so
      op_by : (k : ℕ) (r : LaunchRow) → slice_get so.rows k ≡ Some r → r.op ≡ op → IsNumberedOp so.used used one.op (length one.operands) op
          → said_op r.op r.name ≡ one.op
      op_by k r there e (plain f c m) =
          ap (λ o. said_op o r.name) e
          ∙ same_said_op op r.name [] (inl (not_declared before so.used so.index so.rows a.numbered one is.op used op n op (subst IsLineOp f is.op)))
          ∙ plain_said before so.used so.index so.rows a.numbered one is.op used op n op (subst IsLineOp f is.op) ∙ sym f
      op_by k r there e (again {name = name} {at = slot} {one = u} f low in_used named c o m) =
          let d = a.numbered.declared_are k slot r there (ap declared_index (e ∙ o)) in
          let same : d.one ≡ u = same_Some d.one u (sym d.there ∙ in_used) in
          ap (λ p. said_op p r.name) (e ∙ o) ∙ ap Use (d.name_is ∙ ap (λ (v : UsedName). v.name) same ∙ named) ∙ sym f
      op_by k r there e (anew f unused few named c o m) =
          let d = a.numbered.declared_are k (length so.used) r there (ap declared_index (e ∙ o)) in
          let low : length so.used < length so.used = slice_get_within so.used (length so.used) d.one d.there in
          absurd (omega arith)

      repeated_by : Contains so.index (row_key op one.operands) → length one.operands ≤ 4 → IsBadRow before one
      repeated_by has few =
          let key : RowKey = row_key op one.operands in
          let size : length so.index ≡ length so.rows = ap length a.numbered.keys_are ∙ map_count (λ (r : LaunchRow). row_key r.op r.operands) so.rows in
          let low : has.0 < length so.index = has.1 in
          let r : LaunchRow = get_or so.rows has.0 any_launch in
          let there : slice_get so.rows has.0 ≡ Some r = slice_get-get_or so.rows has.0 any_launch (omega arith) in
          let same : row_key r.op r.operands ≡ key =
          sym (map_get (λ (x : LaunchRow). row_key x.op x.operands) has.0 so.rows key any_launch (omega arith))
          ∙ ap (λ ks. get_or ks has.0 key) (sym a.numbered.keys_are) ∙ has.2 in
          let one_op : r.op ≡ op = same_op r.op op (ap (λ (k : RowKey). k.kind) same) (ap (λ (k : RowKey). k.number) same) in
          let counts : length r.operands ≡ length one.operands =
          a.numbered.arities has.0 any_launch (omega arith) ∙ ap arity_of_op one_op
          ∙ sym (arity_then before so.used so.index so.rows a.numbered used one.op op (length one.operands) n) in
          repeated (contains_said has.0 r there) (op_by has.0 r there one_op n)
          (same_four r.operands one.operands counts (omega arith) (ap (λ (k : RowKey). k.first) same) (ap (λ (k : RowKey). k.second) same)
          (ap (λ (k : RowKey). k.third) same) (ap (λ (k : RowKey). k.fourth) same))

      pub not_fresh_first : Contains so.index (row_key op one.operands) → length one.operands ≤ 4 → IsFirstFaultOf version lines from place BadRow
      not_fresh_first has few = bad_first (repeated_by has few)

      module _ (fresh : Contains so.index (row_key op one.operands) → ⊥) where
        right_row : IsBadRow before one → ⊥
        right_row = good_of before so.used so.index so.rows a.numbered one used op n fresh

        pub class_first : IsBadClass (length marks) all before one → IsFirstFaultOf version lines from place BadClass
        class_first bad =
            bad_class_first names lines from (length marks) all before at stage a.clean (rows after) lt step one (rows_not_over after) a.place_is more is
            place placed right_row bad

        -- one more row is read
        pub row_read : (IsBadClass (length marks) all before one → ⊥) → (made : LaunchRow) → made.class ≡ one.class → made.op ≡ op
            → made.name ≡ line_op_name one.op → made.operands ≡ one.operands → (so' : RowsSoFar) → so'.used ≡ used
            → so'.index ≡ so.index ++ row_key op one.operands ∷ [] → so'.rows ≡ so.rows ++ made ∷ []
            → IsSeen (length marks) (before ++ one ∷ []) so'.next so'.constants.items
            → AreRowsTo version lines from all (before ++ one ∷ []) marks (at + 1) so'
        row_read right made c o nm ops so' us ks rs seen =
            record {
              clean =
                  clean_row lines from (length marks) all before at a.clean one lt a.place_is more is
                  (record { row_is = right_row; class_is = right });
              place_is = (let k : length (before ++ one ∷ []) ≡ length before + 1 = length_push before one in let p = a.place_is in omega arith);
              marks_are = a.marks_are;
              seen = seen;
              numbered =
                  subst (λ xs. AreNumbered (before ++ one ∷ []) xs so'.index so'.rows) (sym us)
                  (subst (λ xs. AreNumbered (before ++ one ∷ []) used so'.index xs) (sym rs)
                  (numbered_more before so.used so.index so.rows a.numbered one is.op used op n made c o nm ops so'.index ks));
            }
