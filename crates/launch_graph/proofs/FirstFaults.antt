-- Clean lines have no fault, and which fault is the first behind them.
use Rattle.std.proofs.Common.{◌≡◌, ◌≢◌, ℕ, zero, suc, ◌+◌, ◌<◌, ◌≤◌, List, [], ◌∷◌, length, take, drop, get_or, refl, sym, ap, subst, ◌∙◌, arith, inl, inr, codes, decimal}
use Rattle.std.proofs.lemmas.Bool.{cases_eq, cases_lt}
use Rattle.std.proofs.lemmas.Fmt.{decimal_injective}
use Rattle.std.proofs.lemmas.List.{get_or-drop, get_or-take, take_all}
use Rattle.word_ops.specs.Names.{name_of}
use Rattle.word_ops.specs.declared.operators.WordOp.{WordOp}
use Rattle.word_ops.specs.declared.sorts.Sort.{Sort}
use Rattle.text_core.specs.Lines.{Line, line_at, BeginsAt}
use Rattle.text_core.specs.LineTexts.{Words}
use Rattle.text_core.specs.declared.faults.Kind.{Kind}
use Rattle.text_core.specs.declared.faults.Kind.TheVariants.{BadLine, BadRow, BadClass}
use Rattle.launch_graph.specs.declared.row_lines.RowLine.{RowLine}
use Rattle.launch_graph.specs.LineFormats.{words_between, GoesOn}
use Rattle.launch_graph.specs.GraphLines.{rows_words}
use Rattle.launch_graph.specs.GraphTexts.{BeginsWithGraph, IsGraphText, IsClassLine}
use Rattle.launch_graph.specs.GraphStages.{Stage, start, over, Step, ReachesStage, stay, go}
use Rattle.launch_graph.specs.RowLines.{IsRowLine}
use Rattle.launch_graph.specs.RowFaults.{IsBadRow, IsBadClass, IsWrongClass}
use Rattle.launch_graph.specs.LineFaults.{AreRowLines, IsBlock, IsRowAt, HasNoHeader, IsFaultAt, IsFirstFaultOf, line_rank, bad_line, missing, bad_row, bad_class, wrong_class}
use Rattle.launch_graph.specs.CleanLines.{HasGoodClasses, IsClean}
use Rattle.launch_graph.proofs.Stages.{one_stage, join}
use Rattle.launch_graph.proofs.GraphRuns.{goes_text, text_goes, goes_part, IsDone, text_run}
use Rattle.launch_graph.proofs.Between.{between_more}
use Rattle.launch_graph.proofs.Blocks.{rows_once, each_lines, each_take, each_at}
use Rattle.launch_graph.proofs.OneRow.{one_row_line}
use Rattle.launch_graph.proofs.NoFaults.{step_at, header_here, no_bad_line}

abbrev pub GraphFault : ℕ → List Line → ℕ → ℕ → Kind → Type 0
GraphFault version lines from other kind = IsFaultAt (BeginsWithGraph version) (IsGraphText version) lines from other kind

take_take : {X : Type 0} (n k : ℕ) (xs : List X) → n ≤ k → take n (take k xs) ≡ take n xs
take_take zero k xs le = refl
take_take (suc n) zero xs le = absurd (omega arith)
take_take (suc n) (suc k) [] le = refl
take_take (suc n) (suc k) (x ∷ xs) le = ap (λ ys. x ∷ ys) (take_take n k xs (omega arith))

no_line : Line
no_line = record { place = 0; words = [] }

first_word : (x y : List ℕ) (xs ys : Words) → x ∷ xs ≡ y ∷ ys → xs ≡ ys
first_word x y xs ys e = cc

head_word : (x y : List ℕ) (xs ys : Words) → x ∷ xs ≡ y ∷ ys → x ≡ y
head_word x y xs ys e = cc

one_count : (a b : ℕ) (words : Words) → a ≤ 1000000 → b ≤ 1000000 → words ≡ rows_words a → words ≡ rows_words b → a ≡ b
one_count a b words la lb e f =
    decimal_injective a b (omega arith) (omega arith)
    (head_word (decimal a) (decimal b) [] [] (first_word (codes "rows") (codes "rows") (decimal a ∷ []) (decimal b ∷ []) (sym e ∙ f)))

-- a row is wrong at the same lines by whatever names
record SameBlock (from count : ℕ) (all : List RowLine) (first count' : ℕ) (all' : List RowLine) : Type 0 where
  pub first_is : first ≡ from + 1
  pub count_is : count' ≡ count
  pub all_is : all' ≡ all

record SameRow (before : List RowLine) (number : ℕ) (front : List RowLine) (one : RowLine) : Type 0 where
  pub front_is : front ≡ take number before
  pub one_is : one ≡ get_or before number one

module _ {version : ℕ} (names : (o p : WordOp) → name_of o ≡ name_of p → o ≡ p) (lines : List Line) (from count : ℕ) (all : List RowLine) where
  module _ (before : List RowLine) (at : ℕ) (s : Stage) (c : IsClean version lines from count all before at s) where
    same_block : (first count' there : ℕ) (all' : List RowLine) → from < first → first ≤ there + 1 → IsBlock lines first count' all'
        → GoesOn (IsGraphText version) (words_between lines from (there + 1)) → SameBlock from count all first count' all'
    same_block first count' there all' low le block goes =
        let begins : first ≡ block.header + 1 = block.begins in
        let here : block.header ≡ from =
        header_here lines from block.header there (decimal count' ∷ []) (omega arith) block.within (omega arith) block.says goes in
        let first_is : first ≡ from + 1 = omega arith in
        let counted : count' ≡ count =
        one_count count' count (line_at lines from).words block.few c.few
        (subst (λ n. (line_at lines n).words ≡ rows_words count') here block.says) c.header_is in
        record {
          first_is = first_is;
          count_is = counted;
          all_is =
              rows_once names (take count (drop (from + 1) lines)) all' all
              (subst (λ n. AreRowLines (take n (drop (from + 1) lines)) all') counted
              (subst (λ n. AreRowLines (take count' (drop n lines)) all') first_is block.are))
              c.all_are;
        }

    row_here : (number : ℕ) (one : RowLine) → number < length before
        → IsRowLine (line_at lines (from + 1 + number)).words (get_or before number one)
    row_here number one lt =
        subst (λ (l : Line). IsRowLine l.words (get_or before number one))
        (get_or-take (length before) (drop (from + 1) lines) number (record { place = 0; words = [] }) lt
        ∙ get_or-drop (from + 1) lines number (record { place = 0; words = [] }))
        (each_at (take (length before) (drop (from + 1) lines)) before number (record { place = 0; words = [] }) one c.each lt)

    front_here : (number : ℕ) (front : List RowLine) → number ≤ length before
        → AreRowLines (take number (drop (from + 1) lines)) front → front ≡ take number before
    front_here number front le are =
        rows_once names (take number (drop (from + 1) lines)) front (take number before) are
        (subst (λ ls. AreRowLines ls (take number before)) (take_take number (length before) (drop (from + 1) lines) le)
        (each_lines (take number (take (length before) (drop (from + 1) lines))) (take number before)
        (each_take (take (length before) (drop (from + 1) lines)) before number c.each)))

    same_row_at : (first count' number : ℕ) (front : List RowLine) (one : RowLine) → first ≡ from + 1 → number < length before
        → IsRowAt lines first count' number front one → SameRow before number front one
    same_row_at first count' number front one is lt h =
        record {
          front_is = front_here number front (omega arith) (subst (λ n. AreRowLines (take number (drop n lines)) front) is h.before_are);
          one_is =
              one_row_line names (line_at lines (from + 1 + number)).words one (get_or before number one)
              (subst (λ n. IsRowLine (line_at lines (n + number)).words one) is h.is) (row_here number one lt);
        }

    no_bad_row : (number : ℕ) (front : List RowLine) (one : RowLine) → number < length before → SameRow before number front one → IsBadRow front one → ⊥
    no_bad_row number front one lt same bad =
        (c.good number one lt).row_is (subst (λ r. IsBadRow (take number before) r) same.one_is (subst (λ rs. IsBadRow rs one) same.front_is bad))

    no_bad_class : (number : ℕ) (front : List RowLine) (one : RowLine) → number < length before → SameRow before number front one
        → IsBadClass count all front one → ⊥
    no_bad_class number front one lt same bad =
        (c.good number one lt).class_is
        (subst (λ r. IsBadClass count all (take number before) r) same.one_is (subst (λ rs. IsBadClass count all rs one) same.front_is bad))

    number_low : (number other : ℕ) → other ≡ from + 1 + number → number < count → other < at → number < length before
    number_low number other is lt less = elim c.whole [ inl e ↦ omega arith | inr e ↦ omega arith ]

    -- ---- what is clean has no fault

    pub no_fault : (other : ℕ) (kind : Kind) → GraphFault version lines from other kind → at ≤ other
    no_fault other kind (bad_line low lt goes never) = no_bad_line lines from at other s c.reaches low never
    no_fault other kind (missing end goes never) = (let w : at ≤ length lines = c.within in omega arith)
    no_fault other kind (bad_row {first = first} {count = n} {number = number} {all = a} {before = front} {row = one} low block is at_is goes bad) =
        elim (cases_lt other at) [
          | inr le ↦ le
          | inl less ↦
              (let b = same_block first n other a low (let e : other ≡ first + number = at_is in omega arith) block goes in
              let f : first ≡ from + 1 = b.first_is in
              let k : n ≡ count = b.count_is in
              let among : number < n = is.among in
              let e : other ≡ first + number = at_is in
              let lt : number < length before = number_low number other (omega arith) (omega arith) less in
              absurd (no_bad_row number front one lt (same_row_at first n number front one f lt is) bad))
        ]
    no_fault other kind (bad_class {first = first} {count = n} {number = number} {all = a} {before = front} {row = one} low block is at_is goes bad) =
        elim (cases_lt other at) [
          | inr le ↦ le
          | inl less ↦
              (let b = same_block first n other a low (let e : other ≡ first + number = at_is in omega arith) block goes in
              let f : first ≡ from + 1 = b.first_is in
              let k : n ≡ count = b.count_is in
              let among : number < n = is.among in
              let e : other ≡ first + number = at_is in
              let lt : number < length before = number_low number other (omega arith) (omega arith) less in
              absurd (no_bad_class number front one lt (same_row_at first n number front one f lt is)
              (subst (λ rs. IsBadClass count rs front one) b.all_is (subst (λ m. IsBadClass m a front one) k bad))))
        ]
    no_fault other kind (wrong_class {first = first} {count = n} {class = class} {all = a} {sort = sort} low block behind high none goes is wrong) =
        elim (cases_lt other at) [
          | inr le ↦ le
          | inl less ↦
              (let b = same_block first n other a low (omega arith) block goes in
              let f : first ≡ from + 1 = b.first_is in
              let k : n ≡ count = b.count_is in
              absurd (c.classes other (omega arith) less class sort is
              (subst (λ rs. IsWrongClass count rs sort class) b.all_is (subst (λ m. IsWrongClass m a sort class) k wrong))))
        ]

    -- ---- the first fault behind

    first_by : (place : ℕ) (kind : Kind) → GraphFault version lines from at kind → BeginsAt lines at place
        → ((another : Kind) → GraphFault version lines from at another → line_rank kind ≤ line_rank another)
        → IsFirstFaultOf version lines from place kind
    first_by place kind found placed ranked =
        record {
          at = at;
          found = found;
          placed = placed;
          earliest = λ other another f.
              (let le : at ≤ other = no_fault other another f in
              elim (cases_eq at other) [
                | inl same ↦ inr (same, ranked another (subst (λ n. GraphFault version lines from n another) (sym same) f))
                | inr apart ↦ inl (omega arith)
              ]);
        }

    low_order : from ≤ at
    low_order = (let o : from + 1 + length before ≤ at = c.order in omega arith)

    -- no step leads on
    pub bad_line_first : (place : ℕ) → at < length lines → BeginsAt lines at place
        → ((t : Stage) → Step version s (line_at lines at).words t → ⊥) → IsFirstFaultOf version lines from place BadLine
    bad_line_first place lt placed never =
        first_by place BadLine
        (bad_line low_order lt (goes_text (words_between lines from at) s c.reaches)
        (λ goes.
        (let g = text_goes (words_between lines from (at + 1)) goes in
        let t = step_at lines from at g.0 low_order lt g.1 in
        never g.0 (subst (λ x. Step version x (line_at lines at).words g.0) (one_stage (words_between lines from at) start t.0 s t.1 c.reaches) t.2))))
        placed (λ another f. omega arith)

    -- the text ends where no graph can
    pub missing_first : (place : ℕ) → at ≡ length lines → BeginsAt lines at place → (IsDone s → ⊥) → IsFirstFaultOf version lines from place BadLine
    missing_first place end placed never =
        first_by place BadLine
        (missing end (goes_text (words_between lines from at) s c.reaches)
        (λ text.
        (let r = text_run (words_between lines from at) text in
        never (subst IsDone (one_stage (words_between lines from at) start r.0 s r.1 c.reaches) r.2))))
        placed (λ another f. omega arith)

    module _ (t : Stage) (lt : at < length lines) (step : Step version s (line_at lines at).words t) where
      pub one_more : ReachesStage version start (words_between lines from (at + 1)) t
      one_more =
          subst (λ ws. ReachesStage version start ws t) (sym (between_more lines from at low_order lt))
          (join (words_between lines from at) ((line_at lines at).words ∷ []) start s t c.reaches (go step stay))

      -- the line is no BadLine
      ranked_one : (another : Kind) → GraphFault version lines from at another → 1 ≤ line_rank another
      ranked_one another (bad_line low less goes never) = absurd (never (goes_text (words_between lines from (at + 1)) t one_more))
      ranked_one another (missing end goes never) = absurd (omega arith)
      ranked_one another (bad_row low block is at_is goes bad) = omega arith
      ranked_one another (bad_class low block is at_is goes bad) = omega arith
      ranked_one another (wrong_class low block behind high none goes is wrong) = omega arith

      block_here : IsBlock lines (from + 1) count all
      block_here = record { header = from; begins = refl; within = c.low; says = c.header_is; few = c.few; are = c.all_are }

      -- where the next line is a row
      module _ (one : RowLine) (apart : t ≢ over) (here : at ≡ from + 1 + length before) (more : length before < count) (is : IsRowLine (line_at lines at).words one) where
        row_at : IsRowAt lines (from + 1) count (length before) before one
        row_at =
            record {
              among = more;
              within = omega arith;
              is = subst (λ n. IsRowLine (line_at lines n).words one) here is;
              before_are = each_lines (take (length before) (drop (from + 1) lines)) before c.each;
            }

        pub bad_row_first : (place : ℕ) → BeginsAt lines at place → IsBadRow before one → IsFirstFaultOf version lines from place BadRow
        bad_row_first place placed bad =
            first_by place BadRow
            (bad_row (omega arith) block_here row_at here (goes_part (words_between lines from (at + 1)) t one_more apart) bad)
            placed ranked_one

        -- the row of the line isn't BadRow
        ranked_two : (IsBadRow before one → ⊥) → (another : Kind) → GraphFault version lines from at another → 2 ≤ line_rank another
        ranked_two right another (bad_line low less goes never) = absurd (never (goes_text (words_between lines from (at + 1)) t one_more))
        ranked_two right another (missing end goes never) = absurd (omega arith)
        ranked_two right another (bad_row {first = first} {count = n} {number = number} {all = a} {before = front} {row = other} low block is_at at_is goes bad) =
            (let b = same_block first n at a low (let e : at ≡ first + number = at_is in omega arith) block goes in
            let f : first ≡ from + 1 = b.first_is in
            let e : at ≡ first + number = at_is in
            let k : number ≡ length before = omega arith in
            let front_is : front ≡ before =
            front_here (length before) front (omega arith)
            (subst (λ m. AreRowLines (take m (drop (from + 1) lines)) front) k (subst (λ m. AreRowLines (take number (drop m lines)) front) f is_at.before_are))
            ∙ take_all (length before) before (omega arith) in
            let one_is : other ≡ one =
            one_row_line names (line_at lines at).words other one (subst (λ m. IsRowLine (line_at lines m).words other) (sym at_is) is_at.is) is in
            absurd (right (subst (λ r. IsBadRow before r) one_is (subst (λ rs. IsBadRow rs other) front_is bad))))
        ranked_two right another (bad_class low block is_at at_is goes bad) = omega arith
        ranked_two right another (wrong_class low block behind high none goes is_at wrong) = omega arith

        pub bad_class_first : (place : ℕ) → BeginsAt lines at place → (IsBadRow before one → ⊥) → IsBadClass count all before one
            → IsFirstFaultOf version lines from place BadClass
        bad_class_first place placed right bad =
            first_by place BadClass
            (bad_class (omega arith) block_here row_at here (goes_part (words_between lines from (at + 1)) t one_more apart) bad)
            placed (ranked_two right)

      -- where the next line is behind the rows
      module _ (apart : t ≢ over) (full : length before ≡ count) where
        behind_rows : from + 1 + count ≤ at
        behind_rows = (let o : from + 1 + length before ≤ at = c.order in omega arith)

        no_header : HasNoHeader lines (from + 1) at
        no_header n low less words is =
            let h : n ≡ from =
            header_here lines from n at words (omega arith) (omega arith) (omega arith) is
            (goes_part (words_between lines from (at + 1)) t one_more apart) in
            omega arith

        ranked_class : (another : Kind) → GraphFault version lines from at another → 2 ≤ line_rank another
        ranked_class another (bad_line low less goes never) = absurd (never (goes_text (words_between lines from (at + 1)) t one_more))
        ranked_class another (missing end goes never) = absurd (omega arith)
        ranked_class another (bad_row {first = first} {count = n} {number = number} {all = a} low block is_at at_is goes bad) =
            (let b = same_block first n at a low (let e : at ≡ first + number = at_is in omega arith) block goes in
            let f : first ≡ from + 1 = b.first_is in
            let k : n ≡ count = b.count_is in
            let among : number < n = is_at.among in
            let e : at ≡ first + number = at_is in
            let o : from + 1 + count ≤ at = behind_rows in
            absurd (omega arith))
        ranked_class another (bad_class low block is_at at_is goes bad) = omega arith
        ranked_class another (wrong_class low block behind high none goes is_at wrong) = omega arith

        pub wrong_class_first : (place class : ℕ) (sort : Sort) → BeginsAt lines at place → IsClassLine (line_at lines at).words class sort
            → IsWrongClass count all sort class → IsFirstFaultOf version lines from place BadClass
        wrong_class_first place class sort placed is wrong =
            first_by place BadClass
            (wrong_class (omega arith) block_here behind_rows lt no_header (goes_part (words_between lines from (at + 1)) t one_more apart) is wrong)
            placed ranked_class

        pub clean_line : HasGoodClasses count all (line_at lines at) → IsClean version lines from count all before (at + 1) t
        clean_line fine =
            record {
              low = c.low;
              header_is = c.header_is;
              few = c.few;
              each = c.each;
              all_are = c.all_are;
              good = c.good;
              reaches = one_more;
              order = (let o : from + 1 + length before ≤ at = c.order in omega arith);
              within = omega arith;
              most = c.most;
              whole = inr full;
              classes = λ j low less. elim (cases_eq j at) [
                | inl same ↦ subst (λ n. HasGoodClasses count all (line_at lines n)) (sym same) fine
                | inr other ↦ c.classes j low (omega arith)
              ];
            }
