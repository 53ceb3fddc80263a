-- Lines that are a graph's have no fault.
use Rattle.std.proofs.Common.{◌≡◌, ℕ, zero, suc, ◌+◌, ◌-◌, ◌<◌, ◌≤◌, ◌^◌, List, [], ◌∷◌, ◌++◌, length, map, take, drop, get_or, refl, sym, ap, subst, ◌∙◌, arith, inl, inr, min, Option, Some, None}
use Rattle.std.specs.Prelude.{All, IfSome}
use Rattle.std.proofs.lemmas.Bool.{cases_lt}
use Rattle.std.proofs.lemmas.List.{length-take, length-drop, get_or-drop, get_or-take, length-append}
use Rattle.std.proofs.lemmas.List.Elements.{All-nil, All-cons, All-head, All-tail, All-append, All-map}
use Rattle.std.proofs.Math.Seq.{take-append_seam, drop-cons}
use Rattle.word_ops.specs.Names.{name_of}
use Rattle.word_ops.specs.declared.operators.WordOp.{WordOp}
use Rattle.word_ops.specs.declared.sorts.Sort.{Sort}
use Rattle.word_ops.specs.declared.sorts.Sort.TheVariants as sorts
use Rattle.text_core.specs.Lines.{Line, line_at}
use Rattle.text_core.specs.LineTexts.{Words, words_of_lines}
use Rattle.text_core.specs.declared.faults.Kind.{Kind}
use Rattle.graph_meaning.specs.declared.graphs.InputClass.{InputClass}
use Rattle.graph_meaning.specs.declared.graphs.Guard.{Guard}
use Rattle.graph_meaning.specs.declared.graphs.SetClass.{SetClass}
use Rattle.graph_meaning.specs.declared.graphs.LaunchGraph.{LaunchGraph}
use Rattle.launch_graph.specs.declared.row_lines.RowLine.{RowLine}
use Rattle.launch_graph.specs.LineFormats.{words_between, GoesOn}
use Rattle.launch_graph.specs.GraphLines.{GraphLines, AreGraphLines, graph_lines, said, said_row, rows_words, entry_words, in_words, pool_words, guard_words, guard_lines, set_words}
use Rattle.launch_graph.specs.GraphTexts.{IsGraphText, IsGraphOf, EndsGraph, IsNoTarget, IsClassLine}
use Rattle.launch_graph.specs.GraphStages.{RowFits, Stage, start, over, Step, ReachesStage, leave_pool, leave}
use Rattle.launch_graph.specs.RowLines.{IsRowLine, row_words}
use Rattle.launch_graph.specs.RowFaults.{IsWrongClass}
use Rattle.launch_graph.specs.LineFaults.{bad_line, missing, bad_row, bad_class, wrong_class}
use Rattle.launch_graph.specs.CleanLines.{EachRow, no_rows, IsGoodRow, IsClean}
use Rattle.launch_graph.specs.CleanLines.EachRow.{row as each_row}
use Rattle.graph_meaning.specs.WellFormed.{IsLaunchGraph, ClassHasSort, set_sort}
use Rattle.launch_graph.proofs.Between.{between_split, between_first}
use Rattle.launch_graph.proofs.Blocks.{each_lines}
use Rattle.launch_graph.proofs.ClassLines.{entry_class, input_class, pool_class, guard_class, set_class}
use Rattle.launch_graph.proofs.FirstFaults.{GraphFault, no_fault}
use Rattle.launch_graph.proofs.GoodRows.{good_rows, no_wrong_class}
use Rattle.launch_graph.proofs.GraphRuns.{IsEnd, no_guard, targets, IsDone, graph_run, goes_text, part_goes, told, ends_from}
use Rattle.launch_graph.proofs.NoFaults.{step_at, front_stage}
use Rattle.launch_graph.proofs.Printed.{map_count}
use Rattle.launch_graph.proofs.Stages.{join, one_stage, one_step, stays_over}

pub cons_same : (x y : Words) (xs ys : List Words) → x ∷ xs ≡ y ∷ ys → (x ≡ y) × (xs ≡ ys)
cons_same x y xs ys e = (let a : x ≡ y = cc in a, let b : xs ≡ ys = cc in b)

pub append_same : (xs ys zs : List Words) → xs ++ ys ≡ xs ++ zs → ys ≡ zs
append_same [] ys zs e = e
append_same (x ∷ xs) ys zs e = append_same xs ys zs (cons_same x x (xs ++ ys) (xs ++ zs) e).1

-- lines whose words are those of rows
pub each_of : (ls : List Line) (rs : List RowLine) → All RowFits rs → words_of_lines ls ≡ map row_words rs → EachRow ls rs
each_of [] [] fit e = no_rows
each_of [] (r ∷ rs) fit e = cc
each_of (l ∷ ls) [] fit e = cc
each_of (l ∷ ls) (r ∷ rs) fit e =
    let both = cons_same l.words (row_words r) (words_of_lines ls) (map row_words rs) e in
    each_row (subst (λ ws. IsRowLine ws r) (sym both.0) (All-head RowFits r rs fit)) (each_of ls rs (All-tail RowFits r rs fit) both.1)

words_count : (ls : List Line) → length (words_of_lines ls) ≡ length ls
words_count [] = refl
words_count (l ∷ ls) = ap suc (words_count ls)

words_get : (ls : List Line) (k : ℕ) (d : Line) (e : Words) → k < length ls → get_or (words_of_lines ls) k e ≡ (get_or ls k d).words
words_get [] k d e lt = absurd (omega arith)
words_get (l ∷ ls) zero d e lt = refl
words_get (l ∷ ls) (suc k) d e lt = words_get ls k d e (omega arith)

any_line : Line
any_line = record { place = 0; words = [] }

module _ (lines : List Line) where
  pub between_count : (a c : ℕ) → a ≤ c → c ≤ length lines → length (words_between lines a c) ≡ c - a
  between_count a c low high =
      let size : length (drop a lines) ≡ length lines - a = length-drop a lines in
      let taken : length (take (c - a) (drop a lines)) ≡ min (c - a) (length (drop a lines)) = length-take (c - a) (drop a lines) in
      words_count (take (c - a) (drop a lines)) ∙ omega arith

  pub between_at : (a c j : ℕ) (e : Words) → a ≤ j → j < c → c ≤ length lines → get_or (words_between lines a c) (j - a) e ≡ (line_at lines j).words
  between_at a c j e low high within =
      let d : Line = record { place = 0; words = [] } in
      let size : length (drop a lines) ≡ length lines - a = length-drop a lines in
      let taken : length (take (c - a) (drop a lines)) ≡ min (c - a) (length (drop a lines)) = length-take (c - a) (drop a lines) in
      let back : a + (j - a) ≡ j = omega arith in
      words_get (take (c - a) (drop a lines)) (j - a) d e (omega arith)
      ∙ ap (λ (l : Line). l.words) (get_or-take (c - a) (drop a lines) (j - a) d (omega arith) ∙ get_or-drop a lines (j - a) d ∙ ap (λ n. get_or lines n d) back)

abbrev pub tail_lines : GraphLines → List Words
tail_lines g = entry_words g.entry ∷ (map in_words g.inputs ++ (pool_words g.pool ∷ (guard_lines g.guard ++ map set_words g.sets)))

abbrev pub GoodWords : ℕ → List RowLine → Words → Type 0
GoodWords count all words = (class : ℕ) (sort : Sort) → IsClassLine words class sort → IsWrongClass count all sort class → ⊥

module _ {version : ℕ} (g : LaunchGraph) (is : IsLaunchGraph g) (are : AreGraphLines version (said g)) where
  abbrev rows_are : List RowLine
  rows_are = map said_row g.rows

  abbrev Good : Words → Type 0
  Good words = GoodWords (length g.rows) rows_are words

  right : (class wanted : ℕ) (sort own : Sort) → ClassHasSort g own wanted → (class ≡ wanted) × (sort ≡ own) → IsWrongClass (length g.rows) rows_are sort class → ⊥
  right class wanted sort own h e wrong =
      no_wrong_class g is own wanted h
      (subst (λ s. IsWrongClass (length g.rows) rows_are s wanted) e.1 (subst (IsWrongClass (length g.rows) rows_are sort) e.0 wrong))

  good_entry : Good (entry_words g.entry)
  good_entry class sort h = right class g.entry sort sorts.Memory is.entry (entry_class g.entry class sort are.entry h)

  good_inputs : All (λ (i : InputClass). Good (in_words i)) g.inputs
  good_inputs k d lt class sort h =
      right class (get_or g.inputs k d).class sort sorts.Word (is.inputs k d lt).0 (input_class (get_or g.inputs k d) class sort (are.inputs k d lt).2 h)

  good_pool : Good (pool_words g.pool)
  good_pool class sort h wrong = pool_class g.pool class sort h

  good_guard : (o : Option Guard) → IfSome o (λ (x : Guard). ClassHasSort g sorts.Word x.class) → IfSome o (λ (x : Guard). x.class < 2 ^ 31) → All Good (guard_lines o)
  good_guard None h low = All-nil Good
  good_guard (Some o) h low =
      All-cons Good (guard_words o) [] (λ class sort j. right class o.class sort sorts.Word h (guard_class o class sort low j)) (All-nil Good)

  good_sets : All (λ (s : SetClass). Good (set_words s)) g.sets
  good_sets k d lt class sort h =
      right class (get_or g.sets k d).class sort (set_sort (get_or g.sets k d).name) (is.sets k d lt)
      (set_class (get_or g.sets k d) class sort (are.sets k d lt).1 h)

  good_tail : All Good (tail_lines (said g))
  good_tail =
      let last : List Words = guard_lines g.guard ++ map set_words g.sets in
      let behind : List Words = map in_words g.inputs ++ (pool_words g.pool ∷ last) in
      All-cons Good (entry_words g.entry) behind good_entry
      (All-append Good (map in_words g.inputs) (pool_words g.pool ∷ last) (All-map Good in_words g.inputs good_inputs)
      (All-cons Good (pool_words g.pool) last good_pool
      (All-append Good (guard_lines g.guard) (map set_words g.sets) (good_guard g.guard is.guard are.guard) (All-map Good set_words g.sets good_sets))))

module _ {version : ℕ} (lines : List Line) (from next : ℕ) (g : LaunchGraph) (h : IsGraphOf version lines from next g) where
  abbrev said_rows : List RowLine
  said_rows = map said_row g.rows

  abbrev count : ℕ
  count = length said_rows

  size : length (words_between lines from next) ≡ next - from
  size = between_count lines from next h.order h.within

  lines_count : length (graph_lines (said g)) ≡ 1 + count + length (tail_lines (said g))
  lines_count =
      let rows_count : length (map row_words said_rows) ≡ count = map_count row_words said_rows in
      let all : length (map row_words said_rows ++ tail_lines (said g)) ≡ length (map row_words said_rows) + length (tail_lines (said g)) =
      length-append (map row_words said_rows) (tail_lines (said g)) in
      omega arith

  pub room : from + 1 + count < next
  room =
      let s : length (words_between lines from next) ≡ next - from = size in
      let n : length (graph_lines (said g)) ≡ 1 + count + length (tail_lines (said g)) = lines_count in
      let e : length (words_between lines from next) ≡ length (graph_lines (said g)) = ap length h.is in
      omega arith

  pub parts : ((line_at lines from).words ≡ rows_words count) × (words_between lines (from + 1) next ≡ map row_words said_rows ++ tail_lines (said g))
  parts =
      let r : from + 1 + count < next = room in
      let w : next ≤ length lines = h.within in
      cons_same (line_at lines from).words (rows_words count) (words_between lines (from + 1) next) (map row_words said_rows ++ tail_lines (said g))
      (sym (between_first lines from next (omega arith) (omega arith)) ∙ h.is)

  pub row_lines : words_between lines (from + 1) (from + 1 + count) ≡ map row_words said_rows
  row_lines =
      let r : from + 1 + count < next = room in
      let w : next ≤ length lines = h.within in
      let split = between_split lines (from + 1) (from + 1 + count) next (omega arith) (omega arith) in
      let n : length (words_between lines (from + 1) (from + 1 + count)) ≡ from + 1 + count - (from + 1) = between_count lines (from + 1) (from + 1 + count) (omega arith) (omega arith) in
      let m : length (map row_words said_rows) ≡ count = map_count row_words said_rows in
      let k : length (words_between lines (from + 1) (from + 1 + count)) ≡ length (map row_words said_rows) = omega arith in
      sym (take-append_seam (words_between lines (from + 1) (from + 1 + count)) (words_between lines (from + 1 + count) next))
      ∙ ap (λ ws. take (length (words_between lines (from + 1) (from + 1 + count))) ws) (sym split ∙ parts.1)
      ∙ ap (λ i. take i (map row_words said_rows ++ tail_lines (said g))) k
      ∙ take-append_seam (map row_words said_rows) (tail_lines (said g))

  pub tail_are : words_between lines (from + 1 + count) next ≡ tail_lines (said g)
  tail_are =
      let r : from + 1 + count < next = room in
      append_same (map row_words said_rows) (words_between lines (from + 1 + count) next) (tail_lines (said g))
      (ap (λ ws. ws ++ words_between lines (from + 1 + count) next) (sym row_lines)
      ∙ sym (between_split lines (from + 1) (from + 1 + count) next (omega arith) (omega arith)) ∙ parts.1)

  pub block : EachRow (take count (drop (from + 1) lines)) said_rows
  block =
      let n : from + 1 + count - (from + 1) ≡ count = omega arith in
      each_of (take count (drop (from + 1) lines)) said_rows h.are.rows
      (ap (λ k. words_of_lines (take k (drop (from + 1) lines))) (sym n) ∙ row_lines)

  pub run : (u : Stage) × ReachesStage version start (words_between lines from next) u × IsEnd u
  run =
      let r = graph_run (said g) h.are in
      (r.0, subst (λ ws. ReachesStage version start ws r.0) (sym h.is) r.1, r.2)

  tail_good : (j : ℕ) → from + 1 + count ≤ j → j < next → GoodWords (length g.rows) said_rows (line_at lines j).words
  tail_good j low high =
      let r : from + 1 + count < next = room in
      let n : length (words_between lines (from + 1 + count) next) ≡ next - (from + 1 + count) = between_count lines (from + 1 + count) next (omega arith) h.within in
      let e : length (words_between lines (from + 1 + count) next) ≡ length (tail_lines (said g)) = ap length tail_are in
      subst (GoodWords (length g.rows) said_rows) (ap (λ ws. get_or ws (j - (from + 1 + count)) []) (sym tail_are) ∙ between_at lines (from + 1 + count) next j [] low high h.within)
      (good_tail g h.well_formed h.are (j - (from + 1 + count)) [] (omega arith))

  pub counted : count ≡ length g.rows
  counted = map_count said_row g.rows

  pub clean_whole : IsClean version lines from count said_rows said_rows next run.0
  clean_whole =
      let r : from + 1 + count < next = room in
      let w : next ≤ length lines = h.within in
      record {
        low = omega arith;
        header_is = parts.0;
        few = h.are.few;
        each = block;
        all_are = each_lines (take count (drop (from + 1) lines)) said_rows block;
        good = λ i d lt. subst (λ n. IsGoodRow n said_rows (take i said_rows) (get_or said_rows i d)) (sym counted) (good_rows g h.well_formed i d lt);
        reaches = run.1;
        order = omega arith;
        within = w;
        most = omega arith;
        whole = inr refl;
        classes = λ j low less. subst (λ n. GoodWords n said_rows (line_at lines j).words) (sym counted) (tail_good j low less);
      }

  -- what stands behind a graph's end
  module _ (names : (o p : WordOp) → name_of o ≡ name_of p → o ≡ p) where
    front_ends : (c : ℕ) → next ≤ c → EndsGraph (words_between lines next c)
    front_ends c le = elim (cases_lt next (length lines)) [
      | inr past ↦ subst EndsGraph (sym (nothing c past)) tt
      | inl low ↦ elim (cases_lt next c) [
        | inl less ↦ subst EndsGraph (sym (between_first lines next c less low)) (first_ends low)
        | inr same ↦ subst EndsGraph (sym (none_at c (omega arith))) tt
      ]
    ]
      where
        no_words : (k : ℕ) (ls : List Line) → length ls ≡ 0 → words_of_lines (take k ls) ≡ []
        no_words zero ls e = refl
        no_words (suc k) [] e = refl
        no_words (suc k) (l ∷ ls) e = absurd (omega arith)

        nothing : (c : ℕ) → length lines ≤ next → words_between lines next c ≡ []
        nothing c past = no_words (c - next) (drop next lines) (let d : length (drop next lines) ≡ length lines - next = length-drop next lines in omega arith)

        none_at : (c : ℕ) → c ≡ next → words_between lines next c ≡ []
        none_at c e = (let n : c - next ≡ 0 = omega arith in ap (λ k. words_of_lines (take k (drop next lines))) n)

        first_ends : next < length lines → IsNoTarget (line_at lines next).words
        first_ends low =
            subst EndsGraph (ap words_of_lines (drop-cons lines next (record { place = 0; words = [] }) low)) h.ends

    pub no_fault_whole : (other : ℕ) (kind : Kind) → GraphFault version lines from other kind → ⊥
    no_fault_whole other kind f = behind other kind f (no_fault names lines from count said_rows said_rows next run.0 clean_whole other kind f)
      where
        run_to : (c : ℕ) → next ≤ c → (u : Stage) × ReachesStage version start (words_between lines from c) u × IsDone u
        run_to c le =
            let e = ends_from run.0 (words_between lines next c) run.2 (front_ends c le) in (
              e.0,
              subst (λ ws. ReachesStage version start ws e.0) (sym (between_split lines from next c h.order le)) (join (words_between lines from next) (words_between lines next c) start run.0 e.0 run.1 e.1),
              e.2,
            )

        -- a graph alone doesn't go on behind its end
        not_part : (c : ℕ) → next < c → c ≤ length lines → GoesOn (IsGraphText version) (words_between lines from c) → ⊥
        not_part c less within goes =
            let p = part_goes (words_between lines from c) goes in
            let s = front_stage lines from (next + 1) c p.0 (let o : from ≤ next = h.order in omega arith) (omega arith) p.1 in
            let t = step_at lines from next s.0 h.order (omega arith) s.1 in
            let here : Step version run.0 (line_at lines next).words s.0 = subst (λ x. Step version x (line_at lines next).words s.0) (one_stage (words_between lines from next) start t.0 run.0 t.1 run.1) t.2 in
            let gone : s.0 ≡ over = one_step run.0 s.0 over (line_at lines next).words here (away run.0 (line_at lines next).words run.2 (first_target (omega arith))) in
            p.2 (stays_over (words_between lines (next + 1) c) p.0 (subst (λ x. ReachesStage version x (words_between lines (next + 1) c) p.0) gone s.2))
          where
            away : (s : Stage) (words : Words) → IsEnd s → IsNoTarget words → Step version s words over
            away s words no_guard h = leave_pool h
            away s words targets h = leave h

            first_target : next < length lines → IsNoTarget (line_at lines next).words
            first_target low = subst EndsGraph (ap words_of_lines (drop-cons lines next (record { place = 0; words = [] }) low)) h.ends

        behind : (o : ℕ) (k : Kind) → GraphFault version lines from o k → next ≤ o → ⊥
        behind o k (bad_line low lt goes never) le =
            never (goes_text (words_between lines from (o + 1)) (run_to (o + 1) (omega arith)).0 (run_to (o + 1) (omega arith)).1)
        behind o k (missing end goes never) le = never (told (words_between lines from o) (run_to o le).0 (run_to o le).2 (run_to o le).1)
        behind o k (bad_row low its_block is_at at_is goes bad) le =
            (let w = is_at.within in not_part (o + 1) (omega arith) (omega (arith, w, at_is)) goes)
        behind o k (bad_class low its_block is_at at_is goes bad) le =
            (let w = is_at.within in not_part (o + 1) (omega arith) (omega (arith, w, at_is)) goes)
        behind o k (wrong_class low its_block far high none goes is wrong) le = not_part (o + 1) (omega arith) (omega arith) goes
