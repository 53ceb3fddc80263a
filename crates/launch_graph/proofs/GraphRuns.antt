-- The texts of graphs are the runs of their stages.
use Rattle.std.proofs.Common.{◌≡◌, ◌≢◌, ℕ, zero, suc, ◌<◌, ◌≤◌, ◌^◌, List, [], ◌∷◌, ◌++◌, length, map, refl, sym, ap, subst, ◌∙◌, append_assoc, append-nil, arith, Option, Some, None}
use Rattle.std.specs.Prelude.{All}
use Rattle.std.specs.List.{cons_option}
use Rattle.std.proofs.lemmas.List.Elements.{All-nil, All-cons, All-head, All-tail}
use Rattle.word_ops.specs.declared.sorts.Op.TheVariants as op
use Rattle.text_core.specs.LineTexts.{Words}
use Rattle.graph_meaning.specs.declared.graphs.InputClass.{InputClass}
use Rattle.graph_meaning.specs.declared.graphs.Guard.{Guard}
use Rattle.graph_meaning.specs.declared.graphs.SetClass.{SetClass}
use Rattle.launch_graph.specs.declared.row_lines.RowLine.{RowLine}
use Rattle.launch_graph.specs.declared.row_lines.LineOp.TheVariants.{Plain}
use Rattle.launch_graph.specs.LineFormats.{GoesOn}
use Rattle.launch_graph.specs.GraphLines.{GraphLines, AreGraphLines, SetFits, graph_lines, rows_words, entry_words, in_words, pool_words, guard_lines, set_words}
use Rattle.launch_graph.specs.GraphTexts.{IsNoTarget, EndsGraph, BeginsWithGraph, IsGraphText}
use Rattle.launch_graph.specs.RowLines.{row_words, IsRowLine}
use Rattle.launch_graph.specs.GraphStages.{InputFits, GuardFits, RowFits, Low, IsNewPin, Stage, start, rows, inputs, behind_pool, sets, over, Step, header, row, entry, input, pool, guard, first_set, set, leave_pool, leave, further, ReachesStage, stay, go}
use Rattle.launch_graph.proofs.SetLines.{HaveNewPins, new_own, none_before, own_new}
use Rattle.launch_graph.proofs.Stages.{join, split, one_step, one_stage, stays_over}

-- where a graph may end
pub data IsEnd : Stage → Type 0 where
  no_guard : IsEnd behind_pool
  targets : {pins : List ℕ} → IsEnd (sets pins)

pub data IsDone : Stage → Type 0 where
  ends : {s : Stage} → IsEnd s → IsDone s
  goes_on : IsDone over

-- ---- what lines say from a stage on

pub record SetsThen (version : ℕ) (pins : List ℕ) (lines : List Words) : Type 0 where
  pub sets_are : List SetClass
  pub fit : All (SetFits version) sets_are
  pub new : HaveNewPins pins sets_are
  pub rest : List Words
  pub ends : EndsGraph rest
  pub whole : lines ≡ map set_words sets_are ++ rest

pub record PoolThen (version : ℕ) (lines : List Words) : Type 0 where
  pub guard_is : Option Guard
  pub fits : GuardFits guard_is
  pub then : List Words
  pub targets_are : SetsThen version [] then
  pub whole : lines ≡ guard_lines guard_is ++ then

pub record InputsThen (version : ℕ) (lines : List Words) : Type 0 where
  pub inputs_are : List InputClass
  pub fit : All InputFits inputs_are
  pub pool_is : List ℕ
  pub low : All Low pool_is
  pub then : List Words
  pub targets_are : PoolThen version then
  pub whole : lines ≡ map in_words inputs_are ++ (pool_words pool_is ∷ then)

pub record RowsThen (version count : ℕ) (lines : List Words) : Type 0 where
  pub rows_are : List RowLine
  pub counted : length rows_are ≡ count
  pub fit : All RowFits rows_are
  pub entry_is : ℕ
  pub small : entry_is < 2 ^ 31
  pub then : List Words
  pub inputs_then : InputsThen version then
  pub whole : lines ≡ map row_words rows_are ++ (entry_words entry_is ∷ then)

-- ---- a run tells the lines

no_sets : {version : ℕ} {pins : List ℕ} (rest : List Words) → EndsGraph rest → SetsThen version pins rest
no_sets {version} rest e = record { sets_are = []; fit = All-nil (SetFits version); new = tt; rest = rest; ends = e; whole = refl }

more_sets : {version : ℕ} {pins : List ℕ} (s : SetClass) (words : Words) (lines : List Words) → SetFits version s → IsNewPin pins s.pin → words ≡ set_words s
    → SetsThen version (pins ++ cons_option s.pin []) lines → SetsThen version pins (words ∷ lines)
more_sets {version} s words lines fits new is h =
    record {
      sets_are = s ∷ h.sets_are;
      fit = All-cons (SetFits version) s h.sets_are fits h.fit;
      new = (new, h.new);
      rest = h.rest;
      ends = h.ends;
      whole = ap (λ w. w ∷ lines) is ∙ ap (λ (ls : List Words). set_words s ∷ ls) h.whole;
    }

pub sets_told : {version : ℕ} {pins : List ℕ} (lines : List Words) (u : Stage) → IsDone u → ReachesStage version (sets pins) lines u → SetsThen version pins lines
sets_told [] u d stay = no_sets [] tt
sets_told (words ∷ lines) u d (go (set s fits new is) j) = more_sets s words lines fits new is (sets_told lines u d j)
sets_told (words ∷ lines) u d (go (leave h) j) = no_sets (words ∷ lines) h

new_in_none : (o : Option ℕ) → IsNewPin [] o
new_in_none None = tt
new_in_none (Some r) = refl

pub pool_told : {version : ℕ} (lines : List Words) (u : Stage) → IsDone u → ReachesStage version behind_pool lines u → PoolThen version lines
pool_told [] u d stay = record { guard_is = None; fits = tt; then = []; targets_are = no_sets [] tt; whole = refl }
pool_told (words ∷ lines) u d (go (guard o fits is) j) =
    record { guard_is = Some o; fits = fits; then = lines; targets_are = sets_told lines u d j; whole = ap (λ w. w ∷ lines) is }
pool_told (words ∷ lines) u d (go (first_set s fits is) j) =
    record {
      guard_is = None;
      fits = tt;
      then = words ∷ lines;
      targets_are = more_sets s words lines fits (new_in_none s.pin) is (sets_told lines u d j);
      whole = refl;
    }
pool_told (words ∷ lines) u d (go (leave_pool h) j) =
    record { guard_is = None; fits = tt; then = words ∷ lines; targets_are = no_sets (words ∷ lines) h; whole = refl }

pub never_inputs : IsDone inputs → ⊥
never_inputs (ends e) = elim e [ ]

pub never_rows : (n : ℕ) → IsDone (rows n) → ⊥
never_rows n (ends e) = elim e [ ]

pub never_begun : IsDone start → ⊥
never_begun (ends e) = elim e [ ]

more_inputs : {version : ℕ} (i : InputClass) (words : Words) (lines : List Words) → InputFits i → words ≡ in_words i → InputsThen version lines → InputsThen version (words ∷ lines)
more_inputs i words lines fits is h =
    record {
      inputs_are = i ∷ h.inputs_are;
      fit = All-cons InputFits i h.inputs_are fits h.fit;
      pool_is = h.pool_is;
      low = h.low;
      then = h.then;
      targets_are = h.targets_are;
      whole = ap (λ w. w ∷ lines) is ∙ ap (λ (ls : List Words). in_words i ∷ ls) h.whole;
    }

pub inputs_told : {version : ℕ} (lines : List Words) (u : Stage) → IsDone u → ReachesStage version inputs lines u → InputsThen version lines
inputs_told [] u d stay = absurd (never_inputs d)
inputs_told (words ∷ lines) u d (go (input i fits is) j) = more_inputs i words lines fits is (inputs_told lines u d j)
inputs_told (words ∷ lines) u d (go (pool ns low is) j) =
    record {
      inputs_are = [];
      fit = All-nil InputFits;
      pool_is = ns;
      low = low;
      then = lines;
      targets_are = pool_told lines u d j;
      whole = ap (λ w. w ∷ lines) is;
    }

pub row_itself : (words : Words) (r : RowLine) → IsRowLine words r → RowFits r
row_itself words r h = record { is = refl; class = h.class; op = h.op; operands = h.operands }

more_rows : {version : ℕ} (r : RowLine) (words : Words) (n : ℕ) (lines : List Words) → IsRowLine words r → RowsThen version n lines → RowsThen version (suc n) (words ∷ lines)
more_rows r words n lines is h =
    record {
      rows_are = r ∷ h.rows_are;
      counted = ap suc h.counted;
      fit = All-cons RowFits r h.rows_are (row_itself words r is) h.fit;
      entry_is = h.entry_is;
      small = h.small;
      then = h.then;
      inputs_then = h.inputs_then;
      whole = ap (λ w. w ∷ lines) is.is ∙ ap (λ (ls : List Words). row_words r ∷ ls) h.whole;
    }

pub rows_told : {version : ℕ} (n : ℕ) (lines : List Words) (u : Stage) → IsDone u → ReachesStage version (rows n) lines u → RowsThen version n lines
rows_told n [] u d stay = absurd (never_rows n d)
rows_told (suc n) (words ∷ lines) u d (go (row r is) j) = more_rows r words n lines is (rows_told n lines u d j)
rows_told zero (words ∷ lines) u d (go (entry class small is) j) =
    record {
      rows_are = [];
      counted = refl;
      fit = All-nil RowFits;
      entry_is = class;
      small = small;
      then = lines;
      inputs_then = inputs_told lines u d j;
      whole = ap (λ w. w ∷ lines) is;
    }

-- the lines of a graph and those behind it, with one bracket
lines_then : (g : GraphLines) (rest : List Words)
    → graph_lines g ++ rest
    ≡ rows_words (length g.rows)
    ∷ (map row_words g.rows
    ++ (entry_words g.entry
    ∷ (map in_words g.inputs ++ (pool_words g.pool ∷ (guard_lines g.guard ++ (map set_words g.sets ++ rest))))))
lines_then g rest = simp append_assoc

pub told : {version : ℕ} (lines : List Words) (u : Stage) → IsDone u → ReachesStage version start lines u → BeginsWithGraph version lines
told [] u d stay = absurd (never_begun d)
told (words ∷ lines) u d (go (header count few is) j) =
    let r = rows_told count lines u d j in
    let i = r.inputs_then in
    let p = i.targets_are in
    let s = p.targets_are in
    let g : GraphLines = record { rows = r.rows_are; entry = r.entry_is; inputs = i.inputs_are; pool = i.pool_is; guard = p.guard_is; sets = s.sets_are } in
    record {
      graph = g;
      are = record {
        few = subst (λ n. n ≤ 1000000) (sym r.counted) few;
        rows = r.fit;
        entry = r.small;
        inputs = i.fit;
        pool = i.low;
        guard = p.fits;
        sets = s.fit;
        own_pins = (new_own [] s.sets_are s.new).1;
      };
      behind = s.rest;
      ends = s.ends;
      whole =
          ap (λ w. w ∷ lines) (is ∙ ap rows_words (sym r.counted))
          ∙ ap (λ (ls : List Words). rows_words (length r.rows_are) ∷ ls)
          (r.whole
          ∙ ap (λ (ls : List Words). map row_words r.rows_are ++ (entry_words r.entry_is ∷ ls))
          (i.whole ∙ ap (λ (ls : List Words). map in_words i.inputs_are ++ (pool_words i.pool_is ∷ ls))
          (p.whole ∙ ap (λ (ls : List Words). guard_lines p.guard_is ++ ls) s.whole)))
          ∙ sym (lines_then g s.rest);
    }

-- ---- the lines of a graph are a run

pub ends_from : {version : ℕ} (s : Stage) (lines : List Words) → IsEnd s → EndsGraph lines → (u : Stage) × ReachesStage version s lines u × IsDone u
ends_from s [] e h = (s, stay, ends e)
ends_from {version} s (words ∷ lines) no_guard h = (over, go (leave_pool h) (over_all lines), goes_on)
  where
    over_all : (ls : List Words) → ReachesStage version over ls over
    over_all [] = stay
    over_all (w ∷ ls) = go further (over_all ls)
ends_from {version} s (words ∷ lines) targets h = (over, go (leave h) (over_all lines), goes_on)
  where
    over_all : (ls : List Words) → ReachesStage version over ls over
    over_all [] = stay
    over_all (w ∷ ls) = go further (over_all ls)

pub sets_run : {version : ℕ} (pins : List ℕ) (ss : List SetClass) → All (SetFits version) ss → HaveNewPins pins ss → (qs : List ℕ) × ReachesStage version (sets pins) (map set_words ss) (sets qs)
sets_run pins [] fit new = (pins, stay)
sets_run {version} pins (s ∷ ss) fit new =
    let later = sets_run (pins ++ cons_option s.pin []) ss (All-tail (SetFits version) s ss fit) new.1 in
    (later.0, go (set s (All-head (SetFits version) s ss fit) new.0 refl) later.1)

-- where a graph's own lines end
pub pool_run : {version : ℕ} (o : Option Guard) (ss : List SetClass) → GuardFits o → All (SetFits version) ss → HaveNewPins [] ss
    → (u : Stage) × ReachesStage version behind_pool (guard_lines o ++ map set_words ss) u × IsEnd u
pool_run (Some o) ss fits fit new = let r = sets_run [] ss fit new in (sets r.0, go (guard o fits refl) r.1, targets)
pool_run None [] fits fit new = (behind_pool, stay, no_guard)
pool_run {version} None (s ∷ ss) fits fit new =
    let r = sets_run (cons_option s.pin []) ss (All-tail (SetFits version) s ss fit) new.1 in
    (sets r.0, go (first_set s (All-head (SetFits version) s ss fit) refl) r.1, targets)

pub inputs_run : {version : ℕ} (is : List InputClass) (lines : List Words) (u : Stage) → All InputFits is → ReachesStage version inputs lines u → ReachesStage version inputs (map in_words is ++ lines) u
inputs_run [] lines u fit j = j
inputs_run (i ∷ is) lines u fit j = go (input i (All-head InputFits i is fit) refl) (inputs_run is lines u (All-tail InputFits i is fit) j)

pub rows_run : {version : ℕ} (rs : List RowLine) (lines : List Words) (u : Stage) → All RowFits rs → ReachesStage version (rows zero) lines u → ReachesStage version (rows (length rs)) (map row_words rs ++ lines) u
rows_run [] lines u fit j = j
rows_run (r ∷ rs) lines u fit j = go (row r (All-head RowFits r rs fit)) (rows_run rs lines u (All-tail RowFits r rs fit) j)

pub graph_run : {version : ℕ} (g : GraphLines) → AreGraphLines version g → (u : Stage) × ReachesStage version start (graph_lines g) u × IsEnd u
graph_run g are =
    let last = pool_run g.guard g.sets are.guard are.sets (own_new [] g.sets (none_before g.sets) are.own_pins) in (
      last.0,
      go (header (length g.rows) are.few refl)
          (rows_run g.rows (entry_words g.entry ∷ (map in_words g.inputs ++ (pool_words g.pool ∷ (guard_lines g.guard ++ map set_words g.sets)))) last.0 are.rows
          (go (entry g.entry are.entry refl)
          (inputs_run g.inputs (pool_words g.pool ∷ (guard_lines g.guard ++ map set_words g.sets)) last.0 are.inputs
          (go (pool g.pool are.pool refl) last.1)))),
      last.2,
    )

pub text_run : {version : ℕ} (lines : List Words) → BeginsWithGraph version lines → (u : Stage) × ReachesStage version start lines u × IsDone u
text_run {version} lines h =
    let r = graph_run h.graph h.are in
    let e = ends_from r.0 h.behind r.2 h.ends in
    (e.0, subst (λ ls. ReachesStage version start ls e.0) (sym h.whole) (join (graph_lines h.graph) h.behind start r.0 e.0 r.1 e.1), e.2)

pub not_over : (u : Stage) → IsEnd u → u ≢ over
not_over u no_guard e = cc
not_over u targets e = cc

pub part_run : {version : ℕ} (lines : List Words) → IsGraphText version lines → (u : Stage) × ReachesStage version start lines u × IsEnd u
part_run {version} lines h =
    let r = graph_run h.graph h.are in
    (r.0, subst (λ ls. ReachesStage version start ls r.0) (sym h.whole) r.1, r.2)

-- ---- from each stage a graph can be ended

any_row : RowLine
any_row = record { class = 0; op = Plain op.Entry; operands = [] }

any_row_fits : RowFits any_row
unfolding any_row
any_row_fits = record { is = refl; class = omega arith; op = tt; operands = All-nil (λ n. n < 2 ^ 31) }

to_pool : List Words
to_pool = pool_words [] ∷ []

pool_ends : {version : ℕ} → ReachesStage version inputs to_pool behind_pool
unfolding to_pool
pool_ends = go (pool [] (All-nil Low) refl) stay

to_end : ℕ → List Words
to_end zero = entry_words 0 ∷ to_pool
to_end (suc n) = row_words any_row ∷ to_end n

rows_end : {version : ℕ} (n : ℕ) → ReachesStage version (rows n) (to_end n) behind_pool
unfolding to_end
rows_end zero = go (entry 0 (omega arith) refl) pool_ends
rows_end (suc n) = go (row any_row any_row_fits) (rows_end n)

pub can_end : {version : ℕ} (s : Stage) → (lines : List Words) × (u : Stage) × ReachesStage version s lines u × IsDone u × (s ≢ over → IsEnd u)
can_end start = (rows_words 0 ∷ to_end 0, behind_pool, go (header 0 (omega arith) refl) (rows_end 0), ends no_guard, λ n. no_guard)
can_end (rows n) = (to_end n, behind_pool, rows_end n, ends no_guard, λ n. no_guard)
can_end inputs = (to_pool, behind_pool, pool_ends, ends no_guard, λ n. no_guard)
can_end behind_pool = ([], behind_pool, stay, ends no_guard, λ n. no_guard)
can_end (sets pins) = ([], sets pins, stay, ends targets, λ n. targets)
can_end over = ([], over, stay, goes_on, λ n. absurd (n refl))

-- ---- going on

pub text_goes : {version : ℕ} (front : List Words) → GoesOn (BeginsWithGraph version) front → (s : Stage) × ReachesStage version start front s
text_goes front h =
    let r = text_run (front ++ h.behind) h.whole in
    let s = split front h.behind start r.0 r.1 in
    (s.0, s.1)

pub goes_text : {version : ℕ} (front : List Words) (s : Stage) → ReachesStage version start front s → GoesOn (BeginsWithGraph version) front
goes_text front s h =
    let e = can_end s in
    record { behind = e.0; whole = told (front ++ e.0) e.1 e.3 (join front e.0 start s e.1 h e.2) }

pub part_goes : {version : ℕ} (front : List Words) → GoesOn (IsGraphText version) front → (s : Stage) × ReachesStage version start front s × (s ≢ over)
part_goes {version} front h =
    let r = part_run (front ++ h.behind) h.whole in
    let s = split front h.behind start r.0 r.1 in
    (s.0, s.1, λ e. not_over r.0 r.2 (stays_over h.behind r.0 (subst (λ x. ReachesStage version x h.behind r.0) e s.2)))

-- a graph's text is what ends at an end
nothing_behind : {version : ℕ} (lines : List Words) (u : Stage) → IsEnd u → (h : BeginsWithGraph version lines) → ReachesStage version start lines u → h.behind ≡ []
nothing_behind {version} lines u e h j =
    let r = graph_run h.graph h.are in
    let run = split (graph_lines h.graph) h.behind start u (subst (λ ls. ReachesStage version start ls u) h.whole j) in
    ended h.behind r.0 u r.2 e h.ends (subst (λ x. ReachesStage version x h.behind u) (one_stage (graph_lines h.graph) start run.0 r.0 run.1 r.1) run.2)
  where
    ended : (rest : List Words) (s u : Stage) → IsEnd s → IsEnd u → EndsGraph rest → ReachesStage version s rest u → rest ≡ []
    ended [] s u a b h j = refl
    ended (words ∷ rest) s u a b h (go {t = t} k l) =
        absurd (not_over u b (stays_over rest u (subst (λ x. ReachesStage version x rest u) (one_step s t over words k (away s words a h)) l)))
      where
        away : (s : Stage) (words : Words) → IsEnd s → IsNoTarget words → Step version s words over
        away s words no_guard h = leave_pool h
        away s words targets h = leave h

pub goes_part : {version : ℕ} (front : List Words) (s : Stage) → ReachesStage version start front s → s ≢ over → GoesOn (IsGraphText version) front
goes_part front s h n =
    let e = can_end s in
    let j = join front e.0 start s e.1 h e.2 in
    let t = told (front ++ e.0) e.1 e.3 j in
    let none = nothing_behind (front ++ e.0) e.1 (e.4 n) t j in
    record {
      behind = e.0;
      whole = record { graph = t.graph; are = t.are; whole = t.whole ∙ ap (λ ls. graph_lines t.graph ++ ls) none ∙ append-nil (graph_lines t.graph) };
    }
