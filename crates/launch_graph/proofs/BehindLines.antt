-- A line behind the rows is clean, or has the first fault.
use Rattle.std.proofs.Common.{◌≡◌, ◌≢◌, ℕ, zero, ◌+◌, ◌<◌, ◌≤◌, List, [], ◌∷◌, ◌++◌, length, map, get_or, refl, sym, ap, subst, ◌∙◌, arith, codes, Option, Some, None, true, false}
use Rattle.std.specs.List.{cons_option}
use Rattle.std.specs.Option.{option_map_or}
use Rattle.std.proofs.lemmas.List.{map_push}
use Rattle.std.proofs.lemmas.List.Elements.{All-nil, All-push}
use Rattle.text_core.specs.Faults.{IsFaultBy}
use Rattle.text_core.specs.Lines.{Line, line_at, BeginsAt}
use Rattle.text_core.specs.LineTexts.{Words, SaysNone}
use Rattle.text_core.specs.declared.faults.Kind.{Kind}
use Rattle.text_core.specs.declared.faults.Kind.TheVariants.{BadLine, BadClass}
use Rattle.text_core.specs.declared.faults.TextFault.{TextFault}
use Rattle.word_ops.specs.Names.{name_of}
use Rattle.word_ops.specs.declared.operators.WordOp.{WordOp}
use Rattle.word_ops.specs.declared.sorts.Sort.{Sort}
use Rattle.word_ops.specs.declared.sorts.Sort.TheVariants as sorts
use Rattle.launch_graph.specs.declared.class_marks.Mark.{Mark}
use Rattle.graph_meaning.specs.declared.graphs.InputClass.{InputClass}
use Rattle.graph_meaning.specs.declared.graphs.Guard.{Guard}
use Rattle.graph_meaning.specs.declared.graphs.SetClass.{SetClass}
use Rattle.launch_graph.specs.declared.row_lines.RowLine.{RowLine}
use Rattle.launch_graph.specs.BehindRows.{IsRight, IsCleanBehindRows, IsFaultBehind, IsFaultBehindOf, IsEntryAt, IsInputAt, IsGuardAt, IsSetAt, TakesSets, targets, no_guard, AreInputsAt, AreSetsAt}
use Rattle.launch_graph.specs.ClassMarks.{AreMarks}
use Rattle.launch_graph.specs.GraphLines.{SetFits, in_words, pin_words, set_words}
use Rattle.launch_graph.specs.GraphStages.{Stage, rows, inputs, behind_pool, sets, over, Step, entry, input, pool, guard, first_set, set, leave_pool, leave, InputFits, IsNewPin, has_pin, pins_among}
use Rattle.launch_graph.specs.GraphTexts.{IsNoTarget, IsClassLine}
use Rattle.launch_graph.specs.GraphTexts as class_line
use Rattle.launch_graph.specs.LineFaults.{IsFirstFaultOf}
use Rattle.launch_graph.specs.LineReading.{IsEntryLine, IsInputLine, IsPoolLine, IsGuardLine, IsSetLine}
use Rattle.launch_graph.specs.RowFaults.{IsWrongClass}
use Rattle.launch_graph.specs.RowsRead.{IsFaultOfLine}
use Rattle.graph_meaning.specs.WellFormed.{set_sort}
use Rattle.launch_graph.proofs.Between.{between_more, between_none}
use Rattle.launch_graph.proofs.ClassLines.{entry_class, input_class, pool_class, guard_class, set_class}
use Rattle.launch_graph.proofs.FirstFaults.{missing_first, bad_line_first, wrong_class_first, clean_line}
use Rattle.launch_graph.proofs.GraphRuns.{IsDone}
use Rattle.launch_graph.proofs.SetLines.{own_more, pins_more, same_pin}

-- ---- which lines can stand next

pub no_entry : (words : Words) → SaysNone IsEntryLine words → (version : ℕ) (t : Stage) → Step version (rows zero) words t → ⊥
no_entry words none version t (entry class low is) = none class (record { small = low; is = is })

pub no_pool : (words : Words) → SaysNone IsInputLine words → SaysNone IsPoolLine words → (version : ℕ) (t : Stage) → Step version inputs words t → ⊥
no_pool words none never version t (input i fits is) = none i (record { fits = fits; is = is })
no_pool words none never version t (pool ns low is) = never ns (record { low = low; is = is })

guard_is_target : (words : Words) → get_or words 0 [] ≡ codes "guard" → IsNoTarget words → ⊥
guard_is_target [] e h = cc
guard_is_target (word ∷ words) e h = h.0 e

set_is_target : (words : Words) → get_or words 0 [] ≡ codes "set" → IsNoTarget words → ⊥
set_is_target [] e h = cc
set_is_target (word ∷ words) e h = h.1 e

pub is_no_target : (words : Words) → get_or words 0 [] ≢ codes "guard" → get_or words 0 [] ≢ codes "set" → IsNoTarget words
is_no_target [] never none = tt
is_no_target (word ∷ words) never none = (never, none)

first_word : (words other : Words) → words ≡ other → get_or words 0 [] ≡ get_or other 0 []
first_word words other e = ap (λ (ws : Words). get_or ws 0 []) e

pub wrong_guard : (words : Words) → get_or words 0 [] ≡ codes "guard" → SaysNone IsGuardLine words → (version : ℕ) (t : Stage) → Step version behind_pool words t → ⊥
wrong_guard words first none version t (guard o low is) = none o (record { small = low; is = is })
wrong_guard words first none version t (first_set s fits is) = (let h : codes "guard" ≡ codes "set" = sym first ∙ first_word words (set_words s) is in cc)
wrong_guard words first none version t (leave_pool h) = guard_is_target words first h

module _ (lines : List Line) (at : ℕ) (lt : at < length lines) where
  abbrev words : Words
  words = (line_at lines at).words

  pub late_guard : get_or words 0 [] ≡ codes "guard" → {pins : List ℕ} (stage : Stage) → TakesSets lines at pins stage → (version : ℕ) (t : Stage) → Step version stage words t → ⊥
  late_guard first stage targets version t (set s fits new is) = (let h : codes "guard" ≡ codes "set" = sym first ∙ first_word words (set_words s) is in cc)
  late_guard first stage targets version t (leave h) = guard_is_target words first h
  late_guard first stage (no_guard none) version t step = none lt first

  module _ (version : ℕ) where
    pub wrong_set : get_or words 0 [] ≡ codes "set" → SaysNone (IsSetLine version) words → {pins : List ℕ} (stage : Stage) → TakesSets lines at pins stage → (t : Stage) → Step version stage words t → ⊥
    wrong_set first none stage targets t (set s fits new is) = none s (record { fits = fits; is = is })
    wrong_set first none stage targets t (leave h) = set_is_target words first h
    wrong_set first none stage (no_guard never) t (guard o low is) = (let h : codes "set" ≡ codes "guard" = sym first ∙ first_word words _ is in cc)
    wrong_set first none stage (no_guard never) t (first_set s fits is) = none s (record { fits = fits; is = is })
    wrong_set first none stage (no_guard never) t (leave_pool h) = set_is_target words first h

    not_again : (pins : List ℕ) (o p : Option ℕ) → o ≡ p → option_map_or (has_pin pins) o false ≡ true → IsNewPin pins p → ⊥
    not_again pins None p e again new = cc
    not_again pins (Some r) p e again new = (let h : has_pin pins r ≡ false = subst (IsNewPin pins) (sym e) new in let f : true ≡ false = sym again ∙ h in cc)

    -- the pin of a target before
    pub repeated_set : {pins : List ℕ} (s : SetClass) → IsSetLine version words s → option_map_or (has_pin pins) s.pin false ≡ true → (stage : Stage) → TakesSets lines at pins stage → (t : Stage) → Step version stage words t → ⊥
    repeated_set {pins} s is again stage targets t (set q fits new same) = not_again pins s.pin q.pin (same_pin version s q words is.fits fits is.is same) again new
    repeated_set s is again stage targets t (leave h) = (subst IsNoTarget is.is h).1 refl
    repeated_set s is again stage (no_guard never) t step = not_again [] s.pin s.pin refl again (new_in_none s.pin)
      where
        new_in_none : (o : Option ℕ) → IsNewPin [] o
        new_in_none None = tt
        new_in_none (Some r) = refl

    -- a target leads to the stage of targets
    pub set_step : {pins : List ℕ} (stage : Stage) → TakesSets lines at pins stage → (s : SetClass) → IsSetLine version words s → IsNewPin pins s.pin → Step version stage words (sets (pins ++ cons_option s.pin []))
    set_step stage targets s is new = set s is.fits new is.is
    set_step stage (no_guard never) s is new = first_set s is.fits is.is

inputs_not_over : inputs ≢ over
inputs_not_over e = cc

pool_not_over : behind_pool ≢ over
pool_not_over e = cc

sets_not_over : (pins : List ℕ) → sets pins ≢ over
sets_not_over pins e = cc

-- ---- a line by the graph before it

module _ (names : (o p : WordOp) → name_of o ≡ name_of p → o ≡ p) (lines : List Line) (marks : List Mark) (at : ℕ) where
  fault_is : (version : ℕ) (kind : Kind) (fault : TextFault) (from : ℕ) → IsFaultOfLine lines at kind fault
      → ((place : ℕ) → BeginsAt lines at place → IsFirstFaultOf version lines from place kind) → IsFaultBy (IsFirstFaultOf version lines from) fault
  fault_is version kind fault from f h = subst (IsFaultBy (IsFirstFaultOf version lines from)) (sym f.is) (h f.place f.placed)

  pub ended : (stage : Stage) (fault : TextFault) → at ≡ length lines → (IsDone stage → ⊥) → IsFaultOfLine lines at BadLine fault
      → IsFaultBehind lines marks at stage fault
  ended stage fault end never f = λ version from all b.
      fault_is version BadLine fault from f
      (λ place placed. missing_first names lines from (length marks) all all at stage b.clean place end placed never)

  module _ (lt : at < length lines) where
    pub stuck_in : (version : ℕ) (stage : Stage) (fault : TextFault) → ((t : Stage) → Step version stage (line_at lines at).words t → ⊥)
        → IsFaultOfLine lines at BadLine fault → IsFaultBehindOf version lines marks at stage fault
    stuck_in version stage fault never f = λ from all b.
        fault_is version BadLine fault from f
        (λ place placed. bad_line_first names lines from (length marks) all all at stage b.clean place lt placed never)

    pub stuck : (stage : Stage) (fault : TextFault) → ((version : ℕ) (t : Stage) → Step version stage (line_at lines at).words t → ⊥)
        → IsFaultOfLine lines at BadLine fault → IsFaultBehind lines marks at stage fault
    stuck stage fault never f = λ version. stuck_in version stage fault (never version) f

    module _ (version : ℕ) (stage next : Stage) (step : Step version stage (line_at lines at).words next) (apart : next ≢ over) where
      wrong : (class : ℕ) (sort : Sort) (fault : TextFault) → IsClassLine (line_at lines at).words class sort
          → ((all : List RowLine) → AreMarks (length marks) all marks → IsWrongClass (length marks) all sort class)
          → IsFaultOfLine lines at BadClass fault → IsFaultBehindOf version lines marks at stage fault
      wrong class sort fault is bad f = λ from all b.
          fault_is version BadClass fault from f
          (λ place placed.
          wrong_class_first names lines from (length marks) all all at stage b.clean next lt step apart b.full place class sort placed is
          (bad all b.marks_are))

      more : (from : ℕ) (all : List RowLine) → IsCleanBehindRows version lines from all marks at stage
          → ((class : ℕ) (sort : Sort) → IsClassLine (line_at lines at).words class sort → IsRight marks sort class)
          → IsCleanBehindRows version lines from all marks (at + 1) next
      more from all b right =
          record {
            clean =
                clean_line names lines from (length marks) all all at stage b.clean next lt step apart b.full
                (λ class sort is bad. right class sort is all b.marks_are bad);
            full = b.full;
            marks_are = b.marks_are;
          }

    same_right : (class other : ℕ) (sort one : Sort) → (other ≡ class) × (one ≡ sort) → IsRight marks sort class → IsRight marks one other
    same_right class other sort one same right =
        subst (λ n. IsRight marks one n) (sym same.0) (subst (λ s. IsRight marks s class) (sym same.1) right)

    -- ---- line by line

    pub wrong_entry : (class : ℕ) (fault : TextFault) → IsEntryLine (line_at lines at).words class
        → ((all : List RowLine) → AreMarks (length marks) all marks → IsWrongClass (length marks) all sorts.Memory class)
        → IsFaultOfLine lines at BadClass fault → IsFaultBehind lines marks at (rows 0) fault
    wrong_entry class fault is bad f = λ version.
        wrong version (rows 0) inputs (entry class is.small is.is) inputs_not_over class sorts.Memory fault (class_line.entry {words = []} is.small is.is refl) bad f

    pub entry_more : (class : ℕ) → IsEntryAt lines marks at class → (version from : ℕ) (all : List RowLine) → IsCleanBehindRows version lines from all marks at (rows 0)
        → IsCleanBehindRows version lines from all marks (at + 1) inputs
    entry_more class e version from all b =
        more version (rows 0) inputs (entry class e.is.small e.is.is) inputs_not_over from all b
        (λ other sort is.
        same_right class other sorts.Memory sort
        (entry_class class other sort e.is.small (subst (λ ws. IsClassLine ws other sort) e.is.is is)) e.right)

    pub wrong_input : (i : InputClass) (fault : TextFault) → IsInputLine (line_at lines at).words i
        → ((all : List RowLine) → AreMarks (length marks) all marks → IsWrongClass (length marks) all sorts.Word i.class)
        → IsFaultOfLine lines at BadClass fault → IsFaultBehind lines marks at inputs fault
    wrong_input i fault is bad f = λ version.
        wrong version inputs inputs (input i is.fits is.is) inputs_not_over i.class sorts.Word fault (class_line.input {words = []} is.fits.2 is.is refl) bad f

    pub input_more : (i : InputClass) → IsInputAt lines marks at i → (version from : ℕ) (all : List RowLine) → IsCleanBehindRows version lines from all marks at inputs
        → IsCleanBehindRows version lines from all marks (at + 1) inputs
    input_more i e version from all b =
        more version inputs inputs (input i e.is.fits e.is.is) inputs_not_over from all b
        (λ other sort is.
        same_right i.class other sorts.Word sort
        (input_class i other sort e.is.fits.2 (subst (λ ws. IsClassLine ws other sort) e.is.is is)) e.right)

    pub pool_more : (ns : List ℕ) → IsPoolLine (line_at lines at).words ns → (version from : ℕ) (all : List RowLine) → IsCleanBehindRows version lines from all marks at inputs
        → IsCleanBehindRows version lines from all marks (at + 1) behind_pool
    pool_more ns e version from all b =
        more version inputs behind_pool (pool ns e.low e.is) pool_not_over from all b
        (λ other sort is. absurd (pool_class ns other sort (subst (λ ws. IsClassLine ws other sort) e.is is)))

    pub wrong_guard_class : (o : Guard) (fault : TextFault) → IsGuardLine (line_at lines at).words o
        → ((all : List RowLine) → AreMarks (length marks) all marks → IsWrongClass (length marks) all sorts.Word o.class)
        → IsFaultOfLine lines at BadClass fault → IsFaultBehind lines marks at behind_pool fault
    wrong_guard_class o fault is bad f = λ version.
        wrong version behind_pool (sets []) (guard o is.small is.is) (sets_not_over []) o.class sorts.Word fault (class_line.guard is.small is.is refl) bad f

    pub guard_more : (o : Guard) → IsGuardAt lines marks at o → (version from : ℕ) (all : List RowLine) → IsCleanBehindRows version lines from all marks at behind_pool
        → IsCleanBehindRows version lines from all marks (at + 1) (sets [])
    guard_more o e version from all b =
        more version behind_pool (sets []) (guard o e.is.small e.is.is) (sets_not_over []) from all b
        (λ other sort is.
        same_right o.class other sorts.Word sort
        (guard_class o other sort e.is.small (subst (λ ws. IsClassLine ws other sort) e.is.is is)) e.right)

    module _ (version : ℕ) where
      pub wrong_set_class : {pins : List ℕ} (s : SetClass) (fault : TextFault) (stage : Stage) → TakesSets lines at pins stage → IsSetLine version (line_at lines at).words s → IsNewPin pins s.pin
          → ((all : List RowLine) → AreMarks (length marks) all marks → IsWrongClass (length marks) all (set_sort s.name) s.class)
          → IsFaultOfLine lines at BadClass fault → IsFaultBehindOf version lines marks at stage fault
      wrong_set_class {pins} s fault stage takes is new bad f =
          wrong version stage (sets (pins ++ cons_option s.pin [])) (set_step lines at lt version stage takes s is new) (sets_not_over (pins ++ cons_option s.pin [])) s.class (set_sort s.name) fault
          (class_line.set {words = pin_words s.pin} is.fits.1 is.is refl) bad f

      pub set_more : {pins : List ℕ} (s : SetClass) (stage : Stage) → TakesSets lines at pins stage → IsSetAt version lines marks at pins s → (from : ℕ) (all : List RowLine)
          → IsCleanBehindRows version lines from all marks at stage → IsCleanBehindRows version lines from all marks (at + 1) (sets (pins ++ cons_option s.pin []))
      set_more {pins} s stage takes e from all b =
          more version stage (sets (pins ++ cons_option s.pin [])) (set_step lines at lt version stage takes s e.is e.pin) (sets_not_over (pins ++ cons_option s.pin [])) from all b
          (λ other sort is.
          same_right s.class other (set_sort s.name) sort
          (set_class s other sort e.is.fits.1 (subst (λ ws. IsClassLine ws other sort) e.is.is is)) e.right)

    -- ---- one more line of a kind

    abbrev InputRight : InputClass → Type 0
    InputRight i = IsRight marks sorts.Word i.class

    pub inputs_more : (first : ℕ) (is : List InputClass) (i : InputClass) → AreInputsAt lines marks first at is → IsInputAt lines marks at i
        → AreInputsAt lines marks first (at + 1) (is ++ i ∷ [])
    inputs_more first is i h e =
        let o : first ≤ at = h.order in
        record {
          order = omega arith;
          within = omega arith;
          words =
              between_more lines first at h.order lt
              ∙ ap (λ (ws : List Words). ws ++ (line_at lines at).words ∷ []) h.words
              ∙ ap (λ (w : Words). map in_words is ++ w ∷ []) e.is.is ∙ sym (map_push in_words is i);
          fit = All-push InputFits is i h.fit e.is.fits;
          right = All-push InputRight is i h.right e.right;
          behind = λ version from all b. input_more i e version from all (h.behind version from all b);
        }

    abbrev SetRight : SetClass → Type 0
    SetRight s = IsRight marks (set_sort s.name) s.class

    pub sets_more : (version first : ℕ) (ss : List SetClass) (s : SetClass) → AreSetsAt version lines marks first at ss → IsSetAt version lines marks at (pins_among ss) s
        → AreSetsAt version lines marks first (at + 1) (ss ++ s ∷ [])
    sets_more version first ss s h e =
        let o : first ≤ at = h.order in
        record {
          order = omega arith;
          within = omega arith;
          words =
              between_more lines first at h.order lt
              ∙ ap (λ (ws : List Words). ws ++ (line_at lines at).words ∷ []) h.words
              ∙ ap (λ (w : Words). map set_words ss ++ w ∷ []) e.is.is ∙ sym (map_push set_words ss s);
          fit = All-push (SetFits version) ss s h.fit e.is.fits;
          own_pins = own_more ss s h.own_pins e.pin;
          right = All-push SetRight ss s h.right e.right;
          behind = λ from all b.
              (let t = h.behind from all b in
              record {
                stage = sets (pins_among (ss ++ s ∷ []));
                takes = targets;
                behind = subst (λ pins. IsCleanBehindRows version lines from all marks (at + 1) (sets pins)) (sym (pins_more ss s)) (set_more version s t.stage t.takes e from all t.behind);
              });
        }

pub no_inputs : (lines : List Line) (marks : List Mark) (first : ℕ) → first ≤ length lines → AreInputsAt lines marks first first []
no_inputs lines marks first le =
    record {
      order = omega arith;
      within = le;
      words = between_none lines first;
      fit = All-nil InputFits;
      right = All-nil (λ (i : InputClass). IsRight marks sorts.Word i.class);
      behind = λ version from all b. b;
    }

pub no_sets : (version : ℕ) (lines : List Line) (marks : List Mark) (first : ℕ) → first ≤ length lines → AreSetsAt version lines marks first first []
no_sets version lines marks first le =
    record {
      order = omega arith;
      within = le;
      words = between_none lines first;
      fit = All-nil (SetFits version);
      own_pins = λ i j d low lt. absurd (omega (arith, lt));
      right = All-nil (λ (s : SetClass). IsRight marks (set_sort s.name) s.class);
      behind = λ from all b. b;
    }
