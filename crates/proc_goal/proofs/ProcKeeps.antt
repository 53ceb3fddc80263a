-- A proc that a text writes is well formed. What is said of all texts, terms and tables below is handed in.
use Rattle.std.proofs.Common.{◌≡◌, ◌≢◌, ℕ, zero, suc, ◌+◌, ◌^◌, ◌<◌, ◌≤◌, ◌++◌, if◌then◌else◌, Bool, true, false, All, Option, None, Some, List, [], ◌∷◌, length, map, get_or, refl, sym, ap, ap₂, ◌∙◌, subst, arith, slice_get, codes}
use Rattle.std.specs.Prelude.{AllPairs, IfSome, slice_index_or}
use Rattle.std.proofs.lemmas.List.{length-map, map-append}
use Rattle.std.proofs.lemmas.List.Elements.{All-nil, All-cons}
use Rattle.std.proofs.lemmas.Option.{get_or_from_slice_get, slice_get_within}
use Rattle.text_core.specs.Names.{IsName}
use Rattle.text_core.specs.Trees.{SexpTrees}
use Rattle.forms.specs.Forms.{Form, name, forms_list, forms_of, parts_of}
use Rattle.forms.specs.Printing.{Plain, atom, keyword_list, plain_of, plains_of, CanPrintAll, most_levels}
use Rattle.forms.specs.Printing as printing
use Rattle.forms.specs.Reading.{TextHasTrees}
use Rattle.machine_table.specs.Grammar.{Each, IsListOf, more_of}
use Rattle.machine_table.specs.Grammar as grammar
use Rattle.machine_table.specs.Printing.{table_plain, table_text}
use Rattle.machine_table.specs.Tables.{IsTable, ev6}
use Rattle.machine_table.specs.declared.tables.Slot.{Slot}
use Rattle.machine_table.specs.declared.tables.Table.{Table}
use Rattle.word_ops.specs.declared.sorts.Op.{Op}
use Rattle.word_ops.specs.declared.sorts.Sort.{Sort}
use Rattle.word_ops.specs.declared.sorts.Sort.TheVariants as sorts
use Rattle.word_terms.specs.Keys.{op_signature}
use Rattle.word_terms.specs.OperatorsIn.{EachOperator}
use Rattle.word_terms.specs.Sorting.{HasSort}
use Rattle.word_terms.specs.Tree.{Tree}
use Rattle.goal_meaning.specs.InputForms.{naming, pool_plain, register_plain, term_plain}
use Rattle.goal_meaning.specs.Views.{TargetTree}
use Rattle.goal_meaning.specs.WellFormed.{IsOfGoal, input_registers, sort_of_target}
use Rattle.goal_meaning.specs.declared.goals.InputReg.{InputReg}
use Rattle.goal_reader.specs.GoalTerms.{IsReadTerm, IsWithin, one, part, term_scope}
use Rattle.goal_reader.specs.Grammar.{WritesMachine, built_in, own}
use Rattle.goal_reader.specs.Terms.{Writes}
use Rattle.goal_reader.proofs.Different.{register_low}
use Rattle.goal_reader.proofs.Fitting.{Fits, FitAll, back_fits, each_fits, fit_both, fit_head, fit_more, fit_none, fit_tail, front_fits, listed_fits, listed_told, name_told, parts_fit, pool_fits, register_fits}
use Rattle.goal_reader.proofs.Heads.{list_from}
use Rattle.goal_reader.proofs.InputPrints.{machine_fits}
use Rattle.goal_reader.proofs.Moved.{plains_map}
use Rattle.goal_reader.proofs.PrintedForms.{all_behind, pairs_front}
use Rattle.proc_goal.specs.ProcForms.{block_plain, go_plain, proc_plain, proc_plains, proc_target_plain, set_plain, table_plains, var_plain, when_plains}
use Rattle.proc_goal.specs.ProcGrammar.{WritesBlock, WritesGo, WritesProc, WritesProcTarget, WritesProcText, WritesSet, WritesVariable, WritesWhen, block, done, guarded, unguarded}
use Rattle.proc_goal.specs.Views.{BlockTree, ProcTree, WhenTree, names_of_blocks}
use Rattle.proc_goal.specs.WellFormed.{IsGuard, IsProc, IsProcBlock, IsProcTarget, IsSet, IsTermOver, operators_of_proc}
use Rattle.proc_goal.specs.declared.procs.Target.{Target}

-- ---- targets
there : (names : List (List ℕ)) (count : ℕ) → length names ≡ count → (form : Form) (t : Target) → WritesProcTarget names form t → IsProcTarget count t
there names count e form _ (done is) = tt
there names count e form _ (block {at = at} {name = n} g is) = (let l = slice_get_within names at n g in omega (arith, l, e))

target_told : (names : List (List ℕ)) (form : Form) (t : Target) → WritesProcTarget names form t → plain_of form ≡ proc_target_plain names t
target_told names form _ (done is) = name_told (codes "done") form is
target_told names form _ (block {at = at} {name = n} g is) =
    let e : slice_index_or names at [] ≡ n = get_or_from_slice_get names at n [] g in
    name_told n form is ∙ ap (λ b. atom (name b)) (sym e)

go_told : (names : List (List ℕ)) (form : Form) (t : Target) → WritesGo names form t → plain_of form ≡ go_plain names t
go_told names form t w = listed_told (codes "go") (w.first ∷ []) form w.is ∙ ap (λ p. keyword_list (codes "go") (p ∷ [])) (target_told names w.first t w.target)

each_told : {Y : Type 0} (W : Form → Y → Type 0) (p : Y → Plain) → ((f : Form) (y : Y) → W f y → plain_of f ≡ p y) → (fs : List Form) (ys : List Y) → Each W fs ys → map plain_of fs ≡ map p ys
each_told W p step _ _ grammar.none = refl
each_told W p step _ _ (more_of {form = f} {forms = fs} {y = y} {ys = ys} w others) = ap₂ (λ x xs. x ∷ xs) (step f y w) (each_told W p step fs ys others)

-- ---- variables
abbrev HasName : InputReg → Type 0
HasName i = IsName i.name

variable_fits : (n : ℕ) (f : Form) (v : InputReg) → WritesVariable f v → Fits (1 + n) (plain_of f) → Fits (1 + n) (var_plain v) × HasName v
variable_fits n f v w fits =
    let parts = parts_fit n (codes "var") (w.first ∷ w.second ∷ []) f w.is fits in
    let named = subst (Fits n) (name_told v.name w.first w.named) (fit_head n (plain_of w.first) (plain_of w.second ∷ []) parts) in
    let low = register_low w.placed.bytes v.reg w.placed.number in (
      listed_fits n (codes "var") (atom (name v.name) ∷ register_plain v.reg ∷ []) (record { begins = refl; each = refl })
          (fit_more n (atom (name v.name)) (register_plain v.reg ∷ []) named (fit_more n (register_plain v.reg) [] (register_fits n v.reg low) (fit_none n))),
      named.0,
    )

-- ---- forms that stand within others
module _ (all : List Form) where
  abbrev Inside : Form → Type 0
  Inside f = IsWithin f all

  abbrev AllInside : List Form → Type 0
  AllInside fs = (k : ℕ) (f : Form) → slice_get fs k ≡ Some f → Inside f

  part_inside : (f : Form) (fs : List Form) → IsWithin f fs → (k : ℕ) (g : Form) → slice_get (parts_of f) k ≡ Some g → IsWithin g fs
  part_inside f fs (one at got) k g h = part at f got (one k h)
  part_inside f fs (part at other got inner) k g h = part at other got (part_inside f (parts_of other) inner k g h)

  parts_inside : (word : List ℕ) (parts : List Form) (f : Form) → IsListOf word parts f → Inside f → AllInside parts
  parts_inside word parts f is inside k g h =
      part_inside f all inside (suc k) g (ap (λ (x : Form). slice_get (parts_of x) (suc k)) is.is ∙ ap (λ fs. slice_get fs k) (list_from parts) ∙ h)

  front_inside : (xs ys : List Form) → AllInside (xs ++ ys) → AllInside xs
  front_inside [] ys h k f g = cc
  front_inside (x ∷ xs) ys h zero f g = h zero f g
  front_inside (x ∷ xs) ys h (suc k) f g = front_inside xs ys (λ j. h (suc j)) k f g

  back_inside : (xs ys : List Form) → AllInside (xs ++ ys) → AllInside ys
  back_inside [] ys h = h
  back_inside (x ∷ xs) ys h = back_inside xs ys (λ j. h (suc j))

  -- what holds of what each form writes
  each_keeps : {Y : Type 0} (n : ℕ) (W : Form → Y → Type 0) (P : Y → Type 0) → ((f : Form) (y : Y) → W f y → Inside f → Fits n (plain_of f) → P y) → (fs : List Form) (ys : List Y) → Each W fs ys → AllInside fs → FitAll n (map plain_of fs) → All P ys
  each_keeps n W P step _ _ grammar.none inside fits = All-nil P
  each_keeps n W P step _ _ (more_of {form = f} {forms = fs} {y = y} {ys = ys} w others) inside fits =
      All-cons P y ys (step f y w (inside 0 f refl) (fit_head n (plain_of f) (map plain_of fs) fits)) (each_keeps n W P step fs ys others (λ k. inside (suc k)) (fit_tail n (plain_of f) (map plain_of fs) fits))

module _ (sorted : (inputs : List InputReg) (sort : Sort) (t : Tree Op) → IsReadTerm inputs sort t → HasSort op_signature [] sort t) (operators : (inputs : List InputReg) (sort : Sort) (t : Tree Op) → IsReadTerm inputs sort t → EachOperator (IsOfGoal [] inputs) t)
    (printed : (inputs : List InputReg) (sort : Sort) (form : Form) (t : Tree Op) → AllPairs (λ a b. a ≢ b) (input_registers inputs) → Writes (term_scope inputs) sort form t → plain_of form ≡ term_plain (naming [] inputs []) t) where
  -- ---- what blocks print as
  module _ (vars : List InputReg) (apart : AllPairs (λ a b. a ≢ b) (input_registers vars)) (names : List (List ℕ)) where
    set_told : (f : Form) (t : TargetTree) → WritesSet vars f t → plain_of f ≡ set_plain vars t
    set_told f t w =
        listed_told (codes "set") (w.first ∷ w.second ∷ []) f w.is
        ∙ ap₂ (λ x y. keyword_list (codes "set") (x ∷ y ∷ [])) (name_told t.name w.first w.named) (printed vars (sort_of_target t.name) w.second t.value apart w.value)

    when_told : (fs : List Form) (o : Option WhenTree) → WritesWhen vars names fs o → map plain_of fs ≡ when_plains vars names o
    when_told _ _ unguarded = refl
    when_told _ _ (guarded {form = f} {w = w} first second is value target) =
        ap (λ p. p ∷ [])
        (listed_told (codes "when") (first ∷ second ∷ []) f is
        ∙ ap₂ (λ x y. keyword_list (codes "when") (x ∷ y ∷ [])) (printed vars sorts.Word first w.guard apart value) (target_told names second w.other target))

    block_told : (f : Form) (b : BlockTree) → WritesBlock vars names f b → plain_of f ≡ block_plain vars names b
    block_told f b w =
        listed_told (codes "block") (w.name_form ∷ (w.whens ++ (w.sets ++ w.last ∷ []))) f w.is
        ∙ ap₂ (λ x xs. keyword_list (codes "block") (x ∷ xs)) (name_told b.name w.name_form w.named)
        (map-append plain_of w.whens (w.sets ++ w.last ∷ [])
        ∙ ap₂ (λ xs ys. xs ++ ys) (when_told w.whens b.when w.guard)
        (map-append plain_of w.sets (w.last ∷ []) ∙ ap₂ (λ xs y. xs ++ y ∷ []) (each_told (WritesSet vars) (set_plain vars) set_told w.sets b.sets w.each_set) (go_told names w.last b.go w.go)))

  -- ---- what holds of the terms of a text
  module _ (text : List ℕ) (trees : SexpTrees) (has : TextHasTrees text trees) (vars : List InputReg) (apart : AllPairs (λ a b. a ≢ b) (input_registers vars)) where
    abbrev all : List Form
    all = forms_list (forms_of text trees)

    term_keeps : (sort : Sort) (f : Form) (t : Tree Op) → Writes (term_scope vars) sort f t → IsWithin f all → IsTermOver vars sort t
    term_keeps sort f t w inside =
        let read : IsReadTerm vars sort t = record { text = text; trees = trees; has = has; form = f; within = inside; writes = w } in
        record { sorted = sorted vars sort t read; operators = operators vars sort t read }

    set_keeps : (f : Form) (t : TargetTree) → WritesSet vars f t → IsWithin f all → IsSet vars t
    set_keeps f t w inside = record {
      pinned = w.pinned;
      value = term_keeps (sort_of_target t.name) w.second t.value w.value (parts_inside all (codes "set") (w.first ∷ w.second ∷ []) f w.is inside 1 w.second refl);
    }

    module _ (names : List (List ℕ)) (count : ℕ) (e : length names ≡ count) where
      guard_keeps : (fs : List Form) (o : Option WhenTree) → WritesWhen vars names fs o → AllInside all fs → IfSome o (IsGuard vars count)
      guard_keeps _ _ unguarded inside = tt
      guard_keeps _ _ (guarded {form = f} {w = w} first second is value target) inside = record {
        guard = term_keeps sorts.Word first w.guard value (parts_inside all (codes "when") (first ∷ second ∷ []) f is (inside 0 f refl) 0 first refl);
        other = there names count e second w.other target;
      }

      block_keeps : (f : Form) (b : BlockTree) → WritesBlock vars names f b → IsWithin f all → Fits 63 (plain_of f) → IsProcBlock vars count b
      block_keeps f b w inside fits =
          let behind = w.whens ++ (w.sets ++ w.last ∷ []) in
          let parts = parts_fit 62 (codes "block") (w.name_form ∷ behind) f w.is fits in
          let within = parts_inside all (codes "block") (w.name_form ∷ behind) f w.is inside in
          let items : AllInside all behind = λ k. within (suc k) in
          let sets = front_inside all w.sets (w.last ∷ []) (back_inside all w.whens (w.sets ++ w.last ∷ []) items) in
          let set_parts = front_fits 62 w.sets (w.last ∷ []) (back_fits 62 w.whens (w.sets ++ w.last ∷ []) (fit_tail 62 (plain_of w.name_form) (map plain_of behind) parts)) in
          record {
            named = (subst (Fits 62) (name_told b.name w.name_form w.named) (fit_head 62 (plain_of w.name_form) (map plain_of behind) parts)).0;
            when = guard_keeps w.whens b.when w.guard (front_inside all w.whens (w.sets ++ w.last ∷ []) items);
            sets = each_keeps all 62 (WritesSet vars) (IsSet vars) (λ f t w in_all fit. set_keeps f t w in_all) w.sets b.sets w.each_set sets set_parts;
            go = there names count e w.go.first b.go w.go.target;
          }

  -- ---- the whole text
  module _ (tables : (table : Table) → IsTable table → All (λ (s : Slot). IsName s.name) table.slots → (trees : SexpTrees) × TextHasTrees (table_text table) trees × (plains_of (forms_of (table_text table) trees) ≡ printing.more (table_plain table) printing.none))
      (prints : (text : List ℕ) (all : SexpTrees) → TextHasTrees text all → CanPrintAll (plains_of (forms_of text all)) × (most_levels (plains_of (forms_of text all)) ≤ 64)) (ev6_is : IsTable ev6) where
    machine_keeps : (fs : List Form) (t : Table) (b : Bool) → WritesMachine fs t b → IsTable t × (b ≡ true → t ≡ ev6)
    machine_keeps _ _ _ built_in = (ev6_is, λ e. refl)
    machine_keeps _ _ _ (own w) = (w.well_formed, λ e. cc)

    proc_fits : (f : Form) (p : ProcTree) → WritesProc f p → Fits 64 (plain_of f) → Fits 64 (proc_plain p) × IsName p.name × All HasName p.vars
    proc_fits f p w fits =
        let names = names_of_blocks p.blocks in
        let behind = w.vars ++ (w.pools ++ w.blocks) in
        let parts = parts_fit 63 (codes "proc") (w.name_form ∷ behind) f w.is fits in
        let items = fit_tail 63 (plain_of w.name_form) (map plain_of behind) parts in
        let named = subst (Fits 63) (name_told p.name w.name_form w.named) (fit_head 63 (plain_of w.name_form) (map plain_of behind) parts) in
        let vars = each_fits 63 WritesVariable var_plain HasName (variable_fits 62) w.vars p.vars w.variables (front_fits 63 w.vars (w.pools ++ w.blocks) items) in
        let apart = pairs_front (input_registers p.vars) p.pool w.rules.registers in
        let block_forms = back_fits 63 w.pools w.blocks (back_fits 63 w.vars (w.pools ++ w.blocks) items) in
        let blocks = subst (FitAll 63) (each_told (WritesBlock p.vars names) (block_plain p.vars names) (block_told p.vars apart names) w.blocks p.blocks w.each_block) block_forms in
        let pool = pool_fits 62 p.pool (all_behind (input_registers p.vars) p.pool w.rules.low) in (
          listed_fits 63 (codes "proc") (atom (name p.name) ∷ (map var_plain p.vars ++ (pool_plain p.pool ∷ map (block_plain p.vars names) p.blocks))) (record { begins = refl; each = refl })
              (fit_more 63 (atom (name p.name)) (map var_plain p.vars ++ (pool_plain p.pool ∷ map (block_plain p.vars names) p.blocks)) named
              (fit_both 63 (map var_plain p.vars) (pool_plain p.pool ∷ map (block_plain p.vars names) p.blocks) vars.0 (fit_more 63 (pool_plain p.pool) (map (block_plain p.vars names) p.blocks) pool blocks))),
          named.0,
          vars.1,
        )

    pub text_keeps : (text : List ℕ) (trees : SexpTrees) → TextHasTrees text trees → (p : ProcTree) → WritesProcText (forms_list (forms_of text trees)) p → operators_of_proc p < 2 ^ 29 → IsProc p
    text_keeps text trees has p w few =
        let all = forms_list (forms_of text trees) in
        let names = names_of_blocks p.blocks in
        let whole : FitAll 64 (map plain_of all) = subst (λ ps. CanPrintAll ps × (most_levels ps ≤ 64)) (plains_map (forms_of text trees)) (prints text trees has) in
        let forms = subst (λ fs. FitAll 64 (map plain_of fs)) w.are whole in
        let machine = machine_keeps w.machines p.table p.builtin w.machine in
        let tabled = machine_fits tables prints w.machines p.table p.builtin w.machine (front_fits 64 w.machines (w.last ∷ []) forms) in
        let last = fit_head 64 (plain_of w.last) [] (back_fits 64 w.machines (w.last ∷ []) forms) in
        let proc = proc_fits w.last p w.proc last in
        let behind = w.proc.vars ++ (w.proc.pools ++ w.proc.blocks) in
        let every : AllInside all all = λ k f g. one k g in
        let each : AllInside all (w.machines ++ w.last ∷ []) = subst (AllInside all) w.are every in
        let here = back_inside all w.machines (w.last ∷ []) each 0 w.last refl in
        let within = parts_inside all (codes "proc") (w.proc.name_form ∷ behind) w.last w.proc.is here in
        let items : AllInside all behind = λ k. within (suc k) in
        let blocks = back_inside all w.proc.pools w.proc.blocks (back_inside all w.proc.vars (w.proc.pools ++ w.proc.blocks) items) in
        let parts = parts_fit 63 (codes "proc") (w.proc.name_form ∷ behind) w.last w.proc.is last in
        let fits = back_fits 63 w.proc.pools w.proc.blocks (back_fits 63 w.proc.vars (w.proc.pools ++ w.proc.blocks) (fit_tail 63 (plain_of w.proc.name_form) (map plain_of behind) parts)) in
        let apart = pairs_front (input_registers p.vars) p.pool w.proc.rules.registers in
        record {
          table = machine.0;
          slots = tabled.1;
          builtin = machine.1;
          named = proc.1;
          variables = proc.2;
          rules = w.proc.rules;
          blocks = each_keeps all 63 (WritesBlock p.vars names) (IsProcBlock p.vars (length p.blocks)) (block_keeps text trees has p.vars apart names (length p.blocks) (length-map p.blocks (λ (b : BlockTree). b.name)))
              w.proc.blocks p.blocks w.proc.each_block blocks fits;
          few_operators = few;
          nested = (fit_both 64 (table_plains p) (proc_plain p ∷ []) tabled.0 (fit_more 64 (proc_plain p) [] proc.0 (fit_none 64))).1;
        }
