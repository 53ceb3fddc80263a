-- A proc that a form writes it writes without a fault, and so do the forms of a text.
use Rattle.std.proofs.Common.{◌≡◌, ◌≢◌, ℕ, zero, suc, ◌+◌, ◌<◌, ◌≤◌, ◌||◌, ◌++◌, if◌then◌else◌, Bool, true, false, Option, None, Some, List, [], ◌∷◌, length, map, filter_map, take, drop, get_or, refl, sym, ap, ap₂, ◌∙◌, subst, arith, slice_get, bytes_eq, codes, length-append}
use Rattle.std.specs.Prelude.{AllPairs, All}
use Rattle.std.proofs.lemmas.List.{map-append, take_all}
use Rattle.std.proofs.lemmas.List.Elements.{All-nil, All-cons, All-head, All-tail}
use Rattle.std.proofs.lemmas.Slice.Eq.{bytes_eq-Decides}
use Rattle.text_core.specs.Names.{is_among}
use Rattle.text_core.specs.declared.faults.Kind.{Kind}
use Rattle.forms.specs.Forms.{Form, parts_of, name_in}
use Rattle.machine_table.specs.Grammar.{Each, WritesTable, more_of}
use Rattle.machine_table.specs.Grammar as grammar
use Rattle.machine_table.specs.Reading.{IsClearTableForm}
use Rattle.machine_table.specs.Roles.{has_head, machine}
use Rattle.machine_table.specs.declared.tables.Table.{Table}
use Rattle.word_ops.specs.declared.sorts.Op.{Op}
use Rattle.word_ops.specs.declared.sorts.Sort.{Sort}
use Rattle.word_terms.specs.Tree.{Tree}
use Rattle.goal_meaning.specs.Names.{is_reserved}
use Rattle.goal_meaning.specs.Views.{TargetTree}
use Rattle.goal_meaning.specs.WellFormed.{input_registers}
use Rattle.goal_meaning.specs.declared.goals.InputReg.{InputReg}
use Rattle.goal_reader.specs.Grammar.{IsRegister, WritesMachine, WritesPool, built_in, own, given}
use Rattle.goal_reader.specs.Grammar as goal_grammar
use Rattle.goal_reader.specs.Roles.{IsFaultAs, WritesTerm, a_list, input, items_of_goal, names_given, register_of, registers_in, term}
use Rattle.goal_reader.specs.declared.scopes.Scope.{Scope}
use Rattle.goal_reader.proofs.GoalClear.{pool_clear, within}
use Rattle.goal_reader.proofs.Heads.{list_from}
use Rattle.goal_reader.proofs.Keeping.{each_length}
use Rattle.goal_reader.proofs.Names.{not_true}
use Rattle.goal_reader.proofs.PrintedForms.{pairs_front}
use Rattle.goal_reader.proofs.ReadParts.{register_told}
use Rattle.goal_reader.proofs.Walks.{Walk, group_walk, name_new, register_new, walk_at}
use Rattle.goal_reader.proofs.WrittenItems.{each_more}
use Rattle.proc_goal.specs.ProcGrammar.{WritesBlock, WritesProc, WritesProcText, WritesVariable}
use Rattle.proc_goal.specs.ProcReading.{AreBlocks, AreClearTo, AreLeading, EndsBefore, IsClearProc, IsPoolRead, IsProcFront, absent, there}
use Rattle.proc_goal.specs.ProcRoles.{ProcRole, of_goal, of_table, a_block, a_proc, block_names_in, has_list, has_leading_variable, ends_variables, proc_item_role, lists_of, proc_text_role, IsProcTextFault}
use Rattle.proc_goal.specs.Views.{BlockTree, ProcTree, names_of_blocks}
use Rattle.proc_goal.proofs.BlockClear.{got_behind, listed, written_block_clear}
use Rattle.proc_goal.proofs.Embedded.{goal_clear, table_clear}
use Rattle.proc_goal.proofs.Items.{AllBegin, block_begins, block_here, each_begins, has_both, keyword_told, other_head, told_all, variable_begins, variable_here}
use Rattle.proc_goal.proofs.ProcOnce.{blocks_are, names_told, pool_begins, proc_items}
use Rattle.proc_goal.proofs.ProcParts.{behind_vars, items_clear, number_of, pool_front_is}
use Rattle.proc_goal.proofs.ProcTexts.{proc_clear, text_clear, top_machine, top_proc}
use Rattle.proc_goal.proofs.Sequences.{after, front_clear, none_clear, one_more_clear}
use Rattle.proc_goal.proofs.Written.{dropped_all, took_all, written_variable_clear}

-- ---- one of several
at_middle : {X : Type 0} (P : X → Type 0) (done rest : List X) (x : X) → All P (done ++ x ∷ rest) → P x
at_middle P [] rest x h = All-head P x rest h
at_middle P (d ∷ done) rest x h = at_middle P done rest x (All-tail P d (done ++ x ∷ rest) h)

all_front : {X : Type 0} (P : X → Type 0) (xs ys : List X) → All P (xs ++ ys) → All P xs
all_front P [] ys h = All-nil P
all_front P (x ∷ xs) ys h = All-cons P x xs (All-head P x (xs ++ ys) h) (all_front P xs ys (All-tail P x (xs ++ ys) h))

same_all : {X : Type 0} (xs : List X) → map (λ x. x) xs ≡ xs
same_all [] = refl
same_all (x ∷ xs) = ap (λ ys. x ∷ ys) (same_all xs)

each_register : (fs : List Form) (rs : List ℕ) → Each (λ f r. IsRegister r f) fs rs → registers_in fs ≡ rs
each_register fs rs each = told_all (λ f r. IsRegister r f) register_of (λ r. r) (λ f r is. register_told f r is) fs rs each ∙ same_all rs

abbrev name_of_block : BlockTree → List ℕ
name_of_block b = b.name

abbrev name_of_variable : InputReg → List ℕ
name_of_variable v = v.name

-- what goal_reader says of all terms is handed in
module _ (term_clear : (scope : Scope) (wanted : Option Sort) (form : Form) (t : Tree Op) (place : ℕ) (kind : Kind) → WritesTerm scope wanted form t → IsFaultAs (term scope wanted) form place kind → ⊥) where
  module _ (form : Form) (p : ProcTree) (w : WritesProc form p) where
    abbrev items : List Form
    items = items_of_goal form

    abbrev names : List (List ℕ)
    names = block_names_in items

    abbrev behind : List Form
    behind = w.pools ++ w.blocks

    -- ---- the variables
    abbrev VariableClear : List (List ℕ) → List Form → Form → Type 0
    VariableClear ns before f = IsClearProc (proc_item_role ns before f) f

    variable_step : (ns : List (List ℕ)) (before : List Form) (done rest : List InputReg) (f : Form) (v : InputReg) → p.vars ≡ done ++ v ∷ rest → Each WritesVariable before done → WritesVariable f v
        → VariableClear ns before f × Each WritesVariable (before ++ f ∷ []) (done ++ v ∷ [])
    variable_step ns before done rest f v same each one =
        let count = each_length WritesVariable before done each in
        let less = within done rest v p.vars 16 same w.rules.variables.1 in
        let role = variable_here ns before done each f (variable_begins f v one) (omega (arith, count, less)) in
        let registers : input_registers p.vars ≡ input_registers done ++ v.reg ∷ input_registers rest = ap input_registers same ∙ map-append (λ (i : InputReg). i.reg) done (v ∷ rest) in
        let clear = written_variable_clear done f v one (at_middle (λ (i : InputReg). is_reserved i.name ≡ false) done rest v (subst (λ vs. All (λ (i : InputReg). is_reserved i.name ≡ false) vs) same w.rules.own_names))
        (name_new name_of_variable p.vars done v rest same w.rules.variable_names)
        (register_new (input_registers p.vars) (input_registers done) v.reg (input_registers rest) registers (pairs_front (input_registers p.vars) p.pool w.rules.registers)) in (
          subst (λ (r : ProcRole). IsClearProc r f) (sym role) (goal_clear (a_list (input [] done)) f clear),
          each_more WritesVariable before done f v each one,
        )

    variables_clear : (ns : List (List ℕ)) (n : ℕ) → AreClearTo (proc_item_role ns) w.vars n
    variables_clear ns n k f l g = walk_at (VariableClear ns) [] w.vars (group_walk (VariableClear ns) WritesVariable (Each WritesVariable) p.vars (variable_step ns) [] [] w.vars p.vars w.variables refl grammar.none).0 k f g

    count : length p.vars ≡ length w.vars
    count = each_length WritesVariable w.vars p.vars w.variables

    blocks_begin : AllBegin (codes "block") w.blocks
    blocks_begin = each_begins (WritesBlock p.vars (names_of_blocks p.blocks)) (codes "block") (block_begins p.vars (names_of_blocks p.blocks)) w.blocks p.blocks w.each_block

    -- where blocks stand, nothing else does
    only_blocks : (word : List ℕ) (fs : List Form) → AllBegin (codes "block") fs → bytes_eq (codes "block") word ≡ false → EndsBefore word fs 0
    only_blocks word [] h e f g = cc
    only_blocks word (x ∷ xs) h e f g = (let same : x ≡ f = cc in other_head (codes "block") word f (subst (λ (y : Form). has_head (codes "block") y ≡ true) same h.0) e)

    no_variable_next : (fs : List Form) → AllBegin (codes "pool") fs → EndsBefore (codes "var") (fs ++ w.blocks) 0
    no_variable_next [] h f g = only_blocks (codes "var") w.blocks blocks_begin refl f g
    no_variable_next (x ∷ xs) h f g = (let same : x ≡ f = cc in other_head (codes "pool") (codes "var") f (subst (λ (y : Form). has_head (codes "pool") y ≡ true) same h.0) refl)

    leading : AreLeading (w.vars ++ behind) p.vars
    leading = record {
      within = (let total = length-append w.vars behind in let c = count in omega (arith, total, c));
      each = subst (λ m. Each WritesVariable (take m (w.vars ++ behind)) p.vars) (sym count) (subst (λ fs. Each WritesVariable fs p.vars) (sym (took_all w.vars behind)) w.variables);
      clear = λ ns. front_clear (proc_item_role ns) w.vars behind (length p.vars) (let c = count in omega (arith, c)) (variables_clear ns (length p.vars));
      keep = record {
        names = w.rules.variable_names;
        own = w.rules.own_names;
        registers = record { pairs = pairs_front (input_registers p.vars) p.pool w.rules.registers; low = all_front (λ r. r < 31) (input_registers p.vars) p.pool w.rules.low };
      };
      few = w.rules.variables.1;
      ends = λ f g. no_variable_next w.pools (pool_begins (input_registers p.vars) w.pools p.pool w.pool) f (sym (got_behind w.vars behind) ∙ ap (slice_get (w.vars ++ behind)) (sym count) ∙ g);
    }

    -- ---- the pool
    record IsPoolAt (fs : List Form) : Type 0 where
      pub registers : Option (List ℕ)
      pub read : IsPoolRead p.vars (fs ++ w.blocks) registers
      pub rest : drop (number_of registers) (fs ++ w.blocks) ≡ w.blocks

    pool_at : (fs : List Form) (rs : List ℕ) → WritesPool (input_registers p.vars) fs rs → rs ≡ p.pool → IsPoolAt fs
    pool_at _ rs goal_grammar.absent same = record { registers = None; read = absent (only_blocks (codes "pool") w.blocks blocks_begin refl); rest = refl }
    pool_at _ rs (given {form = f} forms is each) same = record {
      registers = Some rs;
      read = there f refl (keyword_told (codes "pool") forms f is) (sym (ap (λ (x : Form). registers_in (parts_of x)) is.is ∙ ap registers_in (list_from forms) ∙ each_register forms rs each))
          (pool_clear (input_registers p.vars) f forms rs is each (subst (λ xs. AllPairs (λ a b. a ≢ b) (input_registers p.vars ++ xs)) (sym same) w.rules.registers));
      rest = refl;
    }

    -- ---- the blocks
    names_are : names ≡ names_of_blocks p.blocks
    names_are =
        let found = blocks_are form p w in
        let all = each_length (WritesBlock p.vars (names_of_blocks p.blocks)) w.blocks p.blocks w.each_block in
        let few = w.rules.blocks.1 in
        ap (λ fs. names_given (take 64 fs)) found ∙ ap names_given (take_all 64 w.blocks (omega (arith, all, few))) ∙ names_told p.vars (names_of_blocks p.blocks) w.blocks p.blocks w.each_block

    each_block : Each (WritesBlock p.vars names) w.blocks p.blocks
    each_block = subst (λ ns. Each (WritesBlock p.vars ns) w.blocks p.blocks) (sym names_are) w.each_block

    module _ (front : List Form) (is : IsProcFront p.vars front w.blocks) where
      abbrev BlockClear : List Form → Form → Type 0
      BlockClear before f = IsClearProc (proc_item_role names (front ++ before) f) f

      block_step : (before : List Form) (done rest : List BlockTree) (f : Form) (b : BlockTree) → p.blocks ≡ done ++ b ∷ rest → Each (WritesBlock p.vars names) before done → WritesBlock p.vars names f b
          → BlockClear before f × Each (WritesBlock p.vars names) (before ++ f ∷ []) (done ++ b ∷ [])
      block_step before done rest f b same each one =
          let so_many = each_length (WritesBlock p.vars names) before done each in
          let less = within done rest b p.blocks 64 same w.rules.blocks.1 in
          let role = block_here p.vars names front w.blocks is before done each f (block_begins p.vars names f b one) (omega (arith, so_many, less)) in
          let not_done = at_middle (λ (x : BlockTree). x.name ≢ codes "done") done rest b (subst (λ bs. All (λ (x : BlockTree). x.name ≢ codes "done") bs) same w.rules.not_done) in
          let pairs = at_middle (λ (x : BlockTree). AllPairs (λ (s t : TargetTree). s.name ≢ t.name) x.sets) done rest b (subst (λ bs. All (λ (x : BlockTree). AllPairs (λ (s t : TargetTree). s.name ≢ t.name) x.sets) bs) same w.rules.set_names) in
          let few = at_middle (λ (x : BlockTree). length x.sets ≤ 16) done rest b (subst (λ bs. All (λ (x : BlockTree). length x.sets ≤ 16) bs) same w.rules.few_sets) in
          let other = not_true (bytes_eq (codes "done") b.name) (λ t. not_done (sym ((bytes_eq-Decides (codes "done") b.name).0 t))) in
          let fresh : is_among (codes "done" ∷ names_of_blocks done) b.name ≡ false = ap₂ (λ x y. x || y) other (name_new name_of_block p.blocks done b rest same w.rules.block_names) in (
            subst (λ (r : ProcRole). IsClearProc r f) (sym role) (written_block_clear term_clear p.vars names (names_of_blocks done) f b one pairs few fresh),
            each_more (WritesBlock p.vars names) before done f b each one,
          )

      blocks_clear : (n : ℕ) → AreClearTo (after front (proc_item_role names)) w.blocks n
      blocks_clear n k f l g = walk_at BlockClear [] w.blocks (group_walk BlockClear (WritesBlock p.vars names) (Each (WritesBlock p.vars names)) p.blocks block_step [] [] w.blocks p.blocks each_block refl grammar.none).0 k f g

    are_blocks : AreBlocks p.vars names w.blocks p.blocks
    are_blocks = record {
      each = each_block;
      clear = λ front is. blocks_clear front is (length w.blocks);
      own = record { differ = w.rules.block_names; not_done = w.rules.not_done; set_names = w.rules.set_names; few_sets = w.rules.few_sets; few = w.rules.blocks.1 };
    }

    -- ---- the whole
    items_are : items ≡ w.vars ++ behind
    items_are = proc_items form p w

    read_items : AreLeading items p.vars
    read_items = subst (λ fs. AreLeading fs p.vars) (sym items_are) leading

    behind_is : behind_vars items p.vars read_items ≡ behind
    behind_is = ap (λ m. drop m items) count ∙ ap (drop (length w.vars)) items_are ∙ dropped_all w.vars behind

    all_clear : AreClearTo (proc_item_role names) items (length items)
    all_clear =
        let pool = pool_at w.pools p.pool w.pool refl in
        let read = subst (λ fs. IsPoolRead p.vars fs pool.registers) (sym behind_is) pool.read in
        let rest = ap (drop (number_of pool.registers)) behind_is ∙ pool.rest in
        items_clear items p.vars read_items (number_of pool.registers) pool.registers (pool_front_is items p.vars read_items pool.registers read) names p.blocks
        (subst (λ fs. AreBlocks p.vars names fs p.blocks) (sym rest) are_blocks)

    some_variable : has_leading_variable items ≡ true
    some_variable = ap has_leading_variable items_are ∙ by_first w.vars p.vars w.variables w.rules.variables.0
      where
        by_first : (fs : List Form) (vs : List InputReg) → Each WritesVariable fs vs → 0 < length vs → has_leading_variable (fs ++ behind) ≡ true
        by_first fs [] e l = absurd (omega (arith, l))
        by_first [] (v ∷ vs) e l = elim e [ ]
        by_first (f ∷ fs) (v ∷ vs) (more_of one others) l = ap (λ t. if t then true else if ends_variables f then false else has_leading_variable (fs ++ behind)) (variable_begins f v one)

    some_block : has_list (codes "block") items ≡ true
    some_block =
        listed (codes "block") items
        (let e = ap length (blocks_are form p w) in
        let all = each_length (WritesBlock p.vars (names_of_blocks p.blocks)) w.blocks p.blocks w.each_block in
        let some = w.rules.blocks.0 in
        omega (arith, e, all, some))

    pub written_proc_clear : IsClearProc a_proc form
    written_proc_clear = proc_clear form some_variable some_block w.name_form (ap (λ (f : Form). slice_get (parts_of f) 1) w.is.is) p.name (ap name_in w.named.is) all_clear

  -- ---- the forms of a text; what machine_table says of all tables is handed in
  module _ (machine_clear : (form : Form) (table : Table) → WritesTable form table → IsClearTableForm machine form) where
    proc_begins : (form : Form) (p : ProcTree) → WritesProc form p → has_head (codes "proc") form ≡ true
    proc_begins form p w = keyword_told (codes "proc") _ form w.is

    module _ (last : Form) (p : ProcTree) (w : WritesProc last p) where
      last_clear : (fs : List Form) → has_list (codes "proc") fs ≡ false → IsClearProc (proc_text_role fs last) last
      last_clear fs e = subst (λ (r : ProcRole). IsClearProc r last) (sym (top_proc fs last (proc_begins last p w) e)) (written_proc_clear last p w)

      forms_clear : (fs : List Form) (t : Table) (b : Bool) → WritesMachine fs t b → AreClearTo proc_text_role (fs ++ last ∷ []) (length (fs ++ last ∷ []))
      forms_clear _ _ _ built_in = one_more_clear proc_text_role (last ∷ []) 0 last refl (last_clear [] refl) (none_clear proc_text_role (last ∷ []))
      forms_clear _ _ _ (own {form = f} {table = t} m) =
          let h = keyword_told (codes "machine") _ f m.is in
          one_more_clear proc_text_role (f ∷ last ∷ []) 1 last refl (last_clear (f ∷ []) (ap (λ b. b || false) (other_head (codes "machine") (codes "proc") f h refl)))
          (one_more_clear proc_text_role (f ∷ last ∷ []) 0 f refl (subst (λ (r : ProcRole). IsClearProc r f) (sym (top_machine [] f h refl)) (table_clear machine f (machine_clear f t m))) (none_clear proc_text_role (f ∷ last ∷ [])))

      proc_there : (fs : List Form) → has_list (codes "proc") (fs ++ last ∷ []) ≡ true
      proc_there fs = has_both (codes "proc") fs (last ∷ []) ∙ ap (λ b. has_list (codes "proc") fs || (b || false)) (proc_begins last p w) ∙ or_any (has_list (codes "proc") fs)
        where
          or_any : (b : Bool) → b || true ≡ true
          or_any true = refl
          or_any false = refl

    pub written_text_clear : (size : ℕ) (fs : List Form) (p : ProcTree) → WritesProcText fs p → (place : ℕ) (kind : Kind) → IsProcTextFault size fs place kind → ⊥
    written_text_clear size fs p w place kind fault =
        text_clear size (w.machines ++ w.last ∷ []) (forms_clear w.last p w.proc w.machines p.table p.builtin w.machine) (proc_there w.last p w.proc w.machines) place kind
        (subst (λ gs. IsProcTextFault size gs place kind) w.are fault)
