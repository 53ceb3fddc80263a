-- Forms that print as the canonical text of a well-formed proc write it, and its text can be printed.
use Rattle.std.proofs.Common.{◌≡◌, ℕ, ◌<◌, ◌++◌, if◌then◌else◌, Bool, true, false, All, Option, Some, None, List, [], ◌∷◌, length, map, get_or, refl, sym, ap, ◌∙◌, subst, codes}
use Rattle.std.specs.Prelude.{IfSome}
use Rattle.std.proofs.lemmas.List.{length-map}
use Rattle.std.proofs.lemmas.List.Elements.{All-cons, All-head, All-nil, All-tail}
use Rattle.std.proofs.lemmas.Option.{slice_get-get_or}
use Rattle.forms.specs.Forms.{Form, name}
use Rattle.forms.specs.Printing.{Plain, atom, plain_of}
use Rattle.machine_table.specs.Grammar.{Each, more_of, IsListOf, IsNameOf}
use Rattle.machine_table.specs.Grammar as grammar
use Rattle.machine_table.specs.Printing.{table_plain}
use Rattle.machine_table.specs.Tables.{ev6}
use Rattle.machine_table.specs.declared.tables.Table.{Table}
use Rattle.word_ops.specs.declared.sorts.Sort.TheVariants as sorts
use Rattle.goal_meaning.specs.InputForms.{pool_plain, register_plain, term_plain}
use Rattle.goal_meaning.specs.Views.{TargetTree}
use Rattle.goal_meaning.specs.WellFormed.{input_registers, sort_of_target}
use Rattle.goal_meaning.specs.declared.goals.InputReg.{InputReg}
use Rattle.goal_reader.specs.Grammar.{WritesMachine, built_in, given, own}
use Rattle.goal_reader.proofs.FormsPrint.{all_back}
use Rattle.goal_reader.proofs.Moved.{listed_form, name_form, no_more_form, one_more_form, split_forms}
use Rattle.goal_reader.proofs.PrintedForms.{register_form, registers_again}
use Rattle.goal_reader.proofs.PrintedTexts.{table_again}
use Rattle.proc_goal.specs.ProcForms.{block_plain, go_plain, naming_over, proc_plain, proc_plains, proc_target_plain, set_plain, table_plains, var_plain, when_plains}
use Rattle.proc_goal.specs.ProcGrammar.{WritesBlock, WritesGo, WritesProc, WritesProcTarget, WritesProcText, WritesSet, WritesVariable, WritesWhen, block, done, guarded, unguarded}
use Rattle.proc_goal.specs.Views.{BlockTree, ProcTree, WhenTree, names_of_blocks}
use Rattle.proc_goal.specs.WellFormed.{IsGuard, IsProc, IsProcBlock, IsProcTarget, IsSet}
use Rattle.proc_goal.specs.declared.procs.Target.{Target}
use Rattle.proc_goal.specs.declared.procs.Target.TheVariants as targets
use Rattle.proc_goal.proofs.WrittenTerms.{AreNamedVariables, term_written}

-- what forms that print as items write
each_again : {Y : Type 0} (W : Form → Y → Type 0) (p : Y → Plain) (P : Y → Type 0) → ((g : Form) (y : Y) → P y → plain_of g ≡ p y → W g y) → (gs : List Form) (ys : List Y) → All P ys → map plain_of gs ≡ map p ys → Each W gs ys
each_again W p P step gs [] all e = subst (λ fs. Each W fs []) (sym (no_more_form gs e)) grammar.none
each_again W p P step gs (y ∷ ys) all e =
    let m = one_more_form gs (p y) (map p ys) e in
    subst (λ fs. Each W fs (y ∷ ys)) (sym m.2) (more_of (step m.0 y (All-head P y ys all) m.3) (each_again W p P step m.1 ys (All-tail P y ys all) m.4))

named_again : (n : List ℕ) (g : Form) → plain_of g ≡ atom (name n) → IsNameOf n g
named_again n g e = let h = name_form g n e in record { place = h.0; is = h.1 }

-- two parts behind a keyword
pub record AreTwo (word : List ℕ) (p q : Plain) (g : Form) : Type 0 where
  pub first : Form
  pub second : Form
  pub is : IsListOf word (first ∷ second ∷ []) g
  pub one : plain_of first ≡ p
  pub other : plain_of second ≡ q

two_listed : (word : List ℕ) (p q : Plain) (g : Form) (parts : List Form) → IsListOf word parts g → map plain_of parts ≡ p ∷ q ∷ [] → AreTwo word p q g
two_listed word p q g parts is e =
    let m = one_more_form parts p (q ∷ []) e in
    let n = one_more_form m.1 q [] m.4 in
    record {
      first = m.0;
      second = n.0;
      is = subst (λ ps. IsListOf word ps g) (m.2 ∙ ap (λ x. m.0 ∷ x) (n.2 ∙ ap (λ x. n.0 ∷ x) (no_more_form n.1 n.4))) is;
      one = m.3;
      other = n.3;
    }

-- ---- variables
variable_again : (g : Form) (i : InputReg) → i.reg < 31 → plain_of g ≡ var_plain i → WritesVariable g i
variable_again g i low e =
    let l = listed_form (codes "var") (atom (name i.name) ∷ register_plain i.reg ∷ []) g e in
    let t = two_listed (codes "var") (atom (name i.name)) (register_plain i.reg) g l.0 l.1 l.2 in
    record { first = t.first; second = t.second; is = t.is; named = named_again i.name t.first t.one; placed = register_form t.second i.reg low t.other }

-- the registers in front of others are low
low_registers : (vars : List InputReg) (rest : List ℕ) → All (λ r. r < 31) (input_registers vars ++ rest) → All (λ (i : InputReg). i.reg < 31) vars
low_registers [] rest h = All-nil (λ (i : InputReg). i.reg < 31)
low_registers (i ∷ vars) rest h =
    All-cons (λ (j : InputReg). j.reg < 31) i vars (All-head (λ r. r < 31) i.reg (input_registers vars ++ rest) h)
    (low_registers vars rest (All-tail (λ r. r < 31) i.reg (input_registers vars ++ rest) h))

-- ---- targets
module _ (names : List (List ℕ)) where
  target_again : (t : Target) → IsProcTarget (length names) t → (g : Form) → plain_of g ≡ proc_target_plain names t → WritesProcTarget names g t
  target_again targets.Done there g e = done (named_again (codes "done") g e)
  target_again (targets.Block at) there g e = block (slice_get-get_or names at [] there) (named_again (get_or names at []) g e)

  go_again : (t : Target) → IsProcTarget (length names) t → (g : Form) → plain_of g ≡ go_plain names t → WritesGo names g t
  go_again t there g e =
      let l = listed_form (codes "go") (proc_target_plain names t ∷ []) g e in
      let m = one_more_form l.0 (proc_target_plain names t) [] l.2 in
      record {
        first = m.0;
        is = subst (λ ps. IsListOf (codes "go") ps g) (m.2 ∙ ap (λ x. m.0 ∷ x) (no_more_form m.1 m.4)) l.1;
        target = target_again t there m.0 m.3;
      }

  -- ---- blocks
  module _ (vars : List InputReg) (are : AreNamedVariables vars) where
    when_again : (o : Option WhenTree) → IfSome o (IsGuard vars (length names)) → (gs : List Form) → map plain_of gs ≡ when_plains vars names o → WritesWhen vars names gs o
    when_again None h gs e = subst (λ fs. WritesWhen vars names fs None) (sym (no_more_form gs e)) unguarded
    when_again (Some w) h gs e =
        let m = one_more_form gs _ [] e in
        let l = listed_form (codes "when") (term_plain (naming_over vars) w.guard ∷ proc_target_plain names w.other ∷ []) m.0 m.3 in
        let t = two_listed (codes "when") (term_plain (naming_over vars) w.guard) (proc_target_plain names w.other) m.0 l.0 l.1 l.2 in
        subst (λ fs. WritesWhen vars names fs (Some w)) (sym (m.2 ∙ ap (λ x. m.0 ∷ x) (no_more_form m.1 m.4)))
        (guarded t.first t.second t.is (term_written vars are sorts.Word w.guard h.guard t.first t.one) (target_again w.other h.other t.second t.other))

    set_again : (g : Form) (t : TargetTree) → IsSet vars t → plain_of g ≡ set_plain vars t → WritesSet vars g t
    set_again g t h e =
        let value = term_plain (naming_over vars) t.value in
        let l = listed_form (codes "set") (atom (name t.name) ∷ value ∷ []) g e in
        let two = two_listed (codes "set") (atom (name t.name)) value g l.0 l.1 l.2 in
        record {
          first = two.first;
          second = two.second;
          is = two.is;
          named = named_again t.name two.first two.one;
          pinned = h.pinned;
          value = term_written vars are (sort_of_target t.name) t.value h.value two.second two.other;
        }

    block_again : (g : Form) (b : BlockTree) → IsProcBlock vars (length names) b → plain_of g ≡ block_plain vars names b → WritesBlock vars names g b
    block_again g b h e =
        let whens = when_plains vars names b.when in
        let sets = map (set_plain vars) b.sets in
        let l = listed_form (codes "block") (atom (name b.name) ∷ (whens ++ (sets ++ go_plain names b.go ∷ []))) g e in
        let m = one_more_form l.0 (atom (name b.name)) (whens ++ (sets ++ go_plain names b.go ∷ [])) l.2 in
        let s = split_forms m.1 whens (sets ++ go_plain names b.go ∷ []) m.4 in
        let t = split_forms s.1 sets (go_plain names b.go ∷ []) s.4 in
        let n = one_more_form t.1 (go_plain names b.go) [] t.4 in
        let parts = m.2 ∙ ap (λ x. m.0 ∷ x) (s.2 ∙ ap (λ x. s.0 ++ x) (t.2 ∙ ap (λ x. t.0 ++ x) (n.2 ∙ ap (λ x. n.0 ∷ x) (no_more_form n.1 n.4)))) in
        record {
          name_form = m.0;
          whens = s.0;
          sets = t.0;
          last = n.0;
          is = subst (λ ps. IsListOf (codes "block") ps g) parts l.1;
          named = named_again b.name m.0 m.3;
          guard = when_again b.when h.when s.0 s.3;
          each_set = each_again (WritesSet vars) (set_plain vars) (IsSet vars) set_again t.0 b.sets h.sets t.3;
          go = go_again b.go h.go n.0 n.3;
        }

-- ---- a proc
module _ (p : ProcTree) (is : IsProc p) where
  abbrev pub names_are : List (List ℕ)
  names_are = names_of_blocks p.blocks

  pub variables_are : AreNamedVariables p.vars
  variables_are = record { differ = is.rules.variable_names; own = is.rules.own_names; named = is.variables }

  -- as many names as blocks
  pub blocks_are : All (IsProcBlock p.vars (length names_are)) p.blocks
  blocks_are = subst (λ n. All (IsProcBlock p.vars n) p.blocks) (sym (length-map p.blocks (λ (b : BlockTree). b.name))) is.blocks

  pub low_pool : All (λ r. r < 31) p.pool
  low_pool = all_back (λ r. r < 31) (input_registers p.vars) p.pool is.rules.low

  pub low_vars : All (λ (i : InputReg). i.reg < 31) p.vars
  low_vars = low_registers p.vars p.pool is.rules.low

  proc_again : (g : Form) → plain_of g ≡ proc_plain p → WritesProc g p
  proc_again g e =
      let vars = map var_plain p.vars in
      let blocks = map (block_plain p.vars names_are) p.blocks in
      let l = listed_form (codes "proc") (atom (name p.name) ∷ (vars ++ (pool_plain p.pool ∷ blocks))) g e in
      let m = one_more_form l.0 (atom (name p.name)) (vars ++ (pool_plain p.pool ∷ blocks)) l.2 in
      let s = split_forms m.1 vars (pool_plain p.pool ∷ blocks) m.4 in
      let n = one_more_form s.1 (pool_plain p.pool) blocks s.4 in
      let q = listed_form (codes "pool") (map register_plain p.pool) n.0 n.3 in
      let parts : l.0 ≡ m.0 ∷ (s.0 ++ ((n.0 ∷ []) ++ n.1)) = m.2 ∙ ap (λ x. m.0 ∷ x) (s.2 ∙ ap (λ x. s.0 ++ x) n.2) in
      record {
        name_form = m.0;
        vars = s.0;
        pools = n.0 ∷ [];
        blocks = n.1;
        is = subst (λ ps. IsListOf (codes "proc") ps g) parts l.1;
        named = named_again p.name m.0 m.3;
        variables = each_again WritesVariable var_plain (λ (i : InputReg). i.reg < 31) variable_again s.0 p.vars low_vars s.3;
        pool = given q.0 q.1 (registers_again q.0 p.pool low_pool q.2);
        each_block = each_again (WritesBlock p.vars names_are) (block_plain p.vars names_are) (IsProcBlock p.vars (length names_are)) (block_again names_are p.vars variables_are) n.1 p.blocks blocks_are n.4;
        rules = is.rules;
      }

  machine_again : (b : Bool) → (b ≡ true → p.table ≡ ev6) → (gs : List Form) → map plain_of gs ≡ (if b then [] else table_plain p.table ∷ []) → WritesMachine gs p.table b
  machine_again true h gs e =
      subst (λ (fs : List Form). WritesMachine fs p.table true) (sym (no_more_form gs e)) (subst (λ (t : Table). WritesMachine [] t true) (sym (h refl)) built_in)
  machine_again false h gs e =
      let m = one_more_form gs (table_plain p.table) [] e in
      subst (λ (fs : List Form). WritesMachine fs p.table false) (sym (m.2 ∙ ap (λ x. m.0 ∷ x) (no_more_form m.1 m.4))) (own (table_again p.table m.0 is.table m.3))

  pub text_written : (gs : List Form) → map plain_of gs ≡ proc_plains p → WritesProcText gs p
  text_written gs e =
      let s = split_forms gs (table_plains p) (proc_plain p ∷ []) e in
      let n = one_more_form s.1 (proc_plain p) [] s.4 in
      record {
        machines = s.0;
        last = n.0;
        are = s.2 ∙ ap (λ x. s.0 ++ x) (n.2 ∙ ap (λ x. n.0 ∷ x) (no_more_form n.1 n.4));
        machine = machine_again p.builtin is.builtin s.0 s.3;
        proc = proc_again n.0 n.3;
      }
