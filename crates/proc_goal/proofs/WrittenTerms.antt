-- A well-formed term over variables can be printed, and a form that prints as the term writes it.
use Rattle.std.proofs.Common.{◌≡◌, ◌≢◌, ℕ, zero, suc, ◌+◌, ◌==◌, if◌then◌else◌, Bool, true, false, All, Some, None, List, [], ◌∷◌, length, refl, sym, ap, ◌∙◌, subst, arith, codes}
use Rattle.std.specs.Prelude.{AllPairs, Contains}
use Rattle.std.specs.Option.{option_or}
use Rattle.std.proofs.lemmas.Bool.Decides.{Decides-eqb}
use Rattle.std.proofs.lemmas.List.Elements.{All-contains}
use Rattle.std.proofs.lemmas.Slice.Eq.{bytes_eq-Decides}
use Rattle.forms.specs.Forms as forms
use Rattle.forms.specs.Forms.{Form, Forms, name, forms_list}
use Rattle.forms.specs.Printing.{CanPrint, CanPrintAll, atom, list, more, plain_of, plains_of}
use Rattle.text_core.specs.Names.{IsName}
use Rattle.word_ops.specs.Meanings.{arity_of_op, operand_sort, sort_of}
use Rattle.word_ops.specs.Names.{name_of, select_name, store_name}
use Rattle.word_ops.specs.declared.sorts.Access.{Access}
use Rattle.word_ops.specs.declared.sorts.Access.TheVariants as accesses
use Rattle.word_ops.specs.declared.operators.WordOp.{WordOp}
use Rattle.word_ops.specs.declared.operates.Operate.TheVariants.{Addl}
use Rattle.word_ops.specs.declared.operators.WordOp.TheVariants.{Operate}
use Rattle.word_ops.specs.declared.sorts.Op.{Op}
use Rattle.word_ops.specs.declared.sorts.Op.TheVariants as ops
use Rattle.word_ops.specs.declared.sorts.Sort.{Sort}
use Rattle.word_ops.specs.declared.sorts.Sort.TheVariants as sorts
use Rattle.word_terms.specs.Keys.{op_signature}
use Rattle.word_terms.specs.OperatorsIn.{EachOperator, EachOperatorOfAll}
use Rattle.word_terms.specs.Sorting.{HasSort, HaveSorts, tree_count}
use Rattle.word_terms.specs.Tree as tree
use Rattle.word_terms.specs.Tree.{Tree, Trees}
use Rattle.goal_meaning.specs.InputForms.{input_name, operator_name, term_plain, terms_plain}
use Rattle.goal_meaning.specs.Names.{is_reserved, is_written, word_named, written_or_memory}
use Rattle.goal_meaning.specs.WellFormed.{IsOfGoal, input_registers}
use Rattle.goal_meaning.specs.declared.goals.InputReg.{InputReg}
use Rattle.goal_reader.specs.GoalTerms.{term_scope}
use Rattle.goal_reader.specs.Scopes.{leaf_named, operator_named}
use Rattle.goal_reader.specs.Terms.{Writes, WritesEach, application, constant, input, memory, nothing, operand}
use Rattle.goal_reader.specs.declared.scopes.Named.TheVariants.{Input, Memory}
use Rattle.goal_reader.proofs.Moved.{list_form, more_form, name_form, none_form, number_form}
use Rattle.goal_reader.proofs.Names.{decides_false}
use Rattle.goal_reader.proofs.PrintedNames.{leaves_of}
use Rattle.proc_goal.proofs.ProcGoals.{memory_reserved}
use Rattle.proc_goal.specs.ProcForms.{naming_over}
use Rattle.proc_goal.specs.WellFormed.{IsTermOver}

-- ---- operators
name_printable : (op : WordOp) → IsName (name_of op)
name_printable (Operate Addl) = record { begins = refl; each = refl }
name_printable (Operate _) = record { begins = refl; each = refl }
name_printable _ = record { begins = refl; each = refl }

word_back : (op : WordOp) → word_named (name_of op) ≡ Some op
unfolding word_named
word_back (Operate Addl) = refl
word_back (Operate _) = refl
word_back _ = refl

select_is_no_word : (access : Access) → word_named (select_name access) ≡ None
unfolding word_named
select_is_no_word accesses.Quad = refl
select_is_no_word accesses.Byte = refl
select_is_no_word accesses.Word = refl
select_is_no_word accesses.Long = refl

store_is_no_word : (access : Access) → word_named (store_name access) ≡ None
unfolding word_named
store_is_no_word accesses.Quad = refl
store_is_no_word accesses.Byte = refl
store_is_no_word accesses.Word = refl
store_is_no_word accesses.Long = refl

word_operator_back : (op : WordOp) → is_written op ≡ true → operator_named [] (operator_name [] (ops.Word op)) ≡ Some (ops.Word op)
word_operator_back op w =
    ap (λ o. option_or (written_or_memory o (name_of op)) None) (word_back op) ∙ ap (λ b. option_or (if b then Some (ops.Word op) else None) None) w

select_back : (access : Access) → operator_named [] (operator_name [] (ops.Select access)) ≡ Some (ops.Select access)
select_back accesses.Quad = ap (λ o. option_or (written_or_memory o (select_name accesses.Quad)) None) (select_is_no_word accesses.Quad)
select_back accesses.Byte = ap (λ o. option_or (written_or_memory o (select_name accesses.Byte)) None) (select_is_no_word accesses.Byte)
select_back accesses.Word = ap (λ o. option_or (written_or_memory o (select_name accesses.Word)) None) (select_is_no_word accesses.Word)
select_back accesses.Long = ap (λ o. option_or (written_or_memory o (select_name accesses.Long)) None) (select_is_no_word accesses.Long)

store_back : (access : Access) → operator_named [] (operator_name [] (ops.Store access)) ≡ Some (ops.Store access)
store_back accesses.Quad = ap (λ o. option_or (written_or_memory o (store_name accesses.Quad)) None) (store_is_no_word accesses.Quad)
store_back accesses.Byte = ap (λ o. option_or (written_or_memory o (store_name accesses.Byte)) None) (store_is_no_word accesses.Byte)
store_back accesses.Word = ap (λ o. option_or (written_or_memory o (store_name accesses.Word)) None) (store_is_no_word accesses.Word)
store_back accesses.Long = ap (λ o. option_or (written_or_memory o (store_name accesses.Long)) None) (store_is_no_word accesses.Long)

-- ---- variables
reserved_memory : (n : List ℕ) → is_reserved n ≡ false → codes "M" ≢ n
reserved_memory n e same = memory_reserved (subst (λ m. is_reserved m ≡ false) (sym same) e)

-- the first variable in the register
pub record IsFound (vars : List InputReg) (r : ℕ) : Type 0 where
  pub variable : InputReg
  pub there : Contains vars variable
  pub register : variable.reg ≡ r
  pub named : input_name vars r ≡ variable.name

behind_first : (x r : ℕ) (xs : List ℕ) → Contains (x ∷ xs) r → (x ≡ r → ⊥) → Contains xs r
behind_first x r xs (zero, low, same) other = absurd (other same)
behind_first x r xs (suc k, low, same) other = (k, omega (arith, low), same)

found_in : (vars : List InputReg) (r : ℕ) → Contains (input_registers vars) r → IsFound vars r
found_in [] r c = absurd (let low = c.1 in omega (arith, low))
found_in (i ∷ vars) r c = by_test (i.reg == r) refl (λ d. found_in vars r d)
  where
    by_test : (b : Bool) → (i.reg == r) ≡ b → (Contains (input_registers vars) r → IsFound vars r) → IsFound (i ∷ vars) r
    by_test true e later = record {
      variable = i;
      there = (0, omega arith, refl);
      register = (Decides-eqb i.reg r).0 e;
      named = ap (λ b. if b then i.name else input_name vars r) e;
    }
    by_test false e later =
        let other : i.reg ≡ r → ⊥ = λ same. (let t : true ≡ false = sym ((Decides-eqb i.reg r).1 same) ∙ e in cc) in
        let f = later (behind_first i.reg r (input_registers vars) c other) in
        let at = f.there in
        record {
          variable = f.variable;
          there = (suc at.0, (let l = at.1 in omega (arith, l)), at.2);
          register = f.register;
          named = ap (λ b. if b then i.name else input_name vars r) e ∙ f.named;
        }

-- the leaf of a variable's name is that variable's
leaf_found : (vars : List InputReg) → AllPairs (λ (i j : InputReg). i.name ≢ j.name) vars → (i : InputReg) → Contains vars i → leaf_named (leaves_of vars) i.name ≡ Some (Input i.reg)
leaf_found [] pairs i c = absurd (let low = c.1 in omega (arith, low))
leaf_found (v ∷ vars) pairs i (zero, low, same) =
    ap (λ b. if b then Some (Input v.reg) else leaf_named (leaves_of vars) i.name) ((bytes_eq-Decides v.name i.name).1 (ap (λ (x : InputReg). x.name) same)) ∙ ap (λ (x : InputReg). Some (Input x.reg)) same
leaf_found (v ∷ vars) pairs i (suc k, low, same) =
    let other : v.name ≢ i.name = λ e. pairs 0 (suc k) i (omega arith) low (e ∙ sym (ap (λ (x : InputReg). x.name) same)) in
    ap (λ b. if b then Some (Input v.reg) else leaf_named (leaves_of vars) i.name) (decides_false v.name i.name other)
    ∙ leaf_found vars (λ a b d l m. pairs (suc a) (suc b) d (omega (arith, l)) (omega (arith, m))) i (k, omega (arith, low), same)

-- ---- operands
no_trees : (ts : Trees Op) → tree_count ts ≡ 0 → ts ≡ tree.none
no_trees tree.none e = refl
no_trees (tree.more t ts) e = absurd (omega (arith, e))

-- names of their own, none of which is M or an operator's, and which are names
pub record AreNamedVariables (vars : List InputReg) : Type 0 where
  pub differ : AllPairs (λ (i j : InputReg). i.name ≢ j.name) vars
  pub own : All (λ (i : InputReg). is_reserved i.name ≡ false) vars
  pub named : All (λ (i : InputReg). IsName i.name) vars

module _ (vars : List InputReg) (are : AreNamedVariables vars) where
  abbrev IsOver : Tree Op → Type 0
  IsOver t = EachOperator (IsOfGoal [] vars) t

  abbrev AreOver : Trees Op → Type 0
  AreOver ts = EachOperatorOfAll (IsOfGoal [] vars) ts

  as_count : (ts : Trees Op) (fs : Forms) → plains_of fs ≡ terms_plain (naming_over vars) ts → length (forms_list fs) ≡ tree_count ts
  as_count tree.none fs e = ap (λ (x : Forms). length (forms_list x)) (none_form fs e)
  as_count (tree.more t ts) fs e =
      let m = more_form fs (term_plain (naming_over vars) t) (terms_plain (naming_over vars) ts) e in
      let rest = as_count ts m.1 m.4 in
      let one : length (forms_list fs) ≡ suc (length (forms_list m.1)) = ap (λ (x : Forms). length (forms_list x)) m.2 in
      omega (arith, one, rest)

  -- ---- what writes a leaf
  leaf_back : (r : ℕ) → Contains (input_registers vars) r → leaf_named (term_scope vars).leaves (input_name vars r) ≡ Some (Input r)
  leaf_back r c =
      let f = found_in vars r c in
      let no_memory = reserved_memory f.variable.name (All-contains (λ (i : InputReg). is_reserved i.name ≡ false) vars f.variable are.own f.there) in
      ap (leaf_named (term_scope vars).leaves) f.named
      ∙ ap (λ b. if b then Some Memory else leaf_named (leaves_of vars) f.variable.name) (decides_false (codes "M") f.variable.name no_memory)
      ∙ leaf_found vars are.differ f.variable f.there ∙ ap (λ n. Some (Input n)) f.register

  entry_written : (ts : Trees Op) (g : Form) → tree_count ts ≡ 0 → plain_of g ≡ atom (name (codes "M")) → Writes (term_scope vars) sorts.Memory g (tree.application ops.Entry ts)
  entry_written ts g count e =
      let n = name_form g (codes "M") e in
      subst (λ (us : Trees Op). Writes (term_scope vars) sorts.Memory g (tree.application ops.Entry us)) (sym (no_trees ts count))
      (subst (λ (x : Form). Writes (term_scope vars) sorts.Memory x (tree.application ops.Entry tree.none)) (sym n.1) (memory refl))

  input_written : (r : ℕ) (ts : Trees Op) (g : Form) → Contains (input_registers vars) r → tree_count ts ≡ 0 → plain_of g ≡ atom (name (input_name vars r)) → Writes (term_scope vars) sorts.Word g (tree.application (ops.Input r) ts)
  input_written r ts g c count e =
      let n = name_form g (input_name vars r) e in
      subst (λ (us : Trees Op). Writes (term_scope vars) sorts.Word g (tree.application (ops.Input r) us)) (sym (no_trees ts count))
      (subst (λ (x : Form). Writes (term_scope vars) sorts.Word x (tree.application (ops.Input r) tree.none)) (sym n.1) (input (leaf_back r c)))

  constant_written : (k : ℕ) (ts : Trees Op) (g : Form) → tree_count ts ≡ 0 → plain_of g ≡ atom (forms.number k) → Writes (term_scope vars) sorts.Word g (tree.application (ops.Constant k) ts)
  constant_written k ts g count e =
      let n = number_form g k e in
      subst (λ (us : Trees Op). Writes (term_scope vars) sorts.Word g (tree.application (ops.Constant k) us)) (sym (no_trees ts count))
      (subst (λ (x : Form). Writes (term_scope vars) sorts.Word x (tree.application (ops.Constant k) tree.none)) (sym n.1) constant)

  -- ---- what writes an application
  application_written : (op : Op) (ts : Trees Op) (g : Form) → operator_named [] (operator_name [] op) ≡ Some op → tree_count ts ≡ arity_of_op op
      → plain_of g ≡ list (more (atom (name (operator_name [] op))) (terms_plain (naming_over vars) ts)) → ((fs : Forms) → plains_of fs ≡ terms_plain (naming_over vars) ts → WritesEach (term_scope vars) op 0 fs ts)
      → Writes (term_scope vars) (sort_of op) g (tree.application op ts)
  application_written op ts g back count e each =
      let l = list_form g (more (atom (name (operator_name [] op))) (terms_plain (naming_over vars) ts)) e in
      let m = more_form l.1 (atom (name (operator_name [] op))) (terms_plain (naming_over vars) ts) l.3 in
      let h = name_form m.0 (operator_name [] op) m.3 in
      subst (λ (x : Form). Writes (term_scope vars) (sort_of op) x (tree.application op ts)) (sym (l.2 ∙ ap (forms.list l.0) (m.2 ∙ ap (λ (x : Form). forms.more x m.1) h.1)))
      (application back refl (as_count ts m.1 m.4 ∙ count) (each m.1 m.4))

  mutual
    term_of_sort : (t : Tree Op) (sort : Sort) → HasSort op_signature [] sort t → IsOver t → (g : Form) → plain_of g ≡ term_plain (naming_over vars) t → Writes (term_scope vars) sort g t
    term_of_sort (tree.variable n) sort h o g e = absurd (let low = h.0 in omega (arith, low))
    term_of_sort (tree.application ops.Entry ts) sort h o g e = subst (λ (s : Sort). Writes (term_scope vars) s g (tree.application ops.Entry ts)) h.0 (entry_written ts g h.2 e)
    term_of_sort (tree.application (ops.Input r) ts) sort h o g e = subst (λ (s : Sort). Writes (term_scope vars) s g (tree.application (ops.Input r) ts)) h.0 (input_written r ts g o.0 h.2 e)
    term_of_sort (tree.application (ops.Constant k) ts) sort h o g e = subst (λ (s : Sort). Writes (term_scope vars) s g (tree.application (ops.Constant k) ts)) h.0 (constant_written k ts g h.2 e)
    term_of_sort (tree.application (ops.Word w) ts) sort h o g e =
        subst (λ (s : Sort). Writes (term_scope vars) s g (tree.application (ops.Word w) ts)) h.0
        (application_written (ops.Word w) ts g (word_operator_back w o.0) h.2 e (λ fs d. operands_written (ops.Word w) 0 ts h.3 o.1 fs d))
    term_of_sort (tree.application (ops.Select access) ts) sort h o g e =
        subst (λ (s : Sort). Writes (term_scope vars) s g (tree.application (ops.Select access) ts)) h.0 (application_written (ops.Select access) ts g (select_back access) h.2 e (λ fs d. operands_written (ops.Select access) 0 ts h.3 o.1 fs d))
    term_of_sort (tree.application (ops.Store access) ts) sort h o g e =
        subst (λ (s : Sort). Writes (term_scope vars) s g (tree.application (ops.Store access) ts)) h.0 (application_written (ops.Store access) ts g (store_back access) h.2 e (λ fs d. operands_written (ops.Store access) 0 ts h.3 o.1 fs d))
    term_of_sort (tree.application (ops.Load access) ts) sort h o g e = absurd o.0
    term_of_sort (tree.application (ops.Put access) ts) sort h o g e = absurd o.0
    term_of_sort (tree.application (ops.Declared index arity) ts) sort h o g e = absurd (let low = o.0.below in omega (arith, low))

    operands_written : (op : Op) (at : ℕ) (ts : Trees Op) → HaveSorts op_signature [] op at ts → AreOver ts → (fs : Forms) → plains_of fs ≡ terms_plain (naming_over vars) ts → WritesEach (term_scope vars) op at fs ts
    operands_written op at tree.none h o fs e = subst (λ (x : Forms). WritesEach (term_scope vars) op at x tree.none) (sym (none_form fs e)) nothing
    operands_written op at (tree.more t ts) h o fs e =
        let m = more_form fs (term_plain (naming_over vars) t) (terms_plain (naming_over vars) ts) e in
        subst (λ (x : Forms). WritesEach (term_scope vars) op at x (tree.more t ts)) (sym m.2)
        (operand (term_of_sort t (operand_sort op at) h.0 o.0 m.0 m.3) (operands_written op (at + 1) ts h.1 o.1 m.1 m.4))

  pub term_written : (sort : Sort) (t : Tree Op) → IsTermOver vars sort t → (g : Form) → plain_of g ≡ term_plain (naming_over vars) t → Writes (term_scope vars) sort g t
  term_written sort t is g e = term_of_sort t sort is.sorted is.operators g e

  -- ---- what can be printed
  select_printable : (access : Access) → IsName (select_name access)
  select_printable accesses.Quad = record { begins = refl; each = refl }
  select_printable accesses.Byte = record { begins = refl; each = refl }
  select_printable accesses.Word = record { begins = refl; each = refl }
  select_printable accesses.Long = record { begins = refl; each = refl }

  store_printable : (access : Access) → IsName (store_name access)
  store_printable accesses.Quad = record { begins = refl; each = refl }
  store_printable accesses.Byte = record { begins = refl; each = refl }
  store_printable accesses.Word = record { begins = refl; each = refl }
  store_printable accesses.Long = record { begins = refl; each = refl }

  memory_name : IsName (codes "M")
  memory_name = record { begins = refl; each = refl }

  input_printable : (r : ℕ) → Contains (input_registers vars) r → IsName (input_name vars r)
  input_printable r c =
      let f = found_in vars r c in
      subst IsName (sym f.named) (All-contains (λ (i : InputReg). IsName i.name) vars f.variable are.named f.there)

  mutual
    printable : (t : Tree Op) (sort : Sort) → HasSort op_signature [] sort t → IsOver t → CanPrint (term_plain (naming_over vars) t)
    printable (tree.variable n) sort h o = absurd (let low = h.0 in omega (arith, low))
    printable (tree.application ops.Entry ts) sort h o = memory_name
    printable (tree.application (ops.Input r) ts) sort h o = input_printable r o.0
    printable (tree.application (ops.Constant k) ts) sort h o = h.1
    printable (tree.application (ops.Word w) ts) sort h o = (name_printable w, all_printable (ops.Word w) 0 ts h.3 o.1)
    printable (tree.application (ops.Select access) ts) sort h o = (select_printable access, all_printable (ops.Select access) 0 ts h.3 o.1)
    printable (tree.application (ops.Store access) ts) sort h o = (store_printable access, all_printable (ops.Store access) 0 ts h.3 o.1)
    printable (tree.application (ops.Load access) ts) sort h o = absurd o.0
    printable (tree.application (ops.Put access) ts) sort h o = absurd o.0
    printable (tree.application (ops.Declared index arity) ts) sort h o = absurd (let low = o.0.below in omega (arith, low))

    all_printable : (op : Op) (at : ℕ) (ts : Trees Op) → HaveSorts op_signature [] op at ts → AreOver ts → CanPrintAll (terms_plain (naming_over vars) ts)
    all_printable op at tree.none h o = tt
    all_printable op at (tree.more t ts) h o = (printable t (operand_sort op at) h.0 o.0, all_printable op (at + 1) ts h.1 o.1)

  pub term_printable : (sort : Sort) (t : Tree Op) → IsTermOver vars sort t → CanPrint (term_plain (naming_over vars) t)
  term_printable sort t is = printable t sort is.sorted is.operators
