-- A written term has the sort that it is written as, and its operators are those that the names of its scope mean.
use Rattle.std.proofs.Common.{◌≡◌, ℕ, suc, ◌+◌, ◌<◌, if◌then◌else◌, Bool, true, false, Option, None, Some, List, [], ◌∷◌, length, refl, sym, ap, ◌∙◌, subst, arith, slice_get, bytes_eq, codes}
use Rattle.std.specs.Prelude.{IfSome}
use Rattle.word_ops.specs.Meanings.{constant_in}
use Rattle.word_ops.specs.Words.{IsWord}
use Rattle.word_ops.specs.declared.sorts.Access.{Access}
use Rattle.word_ops.specs.declared.operators.WordOp.{WordOp}
use Rattle.word_ops.specs.declared.sorts.Arity.{Arity}
use Rattle.word_ops.specs.declared.sorts.Op.{Op}
use Rattle.word_ops.specs.declared.sorts.Op.TheVariants as ops
use Rattle.word_ops.specs.declared.sorts.Sort.{Sort}
use Rattle.word_ops.specs.declared.sorts.Sort.TheVariants as sorts
use Rattle.word_terms.specs.Keys.{op_signature}
use Rattle.word_terms.specs.OperatorsIn.{EachOperator, EachOperatorOfAll}
use Rattle.word_terms.specs.Sorting.{HasSort, HaveSorts, sort_at, tree_count}
use Rattle.word_terms.specs.Tree.{Tree, Trees}
use Rattle.forms.specs.Forms.{Form, Forms, forms_list}
use Rattle.forms.specs.Printing.{CanPrint, CanPrintAll, plain_of, plains_of}
use Rattle.goal_meaning.specs.declared.goals.DeclaredOp.{DeclaredOp}
use Rattle.goal_reader.specs.declared.scopes.Named.TheVariants.{Memory, Input, Variable, Let}
use Rattle.goal_reader.specs.declared.scopes.Scope.{Scope}
use Rattle.std.specs.Option.{option_or}
use Rattle.goal_reader.specs.Scopes.{leaf_named, declared_named, operator_named}
use Rattle.goal_meaning.specs.Names.{is_written, word_named, memory_operator_named, written_or_memory}
use Rattle.goal_reader.specs.Terms.{Writes, WritesEach, memory, input, variable, binding, constant, application, nothing, operand}
use Rattle.goal_meaning.specs.WellFormed.{IsDeclared}
use Rattle.goal_reader.proofs.Names.{of_memory_operator}

-- ---- the operator of a name

declared_there : (at : ℕ) (os : List DeclaredOp) (n : List ℕ) (op : Op) → declared_named at os n ≡ Some op → (k : ℕ) × (o : DeclaredOp) × (op ≡ ops.Declared (k + at) o.arity) × (k < length os) × (slice_get os k ≡ Some o)
declared_there at [] n op e = cc
declared_there at (o ∷ os) n op e = by_test (bytes_eq o.name n) e (declared_there (at + 1) os n op)
  where
    by_test : (b : Bool) → (if b then Some (ops.Declared at o.arity) else declared_named (at + 1) os n) ≡ Some op
        → (declared_named (at + 1) os n ≡ Some op → (k : ℕ) × (x : DeclaredOp) × (op ≡ ops.Declared (k + (at + 1)) x.arity) × (k < length os) × (slice_get os k ≡ Some x))
        → (k : ℕ) × (x : DeclaredOp) × (op ≡ ops.Declared (k + at) x.arity) × (k < length (o ∷ os)) × (slice_get (o ∷ os) k ≡ Some x)
    by_test true f rest =
        let same : op ≡ ops.Declared at o.arity = cc in
        (0, o, same ∙ ap (λ m. ops.Declared m o.arity) (let z : at ≡ 0 + at = omega arith in z), omega arith, refl)
    by_test false f rest =
        let later = rest f in
        let low = later.3 in
        (suc later.0, later.1, later.2 ∙ ap (λ m. ops.Declared m later.1.arity) (let z : later.0 + (at + 1) ≡ suc later.0 + at = omega arith in z), omega (arith, low), later.4)

-- what holds of each operator that a name can mean holds of that of the name
module _ (declared : List DeclaredOp) (Q : Op → Type 0) (words : (w : WordOp) → is_written w ≡ true → Q (ops.Word w)) (selects : (access : Access) → Q (ops.Select access)) (stores : (access : Access) → Q (ops.Store access))
    (others : (index : ℕ) (arity : Arity) → IsDeclared declared index arity → Q (ops.Declared index arity)) where
  of_declared : (n : List ℕ) (op : Op) → declared_named 0 declared n ≡ Some op → Q op
  of_declared n op e =
      let d = declared_there 0 declared n op e in
      let index : d.0 + 0 ≡ d.0 = omega arith in
      let is : IsDeclared declared d.0 d.1.arity = record { below = d.3; operator = d.1; found = d.4; takes = refl } in
      subst Q (sym (d.2 ∙ ap (λ m. ops.Declared m d.1.arity) index)) (others d.0 d.1.arity is)

  pub of_operator : (n : List ℕ) (op : Op) → operator_named declared n ≡ Some op → Q op
  of_operator n op e = by_word (word_named n) e
    where
      by_memory : (m : Option Op) → memory_operator_named n ≡ m → option_or m (declared_named 0 declared n) ≡ Some op → Q op
      by_memory (Some x) f g = let same : x ≡ op = cc in of_memory_operator Q selects stores n op (f ∙ ap Some same)
      by_memory None f g = of_declared n op g

      by_written : (w : WordOp) (b : Bool) → is_written w ≡ b → option_or (if b then Some (ops.Word w) else None) (declared_named 0 declared n) ≡ Some op → Q op
      by_written w true t g = let same : ops.Word w ≡ op = cc in subst Q same (words w t)
      by_written w false t g = of_declared n op g

      by_word : (o : Option WordOp) → option_or (written_or_memory o n) (declared_named 0 declared n) ≡ Some op → Q op
      by_word None g = by_memory (memory_operator_named n) refl g
      by_word (Some w) g = by_written w (is_written w) refl g

pub no_constant : (declared : List DeclaredOp) (n : List ℕ) (op : Op) → operator_named declared n ≡ Some op → constant_in op ≡ None
no_constant declared = of_operator declared (λ op. constant_in op ≡ None) (λ w t. refl) (λ access. refl) (λ access. refl) (λ index arity is. refl)

-- ---- sorts

-- each variable that a name means is one of these, a word or, where it is a let, of the let's sort
pub record NamesVariables (scope : Scope) (variables : List Sort) : Type 0 where
  pub words : (bytes : List ℕ) (n : ℕ) → leaf_named scope.leaves bytes ≡ Some (Variable n) → (n < length variables) × (sort_at variables n ≡ sorts.Word)
  pub lets : (bytes : List ℕ) (n : ℕ) (sort : Sort) → leaf_named scope.leaves bytes ≡ Some (Let n sort) → (n < length variables) × (sort_at variables n ≡ sort)

module _ (scope : Scope) (variables : List Sort) (named : NamesVariables scope variables) where
  as_many : {op : Op} {at : ℕ} {fs : Forms} {ts : Trees Op} → WritesEach scope op at fs ts → tree_count ts ≡ length (forms_list fs)
  as_many nothing = refl
  as_many (operand one others) = let e = as_many others in omega (arith, e)

  mutual
    pub is_sorted : {sort : Sort} {f : Form} {t : Tree Op} → Writes scope sort f t → CanPrint (plain_of f) → HasSort op_signature variables sort t
    is_sorted (memory l) p = (refl, tt, refl, tt)
    is_sorted (input l) p = (refl, tt, refl, tt)
    is_sorted (variable {bytes = bytes} {n = n} l) p = named.words bytes n l
    is_sorted (binding {bytes = bytes} {n = n} {sort = s} l) p = named.lets bytes n s l
    is_sorted (constant {n = n}) p = (refl, p, refl, tt)
    is_sorted (application {bytes = bytes} {op = op} k s n each) p =
        (sym s, subst (λ o. IfSome o IsWord) (sym (no_constant scope.declared bytes op k)) tt, as_many each ∙ n, are_sorted each p.1)

    are_sorted : {op : Op} {at : ℕ} {fs : Forms} {ts : Trees Op} → WritesEach scope op at fs ts → CanPrintAll (plains_of fs) → HaveSorts op_signature variables op at ts
    are_sorted nothing p = tt
    are_sorted (operand one others) p = (is_sorted one p.0, are_sorted others p.1)

-- ---- operators

-- what each name of a scope means is P
pub record Means (scope : Scope) (P : Op → Type 0) : Type 0 where
  pub memory_is : (bytes : List ℕ) → leaf_named scope.leaves bytes ≡ Some Memory → P ops.Entry
  pub input_is : (bytes : List ℕ) (register : ℕ) → leaf_named scope.leaves bytes ≡ Some (Input register) → P (ops.Input register)
  pub constant_is : (n : ℕ) → P (ops.Constant n)
  pub operator_is : (bytes : List ℕ) (op : Op) → operator_named scope.declared bytes ≡ Some op → P op

module _ (scope : Scope) (P : Op → Type 0) (means : Means scope P) where
  mutual
    pub each_operator : {sort : Sort} {f : Form} {t : Tree Op} → Writes scope sort f t → EachOperator P t
    each_operator (memory {bytes = bytes} l) = (means.memory_is bytes l, tt)
    each_operator (input {bytes = bytes} {register = r} l) = (means.input_is bytes r l, tt)
    each_operator (variable l) = tt
    each_operator (binding l) = tt
    each_operator (constant {n = n}) = (means.constant_is n, tt)
    each_operator (application {bytes = bytes} {op = op} k s n each) = (means.operator_is bytes op k, each_operator_of_all each)

    each_operator_of_all : {op : Op} {at : ℕ} {fs : Forms} {ts : Trees Op} → WritesEach scope op at fs ts → EachOperatorOfAll P ts
    each_operator_of_all nothing = tt
    each_operator_of_all (operand one others) = (each_operator one, each_operator_of_all others)
