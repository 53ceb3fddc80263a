-- The names that terms are printed with are those of the scopes that they are read in.
use Rattle.std.proofs.Common.{◌≡◌, ◌≢◌, inl, inr, ℕ, suc, ◌+◌, ◌-◌, ◌==◌, if◌then◌else◌, Bool, true, false, Option, None, Some, List, [], ◌∷◌, map, get_or, refl, sym, ap, ◌∙◌, subst, arith, bytes_eq, codes, find}
use Rattle.std.specs.Prelude.{AllPairs, slice_index_or}
use Rattle.std.proofs.lemmas.Bool.Decides.{Decides-eqb}
use Rattle.std.proofs.lemmas.Slice.Eq.{bytes_eq-Decides}
use Rattle.word_ops.specs.Names.{name_of}
use Rattle.word_ops.specs.Operators.{operators}
use Rattle.word_ops.specs.declared.operators.WordOp.{WordOp}
use Rattle.word_ops.specs.declared.sorts.Op.{Op}
use Rattle.word_ops.specs.declared.sorts.Sort.{Sort}
use Rattle.word_ops.specs.declared.sorts.Op.TheVariants as ops
use Rattle.goal_meaning.specs.declared.goals.InputReg.{InputReg}
use Rattle.goal_meaning.specs.declared.goals.DeclaredOp.{DeclaredOp}
use Rattle.goal_reader.specs.declared.scopes.Named.TheVariants.{Memory, Input, Variable, Let}
use Rattle.goal_reader.specs.Grammar.{axiom_scope}
use Rattle.goal_meaning.specs.InputForms.{naming, input_name, operator_name, leaf_atom}
use Rattle.goal_meaning.specs.WellFormed.{input_registers}
use Rattle.goal_reader.specs.Roles.{goal_scope, rank_from}
use Rattle.std.specs.Option.{option_or}
use Rattle.goal_reader.specs.Scopes.{leaf_named, declared_named, operator_named}
use Rattle.goal_meaning.specs.Names.{is_written, word_named, memory_operators, memory_operator_name, memory_operator_named, written_or_memory}
use Rattle.goal_reader.proofs.AxiomForms.{left_told, same_number}
use Rattle.goal_reader.proofs.ItemForms.{rank_from_is}
use Rattle.goal_reader.proofs.LetForms.{goal_leaf, input_leaf}
pub use Rattle.goal_reader.proofs.LetForms.{leaves_of}
use Rattle.goal_reader.proofs.Moved.{AreNamed}
use Rattle.goal_reader.proofs.Names.{not_true, of_memory_operator}
use Rattle.forms.specs.Forms.{atom, name}

-- ---- operators
found_by : {X : Type 0} (f : X → List ℕ) (n : List ℕ) (xs : List X) (x : X) → find (λ o. bytes_eq (f o) n) xs ≡ Some x → f x ≡ n
found_by f n [] x e = cc
found_by f n (o ∷ os) x e = by_test (bytes_eq (f o) n) refl e (found_by f n os x)
  where
    by_test : (b : Bool) → bytes_eq (f o) n ≡ b → (if b then Some o else find (λ p. bytes_eq (f p) n) os) ≡ Some x → (find (λ p. bytes_eq (f p) n) os ≡ Some x → f x ≡ n) → f x ≡ n
    by_test true t e later = let same : o ≡ x = cc in ap f (sym same) ∙ (bytes_eq-Decides (f o) n).0 t
    by_test false t e later = later e

word_found : (n : List ℕ) (op : WordOp) → word_named n ≡ Some op → name_of op ≡ n
unfolding word_named
word_found n op e = found_by name_of n operators op e

-- what an operator is printed as, and that it is no atom
abbrev IsNamedAs : List DeclaredOp → List ℕ → Op → Type 0
IsNamedAs declared n op = (n ≡ operator_name declared op) × ((inputs : List InputReg) → leaf_atom inputs op ≡ None)

written_as : (declared : List DeclaredOp) (n : List ℕ) (w : WordOp) (op : Op) (b : Bool) → name_of w ≡ n → (if b then Some (ops.Word w) else None) ≡ Some op → IsNamedAs declared n op
written_as declared n w op true e f = let same : ops.Word w ≡ op = cc in subst (IsNamedAs declared n) same (sym e, λ inputs. refl)
written_as declared n w op false e f = cc

-- what is printed for an operator on memories is the name that it is written by
abbrev IsPrinted : List DeclaredOp → Op → Type 0
IsPrinted declared op = (memory_operator_name op ≡ operator_name declared op) × ((inputs : List InputReg) → leaf_atom inputs op ≡ None)

memory_as : (declared : List DeclaredOp) (n : List ℕ) (op : Op) → memory_operator_named n ≡ Some op → IsNamedAs declared n op
memory_as declared n op e =
    let printed = of_memory_operator (IsPrinted declared) (λ access. (refl, λ inputs. refl)) (λ access. (refl, λ inputs. refl)) n op e in
    (sym (found_by memory_operator_name n memory_operators op e) ∙ printed.0, printed.1)

abbrev name_after : ℕ → List DeclaredOp → ℕ → List ℕ
name_after at os index = slice_index_or (map (λ (d : DeclaredOp). d.name) os) index []

-- a declared operator by its number, which counts from the first one
declared_as : (at : ℕ) (os : List DeclaredOp) (n : List ℕ) (op : Op) → declared_named at os n ≡ Some op → (k : ℕ) × (o : DeclaredOp) × (op ≡ ops.Declared (k + at) o.arity) × (name_after at os k ≡ n)
declared_as at [] n op e = cc
declared_as at (o ∷ os) n op e = by_test (bytes_eq o.name n) refl e (declared_as (at + 1) os n op)
  where
    by_test : (b : Bool) → bytes_eq o.name n ≡ b → (if b then Some (ops.Declared at o.arity) else declared_named (at + 1) os n) ≡ Some op
        → (declared_named (at + 1) os n ≡ Some op → (k : ℕ) × (x : DeclaredOp) × (op ≡ ops.Declared (k + (at + 1)) x.arity) × (name_after (at + 1) os k ≡ n))
        → (k : ℕ) × (x : DeclaredOp) × (op ≡ ops.Declared (k + at) x.arity) × (name_after at (o ∷ os) k ≡ n)
    by_test true t f rest =
        let same : op ≡ ops.Declared at o.arity = cc in
        (0, o, same ∙ ap (λ m. ops.Declared m o.arity) (let z : at ≡ 0 + at = omega arith in z), (bytes_eq-Decides o.name n).0 t)
    by_test false t f rest =
        let later = rest f in
        (suc later.0, later.1, later.2 ∙ ap (λ m. ops.Declared m later.1.arity) (let z : later.0 + (at + 1) ≡ suc later.0 + at = omega arith in z), later.3)

pub operator_told : (declared : List DeclaredOp) (n : List ℕ) (op : Op) → operator_named declared n ≡ Some op → IsNamedAs declared n op
operator_told declared n op e = by_word (word_named n) refl e
  where
    by_memory : (m : Option Op) → memory_operator_named n ≡ m → option_or m (declared_named 0 declared n) ≡ Some op → IsNamedAs declared n op
    by_memory (Some x) f g = let same : x ≡ op = cc in memory_as declared n op (f ∙ ap Some same)
    by_memory None f g =
        let d = declared_as 0 declared n op g in
        let index : d.0 + 0 ≡ d.0 = omega arith in
        subst (IsNamedAs declared n) (sym (d.2 ∙ ap (λ m. ops.Declared m d.1.arity) index)) (sym d.3, λ inputs. refl)

    by_written : (w : WordOp) (b : Bool) → name_of w ≡ n → is_written w ≡ b → option_or (if b then Some (ops.Word w) else None) (declared_named 0 declared n) ≡ Some op → IsNamedAs declared n op
    by_written w true h t g = let same : ops.Word w ≡ op = cc in subst (IsNamedAs declared n) same (sym h, λ inputs. refl)
    by_written w false h t g =
        let d = declared_as 0 declared n op g in
        let index : d.0 + 0 ≡ d.0 = omega arith in
        subst (IsNamedAs declared n) (sym (d.2 ∙ ap (λ m. ops.Declared m d.1.arity) index)) (sym d.3, λ inputs. refl)

    by_word : (o : Option WordOp) → word_named n ≡ o → option_or (written_or_memory o n) (declared_named 0 declared n) ≡ Some op → IsNamedAs declared n op
    by_word None f g = by_memory (memory_operator_named n) refl g
    by_word (Some w) f g = by_written w (is_written w) (word_found n w f) refl g

-- ---- the names of a goal
register_is : (r s : ℕ) → Input r ≡ Input s → r ≡ s
register_is r s e = cc

input_named : (inputs : List InputReg) (n : List ℕ) (r : ℕ) → AllPairs (λ a b. a ≢ b) (input_registers inputs) → leaf_named (leaves_of inputs) n ≡ Some (Input r) → n ≡ input_name inputs r
input_named [] n r apart e = cc
input_named (i ∷ is) n r apart e = by_test (bytes_eq i.name n) refl e (input_named is n r (λ a b d x y. apart (suc a) (suc b) d (omega (arith, x)) (omega (arith, y))))
  where
    by_test : (b : Bool) → bytes_eq i.name n ≡ b → (if b then Some (Input i.reg) else leaf_named (leaves_of is) n) ≡ Some (Input r) → (leaf_named (leaves_of is) n ≡ Some (Input r) → n ≡ input_name is r) → n ≡ (if i.reg == r then i.name else input_name is r)
    by_test true t f later =
        let same : Input i.reg ≡ Input r = cc in
        let equal : (i.reg == r) ≡ true = (Decides-eqb i.reg r).1 (register_is i.reg r same) in
        sym ((bytes_eq-Decides i.name n).0 t) ∙ sym (ap (λ b. if b then i.name else input_name is r) equal)
    by_test false t f later =
        let l = input_leaf is n (Input r) f in
        let is_there = l.3 ∙ sym (register_is r l.1.reg l.4) in
        let low = l.2 in
        let other : (i.reg == r) ≡ false = not_true (i.reg == r) (λ h. apart 0 (suc l.0) 0 (omega arith) (omega (arith, low)) ((Decides-eqb i.reg r).0 h ∙ sym is_there)) in
        later f ∙ sym (ap (λ b. if b then i.name else input_name is r) other)

pub goal_named : (declared : List DeclaredOp) (inputs : List InputReg) → AllPairs (λ a b. a ≢ b) (input_registers inputs) → AreNamed (goal_scope declared inputs) (naming declared inputs [])
goal_named declared inputs apart = record {
  memory_is = λ n e. memory_by n (bytes_eq (codes "M") n) refl e;
  input_is = λ n r e. input_by n r (bytes_eq (codes "M") n) e;
  variable_is = λ n k e. variable_by n k (bytes_eq (codes "M") n) e;
  let_is = λ n k s e. elim (goal_leaf declared inputs n (Let k s) e) [
    | inl f ↦ cc
    | inr f ↦ (let g : Let k s ≡ Input f.0 = f.1 in cc)
  ];
  operator_is = λ n op e. let o = operator_told declared n op e in (o.0, o.1 inputs);
}
  where
    memory_by : (n : List ℕ) (b : Bool) → bytes_eq (codes "M") n ≡ b → (if b then Some Memory else leaf_named (leaves_of inputs) n) ≡ Some Memory → n ≡ codes "M"
    memory_by n true t e = sym ((bytes_eq-Decides (codes "M") n).0 t)
    memory_by n false t e = let l = input_leaf inputs n Memory e in let f : Memory ≡ Input l.1.reg = l.4 in cc

    input_by : (n : List ℕ) (r : ℕ) (b : Bool) → (if b then Some Memory else leaf_named (leaves_of inputs) n) ≡ Some (Input r) → n ≡ input_name inputs r
    input_by n r true e = cc
    input_by n r false e = input_named inputs n r apart e

    variable_by : (n : List ℕ) (k : ℕ) (b : Bool) → (if b then Some Memory else leaf_named (leaves_of inputs) n) ≡ Some (Variable k) → n ≡ []
    variable_by n k true e = cc
    variable_by n k false e = let l = input_leaf inputs n (Variable k) e in let f : Variable k ≡ Input l.1.reg = l.4 in cc

-- ---- the names of an axiom
pub axiom_named : (declared : List DeclaredOp) (names : List (List ℕ)) → AreNamed (axiom_scope declared names) (naming declared [] names)
axiom_named declared names = record {
  memory_is = λ n e. let told = left_told declared names (atom 0 (name n)) n Memory e in let f : Memory ≡ Variable told.0 = told.2 in absurd (no_memory told.0 f);
  input_is = λ n r e. let told = left_told declared names (atom 0 (name n)) n (Input r) e in absurd (no_input r told.0 told.2);
  variable_is = λ n k e.
      let told = left_told declared names (atom 0 (name n)) n (Variable k) e in
      let number : rank_from 0 names n ≡ Some k = told.1 ∙ ap Some (sym (same_number k told.0 told.2)) in
      sym (ap (λ m. get_or names m []) (let f : k ≡ k - 0 = omega arith in f) ∙ (rank_from_is 0 k names n number).1);
  let_is = λ n k s e. let told = left_told declared names (atom 0 (name n)) n (Let k s) e in absurd (no_let k s told.0 told.2);
  operator_is = λ n op e. let o = operator_told declared n op e in (o.0, o.1 []);
}
  where
    no_memory : (k : ℕ) → Memory ≡ Variable k → ⊥
    no_memory k e = cc

    no_let : (m : ℕ) (s : Sort) (k : ℕ) → Let m s ≡ Variable k → ⊥
    no_let m s k e = cc

    no_input : (r k : ℕ) → Input r ≡ Variable k → ⊥
    no_input r k e = cc
