-- Searches for names.
use Rattle.std.proofs.Common.{◌≡◌, ◌≢◌, ℕ, suc, ◌+◌, ◌<◌, Bool, true, false, if◌then◌else◌, Some, None, find, List, [], ◌∷◌, length, get_or, drop, refl, sym, ap, ◌∙◌, subst, add-one, bytes_eq}
use Rattle.std.proofs.Math.Seq.{drop-cons}
use Rattle.std.proofs.lemmas.Option.{none-some}
use Rattle.std.proofs.lemmas.Slice.Eq.{bytes_eq-Decides}
use Rattle.std.specs.List.{AllByRecursion}
use Rattle.word_ops.specs.Operators.{operators}
use Rattle.word_ops.specs.Names.{name_of}
use Rattle.word_ops.specs.declared.operates.Operate.TheVariants as operates
use Rattle.word_ops.specs.declared.operators.WordOp.{WordOp}
use Rattle.word_ops.specs.declared.operators.WordOp.TheVariants as words
use Rattle.word_ops.specs.declared.sorts.Access.{Access}
use Rattle.word_ops.specs.declared.sorts.Access.TheVariants as accesses
use Rattle.word_ops.specs.declared.sorts.Op.{Op}
use Rattle.word_ops.specs.declared.sorts.Op.TheVariants.{Select, Store, Declared}
use Rattle.goal_meaning.specs.declared.goals.DeclaredOp.{DeclaredOp}
use Rattle.goal_reader.specs.declared.scopes.Leaf.{Leaf}
use Rattle.goal_reader.specs.Scopes.{leaf_named, declared_named}
use Rattle.goal_meaning.specs.Names.{word_named, built_in_named, memory_operators, memory_operator_name, memory_operator_named, as_written, written_or_memory}

pub leaf_here : (leaves : List Leaf) (i : ℕ) (leaf : Leaf) (name : List ℕ) → i < length leaves → leaf ≡ get_or leaves i leaf
    → leaf_named (drop i leaves) name ≡ (if bytes_eq leaf.name name then Some leaf.named else leaf_named (drop (i + 1) leaves) name)
leaf_here leaves i leaf name l e =
    ap (λ ls. leaf_named ls name) (drop-cons leaves i leaf l) ∙ ap (λ (x : Leaf). leaf_named (x ∷ drop (suc i) leaves) name) (sym e)
    ∙ ap (λ n. if bytes_eq leaf.name name then Some leaf.named else leaf_named (drop n leaves) name) (sym (add-one i))

pub declared_here : (ops : List DeclaredOp) (i : ℕ) (op : DeclaredOp) (name : List ℕ) → i < length ops → op ≡ get_or ops i op
    → declared_named i (drop i ops) name ≡ (if bytes_eq op.name name then Some (Declared i op.arity) else declared_named (i + 1) (drop (i + 1) ops) name)
declared_here ops i op name l e =
    ap (λ ls. declared_named i ls name) (drop-cons ops i op l) ∙ ap (λ (x : DeclaredOp). declared_named i (x ∷ drop (suc i) ops) name) (sym e)
    ∙ ap (λ n. if bytes_eq op.name name then Some (Declared i op.arity) else declared_named (i + 1) (drop n ops) name) (sym (add-one i))

find_own : (op : WordOp) → find (λ other. bytes_eq (name_of other) (name_of op)) operators ≡ Some op
find_own (words.Operate operates.Addl) = refl
find_own (words.Operate _) = refl
find_own _ = refl

pub not_true : (b : Bool) → (b ≡ true → ⊥) → b ≡ false
not_true true n = absurd (n refl)
not_true false n = refl

pub decides_false : (xs ys : List ℕ) → xs ≢ ys → bytes_eq xs ys ≡ false
decides_false xs ys h = not_true (bytes_eq xs ys) (λ e. h ((bytes_eq-Decides xs ys).0 e))

find_none : (name : List ℕ) (ops : List WordOp) → ((op : WordOp) → name_of op ≢ name) → find (λ op. bytes_eq (name_of op) name) ops ≡ None
find_none name [] h = refl
find_none name (op ∷ ops) h =
    ap (λ b. if b then Some op else find (λ other. bytes_eq (name_of other) name) ops) (decides_false (name_of op) name (h op)) ∙ find_none name ops h

pub word_named_some : (op : WordOp) (name : List ℕ) → name_of op ≡ name → word_named name ≡ Some op
unfolding word_named
word_named_some op name e = subst (λ (n : List ℕ). find (λ other. bytes_eq (name_of other) n) operators ≡ Some op) e (find_own op)

pub word_named_none : (name : List ℕ) → ((op : WordOp) → name_of op ≢ name) → word_named name ≡ None
unfolding word_named
word_named_none name h = find_none name operators h

pub built_in_word : (op : WordOp) (name : List ℕ) → name_of op ≡ name → built_in_named name ≡ as_written op
built_in_word op name e = ap (λ found. written_or_memory found name) (word_named_some op name e)

pub built_in_other : (name : List ℕ) → ((op : WordOp) → name_of op ≢ name) → built_in_named name ≡ memory_operator_named name
built_in_other name h = ap (λ found. written_or_memory found name) (word_named_none name h)

pub none_some : (op : WordOp) → None ≡ Some op → ⊥
none_some op e = cc

-- what holds of each operator on memories that a name can mean holds of that of the name
found_of : (Q : Op → Type 0) (p : Op → Bool) (xs : List Op) (x : Op) → AllByRecursion Q xs → find p xs ≡ Some x → Q x
found_of Q p [] x h e = absurd (none-some x e)
found_of Q p (o ∷ os) x h e = by_test (p o) e (found_of Q p os x h.1)
  where
    by_test : (b : Bool) → (if b then Some o else find p os) ≡ Some x → (find p os ≡ Some x → Q x) → Q x
    by_test true f later = let same : o ≡ x = cc in subst Q same h.0
    by_test false f later = later f

pub of_memory_operator : (Q : Op → Type 0) → ((access : Access) → Q (Select access)) → ((access : Access) → Q (Store access)) →
    (n : List ℕ) (op : Op) → memory_operator_named n ≡ Some op → Q op
of_memory_operator Q selects stores n op e =
    found_of Q (λ o. bytes_eq (memory_operator_name o) n) memory_operators op (
      selects accesses.Quad,
      (
        stores accesses.Quad,
        (
          selects accesses.Byte,
          (
            selects accesses.Word,
            (
              selects accesses.Long,
              (stores accesses.Byte, (stores accesses.Word, (stores accesses.Long, tt))),
            ),
          ),
        ),
      ),
    )
    e
