-- A search for an operator's own name finds that operator: so no two operators have one name, and none is missed.
use Rattle.std.proofs.Common.{◌≡◌, ◌↔◌, ℕ, List, [], ◌∷◌, Bool, true, false, cond, Option, Some, None, find, bytes_eq, map, refl, sym, ap, subst, ◌∙◌}
use Rattle.std.proofs.lemmas.Slice.Eq.{bytes_eq-Decides}
use Rattle.word_ops.specs.declared.operates.Operate.{Operate as OperateOf}
use Rattle.word_ops.specs.declared.operates.Operate.TheVariants.{Addl}
use Rattle.word_ops.specs.declared.operators.WordOp.{WordOp}
use Rattle.word_ops.specs.declared.operators.WordOp.TheVariants.{Operate, Neg}
use Rattle.word_ops.specs.Operates.{operates, row_of}
use Rattle.word_ops.specs.Operators.{others}
use Rattle.word_ops.specs.Names.{name_of}

abbrev operate_named : List ℕ → Option OperateOf
operate_named name = find (λ operate. bytes_eq (row_of operate).name name) operates

abbrev other_named : List ℕ → Option WordOp
other_named name = find (λ op. bytes_eq (name_of op) name) others

-- an operate of the name, or else one of the others
first : Option OperateOf → Option WordOp → Option WordOp
first None other = other
first (Some operate) other = Some (Operate operate)

named : List ℕ → Option WordOp
named name = first (operate_named name) (other_named name)

named_back : (op : WordOp) → named (name_of op) ≡ Some op
unfolding named first
named_back (Operate Addl) = refl
named_back (Operate _) = refl
named_back _ = refl

some_same : {X : Type 0} (a b : X) → Some a ≡ Some b → a ≡ b
some_same a b e = cc

none_some : {X : Type 0} (a : X) → None ≡ Some a → ⊥
none_some a e = cc

pub same_name : (a b : WordOp) → name_of a ≡ name_of b → a ≡ b
same_name a b e = some_same a b (sym (named_back a) ∙ ap named e ∙ named_back b)

-- what a search finds has the name
found_has : {X : Type 0} (name_at : X → List ℕ) (name : List ℕ) (among : List X) (x : X) → find (λ y. bytes_eq (name_at y) name) among ≡ Some x → name_at x ≡ name
found_has name_at name [] x e = absurd (none_some x e)
found_has name_at name (one ∷ rest) x e = at (bytes_eq (name_at one) name) refl e (found_has name_at name rest x)
  where
    at : (b : Bool) → bytes_eq (name_at one) name ≡ b → cond b (Some one) (find (λ y. bytes_eq (name_at y) name) rest) ≡ Some x → (find (λ y. bytes_eq (name_at y) name) rest ≡ Some x → name_at x ≡ name) → name_at x ≡ name
    at true same e later = subst (λ y. name_at y ≡ name) (some_same one x e) ((bytes_eq-Decides (name_at one) name).0 same)
    at false other e later = later e

named_has : (name : List ℕ) (op : WordOp) → named name ≡ Some op → name_of op ≡ name
unfolding named first
named_has name op = at (operate_named name) refl
  where
    at : (found : Option OperateOf) → operate_named name ≡ found → first found (other_named name) ≡ Some op → name_of op ≡ name
    at None none e = found_has name_of name others op e
    at (Some operate) is e = subst (λ o. name_of o ≡ name) (some_same (Operate operate) op e) (found_has (λ o. (row_of o).name) name operates operate is)

pub found_operate : (name : List ℕ) (operate : OperateOf) → operate_named name ≡ Some operate → (op : WordOp) → (Some (Operate operate) ≡ Some op) ↔ (name_of op ≡ name)
unfolding named first
found_operate name operate is op =
    let whole : named name ≡ Some (Operate operate) = ap (λ found. first found (other_named name)) is in
    ((λ e. named_has name op (whole ∙ e)), (λ e. sym whole ∙ ap named (sym e) ∙ named_back op))

pub found_other : (name : List ℕ) (result : Option WordOp) → operate_named name ≡ None → result ≡ other_named name → (op : WordOp) → (result ≡ Some op) ↔ (name_of op ≡ name)
unfolding named first
found_other name result none is op =
    let whole : named name ≡ result = ap (λ found. first found (other_named name)) none ∙ sym is in
    ((λ e. named_has name op (whole ∙ e)), (λ e. sym whole ∙ ap named (sym e) ∙ named_back op))
