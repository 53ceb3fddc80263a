-- Names and numbers of instructions, both ways.
use Rattle.std.proofs.Common.{◌≡◌, ◌↔◌, ℕ, ◌<◌, List, [], ◌∷◌, Bool, true, false, cond, Option, Some, find, bytes_eq, map, ◌++◌, refl, sym, ap, ap₂, subst, ◌∙◌, arith}
use Rattle.std.specs.Option.{option_map}
use Rattle.std.specs.Prelude.{◌==◌, ◌≤◌, None, IfSome}
use Rattle.std.proofs.lemmas.Slice.Eq.{bytes_eq-Decides}
use Rattle.std.proofs.lemmas.Option.{same_Some, none-some}
use Rattle.text_core.specs.Names.{IsName}
use Rattle.word_ops.specs.Names.{name_of}
use Rattle.word_ops.specs.Operators.{number_of}
use Rattle.word_ops.specs.declared.operators.WordOp.{WordOp}
use Rattle.word_ops.specs.declared.operators.WordOp.TheVariants as ops
use Rattle.word_ops.specs.Operates.{operates, row_of}
use Rattle.word_ops.specs.declared.operates.Operate.{Operate as OperateOf}
use Rattle.word_ops.specs.declared.operates.Operate.TheVariants.{Addl}
use Rattle.word_ops.specs.declared.sorts.Access.TheVariants.{Quad, Byte, Word, Long}
use Rattle.machine_table.specs.InstrOrder.{instr_name, instr_named, instructions, other_instructions, kind_number, operate_kind}
use Rattle.machine_table.specs.declared.tables.InstrKind.{InstrKind}
use Rattle.machine_table.specs.declared.tables.InstrKind.TheVariants.{Operate, Load, Store}

pub is_named : (instr : InstrKind) → IsName (instr_name instr)
is_named (Operate Addl) = record { begins = refl; each = refl }
is_named (Operate _) = record { begins = refl; each = refl }
is_named (Load Quad) = record { begins = refl; each = refl }
is_named (Load Byte) = record { begins = refl; each = refl }
is_named (Load Word) = record { begins = refl; each = refl }
is_named (Load Long) = record { begins = refl; each = refl }
is_named (Store Quad) = record { begins = refl; each = refl }
is_named (Store Byte) = record { begins = refl; each = refl }
is_named (Store Word) = record { begins = refl; each = refl }
is_named (Store Long) = record { begins = refl; each = refl }
is_named _ = record { begins = refl; each = refl }

pub found : (instr : InstrKind) → instr_named (instr_name instr) ≡ Some instr
unfolding instr_named
found (Operate Addl) = refl
found (Operate _) = refl
found (Load Quad) = refl
found (Load Byte) = refl
found (Load Word) = refl
found (Load Long) = refl
found (Store Quad) = refl
found (Store Byte) = refl
found (Store Word) = refl
found (Store Long) = refl
found _ = refl

own_in : (name : List ℕ) (among : List InstrKind) (instr : InstrKind) → find (λ i. bytes_eq (instr_name i) name) among ≡ Some instr → instr_name instr ≡ name
own_in name [] instr e = absurd (none-some instr e)
own_in name (one ∷ others) instr e = step (bytes_eq (instr_name one) name) refl e (own_in name others instr)
  where
    step : (b : Bool) → bytes_eq (instr_name one) name ≡ b → cond b (Some one) (find (λ i. bytes_eq (instr_name i) name) others) ≡ Some instr → (find (λ i. bytes_eq (instr_name i) name) others ≡ Some instr → instr_name instr ≡ name) → instr_name instr ≡ name
    step true same e rest = subst (λ i. instr_name i ≡ name) (same_Some one instr e) ((bytes_eq-Decides (instr_name one) name).0 same)
    step false other e rest = rest e

pub own : (name : List ℕ) (instr : InstrKind) → instr_named name ≡ Some instr → instr_name instr ≡ name
unfolding instr_named
own name instr e = own_in name instructions instr e

pub below : (instr : InstrKind) → kind_number instr < 66
below (Operate Addl) = omega arith
below (Operate _) = omega arith
below (Load Quad) = omega arith
below (Load Byte) = omega arith
below (Load Word) = omega arith
below (Load Long) = omega arith
below (Store Quad) = omega arith
below (Store Byte) = omega arith
below (Store Word) = omega arith
below (Store Long) = omega arith
below _ = omega arith

numbered : ℕ → Option InstrKind
numbered n = find (λ i. kind_number i == n) instructions

numbered_back : (instr : InstrKind) → numbered (kind_number instr) ≡ Some instr
unfolding numbered
numbered_back (Operate Addl) = refl
numbered_back (Operate _) = refl
numbered_back (Load Quad) = refl
numbered_back (Load Byte) = refl
numbered_back (Load Word) = refl
numbered_back (Load Long) = refl
numbered_back (Store Quad) = refl
numbered_back (Store Byte) = refl
numbered_back (Store Word) = refl
numbered_back (Store Long) = refl
numbered_back _ = refl

pub once : (instr other : InstrKind) → kind_number instr ≡ kind_number other → instr ≡ other
once instr other e = same_Some instr other (sym (numbered_back instr) ∙ ap numbered e ∙ numbered_back other)

-- ---- a search among the operates, and then among the others

abbrev or_else : {X : Type 0} → Option X → Option X → Option X
or_else None other = other
or_else (Some x) other = Some x

find_parts : {X Y : Type 0} (f : X → Y) (p : Y → Bool) (xs : List X) (ys : List Y) →
    find p (map f xs ++ ys) ≡ or_else (option_map f (find (λ x. p (f x)) xs)) (find p ys)
find_parts f p [] ys = refl
find_parts f p (x ∷ xs) ys = at (p (f x)) (find_parts f p xs ys)
  where
    at : (b : Bool) → find p (map f xs ++ ys) ≡ or_else (option_map f (find (λ x. p (f x)) xs)) (find p ys) →
        cond b (Some (f x)) (find p (map f xs ++ ys)) ≡ or_else (option_map f (cond b (Some x) (find (λ x. p (f x)) xs))) (find p ys)
    at true rest = refl
    at false rest = rest

pub named_by : (name : List ℕ) (operate : Option OperateOf) (other : Option InstrKind) →
    operate ≡ find (λ o. bytes_eq (row_of o).name name) operates → other ≡ find (λ i. bytes_eq (instr_name i) name) other_instructions →
    or_else (option_map Operate operate) other ≡ instr_named name
unfolding instr_named
named_by name operate other is other_is =
    ap₂ (λ o i. or_else (option_map Operate o) i) is other_is
    ∙ sym (find_parts Operate (λ i. bytes_eq (instr_name i) name) operates other_instructions)

pub found_by : (name : List ℕ) (result : Option InstrKind) → result ≡ instr_named name → (instr : InstrKind) → (result ≡ Some instr) ↔ (instr_name instr ≡ name)
found_by name result is instr = (λ e. own name instr (sym is ∙ e), λ e. is ∙ ap instr_named (sym e) ∙ found instr)

-- ---- operates and their operators

pub operate_is : (op : WordOp) (instr : InstrKind) → operate_kind op ≡ Some instr → (instr_name instr ≡ name_of op) × (kind_number instr ≡ number_of op)
operate_is (ops.Operate operate) instr e =
    let same = same_Some (Operate operate) instr e in
    (sym (ap instr_name same), sym (ap kind_number same))
operate_is _ instr e = absurd (none-some _ e)

pub no_operate : (op : WordOp) → operate_kind op ≡ None → 55 ≤ number_of op
no_operate (ops.Operate operate) e = absurd (none-some _ (sym e))
no_operate _ e = omega arith
