-- Numbers of a range, one more at a time, and slots that a table allows.
use Rattle.std.proofs.Common.{◌≡◌, ℕ, ◌+◌, Bool, true, false, cond, List, ◌∷◌, ◌++◌, [], Option, Some, None, refl, sym, ap, ◌∙◌, subst}
use Rattle.std.specs.Prelude.{◌==◌, ◌↔◌, IsTrue, IsSomeAnd, Contains}
use Rattle.std.specs.Option.{option_map_or}
use Rattle.std.specs.List.{filter, flat_map, list_any, range_with_len}
use Rattle.std.proofs.lemmas.Bool.{false≢true, eqb-true, eq-eqb, false_from_ne_true}
use Rattle.std.proofs.lemmas.List.{append-nil}
use Rattle.std.proofs.lemmas.List.Elements.{filter-append}
use Rattle.std.proofs.lemmas.List.Concat.{flat_map-append}
use Rattle.machine_table.specs.Tables.{use_of, MayUse}
use Rattle.machine_table.specs.declared.tables.Table.{Table}
use Rattle.machine_table.specs.declared.tables.Use.{Use}
use Rattle.machine_table.specs.declared.tables.InstrKind.{InstrKind}
use Rattle.cycle_encoding.specs.Facts.{may_use}
use Rattle.cycle_encoding.proofs.Rows.{range_more}
use Rattle.cycle_encoding.proofs.Tests.{some_in, some_of}

-- one more number of a range, filtered or not
module _ {X : Type 0} (f : ℕ → List X) where
  pub flat_more : (n : ℕ) → flat_map f (range_with_len 0 (n + 1)) ≡ flat_map f (range_with_len 0 n) ++ f n
  flat_more n = ap (flat_map f) (range_more n) ∙ flat_map-append f (range_with_len 0 n) (n ∷ []) ∙ ap (λ ys. flat_map f (range_with_len 0 n) ++ ys) (append-nil (f n))

  module _ (test : ℕ → Bool) where
    kept_one : (n : ℕ) (b : Bool) → test n ≡ b → flat_map f (filter test (n ∷ [])) ≡ cond b (f n) []
    kept_one n true e = ap (λ c. flat_map f (cond c (n ∷ []) [])) e ∙ append-nil (f n)
    kept_one n false e = ap (λ c. flat_map f (cond c (n ∷ []) [])) e

    pub kept_more : (n : ℕ) (b : Bool) → test n ≡ b → flat_map f (filter test (range_with_len 0 (n + 1))) ≡ flat_map f (filter test (range_with_len 0 n)) ++ cond b (f n) []
    kept_more n b e =
        ap (λ xs. flat_map f (filter test xs)) (range_more n)
        ∙ ap (flat_map f) (filter-append test (range_with_len 0 n) (n ∷ []))
        ∙ flat_map-append f (filter test (range_with_len 0 n)) (filter test (n ∷ []))
        ∙ ap (λ ys. flat_map f (filter test (range_with_len 0 n)) ++ ys) (kept_one n b e)

-- a slot that the table allows
module _ (slot : ℕ) where
  some_use : (o : Option Use) (b : Bool) → (IsTrue b ↔ IsSomeAnd o (λ u. Contains u.slots slot)) → b ≡ option_map_or (λ u. list_any (λ r. r == slot) u.slots) o false
  some_use None true h = absurd (h.0 refl)
  some_use None false h = refl
  some_use (Some u) true h = sym (some_in (λ r. r == slot) u.slots slot (h.0 refl) (eq-eqb slot slot refl))
  some_use (Some u) false h =
      sym (false_from_ne_true (list_any (λ r. r == slot) u.slots) (λ t.
      let m = some_of (λ r. r == slot) u.slots t in
      false≢true (h.1 (subst (λ x. Contains u.slots x) (eqb-true m.0 slot m.2) m.1))))

pub may_is : (table : Table) (instr : InstrKind) (slot : ℕ) (b : Bool) → (IsTrue b ↔ MayUse table instr slot) → b ≡ may_use table instr slot
may_is table instr slot b h = some_use slot (use_of table instr) b h
