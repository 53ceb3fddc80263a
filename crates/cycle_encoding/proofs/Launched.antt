-- Sums whose terms are equal at each thing, and slots of a use.
use Rattle.std.proofs.Common.{◌≡◌, ℕ, suc, ◌+◌, ◌*◌, ◌<◌, Bool, true, false, List, [], ◌∷◌, length, map, refl, sym, ap, ◌∙◌, subst, arith, inl, inr}
use Rattle.std.specs.Prelude.{◌&&◌, ◌==◌, Contains}
use Rattle.std.specs.List.{list_any, sum_by, range_with_len}
use Rattle.std.proofs.lemmas.Bool.{false≢true, cases_Bool, eqb-true, eq-eqb, false_from_ne_true}
use Rattle.std.proofs.lemmas.List.Sums.{sum_by-cons}
use Rattle.machine_table.specs.declared.tables.Table.{Table}
use Rattle.machine_table.specs.declared.tables.Use.{Use}
use Rattle.cycle_encoding.specs.Variables.{slots_of}
use Rattle.cycle_encoding.specs.Counts.{one_if}
use Rattle.cycle_encoding.proofs.Tests.{some_of, some_in}
use Rattle.cycle_encoding.proofs.Members.{here, later, filter-in, filter-out, range-in}

pub same-in : {X : Type 0} (f h : X → ℕ) (xs : List X) → ((x : X) → Contains xs x → f x ≡ h x) → sum_by f xs ≡ sum_by h xs
same-in f h [] e = refl
same-in f h (x ∷ xs) e =
    sum_by-cons f x xs ∙ ap (λ n. n + sum_by f xs) (e x (here x xs)) ∙ ap (λ n. h x + n) (same-in f h xs (λ y c. e y (later x y xs c))) ∙ sym (sum_by-cons h x xs)

pub size-map : {X A : Type 0} (f : X → A) (xs : List X) → length (map f xs) ≡ length xs
size-map f [] = refl
size-map f (x ∷ xs) = ap suc (size-map f xs)

pub both_one : (a b : Bool) → one_if a * one_if b ≡ one_if (a && b)
both_one true b = omega arith
both_one false b = omega arith

module _ (table : Table) where
  pub any-slot : (u : Use) (s : ℕ) → s < length table.slots → list_any (λ x. x == s) (slots_of table u) ≡ list_any (λ r. r == s) u.slots
  any-slot u s lt =
      elim (cases_Bool (list_any (λ r. r == s) u.slots)) [
        | inl t ↦ some_in (λ x. x == s) (slots_of table u) s (filter-in (λ s. list_any (λ r. r == s) u.slots) (range_with_len 0 (length table.slots)) s (range-in 0 (length table.slots) s (omega arith) (omega arith)) t) (eq-eqb s s refl) ∙ sym t
        | inr f ↦
            false_from_ne_true (list_any (λ x. x == s) (slots_of table u)) (λ t.
            let m = some_of (λ x. x == s) (slots_of table u) t in
            let p = filter-out (λ s. list_any (λ r. r == s) u.slots) (range_with_len 0 (length table.slots)) m.0 m.1 in
            false≢true (sym f ∙ subst (λ x. list_any (λ r. r == x) u.slots ≡ true) (eqb-true m.0 s m.2) p.1)) ∙ sym f
      ]
