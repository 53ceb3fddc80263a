-- Whether a row reads a class, operand by operand.
use Rattle.std.proofs.Common.{◌≡◌, ℕ, ◌+◌, ◌<◌, ◌≤◌, Bool, true, false, not, cond, List, [], ◌∷◌, length, get_or, take, map, refl, sym, ap, ◌∙◌, Option, Some, None}
use Rattle.std.specs.Prelude.{◌&&◌, ◌||◌, ◌==◌, slice_get}
use Rattle.std.specs.Option.{option_map_or}
use Rattle.std.specs.List.{filter, list_any}
use Rattle.std.proofs.lemmas.Bool.{and_parts, eqb-true, false≢true, not-true, or_from}
use Rattle.std.proofs.lemmas.List.{take_all, take_more}
use Rattle.std.proofs.lemmas.List.Folds.{list_any-append}
use Rattle.std.proofs.lemmas.Option.{slice_get-get_or}
use Rattle.graph_meaning.specs.declared.graphs.LaunchGraph.{LaunchGraph}
use Rattle.schedule_meaning.specs.Launches.{memory_class_at, operands_at, plain}
use Rattle.schedule_meaning.specs.declared.schedules.Operand.{Operand}
use Rattle.cycle_encoding.specs.Counts.{row_is}
use Rattle.cycle_encoding.specs.Facts.{classes_among}
use Rattle.cycle_encoding.specs.Families.{is_free}
use Rattle.cycle_encoding.specs.Narrow.{accesses}
use Rattle.cycle_encoding.proofs.RowFacts.{got}
use Rattle.slot_capacity.specs.Makers.{has, reads_of}
use Rattle.slot_capacity.proofs.Coming.{reads-operand}

module _ (g : LaunchGraph) (row class : ℕ) where
  abbrev pub reads_it : Operand → Bool
  reads_it o = not (is_free g o) && (o.class == class)

  abbrev os : List Operand
  os = operands_at g row

  -- the operand at a place is of the class
  pub reads-found : (at : ℕ) → option_map_or reads_it (slice_get os at) false ≡ true → true ≡ has (reads_of g row) class
  reads-found at h = found (slice_get os at) refl h
    where
      found : (o : Option Operand) → slice_get os at ≡ o → option_map_or reads_it o false ≡ true
          → true ≡ has (reads_of g row) class
      found None e t = absurd (false≢true t)
      found (Some o) e t =
          let p = and_parts (not (is_free g o)) (o.class == class) t in
          sym (reads-operand g row class o (got os at o e) (not-true (is_free g o) p.0) (eqb-true o.class class p.1))

  -- none so far is
  pub reads-none : (at : ℕ) → at < length os → list_any reads_it (take at os) ≡ false
      → option_map_or reads_it (slice_get os at) false ≡ false → list_any reads_it (take (at + 1) os) ≡ false
  reads-none at lt h f =
      let o = get_or os at (plain 0) in
      let none : reads_it o ≡ false =
      ap (λ x. option_map_or reads_it x false) (sym (slice_get-get_or os at (plain 0) lt)) ∙ f in
      ap (list_any reads_it) (take_more os at (plain 0) lt)
      ∙ list_any-append reads_it (take at os) (o ∷ [])
      ∙ or_from (list_any reads_it (take at os)) (list_any reads_it (o ∷ [])) h (or_from (reads_it o) false none refl)

  among_any : (xs : List Operand)
      → list_any (λ y. y == class) (classes_among (λ o. not (is_free g o)) xs) ≡ list_any reads_it xs
  among_any [] = refl
  among_any (o ∷ xs) = by_case (not (is_free g o)) (among_any xs)
    where
      by_case : (b : Bool)
          → list_any (λ y. y == class) (classes_among (λ o. not (is_free g o)) xs) ≡ list_any reads_it xs
          → list_any (λ y. y == class) (map (λ (o : Operand). o.class)
          (cond b (o ∷ filter (λ o. not (is_free g o)) xs) (filter (λ o. not (is_free g o)) xs)))
          ≡ ((b && (o.class == class)) || list_any reads_it xs)
      by_case true rest = ap (λ b. (o.class == class) || b) rest
      by_case false rest = rest

  memory_any : (b : Bool) (m : ℕ) → list_any (λ y. y == class) (cond b (m ∷ []) []) ≡ (b && (m == class))
  memory_any true m = or_none (m == class)
    where
      or_none : (b : Bool) → (b || false) ≡ b
      or_none true = refl
      or_none false = refl
  memory_any false m = refl

  -- where no operand is, the memory may be
  pub reads-memory : (at : ℕ) → length os ≤ at → list_any reads_it (take at os) ≡ false
      → has (reads_of g row) class ≡ (row_is g accesses row && (memory_class_at g row == class))
  reads-memory at le h =
      list_any-append (λ y. y == class) (classes_among (λ o. not (is_free g o)) os)
      (cond (row_is g accesses row) (memory_class_at g row ∷ []) [])
      ∙ ap (λ b. b || list_any (λ y. y == class) (cond (row_is g accesses row) (memory_class_at g row ∷ []) []))
      (among_any os ∙ sym (ap (list_any reads_it) (take_all at os le)) ∙ h)
      ∙ memory_any (row_is g accesses row) (memory_class_at g row)
