-- The slots of rows, and whether they are those of a group.
use Rattle.std.proofs.Common.{◌≡◌, ℕ, ◌+◌, ◌<◌, Bool, true, false, cond, List, [], ◌∷◌, ◌++◌, length, refl, sym, ap, subst, ◌∙◌, arith, inl, inr, Option, Some, None}
use Rattle.std.specs.Prelude.{◌==◌, ◌||◌, not, Contains, option_and_then}
use Rattle.std.specs.Option.{option_map_or}
use Rattle.std.specs.List.{filter, list_all, list_any, range_with_len}
use Rattle.std.proofs.lemmas.Bool.{and_from, and_parts, false≢true, false_from_ne_true, not_from_true, not-false, or_cases, or_parts}
use Rattle.std.proofs.lemmas.List.Elements.{filter-append}
use Rattle.machine_table.specs.Tables.{use_of}
use Rattle.machine_table.specs.declared.tables.InstrKind.{InstrKind}
use Rattle.machine_table.specs.declared.tables.Table.{Table}
use Rattle.machine_table.specs.declared.tables.Use.{Use}
use Rattle.graph_meaning.specs.declared.graphs.LaunchGraph.{LaunchGraph}
use Rattle.schedule_meaning.specs.Launches.{instr_at}
use Rattle.cycle_encoding.specs.Facts.{may_use}
use Rattle.cycle_encoding.specs.Variables.{slots_of}
use Rattle.cycle_encoding.proofs.Members.{either, filter-in, here, later, nothing, range-in}
use Rattle.cycle_encoding.proofs.Rows.{range_more}
use Rattle.slot_capacity.specs.Limits.{row_belongs, row_slots}
use Rattle.slot_capacity.specs.Makers.{has}
use Rattle.slot_capacity.proofs.Loops.{none-pass}

-- ---- what holds of all

module _ {X : Type 0} (p : X → Bool) where
  pub all-at : (xs : List X) (x : X) → list_all p xs ≡ true → Contains xs x → p x ≡ true
  all-at [] x h c = absurd (nothing x c)
  all-at (y ∷ xs) x h c =
      let q = and_parts (p y) (list_all p xs) h in
      elim (either y x xs c) [
        | inl e ↦ subst (λ z. p z ≡ true) e q.0
        | inr d ↦ all-at xs x q.1 d
      ]

  pub all-from : (xs : List X) → ((x : X) → Contains xs x → p x ≡ true) → list_all p xs ≡ true
  all-from [] h = refl
  all-from (y ∷ xs) h = and_from (p y) (list_all p xs) (h y (here y xs)) (all-from xs (λ x c. h x (later y x xs c)))

  all-append : (xs ys : List X) → list_all p xs ≡ true → list_all p ys ≡ true → list_all p (xs ++ ys) ≡ true
  all-append [] ys h k = k
  all-append (x ∷ xs) ys h k =
      let q = and_parts (p x) (list_all p xs) h in
      and_from (p x) (list_all p (xs ++ ys)) q.0 (all-append xs ys q.1 k)

-- ---- a row's slots

module _ (g : LaunchGraph) (table : Table) (group : List ℕ) (row : ℕ) (i : InstrKind) (ei : instr_at g row ≡ Some i)
  where
    allowed : (o : Option Use) → use_of table i ≡ o
        → option_map_or (slots_of table) o [] ≡ filter (may_use table i) (range_with_len 0 (length table.slots))
    allowed None e =
        sym (none-pass (may_use table i) (range_with_len 0 (length table.slots))
        (λ s h. ap (λ o. option_map_or (λ u. list_any (λ r. r == s) u.slots) o false) e))
    allowed (Some u) e =
        sym (ap (λ o. filter (λ s. option_map_or (λ (u : Use). list_any (λ r. r == s) u.slots) o false)
        (range_with_len 0 (length table.slots))) e)

    pub slots-allowed : row_slots g table row ≡ filter (may_use table i) (range_with_len 0 (length table.slots))
    slots-allowed =
        ap (λ o. option_map_or (slots_of table) (option_and_then (use_of table) o) []) ei ∙ allowed (use_of table i) refl

    -- as far as slot n, each allowed slot is one of the group
    abbrev up_to : ℕ → Bool
    up_to n = list_all (has group) (filter (may_use table i) (range_with_len 0 n))

    abbrev slot_fits : ℕ → Bool
    slot_fits n = not (may_use table i n) || has group n

    one_slot : (n : ℕ) (b : Bool) → may_use table i n ≡ b → slot_fits n ≡ true
        → list_all (has group) (cond b (n ∷ []) []) ≡ true
    one_slot n false e h = refl
    one_slot n true e h = elim (or_cases (not (may_use table i n)) (has group n) h) [
      | inl f ↦ absurd (false≢true (sym (not_from_true (may_use table i n) e) ∙ f))
      | inr t ↦ and_from (has group n) true t refl
    ]

    pub slot-more : (n : ℕ) → up_to n ≡ true → slot_fits n ≡ true → up_to (n + 1) ≡ true
    slot-more n h k =
        ap (λ xs. list_all (has group) (filter (may_use table i) xs)) (range_more n)
        ∙ ap (list_all (has group)) (filter-append (may_use table i) (range_with_len 0 n) (n ∷ []))
        ∙ all-append (has group) (filter (may_use table i) (range_with_len 0 n)) (cond (may_use table i n) (n ∷ []) []) h
        (one_slot n (may_use table i n) refl k)

    pub slots-done : up_to (length table.slots) ≡ true → true ≡ row_belongs g table group row
    slots-done h = sym (ap (list_all (has group)) slots-allowed ∙ h)

    pub slot-not : (n : ℕ) → n < length table.slots → slot_fits n ≡ false → false ≡ row_belongs g table group row
    slot-not n lt f =
        let p = or_parts (not (may_use table i n)) (has group n) f in
        let there : Contains (row_slots g table row) n =
        subst (λ (xs : List ℕ). Contains xs n) (sym slots-allowed)
        (filter-in (may_use table i) (range_with_len 0 (length table.slots)) n
        (range-in 0 (length table.slots) n (omega arith) (omega arith)) (not-false (may_use table i n) p.0)) in
        sym (false_from_ne_true (row_belongs g table group row)
        (λ t. false≢true (sym p.1 ∙ all-at (has group) (row_slots g table row) n t there)))
