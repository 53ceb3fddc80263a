-- One item and one place more.
use Rattle.std.proofs.Common.{◌≡◌, ℕ, zero, suc, ◌+◌, ◌<◌, List, [], ◌∷◌, ◌++◌, length, map, take, get_or, refl, ◌∙◌, ap, arith, Bool, true, false, not, cond}
use Rattle.std.specs.Prelude.{filter}
use Rattle.std.proofs.lemmas.List.{take_more}
use Rattle.graph_meaning.specs.Graphs.{is_memory_name}
use Rattle.register_assign.specs.Listings.{items_from, item_of, target_place}
use Rattle.register_assign.specs.Places.{places}
use Rattle.graph_meaning.specs.declared.graphs.SetClass.{SetClass}
use Rattle.graph_meaning.specs.declared.graphs.LaunchGraph.{LaunchGraph}
use Rattle.register_assign.specs.declared.listings.Where.{Where}
use Rattle.machine_table.specs.declared.tables.Table.{Table}
use Rattle.schedule_meaning.specs.declared.schedules.Allocation.{Allocation}
use Rattle.schedule_meaning.specs.declared.schedules.Launch.{Launch}

module _ (g : LaunchGraph) (table : Table) (allocation : Allocation) (ordered : List Launch) where
  items_push : (i : ℕ) (ls : List Launch) (n : ℕ) (d : Launch) → n < length ls → items_from g table allocation ordered i (take (suc n) ls) ≡ items_from g table allocation ordered i (take n ls) ++ item_of g table allocation ordered (i + n) (get_or ls n d) ∷ []
  items_push i [] n d h = absurd (omega arith)
  items_push i (l ∷ ls) zero d h = ap (λ k. item_of g table allocation ordered k l ∷ []) (let e : i ≡ i + 0 = omega arith in e)
  items_push i (l ∷ ls) (suc n) d h =
      ap (λ xs. item_of g table allocation ordered i l ∷ xs) (items_push (i + 1) ls n d (omega arith))
      ∙ ap (λ k. item_of g table allocation ordered i l ∷ (items_from g table allocation ordered (i + 1) (take n ls) ++ item_of g table allocation ordered k (get_or ls n d) ∷ [])) (let e : i + 1 + n ≡ i + suc n = omega arith in e)

  pub items_more : (n : ℕ) (d : Launch) → n < length ordered → items_from g table allocation ordered 0 (take (n + 1) ordered) ≡ items_from g table allocation ordered 0 (take n ordered) ++ item_of g table allocation ordered n (get_or ordered n d) ∷ []
  items_more n d h =
      ap (λ k. items_from g table allocation ordered 0 (take k ordered)) (let e : n + 1 ≡ suc n = omega arith in e)
      ∙ items_push 0 ordered n d h
      ∙ ap (λ k. items_from g table allocation ordered 0 (take n ordered) ++ item_of g table allocation ordered k (get_or ordered n d) ∷ []) (let e : 0 + n ≡ n = omega arith in e)

module _ (g : LaunchGraph) (table : Table) (allocation : Allocation) (ordered : List Launch) where
  abbrev where_of : SetClass → Where
  where_of s = record { name = s.name; reg = target_place g table allocation ordered s }

  places_append : (ss ts : List SetClass) → places g table allocation ordered (ss ++ ts) ≡ places g table allocation ordered ss ++ places g table allocation ordered ts
  places_append [] ts = refl
  places_append (s ∷ ss) ts = by (not (is_memory_name s.name)) (places_append ss ts)
    where
      by : (b : Bool) → places g table allocation ordered (ss ++ ts) ≡ places g table allocation ordered ss ++ places g table allocation ordered ts → map where_of (cond b (s ∷ filter (λ s. not (is_memory_name s.name)) (ss ++ ts)) (filter (λ s. not (is_memory_name s.name)) (ss ++ ts))) ≡ map where_of (cond b (s ∷ filter (λ s. not (is_memory_name s.name)) ss) (filter (λ s. not (is_memory_name s.name)) ss)) ++ places g table allocation ordered ts
      by true e = ap (λ xs. where_of s ∷ xs) e
      by false e = e

  pub places_more : (n : ℕ) (d : SetClass) → n < length g.sets → places g table allocation ordered (take (n + 1) g.sets) ≡ places g table allocation ordered (take n g.sets) ++ places g table allocation ordered (get_or g.sets n d ∷ [])
  places_more n d h = ap (places g table allocation ordered) (take_more g.sets n d h) ∙ places_append (take n g.sets) (get_or g.sets n d ∷ [])
