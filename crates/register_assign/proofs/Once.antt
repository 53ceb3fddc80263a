-- A schedule that fits has one word order, and so one listing.
use Rattle.std.proofs.Common.{◌≡◌, ℕ, zero, suc, ◌<◌, List, [], ◌∷◌, length, refl, sym, ◌∙◌, ap, subst, inl, inr, ◌⊎◌, arith, get_or}
use Rattle.std.specs.Prelude.{AllPairs, Contains}
use Rattle.std.proofs.lemmas.List.Sorted.{Contains-permutation, IsPermutation-sym}
use Rattle.schedule_meaning.specs.Launches.{StandsBefore, IsInWordOrder}
use Rattle.schedule_meaning.specs.Fits.{Collide, Fits}
use Rattle.register_assign.specs.Listings.{IsListing, items_of, wheres_of}
use Rattle.graph_meaning.specs.declared.graphs.LaunchGraph.{LaunchGraph}
use Rattle.register_assign.specs.declared.listings.Item.{Item}
use Rattle.register_assign.specs.declared.listings.Where.{Where}
use Rattle.machine_table.specs.declared.tables.Table.{Table}
use Rattle.schedule_meaning.specs.declared.schedules.Allocation.{Allocation}
use Rattle.schedule_meaning.specs.declared.schedules.Launch.{Launch}
use Rattle.schedule_meaning.proofs.Memory.{contains_first, contains_later}
use Rattle.schedule_meaning.proofs.Ordered.{fits_permuted}

module _ {X : Type 0} (S : X → X → Type 0) (asymmetric : (a b : X) → S a b → S b a → ⊥) where
  cases_at : (y : X) (ys : List X) (x : X) (k : ℕ) → k < suc (length ys) → get_or (y ∷ ys) k x ≡ x → (y ≡ x) ⊎ Contains ys x
  cases_at y ys x zero l e = inl e
  cases_at y ys x (suc k) l e = inr (k, omega arith, e)

  contains_cases : (y : X) (ys : List X) (x : X) → Contains (y ∷ ys) x → (y ≡ x) ⊎ Contains ys x
  contains_cases y ys x h = cases_at y ys x h.0 h.1 h.2

  contains_none : (x : X) → ¬ Contains [] x
  contains_none x h = let l : h.0 < 0 = h.1 in absurd (omega arith)

  before_rest : (x : X) (xs : List X) → AllPairs S (x ∷ xs) → (z : X) → Contains xs z → S x z
  before_rest x xs h z c = subst (S x) c.2 (h 0 (suc c.0) z (omega arith) (let l = c.1 in omega arith))

  rest : (x : X) (xs : List X) → AllPairs S (x ∷ xs) → AllPairs S xs
  rest x xs h i j d lt len = h (suc i) (suc j) d (omega arith) (omega arith)

  same_head : (x y : X) (xs ys : List X) → AllPairs S (x ∷ xs) → AllPairs S (y ∷ ys) → Contains (y ∷ ys) x → Contains (x ∷ xs) y → x ≡ y
  same_head x y xs ys p q cx cy =
      elim (contains_cases y ys x cx) [
        | inl e ↦ sym e
        | inr c ↦ elim (contains_cases x xs y cy) [ inl e ↦ e | inr d ↦ absurd (asymmetric x y (before_rest x xs p y d) (before_rest y ys q x c)) ]
      ]

  in_rest : (x y : X) (xs ys : List X) → AllPairs S (x ∷ xs) → x ≡ y → (z : X) → Contains xs z → Contains (y ∷ ys) z → Contains ys z
  in_rest x y xs ys p e z c d =
      elim (contains_cases y ys z d) [
        | inl f ↦ (let s : S x x = subst (S x) (sym (e ∙ f)) (before_rest x xs p z c) in absurd (asymmetric x x s s))
        | inr h ↦ h
      ]

  -- two lists of the same elements, each in order, are one list
  pub one_order : (xs ys : List X) → AllPairs S xs → AllPairs S ys → ((z : X) → Contains xs z → Contains ys z) → ((z : X) → Contains ys z → Contains xs z) → xs ≡ ys
  one_order [] [] p q to from = refl
  one_order [] (y ∷ ys) p q to from = absurd (contains_none y (from y (contains_first y ys)))
  one_order (x ∷ xs) [] p q to from = absurd (contains_none x (to x (contains_first x xs)))
  one_order (x ∷ xs) (y ∷ ys) p q to from =
      let e : x ≡ y = same_head x y xs ys p q (to x (contains_first x xs)) (from y (contains_first y ys)) in
      ap (λ z. z ∷ xs) e
      ∙ ap (λ zs. y ∷ zs) (one_order xs ys (rest x xs p) (rest y ys q) (λ z c. in_rest x y xs ys p e z c (to z (contains_later x z xs c))) (λ z c. in_rest y x ys xs q (sym e) z c (from z (contains_later y z ys c))))

module _ (g : LaunchGraph) where
  abbrev Strictly : Launch → Launch → Type 0
  Strictly l m = StandsBefore g l m × ¬ Collide l m

  asymmetric : (l m : Launch) → Strictly l m → Strictly m l → ⊥
  asymmetric l m h k = by h.0 k.0
    where
      by : StandsBefore g l m → StandsBefore g m l → ⊥
      by (inl a) (inl b) = absurd (omega arith)
      by (inl a) (inr b) = let e = b.0 in absurd (omega arith)
      by (inr a) (inl b) = let e = a.0 in absurd (omega arith)
      by (inr (c, inl a)) (inr (d, inl b)) = absurd (omega arith)
      by (inr (c, inl a)) (inr (d, inr b)) = let e = b.0 in absurd (omega arith)
      by (inr (c, inr a)) (inr (d, inl b)) = let e = a.0 in absurd (omega arith)
      by (inr (c, inr a)) (inr (d, inr b)) = let f = a.1 in let e = b.1 in h.1 (c, omega arith)

  module _ (table : Table) (allocation : Allocation) (k : ℕ) (ls : List Launch) (fits : Fits g table allocation k ls)
    where
      strictly : (ordered : List Launch) → IsInWordOrder g ls ordered → AllPairs Strictly ordered
      strictly ordered o i j d lt len = (o.order i j d lt len, (fits_permuted g table allocation k ls ordered o.same fits).apart i j d lt len)

      pub one_word_order : (xs ys : List Launch) → IsInWordOrder g ls xs → IsInWordOrder g ls ys → xs ≡ ys
      one_word_order xs ys p q =
          one_order Strictly asymmetric xs ys (strictly xs p) (strictly ys q)
          (λ z c. Contains-permutation ls ys z q.same (Contains-permutation xs ls z (IsPermutation-sym ls xs p.same) c))
          (λ z c. Contains-permutation ls xs z p.same (Contains-permutation ys ls z (IsPermutation-sym ls ys q.same) c))

      pub one_listing : (items others : List Item) (wheres places : List Where) → IsListing g table allocation ls items wheres → IsListing g table allocation ls others places → (items ≡ others) × (wheres ≡ places)
      one_listing items others wheres places a b =
          let e : a.ordered ≡ b.ordered = one_word_order a.ordered b.ordered a.order b.order in
          (a.items_are ∙ ap (items_of g table allocation) e ∙ sym b.items_are, a.wheres_are ∙ ap (wheres_of g table allocation) e ∙ sym b.wheres_are)
