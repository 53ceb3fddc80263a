-- A list that is sorted by cycle, group and slot is in word order.
use Rattle.std.proofs.Common.{◌≡◌, ℕ, zero, suc, ◌+◌, ◌<◌, ◌≤◌, List, length, sym, ◌∙◌, ap, subst, ◌-◌, inl, inr, ◌⊎◌, arith, false, get_or}
use Rattle.std.specs.Prelude.{AllPairs, IsPermutation}
use Rattle.std.specs.List.Sorted.{IsSortedByKey}
use Rattle.std.specs.declared.cmp.Ordering.{Ordering}
use Rattle.std.specs.Ordering.{nat_cmp, ordering_then, is_lt}
use Rattle.std.specs.declared.cmp.Ordering.TheVariants.{Less, Equal}
use Rattle.std.specs.Cmp.{nat_cmp_is}
use Rattle.std.proofs.lemmas.Bool.{false≢true}
use Rattle.schedule_meaning.specs.Launches.{StandsBefore, group_of, IsInWordOrder}
use Rattle.graph_meaning.specs.declared.graphs.LaunchGraph.{LaunchGraph}
use Rattle.schedule_meaning.specs.declared.schedules.Launch.{Launch}

one_of_three : (a b : ℕ) → (a < b) ⊎ (b < a) ⊎ (a ≡ b)
one_of_three a b = grind arith

less_is : (a b : ℕ) → a < b → nat_cmp a b ≡ Less
less_is a b h = sym (nat_cmp_is a b Less h)

equal_is : (a b : ℕ) → a ≡ b → nat_cmp a b ≡ Equal
equal_is a b h = sym (nat_cmp_is a b Equal h)

module _ (g : LaunchGraph) where
  abbrev pub word_place : Launch → ℕ × ℕ × ℕ
  word_place l = (l.cycle, group_of g l, l.slot)

  abbrev pub place_cmp : ℕ × ℕ × ℕ → ℕ × ℕ × ℕ → Ordering
  place_cmp x y = ordering_then (ordering_then (nat_cmp x.0 y.0) (nat_cmp x.1 y.1)) (nat_cmp x.2 y.2)

  by_slot : (l m : Launch) → is_lt (nat_cmp m.slot l.slot) ≡ false → l.slot ≤ m.slot
  by_slot l m h =
      elim (one_of_three m.slot l.slot) [
        | inl a ↦ absurd (false≢true (sym h ∙ ap is_lt (less_is m.slot l.slot a)))
        | inr r ↦ elim r [ inl a ↦ omega arith | inr a ↦ (let e : m.slot ≡ l.slot = a in omega arith) ]
      ]

  by_group : (l m : Launch) → is_lt (ordering_then (nat_cmp (group_of g m) (group_of g l)) (nat_cmp m.slot l.slot)) ≡ false → (group_of g l < group_of g m) ⊎ ((group_of g l ≡ group_of g m) × (l.slot ≤ m.slot))
  by_group l m h =
      elim (one_of_three (group_of g m) (group_of g l)) [
        | inl a ↦ absurd (false≢true (sym h ∙ ap (λ o. is_lt (ordering_then o (nat_cmp m.slot l.slot))) (less_is (group_of g m) (group_of g l) a)))
        | inr r ↦ elim r [
          | inl a ↦ inl a
          | inr a ↦ inr (sym a, by_slot l m (sym (ap (λ o. is_lt (ordering_then o (nat_cmp m.slot l.slot))) (equal_is (group_of g m) (group_of g l) a)) ∙ h))
        ]
      ]

  stands_from : (l m : Launch) → is_lt (place_cmp (word_place m) (word_place l)) ≡ false → StandsBefore g l m
  stands_from l m h =
      elim (one_of_three m.cycle l.cycle) [
        | inl a ↦ absurd (false≢true (sym h ∙ ap (λ o. is_lt (ordering_then (ordering_then o (nat_cmp (group_of g m) (group_of g l))) (nat_cmp m.slot l.slot))) (less_is m.cycle l.cycle a)))
        | inr r ↦ elim r [
          | inl a ↦ inl a
          | inr a ↦ inr (sym a, by_group l m (sym (ap (λ o. is_lt (ordering_then (ordering_then o (nat_cmp (group_of g m) (group_of g l))) (nat_cmp m.slot l.slot))) (equal_is m.cycle l.cycle a)) ∙ h))
        ]
      ]

  transitive : (a b c : Launch) → StandsBefore g a b → StandsBefore g b c → StandsBefore g a c
  transitive a b c (inl p) (inl q) = inl (omega arith)
  transitive a b c (inl p) (inr q) = inl (let e = q.0 in omega arith)
  transitive a b c (inr p) (inl q) = inl (let e = p.0 in omega arith)
  transitive a b c (inr (e, inl p)) (inr (f, inl q)) = inr (e ∙ f, inl (omega arith))
  transitive a b c (inr (e, inl p)) (inr (f, inr q)) = inr (e ∙ f, inl (let h = q.0 in omega arith))
  transitive a b c (inr (e, inr p)) (inr (f, inl q)) = inr (e ∙ f, inl (let h = p.0 in omega arith))
  transitive a b c (inr (e, inr p)) (inr (f, inr q)) = inr (e ∙ f, inr (p.0 ∙ q.0, (let h = p.1 in let k = q.1 in omega arith)))

  module _ (xs : List Launch) (up : IsSortedByKey word_place place_cmp xs) where
    next : (i : ℕ) (d : Launch) → i + 1 < length xs → StandsBefore g (get_or xs i d) (get_or xs (i + 1) d)
    next i d lt = stands_from (get_or xs i d) (get_or xs (i + 1) d) (up i d (omega arith) lt)

    far : (n i j : ℕ) (d : Launch) → j ≡ i + 1 + n → j < length xs → StandsBefore g (get_or xs i d) (get_or xs j d)
    far zero i j d e lt = (let same : i + 1 ≡ j = omega arith in subst_place same)
      where
        subst_place : i + 1 ≡ j → StandsBefore g (get_or xs i d) (get_or xs j d)
        subst_place same = subst (λ k. StandsBefore g (get_or xs i d) (get_or xs k d)) same (next i d (omega arith))
    far (suc n) i j d e lt = transitive (get_or xs i d) (get_or xs (i + 1) d) (get_or xs j d) (next i d (omega arith)) (far n (i + 1) j d (omega arith) lt)

    difference : (i j : ℕ) → i < j → (n : ℕ) × (j ≡ i + 1 + n)
    difference i j lt = (j - (i + 1), omega arith)

    pub in_order : AllPairs (StandsBefore g) xs
    in_order i j d lt len = (let n = difference i j lt in far n.0 i j d n.1 len)

  pub word_ordered : (ls xs : List Launch) → IsPermutation ls xs → IsSortedByKey word_place place_cmp xs → IsInWordOrder g ls xs
  word_ordered ls xs same up = record { same = same; order = in_order xs up }
