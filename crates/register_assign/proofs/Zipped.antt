-- Loops over places: beside the launches that have them, and for the first that is free.
use Rattle.std.proofs.Common.{◌≡◌, ℕ, ◌+◌, ◌<◌, ◌≤◌, List, [], ◌∷◌, length, get_or, take, sym, ◌∙◌, ap, arith, Bool, true, false}
use Rattle.std.specs.Prelude.{◌||◌}
use Rattle.std.specs.List.{list_any, range_with_len, zip}
use Rattle.std.proofs.lemmas.List.{take_all, take_more}
use Rattle.std.proofs.lemmas.List.Folds.{list_any-append, list_any_at}
use Rattle.std.proofs.lemmas.List.FromFn.{get_or-range_with_len, length-range_with_len}
use Rattle.std.proofs.lemmas.List.Sums.{prefix_len_is}
use Rattle.std.proofs.lemmas.Slice.Zip.{get_or-zip, length-zip}
use Rattle.graph_meaning.specs.declared.graphs.LaunchGraph.{LaunchGraph}
use Rattle.schedule_meaning.specs.declared.schedules.Launch.{Launch}
use Rattle.register_assign.specs.PoolPlaces.{first_free, is_taken}

module _ (passes : Launch × ℕ → Bool) (ls : List Launch) (places : List ℕ) (le : length places ≤ length ls) where
  count : length (zip ls places) ≡ length places
  count = let zipped = length-zip ls places in omega (arith, zipped)

  module _ (i : ℕ) (d : Launch) (lt : i < length places) where
    pair : get_or (zip ls places) i (d, 0) ≡ (get_or ls i d, get_or places i 0)
    pair = get_or-zip ls places i (d, 0) (omega arith) lt

    pub one_passes : passes (get_or ls i d, get_or places i 0) ≡ true → list_any passes (zip ls places) ≡ true
    one_passes h =
        let n = count in list_any_at passes (zip ls places) i (d, 0) (omega (arith, n, lt)) (ap passes pair ∙ h)

    none_pushed : (b : Bool) → list_any passes (take i (zip ls places)) ≡ false → b ≡ false
        → (list_any passes (take i (zip ls places)) || (b || false)) ≡ false
    none_pushed b h f = ap (λ q. q || (b || false)) h ∙ ap (λ q. q || false) f

    pub none_more : list_any passes (take i (zip ls places)) ≡ false → passes (get_or ls i d, get_or places i 0) ≡ false
        → list_any passes (take (i + 1) (zip ls places)) ≡ false
    none_more h f =
        let n = count in
        ap (list_any passes) (take_more (zip ls places) i (d, 0) (omega (arith, n, lt)))
        ∙ list_any-append passes (take i (zip ls places)) (get_or (zip ls places) i (d, 0) ∷ [])
        ∙ none_pushed (passes (get_or (zip ls places) i (d, 0))) h (ap passes pair ∙ f)

  pub none_passes : (i : ℕ) → length places ≤ i → list_any passes (take i (zip ls places)) ≡ false
      → list_any passes (zip ls places) ≡ false
  none_passes i past h =
      let n = count in ap (list_any passes) (sym (take_all i (zip ls places) (omega (arith, n, past)))) ∙ h

-- the first place that isn't taken, or the pool's length where each is
pub first_is : (g : LaunchGraph) (ordered : List Launch) (places : List ℕ) (t n : ℕ) → n ≤ length g.pool
    → ((q : ℕ) → q < n → is_taken g ordered places t q ≡ true)
    → (n < length g.pool → is_taken g ordered places t n ≡ false) → n ≡ first_free g ordered places t
first_is g ordered places t n le before here =
    let total = length-range_with_len 0 (length g.pool) in
    sym (prefix_len_is (is_taken g ordered places t) (range_with_len 0 (length g.pool)) n 0 (omega (arith, total, le))
    (λ k lt. ap (is_taken g ordered places t) (at k (omega arith)) ∙ before k lt)
    (λ lt. let low : n < length g.pool = omega (arith, total, lt) in ap (is_taken g ordered places t) (at n low) ∙ here
    low))
  where
    at : (k : ℕ) → k < length g.pool → get_or (range_with_len 0 (length g.pool)) k 0 ≡ k
    at k lt = get_or-range_with_len 0 (length g.pool) k 0 lt ∙ (let e : 0 + k ≡ k = omega arith in e)
