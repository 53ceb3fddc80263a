-- Whether matches of some schemes are unmet, from what a search found.
use Rattle.std.proofs.Common.{◌≡◌, ℕ, ◌+◌, ◌<◌, ◌≤◌, false, List, [], ◌∷◌, ◌++◌, map, length, take, get_or, Contains, All, sym, ap, ◌∙◌, subst, inl, inr, arith}
use Rattle.std.specs.Prelude.{IsTrue, ◌↔◌}
use Rattle.std.proofs.lemmas.List.{length-map, get_or-map}
use Rattle.std.proofs.lemmas.List.Elements.{Contains-append_left, Contains-append_right, Contains-append_cases}
use Rattle.word_ops.specs.declared.sorts.Op.{Op}
use Rattle.word_ops.specs.Operators.{operators}
use Rattle.word_terms.specs.Tree.{Tree}
use Rattle.axiom_base.specs.Equations as rows
use Rattle.axiom_base.specs.Schemes.{AddedRules, Scheme, plain, computed, folding, calc_kinds}
use Rattle.egraph.specs.Graph.{Graph}
use Rattle.pattern_match.specs.Matches.{IsUnmetOf}
use Rattle.saturation.specs.Asking.{AreAsked}
use Rattle.saturation.specs.Grown.{AreMet, IsQuiet}
use Rattle.saturation.specs.Trace.{Asked}
use Rattle.saturation.proofs.AskSteps.{cases_in}
use Rattle.saturation.proofs.SchemeLists.{mapped_more}

module _ (g : Graph Op) where
  pub met_none : AreMet g []
  met_none s h places u = omega (arith, h.1)

  met_more : (ss : List Scheme) (s : Scheme) → AreMet g ss → ((places : List ℕ) → ¬ IsUnmetOf g s places) → AreMet g (ss ++ s ∷ [])
  met_more ss s h none t there places u = elim (Contains-append_cases ss (s ∷ []) t there) [
    | inl k ↦ h t k places u
    | inr k ↦ elim (cases_in s t [] k) [
      | inl e ↦ none places (subst (λ x. IsUnmetOf g x places) (sym e) u)
      | inr n ↦ absurd (let b = n.1 in omega (arith, b))
    ]
  ]

  -- one rule or kind more, of which nothing is found
  pub met_next : {X : Type 0} (scheme : X → Scheme) (xs : List X) (k : ℕ) (x : X) → k < length xs → x ≡ get_or xs k x → AreMet g (map scheme (take k xs)) → (found : List (List ℕ)) → ((places : List ℕ) → IsUnmetOf g (scheme x) places → Contains found places) → length found ≤ 0 → AreMet g (map scheme (take (k + 1) xs))
  met_next scheme xs k x l is h found all none =
      subst (AreMet g) (sym (mapped_more scheme xs k x l is))
      (met_more (map scheme (take k xs)) (scheme x) h (λ places u. let i = all places u in let b = i.1 in omega (arith, b, none)))

  to_map : {X : Type 0} (f : X → Scheme) (xs : List X) (k : ℕ) (x : X) → k < length xs → x ≡ get_or xs k x → Contains (map f xs) (f x)
  to_map f xs k x l is = (k, omega (arith, l, length-map xs f), get_or-map f xs k x (f x) l ∙ sym (ap f is))

  -- one of which something is found
  pub not_met : {X : Type 0} (scheme : X → Scheme) (xs : List X) (k : ℕ) (x : X) → k < length xs → x ≡ get_or xs k x → (found : List (List ℕ)) → All (IsUnmetOf g (scheme x)) found → 0 < length found → IsTrue false ↔ AreMet g (map scheme xs)
  not_met scheme xs k x l is found each some = (λ t. absurd (cc), λ h. absurd (h (scheme x) (to_map scheme xs k x l is) (get_or found 0 []) (each 0 [] some)))

  -- what is asked for by unmet matches is nothing where there are none
  pub asked_none : (ss : List Scheme) (asked : List Asked) → AreAsked g ss asked → length asked ≡ 0 → AreMet g ss
  asked_none ss asked are none s there places u = let k = are.all s places there u in let b = k.1 in omega (arith, none, b.1)

  pub asked_some : (ss : List Scheme) (asked : List Asked) → AreAsked g ss asked → 0 < length asked → AreMet g ss → ⊥
  asked_some ss asked are some h =
      let a : Asked = record { right = Tree.variable 0; places = []; class = 0 } in
      let k = are.each 0 a some in
      let o = k.2.1 in
      h k.0 k.1 k.2.0 (record { rule = o.rule; of = o.of; class = (get_or asked 0 a).class; unmet = o.unmet })

  met_left : (ss ts : List Scheme) → AreMet g (ss ++ ts) → AreMet g ss
  met_left ss ts h s there = h s (Contains-append_left ss ts s there)

  met_right : (ss ts : List Scheme) → AreMet g (ss ++ ts) → AreMet g ts
  met_right ss ts h s there = h s (Contains-append_right ss ts s there)

  met_both : (ss ts : List Scheme) → AreMet g ss → AreMet g ts → AreMet g (ss ++ ts)
  met_both ss ts h k s there = elim (Contains-append_cases ss ts s there) [ inl i ↦ h s i | inr i ↦ k s i ]

  pub parts_of : (added : AddedRules) → IsQuiet added g → AreMet g (map plain rows.equations) × AreMet g (map plain added.axioms) × AreMet g (map computed (calc_kinds ++ added.kinds)) × AreMet g (map folding operators)
  parts_of added h =
      let E = map plain rows.equations in
      let P = map plain added.axioms in
      let K = map computed (calc_kinds ++ added.kinds) in
      let F = map folding operators in
      let epk = met_left (E ++ P ++ K) F h in
      let ep = met_left (E ++ P) K epk in
      (met_left E P ep, met_right E P ep, met_right (E ++ P) K epk, met_right (E ++ P ++ K) F h)

  pub quiet_of : (added : AddedRules) → AreMet g (map plain rows.equations) → AreMet g (map plain added.axioms) → AreMet g (map computed (calc_kinds ++ added.kinds)) → AreMet g (map folding operators) → IsQuiet added g
  quiet_of added a b c d =
      let E = map plain rows.equations in
      let P = map plain added.axioms in
      let K = map computed (calc_kinds ++ added.kinds) in
      met_both (E ++ P ++ K) (map folding operators) (met_both (E ++ P) K (met_both E P a b) c) d
