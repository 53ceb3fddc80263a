-- The unmet matches of a rule can be counted, and what is found of them needs no more than all of them.
use Rattle.std.proofs.Common.{◌≡◌, ℕ, zero, suc, ◌+◌, ◌-◌, ◌*◌, ◌<◌, ◌≤◌, List, [], ◌∷◌, ◌++◌, map, length, take, drop, get_or, All, AllPairs, Contains, refl, sym, ap, ◌∙◌, subst, inl, inr, ◌⊎◌, arith}
use Rattle.std.proofs.lemmas.List.{length-map, map-append, take-append-drop}
use Rattle.std.proofs.Math.Seq.{drop-cons}
use Rattle.std.proofs.lemmas.List.Elements.{All-cons, All-head, All-tail, All-contains, All-weaker}
use Rattle.word_ops.specs.Operators.{operators}
use Rattle.word_ops.specs.declared.sorts.Op.{Op}
use Rattle.word_terms.specs.OperatorsIn.{operators_in}
use Rattle.word_terms.specs.Keys.{op_signature}
use Rattle.axiom_base.specs.Equations as rows
use Rattle.word_terms.specs.Building.{constant}
use Rattle.axiom_base.specs.Rewrites.{Rewrite}
use Rattle.axiom_base.specs.Schemes.{AddedRules, Scheme, plain, computed, folding, calc_kinds, schemes, weight, itself}
use Rattle.egraph.specs.Graph.{Graph, IsGraph, HasClass, HasConstant}
use Rattle.egraph.specs.declared.rows.Row.{Row}
use Rattle.pattern_match.specs.Classes.{IsClass}
use Rattle.pattern_match.specs.Found.{classes_in}
use Rattle.pattern_match.specs.Listing.{Lists, ListsUpTo}
use Rattle.pattern_match.specs.declared.found.Match.{Match}
use Rattle.pattern_match.specs.Matches.{IsUnmet, IsUnmetOf, IsNeed, AreNeeds, no_need, one_need}
use Rattle.saturation.specs.Asking.{AreUnmetOf, NeedMoreThan, RuleNeedsMore}
use Rattle.saturation.specs.Grown.{AreMet}
use Rattle.saturation.specs.Steps.{IsOver}
use Rattle.saturation.proofs.AskSteps.{all_from, here_in, later_in, needs_append}
use Rattle.saturation.proofs.Classes.{one_class}
use Rattle.saturation.proofs.Deciding.{one_number, find_class, tell_class}
use Rattle.saturation.proofs.FiniteLists.{BelowWith, listed, lists_same, no_longer}
use Rattle.saturation.proofs.Graphs.{has_made}
use Rattle.saturation.proofs.Made.{constant_class}
use Rattle.saturation.proofs.OneRule.{of_plain}
use Rattle.saturation.proofs.Round.{class_constant}
use Rattle.saturation.proofs.SchemeLists.{mapped_more}

-- ---- it can be told whether classes are an unmet match of a rule

tell_all : {X : Type 0} (P : X → Type 0) → ((x : X) → P x ⊎ (¬ P x)) → (xs : List X) → All P xs ⊎ (¬ All P xs)
tell_all P tell [] = inl (λ k d l. absurd (omega (arith, l)))
tell_all P tell (x ∷ xs) =
    elim (tell x) [
      | inr n ↦ inr (λ h. n (All-head P x xs h))
      | inl p ↦ elim (tell_all P tell xs) [
        | inr n ↦ inr (λ h. n (All-tail P x xs h))
        | inl h ↦ inl (All-cons P x xs p h)
      ]
    ]

tell_row : (rows : List (Row Op)) (c : ℕ) → ((t : Row Op) × Contains rows t × (t.class ≡ c)) ⊎ ((t : Row Op) → Contains rows t → ¬ (t.class ≡ c))
tell_row [] c = inr (λ t m e. let l = m.1 in omega (arith, l))
tell_row (r ∷ rows) c =
    elim (one_number r.class c) [
      | inl e ↦ inl (r, here_in r rows, e)
      | inr n ↦ elim (tell_row rows c) [
        | inl h ↦ inl (h.0, later_in r h.0 rows h.1, h.2)
        | inr f ↦ inr (other n f)
      ]
    ]
  where
    other : (¬ (r.class ≡ c)) → ((t : Row Op) → Contains rows t → ¬ (t.class ≡ c)) → (t : Row Op) → Contains (r ∷ rows) t → ¬ (t.class ≡ c)
    other n f t (zero, l, e) k = n (ap (λ (s : Row Op). s.class) e ∙ k)
    other n f t (suc i, l, e) k = f t (i, omega (arith, l), e) k

module _ (g : Graph Op) (is : IsGraph op_signature g) where
  tell_has : (c : ℕ) → HasClass g c ⊎ (¬ HasClass g c)
  tell_has c = elim (tell_row g.rows c) [ inl h ↦ inl (record { row = h.0; there = h.1; is = h.2 }) | inr f ↦ inr (λ h. f h.row h.there h.is) ]

  tell_constant : (c x : ℕ) → HasConstant op_signature g.rows c x ⊎ (¬ HasConstant op_signature g.rows c x)
  tell_constant c x = elim (tell_class g is.distinct [] (constant x) c) [
    | inl h ↦ inl (class_constant g c x h)
    | inr n ↦ inr (λ h. n (constant_class g is c x h))
  ]

  module _ (r : Rewrite) where
    -- each constant of the rule is the class's in its place
    abbrev HasIts : List ℕ → ℕ × ℕ → Type 0
    HasIts places p = HasConstant op_signature g.rows (get_or places p.0 0) p.1

    of_rule : (places : List ℕ) (u : IsUnmetOf g (plain r) places) → IsUnmet g r places u.class
    of_rule places u = subst (λ q. IsUnmet g q places u.class) (of_plain u.of) u.unmet

    tell_unmet : (places : List ℕ) → IsUnmetOf g (plain r) places ⊎ (¬ IsUnmetOf g (plain r) places)
    tell_unmet places =
        elim (one_number (length places) (length r.variables)) [
          | inr n ↦ inr (λ u. n (of_rule places u).match.count)
          | inl count ↦ elim (tell_all (HasClass g) tell_has places) [
            | inr n ↦ inr (λ u. n (of_rule places u).match.present)
            | inl present ↦ elim (tell_all (HasIts places) (λ p. tell_constant (get_or places p.0 0) p.1) r.constants) [
              | inr n ↦ inr (λ u. n (all_from (HasIts places) r.constants (λ p m. (of_rule places u).match.constants p.0 p.1 m)))
              | inl constants ↦ elim (find_class g is.distinct places r.left) [
                | inr f ↦ inr (λ u. f u.class (of_rule places u).match.left)
                | inl c ↦ elim (tell_class g is.distinct places r.right c.0) [
                  | inl k ↦ inr (λ u. (of_rule places u).right (subst (IsClass g places r.right) (one_class g is.distinct places c.1 (of_rule places u).match.left) k))
                  | inr n ↦ inl (record {
                    rule = r;
                    of = itself r;
                    class = c.0;
                    unmet = record {
                      match = record { count = count; present = present; left = c.1; constants = λ m x h. All-contains (HasIts places) r.constants (m, x) constants h };
                      right = n;
                    };
                  })
                ]
              ]
            ]
          ]
        ]

    -- ---- so they can be counted

    pub rule_need : (n : ℕ) × IsNeed g (plain r) n
    rule_need =
        let P = IsUnmetOf g (plain r) in
        let all = listed (length g.current) (length r.variables) P tell_unmet in
        let lists = lists_same (BelowWith (length g.current) (length r.variables) P) P all.0 (λ xs h. h.2)
        (λ xs u. ((of_rule xs u).match.count, All-weaker (HasClass g) (λ x. x < length g.current) (has_made op_signature g is) xs (of_rule xs u).match.present, u))
        all.1 in
        (length all.0 * weight (plain r), record { matches = length all.0; count = record { list = all.0; lists = lists; length_is = refl }; is = refl })

  pub rules_need : (rs : List Rewrite) → (n : ℕ) × AreNeeds g (map plain rs) n
  rules_need [] = (0, no_need)
  rules_need (r ∷ rs) = let one = rule_need r in let more = rules_need rs in (one.0 + more.0, one_need one.1 more.1)

-- ---- a part of them needs no more

pub times : (a b w : ℕ) → a ≤ b → a * w ≤ b * w
times zero b w l = omega arith
times (suc a) zero w l = absurd (omega (arith, l))
times (suc a) (suc b) w l =
    let h = times a b w (omega (arith, l)) in
    let e : suc a * w ≡ w + a * w = omega arith in
    let f : suc b * w ≡ w + b * w = omega arith in
    omega (arith, h, e, f)

module _ (g : Graph Op) where
  pub part_needs : (s : Scheme) (n : ℕ) (found : List (List ℕ)) → All (IsUnmetOf g s) found → AllPairs (λ x y. ¬ (x ≡ y)) found → IsNeed g s n → length found * weight s ≤ n
  part_needs s n found each once need =
      let few = no_longer (λ (x y : List ℕ). x ≡ y) found need.count.list
      (λ x m. (x, need.count.lists.all x (All-contains (IsUnmetOf g s) found x each m), refl))
      (λ i j d l k y e f. once i j d l k (e ∙ sym f)) in
      let e = need.count.length_is in
      let h = times (length found) need.matches (weight s) (omega (arith, few, e)) in
      let is = need.is in
      omega (arith, h, is)

  met_needs : {ss : List Scheme} {n : ℕ} → AreNeeds g ss n → AreMet g ss → n ≡ 0
  met_needs no_need met = refl
  met_needs (one_need {s} {ss} {m} {n} one more) met =
      let rest = met_needs more (λ t h. met t (later_in s t ss h)) in
      let here = none_needed one (met s (here_in s ss)) in
      omega (arith, rest, here)
    where
      none_needed : {s : Scheme} {m : ℕ} → IsNeed g s m → ((places : List ℕ) → ¬ IsUnmetOf g s places) → m ≡ 0
      none_needed {s} {m} h none =
          let few = no_longer {X = List ℕ} {Y = ℕ} (λ x y. ⊥) h.count.list [] (λ x k. absurd (none x (All-contains (IsUnmetOf g s) h.count.list x h.count.lists.each k))) (λ i j d l k y a b. a) in
          let e = h.count.length_is in
          let z : h.matches ≡ 0 = omega (arith, few, e) in
          let no : 0 * weight s ≡ 0 = omega arith in
          h.is ∙ ap (λ k. k * weight s) z ∙ no

  -- where something is needed, something is unmet
  pub unmet_needed : (ss : List Scheme) (most : ℕ) → NeedMoreThan g ss most → ¬ AreMet g ss
  unmet_needed ss most h met = let z = met_needs h.are met in let m = h.more in omega (arith, z, m)

-- ---- in the shape of the search

-- a list is whole where it isn't too long
pub whole : (P : List ℕ → Type 0) (most : ℕ) (found : List (List ℕ)) → ListsUpTo P most found → length found ≤ most → Lists P found
whole P most found h few = record { each = h.each; all = h.all few; once = h.once }

times_right : (a w v : ℕ) → w ≤ v → a * w ≤ a * v
times_right zero w v l = omega arith
times_right (suc a) w v l =
    let h = times_right a w v l in
    let e : suc a * w ≡ w + a * w = omega arith in
    let f : suc a * v ≡ v + a * v = omega arith in
    omega (arith, h, e, f, l)

-- the found ones alone need more than there is room for
pub rule_over : (g : Graph Op) → IsGraph op_signature g → (r : Rewrite) (found : List Match) (most room w : ℕ) → ListsUpTo (IsUnmetOf g (plain r)) most (map classes_in found) → w ≤ operators_in r.right → room < length found * w → RuleNeedsMore g r room
rule_over g is r found most room w h few over =
    let n = rule_need g is r in
    let part = part_needs g (plain r) n.0 (map classes_in found) h.each h.once n.1 in
    let e : length (map classes_in found) * operators_in r.right ≡ length found * operators_in r.right = ap (λ k. k * operators_in r.right) (length-map found classes_in) in
    let t = times_right (length found) w (operators_in r.right) few in
    record { need = n.0; is = n.1; more = omega (arith, part, e, t, over) }

-- the rules need this or more
pub record NeedAtLeast (g : Graph Op) (rs : List Rewrite) (n : ℕ) : Type 0 where
  pub need : ℕ
  pub are : AreNeeds g (map plain rs) need
  pub least : n ≤ need

pub least_none : (g : Graph Op) → NeedAtLeast g [] 0
least_none g = record { need = 0; are = no_need; least = omega arith }

-- what is found of a rule
pub rule_needs : (g : Graph Op) (r : Rewrite) (found : List Match) → AreUnmetOf g r found → IsNeed g (plain r) (length found * operators_in r.right)
rule_needs g r found h = record {
  matches = length found;
  count = record { list = map classes_in found; lists = h.exact; length_is = length-map found classes_in };
  is = refl;
}

-- one rule more
pub least_more :
    (g : Graph Op) (rs : List Rewrite) (k : ℕ) (r : Rewrite) (n m after : ℕ) →
    k < length rs →
    r ≡ get_or rs k r →
    NeedAtLeast g (take k rs) n →
    IsNeed g (plain r) m →
    after ≤ n + m →
    NeedAtLeast g (take (k + 1) rs) after
least_more g rs k r n m after l at h one few = record {
  need = h.need + (m + 0);
  are = subst (λ ss. AreNeeds g ss (h.need + (m + 0))) (sym (mapped_more plain rs k r l at)) (needs_append h.are (one_need one no_need));
  least = let f = h.least in omega (arith, f, few);
}

module _ (g : Graph Op) (is : IsGraph op_signature g) where
  -- with the rule at the place they need more than there is room for, and the rules behind it take nothing away
  pub more_at : (rs : List Rewrite) (k : ℕ) (r : Rewrite) (n m room : ℕ) → k < length rs → r ≡ get_or rs k r → NeedAtLeast g (take k rs) n → IsNeed g (plain r) m → room < n + m → NeedMoreThan g (map plain rs) room
  more_at rs k r n m room l at h one over =
      let behind = rules_need g is (drop (suc k) rs) in
      let split : take k rs ++ r ∷ drop (suc k) rs ≡ rs = ap (λ x. take k rs ++ x ∷ drop (suc k) rs) at ∙ ap (λ xs. take k rs ++ xs) (sym (drop-cons rs k r l)) ∙ take-append-drop k rs in
      let are = needs_append h.are (one_need one behind.1) in
      record {
        need = h.need + (m + behind.0);
        are = subst (λ ss. AreNeeds g ss (h.need + (m + behind.0))) (sym (map-append plain (take k rs) (r ∷ drop (suc k) rs)) ∙ ap (map plain) split) are;
        more = let f = h.least in omega (arith, f, over);
      }

  -- what all schemes need, by their parts
  pub over :
      (added : AddedRules) (e p k f nodes : ℕ) →
      AreNeeds g (map plain rows.equations) e →
      AreNeeds g (map plain added.axioms) p →
      AreNeeds g (map computed (calc_kinds ++ added.kinds)) k →
      AreNeeds g (map folding operators) f →
      0 < e + p + k + f →
      nodes < length g.rows + (e + p + k + f) →
      IsOver added g nodes
  over added e p k f nodes a b c d some passed =
      let all = needs_append (needs_append (needs_append a b) c) d in (
        unmet_needed g (schemes added) 0 (record { need = e + p + k + f; are = all; more = some }),
        record { need = e + p + k + f; is = all; passed = passed },
      )

  -- the search ends where more is needed than there is room for
  module _ (added : AddedRules) (k f nodes room before : ℕ) (kinds : AreNeeds g (map computed (calc_kinds ++ added.kinds)) k) (folds : AreNeeds g (map folding operators) f) (few : before ≤ f + k) (room_is : room ≡ nodes - length g.rows) where
    pub over_by_kinds : room < before → IsOver added g nodes
    over_by_kinds more =
        let e = rules_need g is rows.equations in
        let p = rules_need g is added.axioms in
        over added e.0 p.0 k f nodes e.1 p.1 kinds folds (omega (arith, more, few)) (omega (arith, more, few, room_is))

    pub over_by_equations : NeedMoreThan g (map plain rows.equations) (room - before) → IsOver added g nodes
    over_by_equations h =
        let p = rules_need g is added.axioms in
        let more = h.more in
        over added h.need p.0 k f nodes h.are p.1 kinds folds (omega (arith, more)) (omega (arith, more, few, room_is))

    pub over_by_axioms : (e so_far : ℕ) → AreNeeds g (map plain rows.equations) e → so_far ≤ before + e → NeedMoreThan g (map plain added.axioms) (room - so_far) → IsOver added g nodes
    over_by_axioms e so_far equations most h =
        let more = h.more in
        over added e h.need k f nodes equations h.are kinds folds (omega (arith, more)) (omega (arith, more, few, room_is, most))
