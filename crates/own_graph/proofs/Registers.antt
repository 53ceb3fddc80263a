-- Pins and the first numbers, one more at a time.
use Rattle.std.proofs.Common.{◌≡◌, ℕ, ◌+◌, ◌<◌, ◌==◌, Bool, true, false, cond, List, [], ◌∷◌, ◌++◌, length, map, get_or, Option, Some, None, refl, sym, ap, ◌∙◌, arith, add-one, eq-eqb, eqb, eqb-true, filter}
use Rattle.std.specs.Option.{option_eq, option_map_or}
use Rattle.std.proofs.lemmas.List.{append-nil, get_or-map, length-map}
use Rattle.std.proofs.lemmas.List.Elements.{filter-append}
use Rattle.std.proofs.lemmas.List.Folds.{list_any_at}
use Rattle.goal_meaning.specs.Views.{TargetTree, target_view}
use Rattle.goal_meaning.specs.declared.goals.Set.{Set}
use Rattle.code_lift.specs.Lifted.{first_numbers}
use Rattle.own_graph.specs.Own.{is_pin}

pub pin_is : (o : Option ℕ) (r : ℕ) → option_eq eqb o (Some r) ≡ true → o ≡ Some r
pin_is None r e = let f : false ≡ true = e in absurd (cc)
pin_is (Some q) r e = ap Some (eqb-true q r e)

abbrev has_pin : ℕ → TargetTree → Bool
has_pin r t = option_map_or (λ pin. pin == r) t.pin false

pub pin_here : (sets : List Set) (r i : ℕ) (s : Set) → i < length sets → s ≡ get_or sets i s → s.pin ≡ Some r → is_pin (map target_view sets) r ≡ true
pin_here sets r i s l at e =
    list_any_at (has_pin r) (map target_view sets) i (target_view s) (let count = length-map sets target_view in omega (arith, l, count))
    (ap (has_pin r) (get_or-map target_view sets i s (target_view s) l)
    ∙ ap (λ (x : Set). has_pin r (target_view x)) (sym at)
    ∙ ap (λ (o : Option ℕ). option_map_or (λ pin. pin == r) o false) e
    ∙ eq-eqb r r refl)

first_more : (k : ℕ) → first_numbers (k + 1) ≡ first_numbers k ++ k ∷ []
first_more k = ap first_numbers (add-one k)

pub where_more : (test : ℕ → Bool) (k : ℕ) → test k ≡ true → filter test (first_numbers (k + 1)) ≡ filter test (first_numbers k) ++ k ∷ []
where_more test k e =
    ap (filter test) (first_more k) ∙ filter-append test (first_numbers k) (k ∷ [])
    ∙ ap (λ b. filter test (first_numbers k) ++ cond b (k ∷ []) []) e

pub where_none : (test : ℕ → Bool) (k : ℕ) → test k ≡ false → filter test (first_numbers (k + 1)) ≡ filter test (first_numbers k)
where_none test k e =
    ap (filter test) (first_more k) ∙ filter-append test (first_numbers k) (k ∷ [])
    ∙ ap (λ b. filter test (first_numbers k) ++ cond b (k ∷ []) []) e ∙ append-nil (filter test (first_numbers k))
