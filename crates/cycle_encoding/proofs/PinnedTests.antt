-- Tests where sets may have pins, and what they say.
use Rattle.std.proofs.Common.{◌≡◌, ℕ, true, false, not, ◌∙◌, refl, sym, ap, inl, inr, Option, Some, None}
use Rattle.std.specs.Prelude.{◌&&◌, ◌==◌}
use Rattle.std.specs.Option.{option_map_or}
use Rattle.std.proofs.lemmas.Bool.{false≢true, cases_Bool, not-true, not_from_false, eqb-true, eq-eqb, and_parts, and_from}
use Rattle.graph_meaning.specs.Graphs.{is_input_register, IsPin}
use Rattle.schedule_meaning.specs.Launches.{HasInput}
use Rattle.graph_meaning.specs.declared.graphs.LaunchGraph.{LaunchGraph}
use Rattle.cycle_encoding.specs.Variables.{is_pin, is_safe}
use Rattle.cycle_encoding.specs.Narrow.{IsSafe}
use Rattle.cycle_encoding.specs.Families.{is_input_at}
use Rattle.cycle_encoding.proofs.Tests.{some_of, some_in, any_from}

module _ (g : LaunchGraph) where
  pin_in : (r : ℕ) (o : Option ℕ) → option_map_or (λ q. q == r) o false ≡ true → o ≡ Some r
  pin_in r None h = absurd (false≢true h)
  pin_in r (Some q) h = ap Some (eqb-true q r h)

  pub pin-is : (r : ℕ) → is_pin g r ≡ true → IsPin g r
  pin-is r h = (let a = some_of (λ s. option_map_or (λ q. q == r) s.pin false) g.sets h in any_from (λ s. s.pin ≡ Some r) g.sets a.0 a.1 (pin_in r (a.0).pin a.2))

  pub pin-from : (r : ℕ) → IsPin g r → is_pin g r ≡ true
  pin-from r (k, s, l, e, p) = some_in (λ s. option_map_or (λ q. q == r) s.pin false) g.sets s (k, l, e) (ap (λ o. option_map_or (λ q. q == r) o false) p ∙ eq-eqb r r refl)

  pub safe-is : (c : ℕ) → is_safe g c ≡ true → IsSafe g c
  safe-is c h =
      let a = some_of (λ i. (i.class == c) && not (is_pin g i.reg)) g.inputs h in
      let p = and_parts (a.0.class == c) (not (is_pin g a.0.reg)) a.2 in
      any_from (λ i. (i.class ≡ c) × ¬ IsPin g i.reg) g.inputs a.0 a.1 (eqb-true a.0.class c p.0, λ q. false≢true (sym (not-true (is_pin g a.0.reg) p.1) ∙ pin-from a.0.reg q))

  pub safe-from : (c : ℕ) → IsSafe g c → is_safe g c ≡ true
  safe-from c (k, i, l, e, (s, n)) =
      some_in (λ i. (i.class == c) && not (is_pin g i.reg)) g.inputs i (k, l, e)
      (and_from (i.class == c) (not (is_pin g i.reg)) (eq-eqb i.class c s) (elim (cases_Bool (is_pin g i.reg)) [ inl t ↦ absurd (n (pin-is i.reg t)) | inr f ↦ not_from_false (is_pin g i.reg) f ]))

  -- an input of the class has this register
  pub at-is : (c r : ℕ) → is_input_at g c r ≡ true → HasInput g c (λ q. q ≡ r)
  at-is c r h =
      let a = some_of (λ i. (i.class == c) && (i.reg == r)) g.inputs h in
      let p = and_parts (a.0.class == c) (a.0.reg == r) a.2 in
      any_from (λ i. (i.class ≡ c) × (i.reg ≡ r)) g.inputs a.0 a.1 (eqb-true a.0.class c p.0, eqb-true a.0.reg r p.1)

  pub at-from : (c r : ℕ) → HasInput g c (λ q. q ≡ r) → is_input_at g c r ≡ true
  at-from c r (k, i, l, e, (s, q)) = some_in (λ i. (i.class == c) && (i.reg == r)) g.inputs i (k, l, e) (and_from (i.class == c) (i.reg == r) (eq-eqb i.class c s) (eq-eqb i.reg r q))

  pub register-from : (c r : ℕ) → HasInput g c (λ q. q ≡ r) → is_input_register g r ≡ true
  register-from c r (k, i, l, e, (s, q)) = some_in (λ i. i.reg == r) g.inputs i (k, l, e) (eq-eqb i.reg r q)
