-- The inputs whose registers a reader may read: the test and the fact.
use Rattle.std.proofs.Common.{◌≡◌, ◌↔◌, ℕ, List, refl, sym, ◌∙◌, subst, Bool, true, false, ◌&&◌, Option, Some, None}
use Rattle.std.specs.Prelude.{All, Any, IsTrue, find, option_map, is_some, ◌==◌}
use Rattle.std.proofs.lemmas.Bool.{false≢true}
use Rattle.graph_meaning.proofs.Lists.{found, found_none, same_number}
use Rattle.graph_meaning.specs.declared.graphs.InputClass.{InputClass}
use Rattle.graph_meaning.specs.declared.graphs.LaunchGraph.{LaunchGraph}
use Rattle.schedule_meaning.specs.Launches.{HasInput, spoils, writes_pin}
use Rattle.schedule_meaning.specs.Readers.{IsIntact, is_intact, touches, input_where}
use Rattle.schedule_meaning.specs.declared.schedules.Launch.{Launch}
use Rattle.schedule_meaning.proofs.Comparisons.{and_left, and_right, and_both}
use Rattle.schedule_meaning.proofs.Pins.{none_at, none_from, number_same}
use Rattle.schedule_meaning.proofs.Rules.{all_at}

module _ (g : LaunchGraph) (ls : List Launch) where
  intact_from : (reader : Option Launch) (r : ℕ) → is_intact g ls reader r ≡ true → IsIntact g ls reader r
  intact_from None r h = all_at (λ m. ¬ IsTrue (writes_pin g r m)) ls (λ j m lt e. none_at (touches g None r) ls h j m e)
  intact_from (Some l) r h = all_at (λ m. ¬ IsTrue (spoils g l r m)) ls (λ j m lt e. none_at (touches g (Some l) r) ls h j m e)

  intact_back : (reader : Option Launch) (r : ℕ) → IsIntact g ls reader r → is_intact g ls reader r ≡ true
  intact_back None r h = none_from (touches g None r) ls h
  intact_back (Some l) r h = none_from (touches g (Some l) r) ls h

  module _ (reader : Option Launch) (class : ℕ) where
    abbrev test : InputClass → Bool
    test i = (i.class == class) && is_intact g ls reader i.reg

    fact_of : (i : InputClass) → test i ≡ true → (i.class ≡ class) × IsIntact g ls reader i.reg
    fact_of i t = (
      same_number i.class class (and_left (i.class == class) (is_intact g ls reader i.reg) t),
      intact_from reader i.reg (and_right (i.class == class) (is_intact g ls reader i.reg) t),
    )

    test_of : (i : InputClass) → (i.class ≡ class) × IsIntact g ls reader i.reg → test i ≡ true
    test_of i h = and_both (i.class == class) (is_intact g ls reader i.reg) (number_same i.class class h.0) (intact_back reader i.reg h.1)

    from_found : (o : Option InputClass) → find test g.inputs ≡ o → is_some (option_map (λ (i : InputClass). i.reg) o) ≡ true → HasInput g class (IsIntact g ls reader)
    from_found None e t = absurd (false≢true t)
    from_found (Some i) e t =
        let a : Any (λ z. (z ≡ i) × (test z ≡ true)) g.inputs = found test g.inputs i e in
        (a.0, a.1, a.2, a.3, fact_of a.1 a.4.1)

    to_found : (o : Option InputClass) → find test g.inputs ≡ o → HasInput g class (IsIntact g ls reader) → is_some (option_map (λ (i : InputClass). i.reg) o) ≡ true
    to_found None e h =
        let none : All (λ z. test z ≡ false) g.inputs = found_none test g.inputs e in
        let fails : test h.1 ≡ false = subst (λ z. test z ≡ false) h.3 (none h.0 h.1 h.2) in
        absurd (false≢true (sym fails ∙ test_of h.1 h.4))
    to_found (Some i) e h = refl

    pub has_input_is : (b : Bool) → b ≡ is_some (input_where g (is_intact g ls reader) class) → IsTrue b ↔ HasInput g class (IsIntact g ls reader)
    has_input_is b e = (
      (λ t. from_found (find test g.inputs) refl (sym e ∙ t)),
      λ h. e ∙ to_found (find test g.inputs) refl h,
    )
