-- The line of a target tells no pin, or from version 2 on, where it has four words, one.
use Rattle.std.proofs.Common.{◌≡◌, ℕ, ◌<◌, ◌≤◌, ◌∷◌, length, refl, sym, ap, subst, ◌∙◌, arith, codes, decimal, Option, Some, None, Bool, true, false}
use Rattle.std.specs.Prelude.{IfOk}
use Rattle.std.specs.Option.{MatchOption}
use Rattle.std.specs.declared.result.Result.{Result}
use Rattle.std.specs.declared.result.Result.TheVariants.{Ok, Err}
use Rattle.text_core.specs.LineTexts.{Words, SaysNone}
use Rattle.graph_meaning.specs.Graphs.{is_memory_name}
use Rattle.graph_meaning.specs.declared.graphs.SetClass.{SetClass}
use Rattle.launch_graph.specs.GraphLines.{PinFits, pin_words}
use Rattle.launch_graph.specs.LineReading.{IsPlainSet, IsPinnedSet, IsSetLine}

no_pin : (version : ℕ) (o : Option ℕ) → o ≡ None → PinFits version o
no_pin version None e = tt
no_pin version (Some r) e = cc

plain_set : {version : ℕ} (words : Words) (s : SetClass) → IsPlainSet words s → IsSetLine version words s
plain_set {version} words s p = record {
  fits = (p.fits.0, p.fits.1, no_pin version s.pin p.pin, λ _. p.pin);
  is = p.is ∙ ap (λ o. codes "set" ∷ s.name ∷ decimal s.class ∷ pin_words o) (sym p.pin);
}

pinned_set : {version : ℕ} (words : Words) (s : SetClass) → 2 ≤ version → IsPinnedSet words s → IsSetLine version words s
pinned_set {version} words s two p = record {
  fits = (p.fits.0, p.fits.1, subst (PinFits version) (sym p.pin) (two, p.fits.2), λ memory. (let both : true ≡ false = sym memory ∙ p.word in cc));
  is = p.is ∙ ap (λ o. codes "set" ∷ s.name ∷ decimal s.class ∷ pin_words o) (sym p.pin);
}

plain_of : {version : ℕ} (words : Words) (s : SetClass) → s.pin ≡ None → IsSetLine version words s → IsPlainSet words s
plain_of words s none p = record {
  fits = (p.fits.0, p.fits.1);
  pin = none;
  is = p.is ∙ ap (λ o. codes "set" ∷ s.name ∷ decimal s.class ∷ pin_words o) none;
}

pinned_of : {version : ℕ} (words : Words) (s : SetClass) (r : ℕ) → s.pin ≡ Some r → IsSetLine version words s → IsPinnedSet words s
pinned_of {version} words s r some p =
    let pin : (2 ≤ version) × (r < 31) = subst (PinFits version) some p.fits.2 in
    record {
      register = r;
      fits = (p.fits.0, p.fits.1, pin.1);
      pin = some;
      word = by_name (is_memory_name s.name) refl;
      is = p.is ∙ ap (λ o. codes "set" ∷ s.name ∷ decimal s.class ∷ pin_words o) some;
    }
  where
    by_name : (b : Bool) → is_memory_name s.name ≡ b → is_memory_name s.name ≡ false
    by_name false e = e
    by_name true e = (let both : Some r ≡ None = sym some ∙ p.fits.3 e in cc)

no_plain_set : {version : ℕ} (words : Words) → (2 ≤ version → length words ≡ 4 → ⊥) → SaysNone IsPlainSet words → SaysNone (IsSetLine version) words
no_plain_set {version} words n none s p = by_pin s.pin refl
  where
    by_pin : (o : Option ℕ) → s.pin ≡ o → ⊥
    by_pin None e = none s (plain_of words s e p)
    by_pin (Some r) e =
        let pin : (2 ≤ version) × (r < 31) = subst (PinFits version) e p.fits.2 in
        n pin.0 (ap length (pinned_of words s r e p).is)

no_pinned_set : {version : ℕ} (words : Words) → length words ≡ 4 → SaysNone IsPinnedSet words → SaysNone (IsSetLine version) words
no_pinned_set words four none s p = by_pin s.pin refl
  where
    by_pin : (o : Option ℕ) → s.pin ≡ o → ⊥
    by_pin None e = (let three : length words ≡ 3 = ap length (plain_of words s e p).is in absurd (omega (arith, four, three)))
    by_pin (Some r) e = none s (pinned_of words s r e p)

found_pinned : {version : ℕ} (words : Words) (o : Option SetClass) → 2 ≤ version → length words ≡ 4
    → MatchOption o (SaysNone IsPinnedSet words) (IsPinnedSet words)
    → MatchOption o (SaysNone (IsSetLine version) words) (IsSetLine version words)
found_pinned words None two four h = no_pinned_set words four h
found_pinned words (Some s) two four h = pinned_set words s two h

pub pinned_line : {version : ℕ} {E : Type 0} (words : Words) (r : Result (Option SetClass) E) → 2 ≤ version → length words ≡ 4
    → IfOk r (λ found. MatchOption found (SaysNone IsPinnedSet words) (IsPinnedSet words))
    → IfOk r (λ found. MatchOption found (SaysNone (IsSetLine version) words) (IsSetLine version words))
pinned_line words (Ok o) two four h = found_pinned words o two four h
pinned_line words (Err e) two four h = tt

pub plain_line : {version : ℕ} {E : Type 0} (words : Words) (r : Result (Option SetClass) E) → (2 ≤ version → length words ≡ 4 → ⊥)
    → IfOk r (λ found. MatchOption found (SaysNone IsPlainSet words) (IsPlainSet words))
    → IfOk r (λ found. MatchOption found (SaysNone (IsSetLine version) words) (IsSetLine version words))
plain_line words (Ok None) n h = no_plain_set words n h
plain_line words (Ok (Some s)) n h = plain_set words s h
plain_line words (Err e) n h = tt
