-- What is added, or put, where a test passes. Source: this project.
use Rattle.std.proofs.Common.{◌≡◌, Bool, true, false, cond, List, [], ◌++◌, sym, ap, ◌∙◌}
use Rattle.std.proofs.lemmas.List.{append-nil}

module _ {X : Type 0} (b : Bool) (mid more new : List X) where
  pub added : b ≡ true → new ≡ mid ++ more → new ≡ mid ++ cond b more []
  added e h = h ∙ sym (ap (λ t. mid ++ cond t more []) e)

  pub kept : b ≡ false → new ≡ mid → new ≡ mid ++ cond b more []
  kept e h = h ∙ sym (append-nil mid) ∙ sym (ap (λ t. mid ++ cond t more []) e)

module _ {X : Type 0} (b : Bool) (p q new : X) where
  pub chosen : b ≡ true → new ≡ p → new ≡ cond b p q
  chosen e h = h ∙ sym (ap (λ t. cond t p q) e)

  pub not_chosen : b ≡ false → new ≡ q → new ≡ cond b p q
  not_chosen e h = h ∙ sym (ap (λ t. cond t p q) e)
