-- An axiom over one to four variables holds if its sides have one value at each choice of words for them.
use Rattle.std.proofs.Common.{◌≡◌, ℕ, List, [], ◌∷◌, length, arith}
use Rattle.std.proofs.lemmas.List.Elements.{All-head, All-tail}
use Rattle.word_ops.specs.Words.{IsWord}
use Rattle.word_ops.specs.Worlds.{World}
use Rattle.goal_meaning.specs.Holds.{HoldsOfAll, value_in_world}
use Rattle.goal_meaning.specs.Views.{AxiomTree}
use Rattle.goal_meaning.specs.declared.goals.DeclaredOp.{DeclaredOp}

module _ (declared : List DeclaredOp) (world : World) where
  abbrev SameAt : List ℕ → AxiomTree → Type 0
  SameAt words a = value_in_world declared world words a.left ≡ value_in_world declared world words a.right

  pub of_x :
      (a : AxiomTree) →
      length a.variables ≡ 1 →
      ((x : ℕ) → IsWord x → SameAt (x ∷ []) a) →
      HoldsOfAll declared world a
  of_x a one same [] each count = absurd (omega (arith, one, count))
  of_x a one same (x ∷ []) each count = same x (All-head IsWord x [] each)
  of_x a one same (x ∷ y ∷ words) each count = absurd (omega (arith, one, count))

  pub of_xy :
      (a : AxiomTree) →
      length a.variables ≡ 2 →
      ((x y : ℕ) → IsWord x → IsWord y → SameAt (x ∷ y ∷ []) a) →
      HoldsOfAll declared world a
  of_xy a two same [] each count = absurd (omega (arith, two, count))
  of_xy a two same (x ∷ []) each count = absurd (omega (arith, two, count))
  of_xy a two same (x ∷ y ∷ []) each count =
      same x y (All-head IsWord x (y ∷ []) each) (All-head IsWord y [] (All-tail IsWord x (y ∷ []) each))
  of_xy a two same (x ∷ y ∷ z ∷ words) each count = absurd (omega (arith, two, count))

  pub of_xym :
      (a : AxiomTree) →
      length a.variables ≡ 3 →
      ((x y m : ℕ) → IsWord x → IsWord y → IsWord m → SameAt (x ∷ y ∷ m ∷ []) a) →
      HoldsOfAll declared world a
  of_xym a three same [] each count = absurd (omega (arith, three, count))
  of_xym a three same (x ∷ []) each count = absurd (omega (arith, three, count))
  of_xym a three same (x ∷ y ∷ []) each count = absurd (omega (arith, three, count))
  of_xym a three same (x ∷ y ∷ m ∷ []) each count =
      let after_x = All-tail IsWord x (y ∷ m ∷ []) each in
      same x y m
      (All-head IsWord x (y ∷ m ∷ []) each)
      (All-head IsWord y (m ∷ []) after_x)
      (All-head IsWord m [] (All-tail IsWord y (m ∷ []) after_x))
  of_xym a three same (x ∷ y ∷ m ∷ n ∷ words) each count = absurd (omega (arith, three, count))

  pub of_abcd :
      (t : AxiomTree) →
      length t.variables ≡ 4 →
      ((a b c d : ℕ) → IsWord a → IsWord b → IsWord c → IsWord d → SameAt (a ∷ b ∷ c ∷ d ∷ []) t) →
      HoldsOfAll declared world t
  of_abcd t four same [] each count = absurd (omega (arith, four, count))
  of_abcd t four same (a ∷ []) each count = absurd (omega (arith, four, count))
  of_abcd t four same (a ∷ b ∷ []) each count = absurd (omega (arith, four, count))
  of_abcd t four same (a ∷ b ∷ c ∷ []) each count = absurd (omega (arith, four, count))
  of_abcd t four same (a ∷ b ∷ c ∷ d ∷ []) each count =
      let after_a = All-tail IsWord a (b ∷ c ∷ d ∷ []) each in
      let after_b = All-tail IsWord b (c ∷ d ∷ []) after_a in
      same a b c d
      (All-head IsWord a (b ∷ c ∷ d ∷ []) each)
      (All-head IsWord b (c ∷ d ∷ []) after_a)
      (All-head IsWord c (d ∷ []) after_b)
      (All-head IsWord d [] (All-tail IsWord c (d ∷ []) after_b))
  of_abcd t four same (a ∷ b ∷ c ∷ d ∷ e ∷ words) each count = absurd (omega (arith, four, count))
