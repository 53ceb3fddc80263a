-- The first fault is one.
use Rattle.std.proofs.Common.{◌≡◌, ◌<◌, ◌≤◌, ◌⊎◌, ℕ, List, length, inl, inr, refl, sym, ◌∙◌, subst, arith}
use Rattle.text_core.specs.Lines.{Line, BeginsAt}
use Rattle.text_core.specs.declared.faults.Kind.{Kind}
use Rattle.text_core.specs.declared.faults.Kind.TheVariants.{BadLine, BadRow, BadClass}
use Rattle.text_core.specs.LineTexts.{Words}
use Rattle.launch_graph.specs.LineFaults.{IsFaultAt, IsFirstFault, line_rank, bad_line, missing, bad_row, bad_class, wrong_class}

-- a fault stands at a line or behind the last
pub data Stands (lines : List Line) (at : ℕ) : Type 0 where
  within : at < length lines → Stands lines at
  past : at ≡ length lines → Stands lines at

one_place : (lines : List Line) (at place other : ℕ) → Stands lines at → BeginsAt lines at place → BeginsAt lines at other → place ≡ other
one_place lines at place other (within low) a b = a.within low ∙ sym (b.within low)
one_place lines at place other (past end) a b = a.past end ∙ sym (b.past end)

both_ways : (p q m n : ℕ) → (p < q) ⊎ ((p ≡ q) × (m ≤ n)) → (q < p) ⊎ ((q ≡ p) × (n ≤ m)) → (p ≡ q) × (m ≡ n)
both_ways p q m n (inl before) (inl after) = absurd (omega (arith, before, after))
both_ways p q m n (inl before) (inr after) = absurd (omega (arith, before, after.0))
both_ways p q m n (inr before) (inl after) = absurd (omega (arith, before.0, after))
both_ways p q m n (inr before) (inr after) = (before.0, omega (arith, before.1, after.1))

data IsLineKind : Kind → Type 0 where
  line : IsLineKind BadLine
  row : IsLineKind BadRow
  class : IsLineKind BadClass

one_kind : (k l : Kind) → IsLineKind k → IsLineKind l → line_rank k ≡ line_rank l → k ≡ l
one_kind k l line line e = refl
one_kind k l line row e = absurd (omega (arith, e))
one_kind k l line class e = absurd (omega (arith, e))
one_kind k l row line e = absurd (omega (arith, e))
one_kind k l row row e = refl
one_kind k l row class e = absurd (omega (arith, e))
one_kind k l class line e = absurd (omega (arith, e))
one_kind k l class row e = absurd (omega (arith, e))
one_kind k l class class e = refl

module _ (IsText IsPart : List Words → Type 0) (lines : List Line) (from : ℕ) where
  stands : (at : ℕ) (kind : Kind) → IsFaultAt IsText IsPart lines from at kind → Stands lines at × IsLineKind kind
  stands at kind (bad_line low high goes never) = (within high, line)
  stands at kind (missing end goes never) = (past end, line)
  stands at kind (bad_row low block is at_is goes bad) = (within (let there = is.within in omega (arith, there, at_is)), row)
  stands at kind (bad_class low block is at_is goes bad) = (within (let there = is.within in omega (arith, there, at_is)), class)
  stands at kind (wrong_class low block behind high none goes is wrong) = (within high, class)

  pub once : (p q : ℕ) (k l : Kind) → IsFirstFault IsText IsPart lines from p k → IsFirstFault IsText IsPart lines from q l → (p ≡ q) × (k ≡ l)
  once p q k l one two =
      let same = both_ways one.at two.at (line_rank k) (line_rank l) (one.earliest two.at l two.found) (two.earliest one.at k one.found) in
      let here = stands one.at k one.found in
      let there = stands two.at l two.found in
      (one_place lines one.at p q here.0 one.placed (subst (λ n. BeginsAt lines n q) (sym same.0) two.placed), one_kind k l here.1 there.1 same.1)
