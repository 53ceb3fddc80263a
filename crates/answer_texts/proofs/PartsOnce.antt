-- Parts of lines that say one value and have one end at most, or have one first fault.
use Rattle.std.proofs.Common.{◌≡◌, ◌⊎◌, ℕ, ◌<◌, ◌≤◌, List, length, inl, inr, sym, subst, ◌∙◌, arith}
use Rattle.std.proofs.lemmas.Bool.{cases_lt}
use Rattle.text_core.specs.Lines.{Line, line_at, BeginsAt}
use Rattle.text_core.specs.LineTexts.{Words}
use Rattle.text_core.specs.declared.faults.Kind.{Kind}
use Rattle.answer_texts.specs.LineParts.{IsBadOrMissingLine, IsOneLine, IsNoLine, Leads, Says, LeadsFault, NoFault, in_first, in_second}

pub record IsOneReading {X : Type 0} (Is : ℕ → ℕ → X → Type 0) (Fault : ℕ → ℕ → Kind → Type 0) : Type 0 where
  pub once : (from next other : ℕ) (x y : X) → Is from next x → Is from other y → (next ≡ other) × (x ≡ y)
  pub apart : (from next place : ℕ) (x : X) (kind : Kind) → Is from next x → Fault from place kind → ⊥
  pub first : (from place other : ℕ) (kind another : Kind) → Fault from place kind → Fault from other another
      → (place ≡ other) × (kind ≡ another)

-- ---- places

one_place : (lines : List Line) (at place other : ℕ) → (at < length lines) ⊎ (length lines ≤ at) → at ≤ length lines
    → BeginsAt lines at place → BeginsAt lines at other → place ≡ other
one_place lines at place other (inl low) within a b = a.within low ∙ sym (b.within low)
one_place lines at place other (inr high) within a b =
    let end : at ≡ length lines = omega (arith, high, within) in
    a.past end ∙ sym (b.past end)

pub one_bad_line : (lines : List Line) (at place other : ℕ) (kind another : Kind) → IsBadOrMissingLine lines at place kind
    → IsBadOrMissingLine lines at other another → (place ≡ other) × (kind ≡ another)
one_bad_line lines at place other kind another a b =
    (one_place lines at place other (cases_lt at (length lines)) a.within a.placed b.placed, a.named ∙ sym b.named)

-- ---- one line

module _ {X : Type 0} (Is : Words → X → Type 0) (lines : List Line)
    (one : (words : Words) (x y : X) → Is words x → Is words y → x ≡ y) where
  pub line_once : IsOneReading (IsOneLine Is lines) (IsNoLine Is lines)
  line_once = record {
    once = λ from next other x y a b. (a.behind ∙ sym b.behind, one (line_at lines from).words x y a.is b.is);
    apart = λ from next place x kind a f. f.none a.within x a.is;
    first = λ from place other kind another f g. one_bad_line lines from place other kind another f.fault g.fault;
  }

-- ---- no line

pub says_once : {X : Type 0} (value : X) → IsOneReading (Says value) NoFault
says_once value = record {
  once = λ from next other x y a b. (a.stays ∙ sym b.stays, a.is ∙ sym b.is);
  apart = λ from next place x kind a f. f;
  first = λ from place other kind another f g. absurd f;
}

-- ---- one part behind another

module _ {X Y : Type 0} (First : ℕ → ℕ → X → Type 0) (FirstFault : ℕ → ℕ → Kind → Type 0)
    (Second : X → ℕ → ℕ → Y → Type 0) (SecondFault : X → ℕ → ℕ → Kind → Type 0)
    (front : IsOneReading First FirstFault)
    (behind : (from middle : ℕ) (x : X) → First from middle x → IsOneReading (Second x) (SecondFault x)) where
  both_once : (from next other : ℕ) (y z : Y) → Leads First Second from next y → Leads First Second from other z
      → (next ≡ other) × (y ≡ z)
  both_once from next other y z a b =
      let same = front.once from a.middle b.middle a.said b.said a.first b.first in
      (behind from a.middle a.said a.first).once a.middle next other y z a.second
      (subst (λ x. Second x a.middle other z) (sym same.1)
      (subst (λ m. Second b.said m other z) (sym same.0) b.second))

  both_apart : (from next place : ℕ) (y : Y) (kind : Kind) → Leads First Second from next y
      → LeadsFault First FirstFault SecondFault from place kind → ⊥
  both_apart from next place y kind a (in_first f) = front.apart from a.middle place a.said kind a.first f
  both_apart from next place y kind a (in_second {middle = m} {said = x} is f) =
      let same = front.once from a.middle m a.said x a.first is in
      (behind from a.middle a.said a.first).apart a.middle next place y kind a.second
      (subst (λ x. SecondFault x a.middle place kind) (sym same.1)
      (subst (λ n. SecondFault x n place kind) (sym same.0) f))

  both_first : (from place other : ℕ) (kind another : Kind) → LeadsFault First FirstFault SecondFault from place kind
      → LeadsFault First FirstFault SecondFault from other another → (place ≡ other) × (kind ≡ another)
  both_first from place other kind another (in_first f) (in_first g) = front.first from place other kind another f g
  both_first from place other kind another (in_first f) (in_second {middle = m} {said = x} is g) =
      absurd (front.apart from m place x kind is f)
  both_first from place other kind another (in_second {middle = m} {said = x} is f) (in_first g) =
      absurd (front.apart from m other x another is g)
  both_first from place other kind another (in_second {middle = m} {said = x} is f)
      (in_second {middle = n} {said = y} also g) =
      let same = front.once from m n x y is also in
      (behind from m x is).first m place other kind another f
      (subst (λ z. SecondFault z m other another) (sym same.1)
      (subst (λ k. SecondFault y k other another) (sym same.0) g))

  pub leads_once : IsOneReading (Leads First Second) (LeadsFault First FirstFault SecondFault)
  leads_once = record { once = both_once; apart = both_apart; first = both_first }
