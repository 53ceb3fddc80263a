-- The first line that is `tail`.
use Rattle.std.proofs.Common.{◌≡◌, ℕ, ◌+◌, ◌<◌, ◌≤◌, Bool, true, false, List, [], length, get_or, codes, sym, ap, subst, ◌∙◌, inl, inr, arith}
use Rattle.std.proofs.lemmas.Bool.{cases_lt, false≢true}
use Rattle.text_core.specs.Lines.{Line, line_at, line_word}
use Rattle.least_launch.specs.TailedAnswers.{HasNoTail, IsTailAt, IsTailWord}
use Rattle.least_launch.proofs.Behind.{one_word}

-- a line has the form of `tail` exactly where it is this word
abbrev HasForm : List Line → ℕ → Type 0
HasForm lines at = (length (line_at lines at).words ≡ 1) × (line_word lines at 0 ≡ codes "tail")

formed : (lines : List Line) (at : ℕ) → IsTailWord lines at → HasForm lines at
formed lines at is = (ap length is, ap (λ ws. get_or ws 0 []) is)

pub found_tail : (lines : List Line) (at : ℕ) → at < length lines → HasForm lines at
    → ((other : ℕ) → other < at → ¬ IsTailWord lines other) → IsTailAt lines at
found_tail lines at lt form before = record { within = lt; is = one_word _ _ form.0 form.1; first = before }

pub no_tail_more : (lines : List Line) (at : ℕ) (b : Bool) → (HasForm lines at → b ≡ true) → b ≡ false
    → ((other : ℕ) → other < at → ¬ IsTailWord lines other) → (other : ℕ) → other < at + 1 → ¬ IsTailWord lines other
no_tail_more lines at b told not before other lt is =
    elim (cases_lt other at) [
      | inl less ↦ before other less is
      | inr le ↦
          (let same : other ≡ at = omega (arith, lt, le) in
          false≢true (sym not ∙ told (formed lines at (subst (IsTailWord lines) same is))))
    ]

pub none_at_end : (lines : List Line) (end : ℕ) → length lines ≤ end
    → ((other : ℕ) → other < end → ¬ IsTailWord lines other) → HasNoTail lines
none_at_end lines end le none at lt = none at (omega (arith, le, lt))
