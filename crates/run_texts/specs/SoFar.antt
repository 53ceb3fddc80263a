-- How far a program's text has been read. No public clause rests on this. Source: this project.
use Rattle.std.specs.Prelude.{ℕ, ◌≡◌, ◌≢◌, ◌/◌, List, All, take}
use Rattle.word_ops.specs.Memory.{Memory, word_at}
use Rattle.text_core.specs.Lines.{Line, line_at}
use Rattle.text_core.specs.LineTexts.{Words}
use Rattle.text_core.specs.declared.faults.Kind.{Kind}
use Rattle.text_core.specs.declared.faults.TextFault.{TextFault}
use Rattle.text_core.specs.declared.faults.TextFault.TheVariants as faults
use Rattle.run_texts.specs.declared.texts.PlaceWord.{PlaceWord}
use Rattle.run_texts.specs.declared.texts.RunText.{RunText}
use Rattle.run_texts.specs.RunTexts.{IsRunText}
use Rattle.run_texts.specs.RunFaults.{word_count, IsWithinLimits}

-- a fault of this kind at the line of this number
pub record IsFaultAtLine (lines : List Line) (at : ℕ) (kind : Kind) (fault : TextFault) : Type 0 where
  pub place : ℕ
  pub is : fault ≡ faults.Fault (record { place = place; kind = kind })
  pub placed : place ≡ (line_at lines at).place

-- The lines before this one are a program within the limits.
pub record IsRunTextTo (lines : List Words) (at : ℕ) (run : RunText) : Type 0 where
  pub is : IsRunText (word_count lines) (take at lines) run
  pub within : IsWithinLimits run

-- The places that were given hold 1, and all others 0.
pub record AreSeen (places : List PlaceWord) (seen : Memory) : Type 0 where
  pub given : All (λ p. word_at seen (p.address / 8) ≡ 1) places
  pub others : (place : ℕ) → All (λ p. p.address / 8 ≢ place) places → word_at seen place ≡ 0
