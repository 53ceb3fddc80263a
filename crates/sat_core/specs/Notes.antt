-- What is noted of steps in one conflict: this project; no public clause cites it.
use Rattle.std.specs.Prelude.{◌≡◌, ℕ, ◌<◌, ◌≤◌, List, length}
use Rattle.std.specs.List.{All}
use Rattle.sat_core.specs.declared.notes.Frame.{Frame}
use Rattle.sat_core.specs.declared.notes.Notes.{Notes}

-- the variables are among 1 to n
abbrev pub AreVars : ℕ → List ℕ → Type 0
AreVars n vars = All (λ x. (1 ≤ x) × (x ≤ n)) vars

-- the steps that are looked through are among the first n
abbrev pub AreFrames : ℕ → List Frame → Type 0
AreFrames n frames = All (λ (f : Frame). f.index < n) frames

-- a finding for each of n steps, and only such steps are named
pub record AreNotes (n : ℕ) (notes : Notes) : Type 0 where
  pub size : length notes.findings.items ≡ n
  pub found : All (λ k. k < n) notes.found.items
  pub met : AreVars n notes.met.items
