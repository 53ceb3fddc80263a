-- The rows behind some words as contracts see them, and which values have classes. Source: this project.
use Rattle.std.specs.Prelude.{ℕ, ◌<◌, All, IfSome}
use Rattle.code_lift.specs.Lifted.{Lifting}
use Rattle.code_lift.specs.declared.lifting.Value.{Value}
use Rattle.code_lift.specs.declared.lifting.Value.TheVariants.{Let}
use Rattle.own_graph.specs.Own.{Own}
use Rattle.own_graph.specs.declared.stepping.Own.{Own as OwnOf}

abbrev pub own_view : OwnOf → Own
own_view o = record { rows = o.rows.items; values = o.values.items }

-- where the first n lets have classes, the value has one
abbrev pub IsGiven : ℕ → Value → Type 0
IsGiven n (Let k) = k < n
IsGiven n _ = Unit {0}

-- so have the latest values of all registers, and the memory
pub record AreGiven (n : ℕ) (s : Lifting) : Type 0 where
  pub registers : All (IsGiven n) s.latest
  pub memory : IfSome s.memory (λ k. k < n)
