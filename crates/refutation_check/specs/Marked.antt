-- The values that a check keeps as marks of its lines, and how the marks show literals: this project; no public clause
-- cites it.
use Rattle.std.specs.Prelude.{◌≡◌, ℕ, slice_set, ◌-◌, ◌≤◌, Bool, false, if◌then◌else◌, ◌==◌, List, length, Option, Some, None}
use Rattle.std.specs.List.{slice_index_or, All}
use Rattle.cnf_core.specs.Formula.{IsLitOf}
use Rattle.cnf_core.specs.declared.literal.Lit.{Lit}
use Rattle.cnf_core.specs.Values.{Partial, partial_of}
use Rattle.refutation_check.specs.declared.values.Mark.{Mark}
use Rattle.cnf_core.specs.declared.line.Line.{Line}
use Rattle.cnf_core.specs.Refutation.{Reaches, HaveDifferentVars}
use Rattle.std.specs.Prelude.{MatchBool}

-- the value of a mark that this line wrote
abbrev pub value_of_mark : ℕ → Mark → Option Bool
value_of_mark line m = if m.line == line then Some m.positive else None

-- the values that this line wrote
unfoldable pub marked : ℕ → List Mark → Partial
marked line marks x = value_of_mark line (slice_index_or marks (x - 1) (record { line = 0; positive = false }))

-- the marks of this line show which of these literals are true
abbrev pub Shows : ℕ → List Mark → List Lit → Type 0
Shows line marks s = (x : ℕ) → 1 ≤ x → x ≤ length marks → partial_of s x ≡ marked line marks x

-- the marks after this line made a literal true
abbrev pub with_true : ℕ → List Mark → Lit → List Mark
with_true line marks l = slice_set marks (l.var - 1) (record { line = line; positive = l.positive })

-- no mark is of a later line
abbrev pub NoneIsLater : ℕ → List Mark → Type 0
NoneIsLater line marks = All (λ (m : Mark). m.line ≤ line) marks

-- the literals are of different variables among 1 to n
pub record AreDistinctAmong (n : ℕ) (lits : List Lit) : Type 0 where
  pub exist : All (IsLitOf n) lits
  pub differ : HaveDifferentVars lits

-- the lemmas have literals of 1 to n
abbrev pub LemmasExist : ℕ → List Line → Type 0
LemmasExist n earlier = All (λ (l : Line). All (IsLitOf n) l.lits) earlier

-- where the marks show s, the hints lead from s to literals which the new marks show; or they lead nowhere
abbrev pub Follows : Bool → List (List Lit) → List ℕ → ℕ → List Mark → List Mark → Type 0
Follows led clauses hints line old new =
    (s : List Lit) → Shows line old s
    → MatchBool led ((t : List Lit) × Reaches clauses s hints t × Shows line new t)
    ((t : List Lit) → Reaches clauses s hints t → ⊥)
