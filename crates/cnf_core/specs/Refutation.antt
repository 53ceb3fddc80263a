-- When the lines of a refutation are accepted, and which reason refuses a line: hints by reverse unit propagation, as
-- in LRAT without deletion and without resolution asymmetric tautologies. The numbers of the reasons are this project's
-- own.
use Rattle.std.specs.Prelude.{◌≡◌, ◌≢◌, ℕ, ◌+◌, ◌-◌, ◌<◌, ◌≤◌, ◌↔◌, ◌⊎◌, List, [], ◌∷◌, ◌++◌, map, length, take, slice_index, Bool}
use Rattle.std.specs.List.{All, AllPairs, Contains, slice_index_or}
use Rattle.cnf_core.specs.declared.literal.Lit.{Lit}
use Rattle.cnf_core.specs.declared.line.Line.{Line}
use Rattle.cnf_core.specs.Formula.{Formula, IsLitOf, Satisfies, negated}
use Rattle.cnf_core.specs.Values.{Partial, partial_of, IsUnit, IsFalseClause, IsClosed, IsHeld, IsFalse}

-- the formula's clauses and the lemmas of these lines
abbrev pub known_clauses : List (List Lit) → List Line → List (List Lit)
known_clauses clauses earlier = clauses ++ map (λ (l : Line). l.lits) earlier

-- the clause that a hint names, from 1
abbrev pub clause_at : List (List Lit) → ℕ → List Lit
clause_at clauses hint = slice_index_or clauses (hint - 1) []

-- from these true literals, each hint in order is a unit clause, and makes its literal true
abbrev pub Reaches : List (List Lit) → List Lit → List ℕ → List Lit → Type 0
Reaches clauses s [] t = s ≡ t
Reaches clauses s (hint ∷ hints) t =
    (l : Lit) × IsUnit (partial_of s) (clause_at clauses hint) l × Reaches clauses (l ∷ s) hints t

-- the negations of the lemma's literals, which are true where all of these are false
abbrev pub negations : List Lit → List Lit
negations lemma = map negated lemma

-- the line has the next number after the clauses and the earlier lines
abbrev pub IsNumbered : Formula → List Line → Line → Type 0
IsNumbered f earlier line = line.id ≡ length f.clauses + length earlier + 1

-- no two of the literals are of one variable
abbrev pub HaveDifferentVars : List Lit → Type 0
HaveDifferentVars lits = AllPairs (λ (l m : Lit). l.var ≢ m.var) lits

-- the hints are among 1 to n
abbrev pub AreNames : ℕ → List ℕ → Type 0
AreNames n hints = All (λ h. (1 ≤ h) × (h ≤ n)) hints

-- its literals are of different variables of the formula, and its hints name clauses or earlier lemmas
pub record IsNamed (f : Formula) (earlier : List Line) (line : Line) : Type 0 where
  pub exist : All (IsLitOf f.vars) line.lits
  pub differ : HaveDifferentVars line.lits
  pub hints : AreNames (length f.clauses + length earlier) line.hints

-- each hint before the last is unit
abbrev pub HasUnits : Formula → List Line → Line → Type 0
HasUnits f earlier line =
    (t : List Lit)
    × Reaches (known_clauses f.clauses earlier) (negations line.lits) (take (length line.hints - 1) line.hints) t

-- there is a last hint, and it is false then
abbrev pub EndsFalse : Formula → List Line → Line → Type 0
EndsFalse f earlier line =
    (t : List Lit)
    × Reaches (known_clauses f.clauses earlier) (negations line.lits) (take (length line.hints - 1) line.hints) t
    × (1 ≤ length line.hints)
    × IsFalseClause (partial_of t)
    (clause_at (known_clauses f.clauses earlier) (slice_index line.hints (length line.hints - 1)))

-- none of the reasons 1 to 4 refuses the line
pub record IsAccepted (f : Formula) (earlier : List Line) (line : Line) : Type 0 where
  pub numbered : IsNumbered f earlier line
  pub named : IsNamed f earlier line
  pub ends : EndsFalse f earlier line

-- each line is accepted after those before it
abbrev pub AreAccepted : Formula → List Line → Type 0
AreAccepted f lines = (k : ℕ) (d : Line) → k < length lines → IsAccepted f (take k lines) (slice_index_or lines k d)

-- the lemma is empty exactly in the last line
abbrev pub IsEmptyOnlyLast : List Line → ℕ → Line → Type 0
IsEmptyOnlyLast lines k line = (line.lits ≡ []) ↔ (k + 1 ≡ length lines)

-- the lemma isn't empty
abbrev pub IsFilled : ℕ → Line → Type 0
IsFilled k line = line.lits ≢ []

-- there is a line, all are accepted, and each is placed as the test wants it
pub record AreRight (Placed : ℕ → Line → Type 0) (f : Formula) (lines : List Line) : Type 0 where
  pub some : 1 ≤ length lines
  pub accepted : AreAccepted f lines
  pub placed : (k : ℕ) (d : Line) → k < length lines → Placed k (slice_index_or lines k d)

-- the lines refute the formula: all are accepted, the last lemma is empty and no other is
abbrev pub Refutes : Formula → List Line → Type 0
Refutes f lines = AreRight (IsEmptyOnlyLast lines) f lines

-- the lines are lemmas of the formula: all are accepted, and no lemma is empty
abbrev pub AreLemmas : Formula → List Line → Type 0
AreLemmas f lines = AreRight IsFilled f lines

-- the least of the reasons 1 to 4 for which a line is refused
pub record IsRefusedFor (f : Formula) (earlier : List Line) (line : Line) (why : ℕ) : Type 0 where
  pub least : 1 ≤ why
  pub most : why ≤ 4
  pub number : why ≡ 1 → IsNumbered f earlier line → ⊥
  pub numbered : 1 < why → IsNumbered f earlier line
  pub name : why ≡ 2 → IsNamed f earlier line → ⊥
  pub named : 2 < why → IsNamed f earlier line
  pub unit : why ≡ 3 → HasUnits f earlier line → ⊥
  pub units : 3 < why → HasUnits f earlier line
  pub end : why ≡ 4 → EndsFalse f earlier line → ⊥

-- the least reason for which the line at k is refused: reason 5 is its lemma's place
abbrev pub IsRefusedAt : (ℕ → Line → Type 0) → Formula → List Line → ℕ → Line → ℕ → Type 0
IsRefusedAt Placed f lines k line why =
    IsRefusedFor f (take k lines) line why ⊎ ((why ≡ 5) × IsAccepted f (take k lines) line × (Placed k line → ⊥))

-- the first refused line, from 1, and its least reason; an empty list of lines is refused at line 1, for reason 5
pub record IsFirstRefusal (Placed : ℕ → Line → Type 0) (f : Formula) (lines : List Line) (number why : ℕ) : Type 0 where
  pub from_one : 1 ≤ number
  pub none : length lines < number → (number ≡ 1) × (why ≡ 5)
  pub before : (k : ℕ) (d : Line) → k + 1 < number → IsAccepted f (take k lines) (slice_index_or lines k d)
      × Placed k (slice_index_or lines k d)
  pub refused : (d : Line) → number ≤ length lines
      → IsRefusedAt Placed f lines (number - 1) (slice_index_or lines (number - 1) d) why

-- no assignment satisfies the clauses
abbrev pub HaveNoSolution : List (List Lit) → Type 0
HaveNoSolution clauses = (v : ℕ → Bool) → Satisfies v clauses → ⊥

-- unit propagation from the earlier clauses and lemmas couldn't find the lemma: some set is closed for them that holds
-- the negations of all its literals but one, and not that one
pub record IsFresh (earlier : List (List Lit)) (lemma : List Lit) : Type 0 where
  pub some : 1 ≤ length lemma
  pub differ : HaveDifferentVars lemma
  pub values : Partial
  pub closed : IsClosed values earlier
  pub last : Lit
  pub among : Contains lemma last
  pub open' : IsHeld values last → ⊥
  pub others : All (λ m. (m ≢ last) → IsFalse values m) lemma
