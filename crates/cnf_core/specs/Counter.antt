-- Sequential counters: clauses that say that at most so many of some literals are true. The encoding is Sinz's (Towards
-- an Optimal CNF Encoding of Boolean Cardinality Constraints, 2005); the order of its clauses is this project's own.
use Rattle.std.specs.Prelude.{◌≡◌, ℕ, ◌+◌, ◌-◌, ◌*◌, ◌≤◌, ◌==◌, nat_le, Bool, true, false, if◌then◌else◌, List, [], ◌∷◌, ◌++◌, map, length, ◌↔◌}
use Rattle.std.specs.List.{range_with_len, flat_map, slice_index_or, count_by}
use Rattle.cnf_core.specs.declared.literal.Lit.{Lit}
use Rattle.cnf_core.specs.Formula.{lit_true, Satisfies, negated}

-- what f gives at i and j, for i below m and j below n, by i then j
unfoldable pub counter_rows : {X : Type 0} → (ℕ → ℕ → X) → ℕ → ℕ → List X
counter_rows f m n = flat_map (λ i. map (f i) (range_with_len 0 n)) (range_with_len 0 m)

-- the literal at the place i, from 0
abbrev pub lit_at : List Lit → ℕ → Lit
lit_at lits i = slice_index_or lits i (record { var = 0; positive = false })

-- the counter's variable which says that more than j of the first i + 1 literals are true, i and j from 0, where `old`
-- is the last variable before the counter and it counts up to p
abbrev pub counter : ℕ → ℕ → ℕ → ℕ → Lit
counter old p i j = record { var = old + (i * p + j) + 1; positive = true }

-- a true literal is counted
abbrev pub counts_first : ℕ → ℕ → List Lit → ℕ → List Lit
counts_first old p lits i = negated (lit_at lits i) ∷ counter old p i 0 ∷ []

-- what was counted stays counted
abbrev pub keeps : ℕ → ℕ → ℕ → ℕ → List Lit
keeps old p i j = negated (counter old p i j) ∷ counter old p (i + 1) j ∷ []

-- one more true literal counts one more
abbrev pub counts_next : ℕ → ℕ → List Lit → ℕ → ℕ → List Lit
counts_next old p lits i j =
    negated (lit_at lits (i + 1)) ∷ negated (counter old p i j) ∷ counter old p (i + 1) (j + 1) ∷ []

-- no true literal comes after p of them
abbrev pub stops : ℕ → ℕ → List Lit → ℕ → List Lit
stops old p lits i = negated (lit_at lits (i + 1)) ∷ negated (counter old p i (p - 1)) ∷ []

-- the four rows of clauses of a counter up to p, where p is at least 1 and there are more literals than p
abbrev pub counter_clauses : ℕ → ℕ → List Lit → List (List Lit)
counter_clauses old p lits =
    map (counts_first old p lits) (range_with_len 0 (length lits - 1))
    ++ counter_rows (keeps old p) (length lits - 2) p
    ++ counter_rows (counts_next old p lits) (length lits - 2) (p - 1)
    ++ map (stops old p lits) (range_with_len 0 (length lits - 1))

-- the clauses which say that at most p of the literals are true, where `old` is the last variable before
abbrev pub at_most_clauses : ℕ → ℕ → List Lit → List (List Lit)
at_most_clauses old p lits =
    if nat_le (length lits) p then [] else
    (if p == 0 then map (λ l. negated l ∷ []) lits else counter_clauses old p lits)

-- how many clauses say that at most p of n literals are true
abbrev pub at_most_size : ℕ → ℕ → ℕ
at_most_size p n =
    if nat_le n p then 0 else (if p == 0 then n else (n - 1) + (n - 2) * p + (n - 2) * (p - 1) + (n - 1))

-- how many variables they add
abbrev pub at_most_vars : ℕ → ℕ → ℕ
at_most_vars p n = if nat_le n p then 0 else (n - 1) * p

-- how many of the literals are true; each place counts, also where a literal stands twice
abbrev pub count_true : (ℕ → Bool) → List Lit → ℕ
count_true v lits = count_by (lit_true v) lits

-- w gives the variables 1 to n the values that v gives
abbrev pub Extends : ℕ → (ℕ → Bool) → (ℕ → Bool) → Type 0
Extends n v w = (x : ℕ) → x ≤ n → w x ≡ v x

-- v, on the variables 1 to n, has an extension which satisfies the clauses
abbrev pub HasExtension : ℕ → (ℕ → Bool) → List (List Lit) → Type 0
HasExtension n v clauses = (w : ℕ → Bool) × Extends n v w × Satisfies w clauses

-- an assignment of the variables 1 to n extends to the clauses exactly where at most p of the literals are true
abbrev pub SayAtMost : ℕ → ℕ → List Lit → List (List Lit) → Type 0
SayAtMost n p lits clauses = (v : ℕ → Bool) → HasExtension n v clauses ↔ (count_true v lits ≤ p)
