-- Two watched literals of each clause, and what propagation keeps of them: the field's invariant (Moskewicz and others,
-- Chaff, 2001), in this project's own form; no public clause cites it.
use Rattle.std.specs.Prelude.{◌≡◌, ◌≢◌, ℕ, ◌+◌, ◌-◌, ◌*◌, ◌^◌, ◌<◌, ◌≤◌, ◌⊎◌, ◌↔◌, ◌==◌, Bool, false, IsTrue, if◌then◌else◌, List, [], ◌∷◌, ◌++◌, length, take, Option, Some, None, MatchOption, slice_set}
use Rattle.std.specs.List.{slice_index_or, All, AllWithin, Contains}
use Rattle.cnf_core.specs.declared.literal.Lit.{Lit}
use Rattle.cnf_core.specs.Formula.{negated}
use Rattle.cnf_core.specs.Values.{Partial, IsHeld, IsFalse}
use Rattle.sat_core.specs.declared.trail.Step.{Step}
use Rattle.sat_core.specs.declared.watches.Watcher.{Watcher}
use Rattle.sat_core.specs.declared.watches.Pair.{Pair}
use Rattle.sat_core.specs.declared.watches.Watches.{Watches}
use Rattle.sat_core.specs.Copies.{Copied}
use Rattle.sat_core.specs.declared.propagation.Visit.{Visit}
use Rattle.sat_core.specs.declared.propagation.Visit.TheVariants.{Stays, Moved, Falsified}
use Rattle.sat_core.specs.FalseClauses.{IsFalsified}
use Rattle.sat_core.specs.Steps.{trail_values, IsRightStep}

abbrev pub no_literal : Lit
no_literal = record { var = 0; positive = false }

abbrev pub no_pair : Pair
no_pair = record { a = no_literal; b = no_literal; saved = 0 }

-- what stands past the end of a list
abbrev pub no_watcher : Watcher
no_watcher = record { clause = 0; blocker = no_literal; binary = false }

-- the place of a literal's list
abbrev pub list_of : Lit → ℕ
list_of l = 2 * (l.var - 1) + (if l.positive then 1 else 0)

-- the list at a place
abbrev pub watchers : List (List Watcher) → ℕ → List Watcher
watchers lists k = slice_index_or lists k []

-- what stands past the end of a table
abbrev pub no_copied : Copied
no_copied = record { pair = no_pair; lits = [] }

-- the watched literals of the clause at a place
abbrev pub pair_at : List Copied → ℕ → Pair
pair_at pairs id = (slice_index_or pairs id no_copied).pair

-- and the copy of all
abbrev pub lits_at : List Copied → ℕ → List Lit
lits_at pairs id = (slice_index_or pairs id no_copied).lits

-- the clauses with other watched literals of the one at a place
abbrev pub exchanged : List Copied → ℕ → Pair → List Copied
exchanged pairs id p = slice_set pairs id (record { pair = p; lits = lits_at pairs id })

-- the clause stands in a list, at a place from this one on
abbrev pub StandsFrom : ℕ → List Watcher → ℕ → Type 0
StandsFrom from list id = (j : ℕ) × (from ≤ j) × (j < length list) × ((slice_index_or list j no_watcher).clause ≡ id)

-- the watcher at a place was taken out, and all others stay, each at its place or at that one
pub record IsRemoved (old : List Watcher) (place : ℕ) (new : List Watcher) : Type 0 where
  pub fewer : length new + 1 ≡ length old
  pub stays : (j : ℕ) → j < length old → j ≢ place
      → (i : ℕ) × (i < length new) × ((i ≡ j) ⊎ (i ≡ place))
      × (slice_index_or new i no_watcher ≡ slice_index_or old j no_watcher)
  pub among : (i : ℕ) → i < length new
      → (j : ℕ) × (j < length old) × (slice_index_or new i no_watcher ≡ slice_index_or old j no_watcher)

-- the lists with one watcher more at the end of the list at a place
abbrev pub with_watcher : List (List Watcher) → ℕ → Watcher → List (List Watcher)
with_watcher lists k w = slice_set lists k (watchers lists k ++ w ∷ [])

-- the watcher at a place with another blocker
abbrev pub watcher_with : List Watcher → ℕ → Lit → Watcher
watcher_with list place blocker = record (slice_index_or list place no_watcher) { blocker = blocker }

-- the lists with it
abbrev pub with_blocker : List (List Watcher) → ℕ → ℕ → Lit → List (List Watcher)
with_blocker lists k place blocker =
    slice_set lists k (slice_set (watchers lists k) place (watcher_with (watchers lists k) place blocker))

-- a clause watches other literals: it left a list, and stands in that of the second one, where the first one blocks it
pub record IsMoved (list place clause : ℕ) (pair : Pair) (old new : Watches) : Type 0 where
  pub rest : List Watcher
  pub removed : IsRemoved (watchers old.lists.items list) place rest
  pub lists : new.lists.items ≡ with_watcher (slice_set old.lists.items list rest) (list_of pair.b)
      (record { clause = clause; blocker = pair.a; binary = false })
  pub pairs : new.pairs.items ≡ exchanged old.pairs.items clause pair
  pub qhead : new.qhead ≡ old.qhead

-- what the lists hold of a new clause: nothing, or each of its two watched literals, blocked by the other
abbrev pub with_pair : List (List Watcher) → ℕ → Pair → Bool → List (List Watcher)
with_pair lists id p binary =
    with_watcher (with_watcher lists (list_of p.a) (record { clause = id; blocker = p.b; binary = binary }))
    (list_of p.b) (record { clause = id; blocker = p.a; binary = binary })

-- a clause was added at the end, with its watched literals
pub record IsAdded (lits : List Lit) (pair : Pair) (old new : Watches) : Type 0 where
  pub one : pair.a ≡ pair.b → new.lists.items ≡ old.lists.items
  pub two : pair.a ≢ pair.b → new.lists.items ≡ with_pair old.lists.items (length old.pairs.items) pair
      (length lits == 2)
  pub pairs : new.pairs.items ≡ old.pairs.items ++ record { pair = pair; lits = lits } ∷ []
  pub qhead : new.qhead ≡ old.qhead

-- a watcher in the list at a place: its clause was visited and has two watched literals, and the blocker is one of its
-- literals; where it is binary, each other one is of this list
pub record IsWatcher (clauses : List (List Lit)) (pairs : List Copied) (list : ℕ) (w : Watcher) : Type 0 where
  pub exists : w.clause < length pairs
  pub has_blocker : Contains (slice_index_or clauses w.clause []) w.blocker
  pub differ : (pair_at pairs w.clause).a ≢ (pair_at pairs w.clause).b
  pub binary : IsTrue w.binary → All (λ m. (m ≡ w.blocker) ⊎ (list_of m ≡ list)) (slice_index_or clauses w.clause [])

-- a literal of the clause is true
abbrev pub IsTrueClause : Partial → List Lit → Type 0
IsTrueClause s c = (l : Lit) × Contains c l × IsHeld s l

-- the clause needs no visit: it is true under the later values, or neither watched literal is false under the earlier
-- ones
abbrev pub NeedsNoVisit : Partial → Partial → List Lit → Pair → Type 0
NeedsNoVisit s t c p = IsTrueClause t c ⊎ ((p.a ≢ p.b) × (IsFalse s p.a → ⊥) × (IsFalse s p.b → ⊥))

-- what is kept of a clause that was visited: it needed no visit before each decision, and now needs one only for the
-- steps from head on
pub record KeepsWatch (steps : List Step) (lists : List (List Watcher)) (qhead id : ℕ) (c : List Lit)
    (p : Pair) : Type 0 where
  pub has_a : Contains c p.a
  pub has_b : Contains c p.b
  pub listed_a : p.a ≢ p.b → StandsFrom 0 (watchers lists (list_of p.a)) id
  pub listed_b : p.a ≢ p.b → StandsFrom 0 (watchers lists (list_of p.b)) id
  pub decided : (k : ℕ) (d : Step) → k < length steps → (slice_index_or steps k d).reason ≡ None
      → NeedsNoVisit (trail_values (take k steps)) (trail_values (take k steps)) c p
  pub visited : NeedsNoVisit (trail_values (take qhead steps)) (trail_values steps) c p

-- what the lists and pairs keep: steps taken back to a decision leave it, with the head not past the end
pub record KeepWatches (clauses : List (List Lit)) (n : ℕ) (steps : List Step) (lists : List (List Watcher))
    (pairs : List Copied) (qhead : ℕ) : Type 0 where
  pub few : n < 2 ^ 31
  pub count : length lists ≡ 2 * n
  pub attached : length pairs ≤ length clauses
  pub copies : (id : ℕ) → id < length pairs → lits_at pairs id ≡ slice_index_or clauses id []
  pub within : qhead ≤ length steps
  pub right : (k : ℕ) → All (IsWatcher clauses pairs k) (watchers lists k)
  pub kept : (id : ℕ) → id < length pairs
      → KeepsWatch steps lists qhead id (slice_index_or clauses id []) (pair_at pairs id)

abbrev pub AreWatched : List (List Lit) → ℕ → List Step → Watches → Type 0
AreWatched clauses n steps w = KeepWatches clauses n steps w.lists.items w.pairs.items w.qhead

-- each clause needs no visit, the step at the head included, or it is in the list from a place on
abbrev pub ArePassedIn : List (List Lit) → List Step → List (List Watcher) → List Copied → ℕ → ℕ → ℕ → Type 0
ArePassedIn clauses steps lists pairs qhead list place =
    (id : ℕ) → id < length pairs
    → NeedsNoVisit (trail_values (take (qhead + 1) steps)) (trail_values steps)
    (slice_index_or clauses id []) (pair_at pairs id)
    ⊎ StandsFrom place (watchers lists list) id

abbrev pub ArePassed : List (List Lit) → List Step → Watches → Lit → ℕ → Type 0
ArePassed clauses steps w l place = ArePassedIn clauses steps w.lists.items w.pairs.items w.qhead (list_of l) place

-- the step at the head made this literal false
pub record IsFalsifiedAt (steps : List Step) (qhead : ℕ) (l : Lit) : Type 0 where
  pub within : qhead < length steps
  pub is : (d : Step) → negated (slice_index_or steps qhead d).lit ≡ l

-- at this place the clause has a literal that isn't false, other than this one
pub record IsReplacement (s : Partial) (c : List Lit) (other : Lit) (at : ℕ) : Type 0 where
  pub within : at < length c
  pub differ : (d : Lit) → slice_index_or c at d ≢ other
  pub free : (d : Lit) → IsFalse s (slice_index_or c at d) → ⊥

-- the literal can't be watched: it is the other one, or false
abbrev pub IsPassedOver : Partial → Lit → Lit → Type 0
IsPassedOver s other m = (m ≡ other) ⊎ IsFalse s m

-- the first replacement between two places
pub record IsFirstWithin (s : Partial) (c : List Lit) (other : Lit) (start end at : ℕ) : Type 0 where
  pub from : start ≤ at
  pub before : at < end
  pub is : IsReplacement s c other at
  pub first : AllWithin (IsPassedOver s other) c start at

-- the first replacement from a place on, or, where there is none, the first one before it
abbrev pub IsNextReplacement : Partial → List Lit → Lit → ℕ → ℕ → Type 0
IsNextReplacement s c other saved at =
    IsFirstWithin s c other saved (length c) at
    ⊎ (AllWithin (IsPassedOver s other) c saved (length c) × IsFirstWithin s c other 0 saved at)

-- the result of a visit to the watcher at a place of the list of a literal
abbrev pub VisitSays : List (List Lit) → List Step → Partial → Lit → ℕ → ℕ → Watches → Visit → Type 0
VisitSays clauses steps s l place count w Stays =
    ArePassed clauses steps w l (place + 1) × (length (watchers w.lists.items (list_of l)) ≡ count)
VisitSays clauses steps s l place count w Moved =
    ArePassed clauses steps w l place × (length (watchers w.lists.items (list_of l)) + 1 ≡ count)
VisitSays clauses steps s l place count w (Falsified id) = IsFalsified s clauses id

-- what settles the clause at a place, all of whose literals but this one are false: the literal is made true, or the
-- clause is false and nothing is done
abbrev pub SettleSays : List (List Lit) → ℕ → Lit → Partial → List Step → List Step → Visit → Type 0
SettleSays clauses place l s old new Stays =
    (new ≡ old ++ record { lit = l; reason = Some (place + 1) } ∷ [])
    × IsRightStep clauses old (record { lit = l; reason = Some (place + 1) })
SettleSays clauses place l s old new Moved = ⊥
SettleSays clauses place l s old new (Falsified id) = (new ≡ old) × IsFalsified s clauses id

-- every clause and every step was visited
pub record AreVisited (clauses : List (List Lit)) (steps : List Step) (w : Watches) : Type 0 where
  pub attached : length w.pairs.items ≡ length clauses
  pub qhead : w.qhead ≡ length steps

-- where a literal becomes false: the number of steps before it, or all
abbrev pub IsFalseFrom : List Step → Lit → ℕ → Type 0
IsFalseFrom steps l at = (k : ℕ) → k ≤ length steps → IsFalse (trail_values (take k steps)) l ↔ (at < k)

-- a literal becomes false no later than another one
abbrev pub IsNoLater : List Step → Lit → Lit → Type 0
IsNoLater steps m l =
    (k : ℕ) → k ≤ length steps → IsFalse (trail_values (take k steps)) l → IsFalse (trail_values (take k steps)) m

-- the literal of the clause that becomes false last, but for one that is passed over, or none where there is no other
abbrev pub IsLatest : List Step → List Lit → Option Lit → Option Lit → Type 0
IsLatest steps c but best =
    MatchOption best (All (λ m. but ≡ Some m) c)
    (λ l. Contains c l × (but ≢ Some l) × All (λ m. (but ≡ Some m) ⊎ IsNoLater steps m l) c)

-- the better one of the best literal so far and one more, which may be passed over
abbrev pub IsLaterOf : List Step → Lit → Option Lit → Option Lit → Option Lit → Type 0
IsLaterOf steps l but best now =
    ((but ≡ Some l) × (now ≡ best))
    ⊎ ((but ≢ Some l) × (now ≡ Some l) × MatchOption best (Unit {0}) (λ m. IsNoLater steps m l))
    ⊎ MatchOption best ⊥ (λ m. (now ≡ best) × IsNoLater steps l m)

-- the two literals of the clause that become false last
pub record IsChosen (steps : List Step) (c : List Lit) (p : Pair) : Type 0 where
  pub has_a : Contains c p.a
  pub has_b : Contains c p.b
  pub last : All (λ m. IsNoLater steps m p.a) c
  pub second : All (λ m. (m ≡ p.a) ⊎ ((p.a ≢ p.b) × IsNoLater steps m p.b)) c
