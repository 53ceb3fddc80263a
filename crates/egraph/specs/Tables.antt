-- Rows under keys of a slab, and the tables that find them. No public clause rests on these.
use Rattle.std.specs.Prelude.{◌≡◌, ◌≢◌, ℕ, ◌<◌, ◌⊎◌, List, map, length, slice_index, Option, Some, IsSome, All, AllPairs, Contains, filter_map}
use Rattle.std.specs.Option.{option_map}
use Rattle.slab.specs.Slab.{Slab, get}
use Rattle.word_terms.specs.Signature.{Signature}
use Rattle.egraph.specs.declared.rows.Row.{Row}
use Rattle.egraph.specs.declared.row_index.RowKey.{RowKey}
use Rattle.egraph.specs.declared.faults.MergeFault.{MergeFault}
use Rattle.egraph.specs.declared.faults.MergeFault.TheVariants.{NoWorld, Memory}
use Rattle.egraph.specs.Graph.{Agree, IsGraph}
use Rattle.egraph.specs.Joined.{relabel}
use Rattle.egraph.specs.Steps.{moved}
use Rattle.egraph.specs.Keys.{key_of_row, indexed_place, listed_at, constant_at}

-- f of the row's class
abbrev pub reclass : {O : Type 0} → (ℕ → ℕ) → Row O → Row O
reclass f r = record { op = r.op; operands = r.operands; class = f r.class }

-- f of each operand class
abbrev pub reoperand : {O : Type 0} → (ℕ → ℕ) → Row O → Row O
reoperand f r = record { op = r.op; operands = map f r.operands; class = r.class }

-- the new slab has f of the row that the old one has under the key
abbrev pub Becomes : {O : Type 0} → (Row O → Row O) → Slab (Row O) → Slab (Row O) → ℕ → Type 0
Becomes f old new place = get new place ≡ option_map f (get old place)

-- under each key
abbrev pub EachBecomes : {O : Type 0} → (Row O → Row O) → Slab (Row O) → Slab (Row O) → Type 0
EachBecomes f old new = (place : ℕ) → Becomes f old new place

-- the list has the key of each row with this class
abbrev pub ListsRowsOf : {O : Type 0} → Slab (Row O) → ℕ → List ℕ → Type 0
ListsRowsOf {O} rows class places =
    (place : ℕ) (r : Row O) → get rows place ≡ Some r → r.class ≡ class → Contains places place

-- the list has the key of each row with this operand
abbrev pub ListsUsesOf : {O : Type 0} → Slab (Row O) → ℕ → List ℕ → Type 0
ListsUsesOf {O} rows class places =
    (place : ℕ) (r : Row O) → get rows place ≡ Some r → Contains r.operands class → Contains places place

-- the list has each class that is in this one
abbrev pub ListsMembersOf : List ℕ → ℕ → List ℕ → Type 0
ListsMembersOf current class members = (x : ℕ) → x < length current → slice_index current x ≡ class → Contains members x

-- each row has as many operands as its operator takes
abbrev pub HasArities : {O : Type 0} → Signature O → Slab (Row O) → Type 0
HasArities {O} s rows = (place : ℕ) (r : Row O) → get rows place ≡ Some r → length r.operands ≡ s.arity r.op

-- the index has the key of the row there, or the place is among those that wait
abbrev pub IsTracked : {O : Type 0} → Signature O → Slab (Row O) → List (RowKey × ℕ) → List ℕ → ℕ → Type 0
IsTracked {O} s rows index waiting place =
    (r : Row O) →
    get rows place ≡ Some r →
    (indexed_place index (key_of_row s r.op r.operands) ≡ Some place) ⊎ Contains waiting place

-- the index has the key of each row
abbrev pub IsIndexed : {O : Type 0} → Signature O → Slab (Row O) → List (RowKey × ℕ) → Type 0
IsIndexed {O} s rows index =
    (place : ℕ) (r : Row O) →
    get rows place ≡ Some r →
    indexed_place index (key_of_row s r.op r.operands) ≡ Some place

-- a row of the class that is the constant
pub record ConstantRow {O : Type 0} (s : Signature O) (rows : Slab (Row O)) (class x : ℕ) : Type 0 where
  pub place : ℕ
  pub row : Row O
  pub there : get rows place ≡ Some row
  pub of_class : row.class ≡ class
  pub is : s.constant row.op ≡ Some x

-- two rows under different keys that agree
pub record Twins {O : Type 0} (rows : Slab (Row O)) (first second : ℕ) : Type 0 where
  pub differ : first ≢ second
  pub row : Row O
  pub other : Row O
  pub row_there : get rows first ≡ Some row
  pub other_there : get rows second ≡ Some other
  pub agree : Agree row other

-- the rows in the order of their keys in the list
abbrev pub rows_in : {O : Type 0} → Slab (Row O) → List ℕ → List (Row O)
rows_in rows order = filter_map (get rows) order

-- what the lists beside the rows keep
pub record FitLists {O : Type 0} (s : Signature O) (rows : Slab (Row O)) (own uses members : List (List ℕ))
    (constants : List (Option ℕ)) (current : List ℕ) : Type 0 where
  pub arities : HasArities s rows
  pub own_rows : (class : ℕ) → ListsRowsOf rows class (listed_at own class)
  pub used : (class : ℕ) → ListsUsesOf rows class (listed_at uses class)
  pub members_of : (class : ℕ) → ListsMembersOf current class (listed_at members class)
  pub constant_of :
      (place : ℕ) (r : Row O) (x : ℕ) →
      get rows place ≡ Some r →
      s.constant r.op ≡ Some x →
      constant_at constants r.class ≡ Some x
  pub constant_there : (class x : ℕ) → constant_at constants class ≡ Some x → ConstantRow s rows class x

-- the list has each key with a row, and each once
pub record IsOrder {O : Type 0} (rows : Slab (Row O)) (order : List ℕ) : Type 0 where
  pub listed : (place : ℕ) (r : Row O) → get rows place ≡ Some r → Contains order place
  pub once : AllPairs (λ x y. x ≢ y) order

-- two constants that would be of the class `to`
abbrev pub TwoConstants : List (Option ℕ) → ℕ → ℕ → MergeFault → Type 0
TwoConstants constants from to (NoWorld class x y) =
    (class ≡ to) × (constant_at constants from ≡ Some x) × (constant_at constants to ≡ Some y) × (x ≢ y)
TwoConstants constants from to Memory = Unit {0}

-- what stood in a list stands in it
abbrev pub Grows : List (List ℕ) → List (List ℕ) → Type 0
Grows old new = (class place : ℕ) → Contains (listed_at old class) place → Contains (listed_at new class) place

-- each row is of a class below this number
abbrev pub RowsAreMade : {O : Type 0} → Slab (Row O) → ℕ → Type 0
RowsAreMade {O} rows made = (place : ℕ) (r : Row O) → get rows place ≡ Some r → r.class < made

-- what the rows of a graph and their tables keep
pub record FitTables {O : Type 0} (s : Signature O) (rows : Slab (Row O)) (index : List (RowKey × ℕ))
    (own uses members : List (List ℕ)) (constants : List (Option ℕ)) (current order : List ℕ) : Type 0 where
  pub graph : IsGraph s (record { rows = rows_in rows order; current = current })
  pub listed : FitLists s rows own uses members constants current
  pub indexed : IsIndexed s rows index
  pub in_order : IsOrder rows order
  pub occupied : All (λ place. IsSome (get rows place)) order

-- the class `to` is in place of `from`
pub record JoinedUp {O : Type 0} (from to : ℕ) (rows rows' : Slab (Row O)) (current current' : List ℕ) : Type 0 where
  pub rows_become : EachBecomes (relabel (moved from to)) rows rows'
  pub current_is : current' ≡ map (moved from to) current
