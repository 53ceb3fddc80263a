-- Values of classes under which the rows of a graph are true. From Denali (PLDI 2002): each class stands for one value.
use Rattle.std.specs.Prelude.{◌≡◌, ℕ, ◌<◌, List, map, length, slice_index, All}
use Rattle.egraph.specs.declared.rows.Row.{Row}
use Rattle.egraph.specs.Graph.{Graph}
use Rattle.egraph.specs.Joined.{Joined}

-- each row's class has the value that its operator gives for the values of its operands
abbrev pub AllTrue : {O V : Type 0} → (O → List V → V) → (ℕ → V) → List (Row O) → Type 0
AllTrue meaning value rows = All (λ r. value r.class ≡ meaning r.op (map value r.operands)) rows

-- values under which all rows were true, and which gave a and b one value, make all rows true after their merge, and
-- each class has the value of the class that it is in then
abbrev pub KeepsValues : {O : Type 0} → Type 0 → Graph O → ℕ → ℕ → Graph O → Type 0
KeepsValues {O} V old a b new =
    (meaning : O → List V → V) (value : ℕ → V) →
    AllTrue meaning value old.rows →
    value (slice_index old.current a) ≡ value (slice_index old.current b) →
    AllTrue meaning value new.rows
    × ((c : ℕ) → c < length old.current → value (slice_index new.current c) ≡ value (slice_index old.current c))

-- values under which all rows were true have a value for each new class under which all rows are true
abbrev pub ExtendsValues : {O : Type 0} → Type 0 → Graph O → Graph O → Type 0
ExtendsValues {O} V old new =
    (meaning : O → List V → V) (value : ℕ → V) →
    AllTrue meaning value old.rows →
    (after : ℕ → V) × AllTrue meaning after new.rows × ((c : ℕ) → c < length old.current → after c ≡ value c)

-- values under which all rows are true, and which give a and b one value, give one value to any two classes that the
-- merge of a and b joins
abbrev pub JoinedHaveOneValue : {O : Type 0} → Type 0 → Graph O → ℕ → ℕ → Type 0
JoinedHaveOneValue {O} V g a b =
    (meaning : O → List V → V) (value : ℕ → V) →
    AllTrue meaning value g.rows →
    value (slice_index g.current a) ≡ value (slice_index g.current b) →
    (x y : ℕ) → Joined g a b x y → value (slice_index g.current x) ≡ value (slice_index g.current y)
