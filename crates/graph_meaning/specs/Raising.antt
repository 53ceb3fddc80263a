-- How the greatest powers are found: what a row says by what stands of its operands so far, and a queue of the classes
-- of which more was found, whose rows are to be looked at again. No public clause rests on this. From this project.
use Rattle.std.specs.Prelude.{◌≡◌, ℕ, ◌<◌, ◌≤◌, ◌⊎◌, ◌++◌, List, [], ◌∷◌, length, slice_index, slice_index_or, slice_set, sum, Option, Some, None, Bool, true, false, All, Contains}
use Rattle.std.specs.Option.{option_map_or}
use Rattle.word_ops.specs.Meanings.{constant_in}
use Rattle.word_ops.specs.declared.operates.Operate.TheVariants.{And}
use Rattle.word_ops.specs.declared.operators.WordOp.TheVariants.{Operate, Neg}
use Rattle.word_ops.specs.declared.sorts.Op.{Op}
use Rattle.word_ops.specs.declared.sorts.Op.TheVariants.{Word}
use Rattle.graph_meaning.specs.Graphs.{constant_among}
use Rattle.graph_meaning.specs.Multiples.{low_zeros, low_ones, pair_multiple, IsShown}
use Rattle.graph_meaning.specs.declared.graphs.LaunchRow.{LaunchRow}

-- the row's class and operands are below the number of classes
abbrev pub IsBelow : ℕ → LaunchRow → Type 0
IsBelow classes r = (r.class < classes) × All (λ c. c < classes) r.operands

-- the constant of each class
pub record AreConstants (rows : List LaunchRow) (classes : ℕ) (constants : List (Option ℕ)) : Type 0 where
  pub size : length constants ≡ classes
  pub each : (class : ℕ) → class < classes → slice_index_or constants class None ≡ constant_among rows class

-- for each class the places of the rows that have it as an operand, among the rows before a place
pub record AreUses (rows : List LaunchRow) (before classes : ℕ) (uses : List (List ℕ)) : Type 0 where
  pub size : length uses ≡ classes
  pub within : (class at : ℕ) → Contains (slice_index_or uses class []) at → at < length rows
  pub has : (class at : ℕ) (row : LaunchRow) → at < before → slice_index_or rows at row ≡ row
      → Contains row.operands class → Contains (slice_index_or uses class []) at

-- what an operator says of one operand
abbrev pub negated : Op → ℕ → ℕ
negated (Word Neg) a = a
negated _ a = 0

-- what an operator says of its class, by what stands of its operands and by their constants
abbrev pub said : Op → (ℕ → Option ℕ) → (ℕ → ℕ) → List ℕ → ℕ
said o constant stands [] = option_map_or low_zeros (constant_in o) 0
said o constant stands (x ∷ []) = negated o (stands x)
said o constant stands (x ∷ y ∷ []) = pair_multiple o (constant y) (stands x) (stands y)
said o constant stands _ = 0

abbrev pub row_says : List LaunchRow → List ℕ → LaunchRow → ℕ
row_says rows stands r = said r.op (constant_among rows) (slice_index stands) r.operands

-- What stands of each class is shown, and no more classes were queued than the sum of what stands, since a class is
-- queued only where more stands of it than before.
pub record IsState (rows : List LaunchRow) (stands queue : List ℕ) : Type 0 where
  pub shown : (class : ℕ) → class < length stands → IsShown rows class (slice_index stands class)
  pub few : length queue ≤ sum stands
  pub within : All (λ c. c < length stands) queue

-- one raise of a class to a power, which changes nothing where as much stands already
abbrev pub IsRaised : List ℕ → List ℕ → ℕ → ℕ → List ℕ → List ℕ → Type 0
IsRaised stands queue class n stands' queue' =
    ((n ≤ slice_index stands class) × (stands' ≡ stands) × (queue' ≡ queue))
    ⊎ ((slice_index stands class < n) × (stands' ≡ slice_set stands class n) × (queue' ≡ queue ++ class ∷ []))

-- the class is in the queue, at the place or behind it
abbrev pub Waits : List ℕ → ℕ → ℕ → Type 0
Waits queue at class = (k : ℕ) × (at ≤ k) × (k < length queue) × (slice_index queue k ≡ class)

-- after some raises: no less stands of any class, the queue goes on, and a class of which more stands is in its new
-- part
pub record AreRaises (stands queue stands' queue' : List ℕ) : Type 0 where
  pub size : length stands' ≡ length stands
  pub more : (class : ℕ) → slice_index stands class ≤ slice_index stands' class
  pub longer : length queue ≤ length queue'
  pub same : (k : ℕ) → k < length queue → slice_index queue' k ≡ slice_index queue k
  pub waits : (class : ℕ) → (slice_index stands' class ≡ slice_index stands class) ⊎ Waits queue' (length queue) class

-- the row says no more than what stands, or one of its operands still waits
abbrev pub IsFollowed : List LaunchRow → List ℕ → List ℕ → ℕ → LaunchRow → Type 0
IsFollowed rows stands queue at r =
    (row_says rows stands r ≤ slice_index stands r.class)
    ⊎ ((class : ℕ) × Contains r.operands class × Waits queue at class)

-- no less stands of the operands than an `and` that is 0 says of them
abbrev pub IsMasked : List LaunchRow → List ℕ → LaunchRow → Type 0
IsMasked rows stands r = (x y : ℕ) → r.op ≡ Word (Operate And) → r.operands ≡ x ∷ y ∷ []
    → constant_among rows r.class ≡ Some 0
    → ((k : ℕ) → constant_among rows y ≡ Some k → low_ones k ≤ slice_index stands x)
    × ((k : ℕ) → constant_among rows x ≡ Some k → low_ones k ≤ slice_index stands y)

abbrev pub IsSeen : List LaunchRow → List ℕ → List ℕ → ℕ → LaunchRow → Type 0
IsSeen rows stands queue at r = IsFollowed rows stands queue at r × IsMasked rows stands r

-- each row at one of these places is followed
abbrev pub AreFollowed : List LaunchRow → List ℕ → List ℕ → ℕ → List ℕ → Type 0
AreFollowed rows stands queue at places = (place : ℕ) (row : LaunchRow) → Contains places place
    → slice_index_or rows place row ≡ row → IsFollowed rows stands queue at row

abbrev pub is_and : Op → Bool
is_and (Word (Operate And)) = true
is_and _ = false
