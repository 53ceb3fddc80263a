-- The lines of a launch graph. Source: this project.
use Rattle.std.specs.Prelude.{⊤, ℕ, ◌≡◌, ◌≤◌, ◌<◌, ◌^◌, List, [], ◌∷◌, ◌++◌, length, map, codes, decimal, Option, None, Some, IfSome, IsTrue, All, if◌then◌else◌, Bool}
use Rattle.word_ops.specs.declared.sorts.Op.{Op}
use Rattle.word_ops.specs.declared.sorts.Op.TheVariants.{Declared}
use Rattle.text_core.specs.LineTexts.{Words}
use Rattle.text_core.specs.Names.{IsName}
use Rattle.launch_graph.specs.declared.row_lines.LineOp.{LineOp}
use Rattle.launch_graph.specs.declared.row_lines.LineOp.TheVariants.{Plain, Use}
use Rattle.launch_graph.specs.declared.row_lines.RowLine.{RowLine}
use Rattle.graph_meaning.specs.Graphs.{HaveOwnPins, is_memory_name}
use Rattle.graph_meaning.specs.declared.graphs.LaunchRow.{LaunchRow}
use Rattle.graph_meaning.specs.declared.graphs.InputClass.{InputClass}
use Rattle.graph_meaning.specs.declared.graphs.Guard.{Guard}
use Rattle.graph_meaning.specs.declared.graphs.SetClass.{SetClass}
use Rattle.graph_meaning.specs.declared.graphs.LaunchGraph.{LaunchGraph}
use Rattle.launch_graph.specs.RowLines.{row_words, IsRowLine}

-- What the lines of a graph say; its rows and classes may be wrong.
pub record GraphLines : Type 0 where
  pub rows : List RowLine
  pub entry : ℕ
  pub inputs : List InputClass
  pub pool : List ℕ
  pub guard : Option Guard
  pub sets : List SetClass

abbrev pub rows_words : ℕ → Words
rows_words count = codes "rows" ∷ decimal count ∷ []

abbrev pub entry_words : ℕ → Words
entry_words class = codes "entry" ∷ decimal class ∷ []

abbrev pub in_words : InputClass → Words
in_words i = codes "in" ∷ i.name ∷ decimal i.reg ∷ decimal i.class ∷ []

abbrev pub pool_words : List ℕ → Words
pool_words pool = codes "pool" ∷ map decimal pool

abbrev pub held_word : Bool → List ℕ
held_word held = if held then codes "held" else codes "free"

abbrev pub guard_words : Guard → Words
guard_words g = codes "guard" ∷ decimal g.class ∷ held_word g.held ∷ []

abbrev pub guard_lines : Option Guard → List Words
guard_lines None = []
guard_lines (Some g) = guard_words g ∷ []

-- the pin stands behind the class
abbrev pub pin_words : Option ℕ → Words
pin_words None = []
pin_words (Some r) = decimal r ∷ []

abbrev pub set_words : SetClass → Words
set_words s = codes "set" ∷ s.name ∷ decimal s.class ∷ pin_words s.pin

-- The lines of a graph, in order.
abbrev pub graph_lines : GraphLines → List Words
graph_lines g =
    rows_words (length g.rows)
    ∷ (map row_words g.rows
    ++ (entry_words g.entry
    ∷ (map in_words g.inputs ++ (pool_words g.pool ∷ (guard_lines g.guard ++ map set_words g.sets)))))

-- a pin is a register, and there are pins from version 2 on
abbrev pub PinFits : ℕ → Option ℕ → Type 0
PinFits version None = ⊤
PinFits version (Some r) = (2 ≤ version) × (r < 31)

-- the memory has no pin
abbrev pub SetFits : ℕ → SetClass → Type 0
SetFits version s =
    IsName s.name × (s.class < 2 ^ 31) × PinFits version s.pin × (IsTrue (is_memory_name s.name) → s.pin ≡ None)

-- Each line has the form that its kind has in the version, there are at most 1,000,000 rows, and no pin is repeated.
pub record AreGraphLines (version : ℕ) (g : GraphLines) : Type 0 where
  pub few : length g.rows ≤ 1000000
  pub rows : All (λ (r : RowLine). IsRowLine (row_words r) r) g.rows
  pub entry : g.entry < 2 ^ 31
  pub inputs : All (λ (i : InputClass). IsName i.name × (i.reg < 31) × (i.class < 2 ^ 31)) g.inputs
  pub pool : All (λ r. r < 31) g.pool
  pub guard : IfSome g.guard (λ (g : Guard). g.class < 2 ^ 31)
  pub sets : All (SetFits version) g.sets
  pub own_pins : HaveOwnPins g.sets

-- ---- the lines of a graph's value

abbrev pub said_op : Op → List ℕ → LineOp
said_op (Declared index arity) name = Use name
said_op op name = Plain op

abbrev pub said_row : LaunchRow → RowLine
said_row r = record { class = r.class; op = said_op r.op r.name; operands = r.operands }

-- The lines by which a graph is printed.
abbrev pub said : LaunchGraph → GraphLines
said g =
    record {
      rows = map said_row g.rows;
      entry = g.entry;
      inputs = g.inputs;
      pool = g.pool;
      guard = g.guard;
      sets = g.sets;
    }
