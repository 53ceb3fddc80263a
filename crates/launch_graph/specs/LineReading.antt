-- The lines of a graph that are no rows: when a line is one of a kind. No public clause rests on this. Source: this
-- project.
use Rattle.std.specs.Prelude.{ℕ, ◌≡◌, ◌≤◌, ◌<◌, ◌^◌, List, [], ◌∷◌, All, None, Some, codes, decimal, false}
use Rattle.text_core.specs.Names.{IsName}
use Rattle.graph_meaning.specs.Graphs.{is_memory_name}
use Rattle.text_core.specs.LineTexts.{Words}
use Rattle.graph_meaning.specs.declared.graphs.InputClass.{InputClass}
use Rattle.graph_meaning.specs.declared.graphs.Guard.{Guard}
use Rattle.graph_meaning.specs.declared.graphs.SetClass.{SetClass}
use Rattle.launch_graph.specs.GraphLines.{rows_words, entry_words, in_words, pool_words, guard_words, set_words, SetFits}
use Rattle.launch_graph.specs.GraphStages.{InputFits, Low}

pub record IsHeaderLine (words : Words) (count : ℕ) : Type 0 where
  pub few : count ≤ 1000000
  pub is : words ≡ rows_words count

pub record IsEntryLine (words : Words) (class : ℕ) : Type 0 where
  pub small : class < 2 ^ 31
  pub is : words ≡ entry_words class

pub record IsInputLine (words : Words) (i : InputClass) : Type 0 where
  pub fits : InputFits i
  pub is : words ≡ in_words i

pub record IsPoolLine (words : Words) (pool : List ℕ) : Type 0 where
  pub low : All Low pool
  pub is : words ≡ pool_words pool

pub record IsGuardLine (words : Words) (o : Guard) : Type 0 where
  pub small : o.class < 2 ^ 31
  pub is : words ≡ guard_words o

-- a target without a pin, and one with a pin, which isn't the memory
pub record IsPlainSet (words : Words) (s : SetClass) : Type 0 where
  pub fits : IsName s.name × (s.class < 2 ^ 31)
  pub pin : s.pin ≡ None
  pub is : words ≡ codes "set" ∷ s.name ∷ decimal s.class ∷ []

pub record IsPinnedSet (words : Words) (s : SetClass) : Type 0 where
  pub register : ℕ
  pub fits : IsName s.name × (s.class < 2 ^ 31) × (register < 31)
  pub pin : s.pin ≡ Some register
  pub word : is_memory_name s.name ≡ false
  pub is : words ≡ codes "set" ∷ s.name ∷ decimal s.class ∷ decimal register ∷ []

pub record IsSetLine (version : ℕ) (words : Words) (s : SetClass) : Type 0 where
  pub fits : SetFits version s
  pub is : words ≡ set_words s
