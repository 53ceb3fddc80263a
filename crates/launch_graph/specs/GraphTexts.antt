-- Texts of lines that begin with a launch graph, and the graph that they have. Source: this project.
use Rattle.std.specs.Prelude.{⊤, ℕ, ◌≡◌, ◌≢◌, ◌<◌, ◌≤◌, ◌^◌, List, [], ◌∷◌, ◌++◌, length, codes, decimal}
use Rattle.word_ops.specs.declared.sorts.Sort.{Sort}
use Rattle.word_ops.specs.declared.sorts.Sort.TheVariants as sorts
use Rattle.text_core.specs.Lines.{Line}
use Rattle.text_core.specs.LineTexts.{Words}
use Rattle.graph_meaning.specs.declared.graphs.LaunchGraph.{LaunchGraph}
use Rattle.launch_graph.specs.LineFormats.{words_between, words_from}
use Rattle.launch_graph.specs.GraphLines.{GraphLines, AreGraphLines, graph_lines, said}
use Rattle.graph_meaning.specs.WellFormed.{IsLaunchGraph, set_sort}

-- a line that no graph has behind its pool
abbrev pub IsNoTarget : Words → Type 0
IsNoTarget [] = ⊤
IsNoTarget (word ∷ words) = (word ≢ codes "guard") × (word ≢ codes "set")

-- A graph goes on as far as it can: no line that could be one of its own stands behind it.
abbrev pub EndsGraph : List Words → Type 0
EndsGraph [] = ⊤
EndsGraph (words ∷ lines) = IsNoTarget words

-- The lines of a graph in the version, and then any lines.
pub record BeginsWithGraph (version : ℕ) (lines : List Words) : Type 0 where
  pub graph : GraphLines
  pub are : AreGraphLines version graph
  pub behind : List Words
  pub ends : EndsGraph behind
  pub whole : lines ≡ graph_lines graph ++ behind

-- The lines of a graph alone.
pub record IsGraphText (version : ℕ) (lines : List Words) : Type 0 where
  pub graph : GraphLines
  pub are : AreGraphLines version graph
  pub whole : lines ≡ graph_lines graph

-- The lines from one number on and before another are those of the graph in the version, and it ends there.
pub record IsGraphOf (version : ℕ) (lines : List Line) (from next : ℕ) (g : LaunchGraph) : Type 0 where
  pub order : from ≤ next
  pub within : next ≤ length lines
  pub well_formed : IsLaunchGraph g
  pub are : AreGraphLines version (said g)
  pub is : words_between lines from next ≡ graph_lines (said g)
  pub ends : EndsGraph (words_from lines next)

-- the same in version 1, in which no set has a pin
abbrev pub IsGraphAt : List Line → ℕ → ℕ → LaunchGraph → Type 0
IsGraphAt lines from next g = IsGraphOf 1 lines from next g

-- a line behind the rows that is told by its first word, its class, and the sort that is wanted there
pub data IsClassLine (line : Words) (class : ℕ) (sort : Sort) : Type 0 where
  entry : {words : Words} → class < 2 ^ 31 → line ≡ codes "entry" ∷ decimal class ∷ words → sort ≡ sorts.Memory
      → IsClassLine line class sort
  input : {name register : List ℕ} {words : Words} → class < 2 ^ 31
      → line ≡ codes "in" ∷ name ∷ register ∷ decimal class ∷ words → sort ≡ sorts.Word → IsClassLine line class sort
  guard : {words : Words} → class < 2 ^ 31 → line ≡ codes "guard" ∷ decimal class ∷ words → sort ≡ sorts.Word
      → IsClassLine line class sort
  set : {name : List ℕ} {words : Words} → class < 2 ^ 31 → line ≡ codes "set" ∷ name ∷ decimal class ∷ words
      → sort ≡ set_sort name → IsClassLine line class sort
