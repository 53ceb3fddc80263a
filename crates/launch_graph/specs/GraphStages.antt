-- How far into a graph some lines have come, and which lines may stand next. No public clause rests on this. Source:
-- this project.
use Rattle.std.specs.Prelude.{ℕ, zero, suc, ◌≡◌, ◌<◌, ◌≤◌, ◌^◌, ◌==◌, false, List, [], ◌∷◌, ◌++◌, filter_map, Bool, Option, All, IfSome}
use Rattle.std.specs.List.{cons_option, list_any}
use Rattle.text_core.specs.LineTexts.{Words}
use Rattle.text_core.specs.Names.{IsName}
use Rattle.graph_meaning.specs.declared.graphs.InputClass.{InputClass}
use Rattle.graph_meaning.specs.declared.graphs.Guard.{Guard}
use Rattle.graph_meaning.specs.declared.graphs.SetClass.{SetClass}
use Rattle.launch_graph.specs.declared.row_lines.RowLine.{RowLine}
use Rattle.launch_graph.specs.GraphLines.{SetFits, rows_words, entry_words, in_words, pool_words, guard_words, set_words}
use Rattle.launch_graph.specs.GraphTexts.{IsNoTarget}
use Rattle.launch_graph.specs.RowLines.{row_words, IsRowLine}

abbrev pub InputFits : InputClass → Type 0
InputFits i = IsName i.name × (i.reg < 31) × (i.class < 2 ^ 31)

abbrev pub GuardFits : Option Guard → Type 0
GuardFits guard = IfSome guard (λ (o : Guard). o.class < 2 ^ 31)

abbrev pub RowFits : RowLine → Type 0
RowFits r = IsRowLine (row_words r) r

abbrev pub Low : ℕ → Type 0
Low r = r < 31

-- the pins of targets
abbrev pub pins_among : List SetClass → List ℕ
pins_among sets = filter_map (λ (s : SetClass). s.pin) sets

abbrev pub has_pin : List ℕ → ℕ → Bool
has_pin pins register = list_any (λ pin. pin == register) pins

-- the pin, if there is one, is none of these
abbrev pub IsNewPin : List ℕ → Option ℕ → Type 0
IsNewPin pins pin = IfSome pin (λ r. has_pin pins r ≡ false)

-- before the first line, so many rows to go, behind the entry, behind the pool, behind the guard and so far with these
-- pins, behind the graph
pub data Stage : Type 0 where
  start : Stage
  rows : ℕ → Stage
  inputs : Stage
  behind_pool : Stage
  sets : List ℕ → Stage
  over : Stage

pub data Step (version : ℕ) : Stage → Words → Stage → Type 0 where
  header : {words : Words} (count : ℕ) → count ≤ 1000000 → words ≡ rows_words count → Step version start words (rows count)
  row : {words : Words} {n : ℕ} (r : RowLine) → IsRowLine words r → Step version (rows (suc n)) words (rows n)
  entry : {words : Words} (class : ℕ) → class < 2 ^ 31 → words ≡ entry_words class → Step version (rows zero) words inputs
  input : {words : Words} (i : InputClass) → InputFits i → words ≡ in_words i → Step version inputs words inputs
  pool : {words : Words} (ns : List ℕ) → All Low ns → words ≡ pool_words ns → Step version inputs words behind_pool
  guard : {words : Words} (o : Guard) → o.class < 2 ^ 31 → words ≡ guard_words o
      → Step version behind_pool words (sets [])
  first_set : {words : Words} (s : SetClass) → SetFits version s → words ≡ set_words s
      → Step version behind_pool words (sets (cons_option s.pin []))
  set : {words : Words} {pins : List ℕ} (s : SetClass) → SetFits version s → IsNewPin pins s.pin → words ≡ set_words s
      → Step version (sets pins) words (sets (pins ++ cons_option s.pin []))
  leave_pool : {words : Words} → IsNoTarget words → Step version behind_pool words over
  leave : {words : Words} {pins : List ℕ} → IsNoTarget words → Step version (sets pins) words over
  further : {words : Words} → Step version over words over

pub data ReachesStage (version : ℕ) : Stage → List Words → Stage → Type 0 where
  stay : {s : Stage} → ReachesStage version s [] s
  go : {s t u : Stage} {words : Words} {lines : List Words} → Step version s words t → ReachesStage version t lines u
      → ReachesStage version s (words ∷ lines) u
