-- How rounds change a graph, step by step, each step by what the E-graph's calls say of themselves. From this project.
use Rattle.std.specs.Prelude.{◌≡◌, ℕ, ◌+◌, ◌<◌, ◌≤◌, ◌^◌, List, [], ◌∷◌, length, get_or, All}
use Rattle.word_ops.specs.Worlds.{Value}
use Rattle.word_ops.specs.declared.sorts.Op.{Op}
use Rattle.word_ops.specs.declared.sorts.Sort.{Sort}
use Rattle.word_terms.specs.Tree.{Tree, Trees, variable, application, none, more}
use Rattle.word_terms.specs.Keys.{op_signature}
use Rattle.word_terms.specs.Sorting.{HasSort, sort_at}
use Rattle.word_terms.specs.OperatorsIn.{operators_in}
use Rattle.egraph.specs.Graph.{Graph, IsGraph, IsInserted}
use Rattle.egraph.specs.Joined.{IsMerged, Clash}
use Rattle.egraph.specs.Sorts.{IsOfSort}
use Rattle.egraph.specs.Values.{KeepsValues, ExtendsValues}
use Rattle.saturation.specs.Derives.{Pair}

-- what a match asks for: the right side of the class, over classes that may be any ever made
pub record Asked : Type 0 where
  pub right : Tree Op
  pub places : List ℕ
  pub class : ℕ

-- ---- what may be built and merged

-- the term may be built over these classes, and what it gives is of the sort
pub record MayBuild (g : Graph Op) (places : List ℕ) (t : Tree Op) (sort : Sort) : Type 0 where
  pub variables : List Sort
  pub count : length places ≡ length variables
  pub places_have : (n : ℕ) → n < length places → IsOfSort op_signature g (get_or places n 0) (sort_at variables n)
  pub has_sort : HasSort op_signature variables sort t

pub record MayJoin (g : Graph Op) (a : Asked) : Type 0 where
  pub sort : Sort
  pub right : MayBuild g a.places a.right sort
  pub class : IsOfSort op_signature g a.class sort

-- the term may be built, with room for its operators
pub record CanBuild (g : Graph Op) (places : List ℕ) (t : Tree Op) : Type 0 where
  pub graph : IsGraph op_signature g
  pub sort : Sort
  pub may : MayBuild g places t sort
  pub few : length g.current + operators_in t ≤ 2 ^ 31

pub record CanApply (g : Graph Op) (a : Asked) : Type 0 where
  pub graph : IsGraph op_signature g
  pub may : MayJoin g a
  pub few : length g.current + operators_in a.right ≤ 2 ^ 31

-- the operators of all that is asked
abbrev pub operators_asked : List Asked → ℕ
operators_asked [] = 0
operators_asked (a ∷ asks) = operators_in a.right + operators_asked asks

pub record CanApplyAll (g : Graph Op) (asked : List Asked) : Type 0 where
  pub graph : IsGraph op_signature g
  pub may : All (MayJoin g) asked
  pub few : length g.current + operators_asked asked ≤ 2 ^ 31

-- ---- what is done

-- an insert
pub record IsPut (old : Graph Op) (op : Op) (operands : List ℕ) (class : ℕ) (new : Graph Op) : Type 0 where
  pub inserted : IsInserted old op operands class new
  pub values : ExtendsValues Value old new
  pub graph : IsGraph op_signature new

-- a merge
pub record IsJoined (old : Graph Op) (a b : ℕ) (new : Graph Op) : Type 0 where
  pub merged : IsMerged old a b new
  pub values : KeepsValues Value old a b new
  pub graph : IsGraph op_signature new

mutual
  -- inserts, operands first, that give the term this class, where the variables stand for the classes in `places`
  pub data IsBuilt (places : List ℕ) : Tree Op → Graph Op → ℕ → Graph Op → Type 0 where
    placed : {n : ℕ} {g : Graph Op} → n < length places → IsBuilt places (variable n) g (get_or places n 0) g
    put :
        {op : Op} {ts : Trees Op} {g h new : Graph Op} {cs : List ℕ} {c : ℕ} →
        AreBuilt places ts g cs h →
        IsPut h op cs c new →
        IsBuilt places (application op ts) g c new

  pub data AreBuilt (places : List ℕ) : Trees Op → Graph Op → List ℕ → Graph Op → Type 0 where
    none_built : {g : Graph Op} → AreBuilt places none g [] g
    one_built :
        {t : Tree Op} {ts : Trees Op} {g h new : Graph Op} {c : ℕ} {cs : List ℕ} →
        IsBuilt places t g c h →
        AreBuilt places ts h cs new →
        AreBuilt places (more t ts) g (c ∷ cs) new

-- the right side is built, and its class is merged with what is asked
pub record IsApplied (a : Asked) (g new : Graph Op) : Type 0 where
  pub middle : Graph Op
  pub class : ℕ
  pub built : IsBuilt a.places a.right g class middle
  pub joined : IsJoined middle class a.class new

-- all that is asked is made, in order
pub data AreAllApplied : List Asked → Graph Op → Graph Op → Type 0 where
  finished : {g : Graph Op} → AreAllApplied [] g g
  work :
      {a : Asked} {asks : List Asked} {g h new : Graph Op} →
      IsApplied a g h →
      AreAllApplied asks h new →
      AreAllApplied (a ∷ asks) g new

-- what is asked is made in order, up to a merge that puts the constants x and y into one class
pub record IsRefusedMerge (a : Asked) (g : Graph Op) (x y : ℕ) : Type 0 where
  pub middle : Graph Op
  pub class : ℕ
  pub built : IsBuilt a.places a.right g class middle
  pub at : ℕ
  pub clash : Clash op_signature middle class a.class at x y

pub data IsRefused : List Asked → Graph Op → ℕ → ℕ → Type 0 where
  here : {a : Asked} {asks : List Asked} {g : Graph Op} {x y : ℕ} → IsRefusedMerge a g x y → IsRefused (a ∷ asks) g x y
  after :
      {a : Asked} {asks : List Asked} {g h : Graph Op} {x y : ℕ} →
      IsApplied a g h →
      IsRefused asks h x y →
      IsRefused (a ∷ asks) g x y

-- ---- the start: terms without variables, and then pairs of them that are assumed equal

pub data AreInserted : List (Tree Op) → Graph Op → Graph Op → Type 0 where
  none_inserted : {g : Graph Op} → AreInserted [] g g
  one_inserted :
      {t : Tree Op} {ts : List (Tree Op)} {g h new : Graph Op} {c : ℕ} →
      IsBuilt [] t g c h →
      AreInserted ts h new →
      AreInserted (t ∷ ts) g new

-- the first term is built, and the second is made to have its class
pub record IsAssumeMade (p : Pair) (g new : Graph Op) : Type 0 where
  pub middle : Graph Op
  pub class : ℕ
  pub built : IsBuilt [] p.0 g class middle
  pub made : IsApplied (record { right = p.1; places = []; class = class }) middle new

pub data AreAssumed : List Pair → Graph Op → Graph Op → Type 0 where
  none_assumed : {g : Graph Op} → AreAssumed [] g g
  one_assumed :
      {p : Pair} {ps : List Pair} {g h new : Graph Op} →
      IsAssumeMade p g h →
      AreAssumed ps h new →
      AreAssumed (p ∷ ps) g new

pub record IsAssumedRefused (p : Pair) (g : Graph Op) (x y : ℕ) : Type 0 where
  pub middle : Graph Op
  pub class : ℕ
  pub built : IsBuilt [] p.0 g class middle
  pub refused : IsRefusedMerge (record { right = p.1; places = []; class = class }) middle x y

pub data AreRefused : List Pair → Graph Op → ℕ → ℕ → Type 0 where
  refused_here :
      {p : Pair} {ps : List Pair} {g : Graph Op} {x y : ℕ} → IsAssumedRefused p g x y → AreRefused (p ∷ ps) g x y
  refused_after :
      {p : Pair} {ps : List Pair} {g h : Graph Op} {x y : ℕ} →
      IsAssumeMade p g h →
      AreRefused ps h x y →
      AreRefused (p ∷ ps) g x y
