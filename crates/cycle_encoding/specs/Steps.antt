-- What the steps of the encoder add to a formula, and what they look up.
-- Source: this project.
use Rattle.std.specs.Prelude.{◌≡◌, ◌+◌, ◌<◌, ◌≤◌, ◌^◌, ◌==◌, nat_le, nat_lt, set, if◌then◌else◌, ℕ, length, Bool, List}
use Rattle.std.specs.Prelude.{◌++◌, map, [], ◌∷◌}
use Rattle.std.specs.List.{slice_index_or, list_any, flat_map, filter, range_with_len}
use Rattle.schedule_meaning.specs.Limits.{most_cycles}
use Rattle.cnf_core.specs.declared.literal.Lit.{Lit}
use Rattle.cnf_core.specs.Formula.{Formula}
use Rattle.machine_table.specs.declared.tables.Table.{Table}
use Rattle.graph_meaning.specs.declared.graphs.LaunchGraph.{LaunchGraph}
use Rattle.graph_meaning.specs.declared.graphs.SetClass.{SetClass}
use Rattle.schedule_meaning.specs.Launches.{gives, ready_in}
use Rattle.schedule_meaning.specs.declared.schedules.Launch.{Launch}
use Rattle.schedule_meaning.specs.declared.schedules.Operand.{Operand}
use Rattle.graph_meaning.specs.WellFormed.{next_class}
use Rattle.cycle_encoding.specs.Shapes.{negative, numbered, vars_of, negated, counters, counters_vars}
use Rattle.cycle_encoding.specs.Variables.{Seen, all_seen}
use Rattle.cycle_encoding.specs.Families.{is_at, is_seen}
use Rattle.cycle_encoding.specs.Facts.{classes_among}
use Rattle.cycle_encoding.specs.Facts.{is_unsafe_shown}
use Rattle.cycle_encoding.specs.Families.{is_made_target, is_needed, is_lost}
use Rattle.cycle_encoding.specs.Variables.{shown_classes, all_overwritten, overwriting_sets, Overwritten}

-- a formula with further clauses
abbrev pub with_clauses : Formula → List (List Lit) → Formula
with_clauses f cs = record f { clauses = f.clauses ++ cs }

-- a formula with counters up to one over some groups of literals
abbrev pub with_counters : Formula → List (List Lit) → Formula
with_counters f groups =
    record { vars = f.vars + counters_vars 1 groups; clauses = f.clauses ++ counters f.vars 1 groups }

-- some slot has the cluster
abbrev pub has_cluster : Table → ℕ → Bool
has_cluster table n = list_any (λ s. s.cluster == n) table.slots

abbrev pub seen_at : ℕ → ℕ → ℕ → Seen
seen_at class cluster cycle = record { class = class; cluster = cluster; cycle = cycle }

-- what is seen of a class in a cluster, in the first cycles
abbrev pub cluster_seen : ℕ → ℕ → ℕ → List Seen
cluster_seen k class cluster = map (seen_at class cluster) (range_with_len 0 k)

-- of a class, in those of the first numbers of clusters that some slot has
abbrev pub clusters_seen : Table → ℕ → ℕ → ℕ → List Seen
clusters_seen table k clusters class =
    flat_map (cluster_seen k class) (filter (has_cluster table) (range_with_len 0 clusters))

-- the places of things in a list of all that is seen: how many stand before a class, and before a cluster of a class
abbrev pub seen_before : LaunchGraph → (ℕ → Bool) → Table → ℕ → ℕ → ℕ
seen_before g wants table k class =
    length (flat_map (clusters_seen table k 4) (filter (is_unsafe_shown g wants) (range_with_len 0 class)))

abbrev pub clusters_before : Table → ℕ → ℕ → ℕ → ℕ
clusters_before table k class cluster =
    length (flat_map (cluster_seen k class) (filter (has_cluster table) (range_with_len 0 cluster)))

-- the first variable is the one after `first`, and the starts are how many are seen before each class
pub record AreSeenVars (g : LaunchGraph) (wants : ℕ → Bool) (table : Table) (k first : ℕ) (seen : List Seen)
    (starts : List ℕ) : Type 0 where
  pub seen_are : seen ≡ all_seen table k (shown_classes g wants)
  pub starts_are : starts ≡ map (seen_before g wants table k) (range_with_len 0 (next_class g.rows))

-- clauses that the thing of a variable implies
abbrev pub of_thing : ℕ → List (List Lit) → List (List Lit)
of_thing var cs = map (λ c. negative var ∷ c) cs

abbrev pub overwritten_at : ℕ → ℕ → Overwritten
overwritten_at set cycle = record { set = set; cycle = cycle }

-- what is overwritten of one set
abbrev pub set_overwritten : ℕ → ℕ → List Overwritten
set_overwritten k set = map (overwritten_at set) (range_with_len 0 (k + 1))

-- the first variable is the one after `first`, and each that is overwritten has one
pub record AreOverwrittenVars (g : LaunchGraph) (k first : ℕ) (sets : List ℕ) : Type 0 where
  pub sets_are : sets ≡ overwriting_sets g
  pub cycles : k ≤ most_cycles
  pub few : first + length (all_overwritten g k) < 2 ^ 29

-- the classes of the operands that the launch has to see, or to read before another launch overwrites them
abbrev pub needed_among : LaunchGraph → Launch → List Operand → List ℕ
needed_among g l os = classes_among (is_needed g l) os

-- for each class a clause that it is seen, or that some input's register of it isn't overwritten below a cycle
module _ (g : LaunchGraph) (cluster cycle until : ℕ) (ds : List (ℕ × Seen)) (vs : List (ℕ × Overwritten)) where
  abbrev pub sight : ℕ → List Lit
  sight class = vars_of (is_seen class cluster cycle) ds ++ negated (is_lost g class until) vs

  abbrev pub sights : List ℕ → List (List Lit)
  sights classes = map sight classes

-- the launch is ready where the thing is seen
abbrev pub is_ready : LaunchGraph → Table → Seen → Launch → Bool
is_ready g table d l = nat_le (ready_in g table d.cluster l) d.cycle

-- for each target without a pin that has to be made the launches that give it, and that some input's register of its
-- class isn't overwritten
module _ (g : LaunchGraph) (k : ℕ) (xs : List (ℕ × Launch)) (vs : List (ℕ × Overwritten)) where
  abbrev pub target_clause : SetClass → List Lit
  target_clause s = vars_of (gives g s.class) xs ++ negated (is_lost g s.class k) vs

  abbrev pub target_groups : List SetClass → List (List Lit)
  target_groups sets = map target_clause (filter (is_made_target g) sets)

-- the launches that give a class, with their variables
unfoldable pub given_in : LaunchGraph → ℕ → List Launch → List (ℕ × Launch)
given_in g class ls = filter (λ p. gives g class p.1) (numbered 0 ls)

-- those in a slot and cycle
unfoldable pub at_in : ℕ → ℕ → List Launch → List (ℕ × Launch)
at_in slot cycle ls = filter (λ p. is_at slot cycle p.1) (numbered 0 ls)

-- lists with one thing more at the end of that of a number, if there is one
abbrev pub put_at : {X : Type 0} → List (List X) → ℕ → X → List (List X)
put_at lists number x =
    if nat_lt number (length lists) then set lists number (slice_index_or lists number [] ++ x ∷ []) else lists
