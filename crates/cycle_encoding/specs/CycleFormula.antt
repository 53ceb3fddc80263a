-- What has variables in an encoding, and the formula of cycles, slots and values: the numbers of its variables, and its
-- clauses in their order. Source: this project.
use Rattle.std.specs.Prelude.{ℕ, Bool, true, false, List, [], length, Option, Some, None, ◌+◌, ◌++◌}
use Rattle.std.specs.List.{slice_index_or}
use Rattle.machine_table.specs.declared.tables.Table.{Table}
use Rattle.graph_meaning.specs.declared.graphs.LaunchGraph.{LaunchGraph}
use Rattle.schedule_meaning.specs.declared.schedules.Allocation.{Allocation}
use Rattle.schedule_meaning.specs.declared.schedules.Allocation.TheVariants.{Block}
use Rattle.schedule_meaning.specs.declared.schedules.Launch.{Launch}
use Rattle.cycle_encoding.specs.Shapes.{numbered, counters, counters_vars}
use Rattle.cycle_encoding.specs.Variables.{Seen, all_seen}
use Rattle.cycle_encoding.specs.declared.encodings.Encoding.{Encoding}
use Rattle.cycle_encoding.specs.declared.encodings.Encoding.TheVariants as encodings
use Rattle.cycle_encoding.specs.declared.encodings.Encoding.TheVariants.{Wide, Narrow, Pinned}
use Rattle.cycle_encoding.specs.Allocations.{allocation_of}
use Rattle.cnf_core.specs.declared.literal.Lit.{Lit}
use Rattle.cnf_core.specs.Formula.{Formula}
use Rattle.cycle_encoding.specs.Variables.{launches_from, shown_classes, all_launches, made_classes}
use Rattle.cycle_encoding.specs.Variables.{all_overwritten, Overwritten}
use Rattle.cycle_encoding.specs.Families.{seen_clauses, slot_groups}
use Rattle.cycle_encoding.specs.Families.{target_clauses, operand_clauses}

-- how long launches keep their registers, which launches have variables, and what is seen, by which an encoding differs
-- from others
pub record Listed : Type 0 where
  pub allocation : Allocation
  pub launches : List Launch
  pub seen : List Seen

-- what has variables in an encoding: all, or by tables the launches of a row from its first cycle, and what is seen of
-- a wanted class
pub record Scope : Type 0 where
  pub encoding : Encoding
  pub firsts : List (Option ℕ)
  pub wants : List Bool

abbrev pub first_by : Encoding → List (Option ℕ) → ℕ → Option ℕ
first_by Wide firsts row = Some 0
first_by Narrow firsts row = slice_index_or firsts row None
first_by Pinned firsts row = slice_index_or firsts row None
first_by encodings.Live firsts row = slice_index_or firsts row None

abbrev pub first_cycle_in : Scope → ℕ → Option ℕ
first_cycle_in s row = first_by s.encoding s.firsts row

abbrev pub wants_by : Encoding → List Bool → ℕ → Bool
wants_by Wide wants class = true
wants_by Narrow wants class = slice_index_or wants class false
wants_by Pinned wants class = slice_index_or wants class false
wants_by encodings.Live wants class = slice_index_or wants class false

abbrev pub wants_in : Scope → ℕ → Bool
wants_in s class = wants_by s.encoding s.wants class

abbrev pub allocation_in : Scope → Allocation
allocation_in s = allocation_of s.encoding

abbrev pub wide_scope : Scope
wide_scope = record { encoding = Wide; firsts = []; wants = [] }

module _ (e : Listed) where
  -- the launches come first, then what is seen, then what is overwritten
  abbrev pub launch_vars : List (ℕ × Launch)
  launch_vars = numbered 0 e.launches

  abbrev pub seen_vars : List (ℕ × Seen)
  seen_vars = numbered (length e.launches) e.seen

  abbrev pub before_overwritten : ℕ
  before_overwritten = length e.launches + length e.seen

-- every launch that ends by k, and every class that launches have to make
abbrev pub wide : LaunchGraph → Table → ℕ → Listed
wide g table k =
    record {
      allocation = Block;
      launches = all_launches g table Block k;
      seen = all_seen table k (made_classes g);
    }

-- what has variables by the tables of a scope
abbrev pub listed_in : LaunchGraph → Table → ℕ → Scope → Listed
listed_in g table k s =
    record {
      allocation = allocation_in s;
      launches = launches_from g table (allocation_in s) k (first_cycle_in s);
      seen = all_seen table k (shown_classes g (wants_in s));
    }

module _ (g : LaunchGraph) (table : Table) (k : ℕ) (e : Listed) where
  -- ---- the variables

  abbrev pub overwritten_vars : List (ℕ × Overwritten)
  overwritten_vars = numbered (before_overwritten e) (all_overwritten g k)

  abbrev pub before_counters : ℕ
  before_counters = before_overwritten e + length (all_overwritten g k)

  abbrev pub after_counters : ℕ
  after_counters = before_counters + counters_vars 1 (slot_groups table k (launch_vars e))

  -- ---- the clauses

  abbrev pub cycle_part : List (List Lit)
  cycle_part =
      target_clauses g k (launch_vars e) overwritten_vars
      ++ operand_clauses g table (launch_vars e) (seen_vars e) overwritten_vars
      ++ seen_clauses g table (launch_vars e) (seen_vars e)
      ++ counters before_counters 1 (slot_groups table k (launch_vars e))

  abbrev pub cycle_formula : Formula
  cycle_formula = record { vars = after_counters; clauses = cycle_part }
