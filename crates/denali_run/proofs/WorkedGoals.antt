-- What the work on a goal comes to, from what its calls promise.
use Rattle.std.proofs.Common.{◌≡◌, ℕ, ◌<◌, ◌≤◌, ◌^◌, ◌∙◌, max, List, Result, Ok, Err, refl, sym, ap, subst, arith, map, Contains}
use Rattle.std.specs.Prelude.{IfOk, slice_get, Some, length, get_or}
use Rattle.std.proofs.lemmas.List.{get_or-map, length-map}
use Rattle.std.proofs.lemmas.List.Elements.{Contains-get_or}
use Rattle.std.proofs.lemmas.Option.{slice_get_read}
use Rattle.word_ops.specs.Words.{IsWord}
use Rattle.word_ops.specs.Worlds.{World, IsWorld}
use Rattle.word_ops.specs.declared.sorts.Op.{Op}
use Rattle.axiom_base.specs.Schemes.{AddedRules}
use Rattle.axiom_library.specs.declared.libraries.Library.{Library}
use Rattle.egraph.specs.Graph.{Graph}
use Rattle.egraph.specs.declared.rows.Row.{Row}
use Rattle.machine_table.specs.declared.tables.Table.{Table}
use Rattle.graph_meaning.specs.declared.stops.Stop.{Stop}
use Rattle.goal_meaning.specs.Holds.{HoldsFor}
use Rattle.goal_meaning.specs.Names.{declared_name}
use Rattle.goal_meaning.specs.Views.{GoalTree, InputTree, goal_view}
use Rattle.goal_meaning.specs.declared.goals.Goal.{Goal}
use Rattle.graph_meaning.specs.WellFormed.{IsLaunchGraph}
use Rattle.graph_meaning.specs.declared.graphs.LaunchRow.{LaunchRow}
use Rattle.saturation.specs.GraphStands.{GraphStands, RulesHold}
use Rattle.saturation.specs.Grown.{IsGrown}
use Rattle.saturation.specs.GoalTerms.{assumed_pairs, kept_terms, present_terms, rules_of}
use Rattle.saturation.specs.Rounds.{IsSaturated, IsHopeless, RoundsNameLowClass, SaturateFaultIs, StopIs}
use Rattle.saturation.specs.StandsFor.{StandsFor, graph_view}
use Rattle.saturation.specs.declared.faults.SaturateFault.TheVariants as rounds
use Rattle.denali_run.specs.MatchedGoals.{IsClashOf, IsMatched}
use Rattle.denali_run.specs.Right.{Right}
use Rattle.saturation.specs.AtStart.{IsHopelessAtStart, StartFaultIs, StartNamesLowClass, most_rows_at_start}
use Rattle.denali_run.specs.declared.results.Answered.{Answered}
use Rattle.denali_run.specs.declared.results.Answered.TheVariants.{NoWorld}
use Rattle.denali_run.specs.declared.results.Matched.{Matched}
use Rattle.denali_run.specs.declared.settings.Settings.{Settings}
use Rattle.saturation.specs.declared.faults.StartFault.TheVariants as start

abbrev pub RulesAreTrue : Library → InputTree → GoalTree → Type 0
RulesAreTrue library input goal =
    (world : World)
    → IsWorld world
    → HoldsFor input goal world
    → RulesHold world (declared_name input.ops) (rules_of library input) (assumed_pairs goal)

-- a result whose class and constants have other names
pub renamed : (P : Answered → Type 0) (class a b c x y : ℕ) → c ≡ class → x ≡ a → y ≡ b → P (NoWorld class a b)
    → P (NoWorld c x y)
renamed P class a b c x y e f g h =
    subst (λ n. P (NoWorld n x y)) (sym e) (subst (λ n. P (NoWorld class n y)) (sym f)
    (subst (λ n. P (NoWorld class a n)) (sym g) h))

module _ (input : InputTree) (goal : GoalTree) (s : Settings) (rules_true : RulesAreTrue s.library input goal) where
  pub at_start : (class a b : ℕ) → StartFaultIs goal (start.NoWorld class a b)
      → IsHopelessAtStart goal (start.NoWorld class a b) → StartNamesLowClass (start.NoWorld class a b)
      → IsWord a → IsWord b → Right input goal s (NoWorld class a b)
  at_start class a b h hopeless low wa wb = (
    record {
      round = 0;
      reached = (omega arith, λ i lt. absurd (omega (arith, lt)));
      clash = h (rules_of s.library input);
      nowhere = λ world is holds. hopeless (declared_name input.ops) (rules_of s.library input) world is
          (rules_true world is holds);
    },
    low,
    wa,
    wb,
  )

  module _ (graph : Graph Op) (grown : IsGrown (rules_of s.library input) (present_terms goal) (assumed_pairs goal) graph 0)
      (stands : GraphStands (declared_name input.ops) (rules_of s.library input) (assumed_pairs goal) (kept_terms goal) graph) where
    pub in_rounds : (class a b : ℕ)
        → SaturateFaultIs (rules_of s.library input) graph s.rounds s.nodes (rounds.NoWorld class a b)
        → IsHopeless (rules_of s.library input) graph (rounds.NoWorld class a b)
        → RoundsNameLowClass (rounds.NoWorld class a b) → IsWord a → IsWord b → Right input goal s (NoWorld class a b)
    in_rounds class a b h hopeless low wa wb = (
      record {
        round = h.round;
        reached = (h.asked, (h.clash (present_terms goal) (assumed_pairs goal) grown).1);
        clash = (h.clash (present_terms goal) (assumed_pairs goal) grown).0;
        nowhere = λ world is holds. hopeless (declared_name input.ops) (assumed_pairs goal) (kept_terms goal) stands
            world is (rules_true world is holds);
      },
      low,
      wa,
      wb,
    )

    pub matched_is : (after : Graph Op) (m : Matched)
        → IsSaturated (rules_of s.library input) graph s.rounds s.nodes after m.rounds m.stop → m.rounds ≤ s.rounds
        → IsLaunchGraph m.graph → StandsFor input goal m.graph → length m.graph.rows ≤ max (most_rows_at_start goal) s.nodes
        → (IsGrown (rules_of s.library input) (present_terms goal) (assumed_pairs goal) after m.rounds
        → IsGrown (rules_of s.library input) (present_terms goal) (assumed_pairs goal) (graph_view input.ops m.graph) m.rounds)
        → (StopIs (rules_of s.library input) after s.rounds s.nodes m.rounds m.stop
        → StopIs (rules_of s.library input) (graph_view input.ops m.graph) s.rounds s.nodes m.rounds m.stop)
        → ((i a b : ℕ) → IsGrown (rules_of s.library input) (present_terms goal) (assumed_pairs goal) after m.rounds → i ≤ m.rounds
        → IsClashOf s.library input goal i a b → ⊥)
        → IsMatched input goal s m
    matched_is after m saturated few well_formed stands_for few_rows keeps_grown keeps_stop no_clash =
        let h = saturated.after.grown (present_terms goal) (assumed_pairs goal) grown in
        record {
          graph = well_formed;
          stands = stands_for;
          grown = keeps_grown h.0;
          reached = (few, h.1);
          stops = keeps_stop saturated.stops;
          no_clash = λ j a b le clash. no_clash j a b h.0 le clash;
          few = few_rows;
        }

-- ---- the goal of a place is the one that was taken from it

module _ (input : InputTree) (s : Settings) (place : ℕ) (goal : GoalTree) (there : slice_get input.goals place ≡ Some goal) where
  pub same_goal : (other : GoalTree) → slice_get input.goals place ≡ Some other → goal ≡ other
  same_goal other is = cc

  pub for_the_goal : {E : Type 0} (r : Result Answered E) → IfOk r (Right input goal s)
      → IfOk r (λ answered. (other : GoalTree) → slice_get input.goals place ≡ Some other → Right input other s answered)
  for_the_goal (Ok x) h = λ other is. subst (λ (n : GoalTree). Right input n s x) (same_goal other is) h
  for_the_goal (Err e) h = tt

-- the view of what was taken at a place
pub place_of : (goals shown : List Goal) (place : ℕ) (goal : Goal) → shown ≡ goals → place < length goals
    → goal ≡ get_or shown place goal → goal_view goal ≡ get_or (map goal_view goals) place (goal_view goal)
place_of goals shown place goal is lt e =
    ap goal_view (subst (λ (gs : List Goal). goal ≡ get_or gs place goal) is e)
    ∙ sym (get_or-map goal_view goals place goal (goal_view goal) lt)

below_map : (goals : List Goal) (place : ℕ) → place < length goals → place < length (map goal_view goals)
below_map goals place lt = subst (λ n. place < n) (sym (length-map goals goal_view)) lt

pub there : (goals shown : List Goal) (place : ℕ) (goal : Goal) → shown ≡ goals → place < length goals
    → goal ≡ get_or shown place goal → slice_get (map goal_view goals) place ≡ Some (goal_view goal)
there goals shown place goal is lt e =
    slice_get_read (map goal_view goals) (length (map goal_view goals)) place (goal_view goal) refl
    (below_map goals place lt) (place_of goals shown place goal is lt e)

pub is_one : (goals shown : List Goal) (place : ℕ) (goal : Goal) → shown ≡ goals → place < length goals
    → goal ≡ get_or shown place goal → Contains (map goal_view goals) (goal_view goal)
is_one goals shown place goal is lt e =
    subst (Contains (map goal_view goals)) (sym (place_of goals shown place goal is lt e))
    (Contains-get_or (map goal_view goals) place (goal_view goal) (below_map goals place lt))

pub few_rows : (before after rows nodes : ℕ) → before < 2 ^ 30 → rows ≤ before → nodes ≤ 4096 → after ≤ max rows nodes
    → after < 2 ^ 30
few_rows before after rows nodes few fewer small bound = omega (arith, few, fewer, small, bound)

-- the launched rows are the E-graph's, of which there are no more than at the start or than were asked for
pub launched_few : (first most nodes : ℕ) (rows : List (Row Op)) (launched : List LaunchRow) (f : LaunchRow → Row Op)
    → rows ≡ map f launched → first ≤ most → length rows ≤ max first nodes → length launched ≤ max most nodes
launched_few first most nodes rows launched f are fewer bound =
    let many : length rows ≡ length launched = ap length are ∙ length-map launched f in
    omega (arith, many, fewer, bound)

-- the graph after the rounds
pub grown_after : (library : Library) (input : InputTree) (goal : GoalTree) (added : AddedRules) (graph after : Graph Op)
    (rounds nodes j : ℕ) (stop : Stop) → added ≡ rules_of library input → IsSaturated added graph rounds nodes after j stop
    → IsGrown (rules_of library input) (present_terms goal) (assumed_pairs goal) graph 0
    → IsGrown (rules_of library input) (present_terms goal) (assumed_pairs goal) after j
grown_after library input goal added graph after rounds nodes j stop is saturated grown =
    let h : IsSaturated (rules_of library input) graph rounds nodes after j stop =
    subst (λ rs. IsSaturated rs graph rounds nodes after j stop) is saturated in
    (h.after.grown (present_terms goal) (assumed_pairs goal) grown).0

pub found_of : {E : Type 0} (s : Settings) (table : Table) (m : Matched) (r : Result Answered E)
    → IfOk r (λ answered. (input : InputTree) (goal : GoalTree) → input.table ≡ table → IsMatched input goal s m
    → Right input goal s answered)
    → (input : InputTree) (goal : GoalTree) → input.table ≡ table → IsMatched input goal s m
    → IfOk r (Right input goal s)
found_of s table m (Ok answered) h input goal is matched = h input goal is matched
found_of s table m (Err e) h input goal is matched = tt
