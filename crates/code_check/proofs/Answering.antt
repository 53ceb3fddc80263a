-- What the check of a code comes to, from what its calls promise.
use Rattle.std.proofs.Common.{◌≡◌, ℕ, zero, suc, ◌+◌, ◌*◌, ◌<◌, ◌≤◌, ◌^◌, ◌∙◌, max, List, [], ◌∷◌, ◌++◌, map, length, get_or, Result, Ok, Err, Option, Some, None, refl, sym, ap, subst, arith}
use Rattle.std.specs.Prelude.{All, Contains, IfOk, IfSome, MatchOption, slice_get}
use Rattle.std.proofs.lemmas.List.{get_or-map, length-map, length_push}
use Rattle.std.proofs.lemmas.List.Elements.{All-weaker, Contains-append_left, Contains-append_right, Contains-get_or}
use Rattle.std.proofs.lemmas.Option.{slice_get_read, slice_get_within}
use Rattle.axiom_library.specs.declared.libraries.Library.{Library}
use Rattle.word_ops.specs.declared.sorts.Op.{Op}
use Rattle.word_ops.specs.declared.sorts.Sort.{Sort}
use Rattle.word_ops.specs.declared.sorts.Sort.TheVariants as sorts
use Rattle.word_terms.specs.Tree.{AreBelow, Tree, substituted}
use Rattle.pattern_match.specs.Classes.{IsClass}
use Rattle.std.specs.List.{AllZip}
use Rattle.std.proofs.lemmas.Slice.Zip.{AllZip-long}
use Rattle.egraph.specs.Graph.{Graph}
use Rattle.alpha_encode.specs.Decoded.{decoded}
use Rattle.alpha_encode.specs.declared.instructions.Instr.{Instr}
use Rattle.goal_meaning.specs.Expanded.{expanded, expanded_terms, let_terms, let_values}
use Rattle.goal_meaning.specs.Views.{LetTree, GoalTree, InputTree, TargetTree, goal_view, target_view}
use Rattle.goal_meaning.specs.WellFormed.{AreLets, IsGoal, IsGoalTerm, IsTarget, let_sorts, sort_of_tree, sorts_of_lets}
use Rattle.goal_meaning.specs.declared.goals.DeclaredOp.{DeclaredOp}
use Rattle.goal_meaning.specs.declared.goals.Goal.{Goal}
use Rattle.goal_meaning.specs.declared.goals.InputReg.{InputReg}
use Rattle.saturation.specs.AtStart.{most_rows_at_start}
use Rattle.saturation.specs.GoalTerms.{entry_term, guard_terms, input_terms, kept_terms, set_terms}
use Rattle.graph_meaning.specs.declared.stops.Stop.{Stop}
use Rattle.code_check.specs.Answers.{IsAnswerOf, IsGoalBelow}
use Rattle.code_check.specs.Outcomes.{DoesGoal}
use Rattle.code_check.specs.Same.{IsFirstDifferent, Same}
use Rattle.code_check.specs.Verified.{IsCompared, IsRightFor, IsVerified}
use Rattle.code_check.specs.declared.codes.Code.{Code}
use Rattle.code_check.specs.declared.codes.Part.{Part}
use Rattle.code_check.specs.declared.codes.Verified.{Verified}
use Rattle.code_check.specs.declared.codes.Verified.TheVariants.{NoWorld}
use Rattle.code_check.proofs.Sorting.{sort_below}

-- ---- the instructions of words are one list

map_same : (xs ys : List Instr) → map Some xs ≡ map Some ys → xs ≡ ys
map_same [] [] e = refl
map_same [] (y ∷ ys) e = absurd (no_cons (Some y) (map Some ys) e)
  where
    no_cons : (o : Option Instr) (os : List (Option Instr)) → [] ≡ o ∷ os → ⊥
    no_cons o os e = cc
map_same (x ∷ xs) [] e = absurd (no_nil (Some x) (map Some xs) e)
  where
    no_nil : (o : Option Instr) (os : List (Option Instr)) → o ∷ os ≡ [] → ⊥
    no_nil o os e = cc
map_same (x ∷ xs) (y ∷ ys) e =
    let first : x ≡ y = head_same x y (map Some xs) (map Some ys) e in
    let rest : xs ≡ ys = map_same xs ys (tail_same (Some x) (Some y) (map Some xs) (map Some ys) e) in
    cc
  where
    head_same : (a b : Instr) (os ps : List (Option Instr)) → Some a ∷ os ≡ Some b ∷ ps → a ≡ b
    head_same a b os ps e = cc

    tail_same : (o p : Option Instr) (os ps : List (Option Instr)) → o ∷ os ≡ p ∷ ps → os ≡ ps
    tail_same o p os ps e = cc

-- ---- the goal's terms have only lets for variables

sorts_long : (before : List Sort) (ts : List (Tree Op)) → length (sorts_of_lets before ts) ≡ length before + length ts
sorts_long before [] = omega arith
sorts_long before (t ∷ ts) =
    let more = sorts_long (before ++ sort_of_tree before t ∷ []) ts in
    let one = length_push before (sort_of_tree before t) in
    omega (arith, more, one)

lets_below : (declared : List DeclaredOp) (inputs : List InputReg) (before : List Sort) (ts : List (Tree Op)) → AreLets declared inputs before ts
    → (k : ℕ) (d : Tree Op) → k < length ts → AreBelow (length before + k) (get_or ts k d)
lets_below declared inputs before [] h k d lt = absurd (omega (arith, lt))
lets_below declared inputs before (t ∷ ts) h zero d lt =
    let same : length before ≡ length before + 0 = omega arith in
    subst (λ n. AreBelow n t) same (sort_below before _ t h.0.sorted)
lets_below declared inputs before (t ∷ ts) h (suc k) d lt =
    let one = length_push before (sort_of_tree before t) in
    subst (λ n. AreBelow n (get_or ts k d)) (let same : length (before ++ sort_of_tree before t ∷ []) + k ≡ length before + suc k = omega (arith, one) in same)
    (lets_below declared inputs (before ++ sort_of_tree before t ∷ []) ts h.1 k d (omega (arith, lt)))

module _ (input : InputTree) (goal : GoalTree) (is : IsGoal input.ops goal) where
  pub goal_below : IsGoalBelow goal
  goal_below = record {
    lets = λ k d lt.
        subst (λ n. AreBelow n (get_or (let_values goal.lets) k d)) (let same : 0 + k ≡ k = omega arith in same)
        (lets_below input.ops goal.inputs [] (let_values goal.lets) is.lets k d lt);
    guard = guard_below goal.guard is.guard;
    sets = All-weaker (IsTarget input.ops goal) (λ (t : TargetTree). AreBelow (length goal.lets) t.value) (λ t h. term_below _ t.value h) goal.sets is.sets;
  }
    where
      as_long : length (let_sorts goal) ≡ length goal.lets
      as_long =
          let all = sorts_long [] (let_values goal.lets) in
          let each : length (let_values goal.lets) ≡ length goal.lets = length-map goal.lets (λ (l : LetTree). l.value) in
          omega (arith, all, each)

      term_below : (sort : Sort) (t : Tree Op) → IsGoalTerm input.ops goal sort t → AreBelow (length goal.lets) t
      term_below sort t h = subst (λ n. AreBelow n t) as_long (sort_below (let_sorts goal) sort t h.sorted)

      guard_below : (o : Option (Tree Op)) → IfSome o (IsGoalTerm input.ops goal sorts.Word) → IfSome o (AreBelow (length goal.lets))
      guard_below None h = tt
      guard_below (Some t) h = term_below sorts.Word t h

-- what a let stands for is among the terms that the graph keeps
pub let_there : (goal : GoalTree) (more : List (Tree Op)) (k : ℕ) (d : Tree Op) → k < length (let_terms goal)
    → Contains (kept_terms goal ++ more) (get_or (let_terms goal) k d)
let_there goal more k d lt =
    let t = get_or (let_terms goal) k d in
    let front = entry_term ∷ input_terms goal.inputs in
    let guards = guard_terms (expanded goal).guard in
    Contains-append_left (kept_terms goal) more t
    (Contains-append_left (front ++ let_terms goal ++ guards) (set_terms (expanded goal).sets) t
    (Contains-append_left (front ++ let_terms goal) guards t
    (Contains-append_right front (let_terms goal) t (Contains-get_or (let_terms goal) k d lt))))

terms_long : (before ts : List (Tree Op)) → length (expanded_terms before ts) ≡ length before + length ts
terms_long before [] = omega arith
terms_long before (t ∷ ts) =
    let more = terms_long (before ++ substituted before t ∷ []) ts in
    let one = length_push before (substituted before t) in
    omega (arith, more, one)

-- each let has a class
pub as_many : (goal : GoalTree) (g : Graph Op) (lets : List ℕ) → AllZip (IsClass g []) (let_terms goal) lets → length lets ≡ length goal.lets
as_many goal g lets zip =
    let long = AllZip-long (IsClass g []) (let_terms goal) lets zip in
    let terms : length (let_terms goal) ≡ length (let_values goal.lets) = (let h = terms_long [] (let_values goal.lets) in omega (arith, h)) in
    let each : length (let_values goal.lets) ≡ length goal.lets = length-map goal.lets (λ (l : LetTree). l.value) in
    omega (arith, long, terms, each)

-- ---- an answer whose class and constants have other names

pub renamed : (P : Verified → Type 0) (class a b c x y : ℕ) → c ≡ class → x ≡ a → y ≡ b → P (NoWorld class a b) → P (NoWorld c x y)
renamed P class a b c x y e f g h =
    subst (λ n. P (NoWorld n x y)) (sym e) (subst (λ n. P (NoWorld class n y)) (sym f) (subst (λ n. P (NoWorld class a n)) (sym g) h))

-- ---- answers for each library

pub for_libraries :
    {E : Type 0} (r : Result Verified E) (A : Library → Type 0) (Q : Library → Verified → Type 0) →
    ((library : Library) → A library → IfOk r (Q library)) →
    IfOk r (λ answer. (library : Library) → A library → Q library answer)
for_libraries (Ok x) A Q h = h
for_libraries (Err e) A Q h = tt

-- ---- answers

module _ (input : InputTree) (code : Code) (rounds nodes : ℕ) (library : Library) where
  -- the goal of a place is the one that was taken from it
  pub for_the_goal :
      {E : Type 0} (goal : GoalTree) (r : Result Verified E) →
      slice_get input.goals code.goal ≡ Some goal →
      IfOk r (IsRightFor input goal code rounds nodes library) →
      IfOk r (λ answer.
      (other : GoalTree) → slice_get input.goals code.goal ≡ Some other → IsRightFor input other code rounds nodes library answer)
  for_the_goal goal (Ok x) there h = λ other is.
      let same : goal ≡ other = cc in
      subst (λ (n : GoalTree). IsRightFor input n code rounds nodes library x) same h
  for_the_goal goal (Err e) there h = tt

  module _ (goal : GoalTree) (instrs : List Instr) (decode : map decoded code.words ≡ map Some instrs) where
    -- it is right for the instructions, and there are no others
    pub for_the_code : {E : Type 0} (r : Result Verified E) → IfOk r (IsVerified input goal instrs code rounds nodes library) → IfOk r (IsRightFor input goal code rounds nodes library)
    for_the_code (Ok x) h = λ others is.
        subst (λ js. IsVerified input goal js code rounds nodes library x) (map_same instrs others (sym decode ∙ is)) h
    for_the_code (Err e) h = tt

    -- what the comparison gives
    module _ (g : Graph Op) (j : ℕ) (stop : Stop) (compared : IsCompared input goal instrs rounds nodes library g j stop)
        (does : Same g (expanded goal) instrs code.places → DoesGoal input goal code.words code.places) where
      pub answered :
          (found : Option Part) (answer : Verified) →
          MatchOption found (Same g (expanded goal) instrs code.places) (IsFirstDifferent g (expanded goal) instrs code.places) →
          IsAnswerOf j stop found answer →
          IsVerified input goal instrs code rounds nodes library answer
      answered None answer same e =
          subst (IsVerified input goal instrs code rounds nodes library) (sym e)
          (record { graph = g; round = j; stop = stop; compared = compared; same = same; does_goal = does same })
      answered (Some part) answer differs e = subst (IsVerified input goal instrs code rounds nodes library) (sym e) (g, compared, differs)

-- ---- room

-- the goal's rows and those of the words are few
pub few_words : (first inserted words : ℕ) → first + 20480 < 2 ^ 30 → words ≤ 4096 → inserted ≤ first + 5 * words → inserted < 2 ^ 30
few_words first inserted words a b c = omega (arith, a, b, c)

pub start_few : (input : InputTree) (goal : GoalTree) → IsGoal input.ops goal → (first : ℕ) → first ≤ most_rows_at_start goal → first + 20480 < 2 ^ 30
start_few input goal is first le = omega (arith, is.few, is.rules.few.0, le)

pub room_for : (first words : ℕ) → first + 20480 < 2 ^ 30 → words ≤ 4096 → first + 5 * words ≤ 2 ^ 31
room_for first words a b = omega (arith, a, b)

pub few_code : (words : List ℕ) → length words ≤ 4096 → length words < 2 ^ 29
few_code words l = omega (arith, l)

pub few_of_words : (words : ℕ) → words ≤ 4096 → words < 2 ^ 32
few_of_words words l = omega (arith, l)

pub few_rows : (before current rows nodes : ℕ) → current < 2 ^ 30 → before ≤ current → rows ≤ max before nodes → nodes ≤ 4096 → rows < 2 ^ 30
few_rows before current rows nodes few fewer bound low = omega (arith, few, fewer, bound, low)

pub few_sets : (input : InputTree) (goal : Goal) → IsGoal input.ops (goal_view goal) → length goal.sets < 2 ^ 32
few_sets input goal is = (let e = length-map goal.sets target_view in omega (arith, e, is.rules.few.2))

-- ---- the goal at a place

pub goal_low : (goals : List Goal) (place : ℕ) (goal : GoalTree) → slice_get (map goal_view goals) place ≡ Some goal → place < length goals
goal_low goals place goal there = subst (λ n. place < n) (length-map goals goal_view) (slice_get_within (map goal_view goals) place goal there)

pub low_inputs : (inputs : List InputReg) → All (λ (i : InputReg). i.reg < 31) inputs → All (λ (i : InputReg). i.reg < 32) inputs
low_inputs inputs h = λ n d l. (let k = h n d l in omega (arith, k))

module _ (goals shown : List Goal) (place : ℕ) (goal : Goal) (is : shown ≡ goals) (lt : place < length goals) (e : goal ≡ get_or shown place goal) where
  view_at : goal_view goal ≡ get_or (map goal_view goals) place (goal_view goal)
  view_at =
      ap goal_view (subst (λ (gs : List Goal). goal ≡ get_or gs place goal) is e)
      ∙ sym (get_or-map goal_view goals place goal (goal_view goal) lt)

  below : place < length (map goal_view goals)
  below = subst (λ n. place < n) (sym (length-map goals goal_view)) lt

  pub goal_there : slice_get (map goal_view goals) place ≡ Some (goal_view goal)
  goal_there = slice_get_read (map goal_view goals) (length (map goal_view goals)) place (goal_view goal) refl below view_at

  pub goal_among : Contains (map goal_view goals) (goal_view goal)
  goal_among = subst (Contains (map goal_view goals)) (sym view_at) (Contains-get_or (map goal_view goals) place (goal_view goal) below)
