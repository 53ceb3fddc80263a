-- The goals of an answer are read in one way.
use Rattle.std.proofs.Common.{◌≡◌, ◌⊎◌, ℕ, ◌<◌, ◌≤◌, List, [], ◌∷◌, ◌++◌, length, inl, inr, refl, sym, ap, subst, ◌∙◌, arith, Some}
use Rattle.std.proofs.lemmas.Bool.{cases_order}
use Rattle.std.proofs.lemmas.List.{length_push}
use Rattle.machine_table.specs.Tables.{IsTable}
use Rattle.machine_table.specs.declared.tables.Table.{Table}
use Rattle.text_core.specs.Lines.{Line}
use Rattle.text_core.specs.declared.faults.Kind.{Kind}
use Rattle.answer_texts.specs.AnswerParts.{IsGoalName, IsEnd, IsBodyLine, GraphPart, GraphFault, no_world_body, BodyRest, BodyRestFault, BodyPart, BodyFault, claimed_of, GoalPart, GoalFault, AreGoals, no_goals, more, GoalsPart, GoalsFault, in_goal, too_many}
use Rattle.answer_texts.specs.LineParts.{IsBadOrMissingLine}
use Rattle.answer_texts.specs.declared.answers.Claimed.{Claimed}
use Rattle.answer_texts.specs.declared.parts.BodyLine.{BodyLine}
use Rattle.answer_texts.specs.declared.parts.BodyLine.TheVariants as bodies
use Rattle.answer_texts.proofs.PartsClaims.{claim_once}
use Rattle.answer_texts.proofs.PartsCounted.{WordsAreOneLine}
use Rattle.answer_texts.proofs.PartsKinds.{goal_name_once, end_once, body_line_once}
use Rattle.answer_texts.proofs.PartsOnce.{IsOneReading, one_bad_line, line_once, says_once, leads_once}

module _ (lines : List Line) (one : WordsAreOneLine) (version : ℕ) (table : Table) (is_table : IsTable table)
    (graphs : IsOneReading (GraphPart lines version) (GraphFault lines version)) where
  rest_once : (first : BodyLine) → IsOneReading (BodyRest lines version table first) (BodyRestFault lines version table first)
  rest_once (bodies.NoWorld class a b) = says_once (no_world_body class a b)
  rest_once (bodies.Rounds rounds stop) =
      leads_once _ _ _ _ graphs
      (λ from middle g is.
      leads_once _ _ _ _ (claim_once lines one table is_table g is.well_formed.own_pins)
      (λ start end c also.
      says_once (record { graph = Some g; rounds = rounds; stop = stop; claim = c.0; refute = c.1 })))

  body_once : IsOneReading (BodyPart lines version table) (BodyFault lines version table)
  body_once =
      leads_once _ _ _ _ (line_once IsBodyLine lines body_line_once) (λ from middle first is. rest_once first)

  pub goal_once : IsOneReading (GoalPart lines version table) (GoalFault lines version table)
  goal_once =
      leads_once _ _ _ _ (line_once IsGoalName lines goal_name_once)
      (λ from middle name is.
      leads_once _ _ _ _ body_once
      (λ start end body also.
      leads_once _ _ _ _ (line_once IsEnd lines end_once) (λ first last nothing ends. says_once (claimed_of name body))))

  -- ---- equally many goals

  same_goals : (from : ℕ) {a b : ℕ} {gs hs : List Claimed} → AreGoals lines version table from a gs → AreGoals lines version table from b hs
      → length gs ≡ length hs → (a ≡ b) × (gs ≡ hs)
  same_goals from no_goals no_goals e = (refl, refl)
  same_goals from no_goals (more {goals = hs} {goal = h} are few is) e =
      absurd (let n = length_push hs h in omega (arith, e, n))
  same_goals from (more {goals = gs} {goal = g} are few is) no_goals e =
      absurd (let n = length_push gs g in omega (arith, e, n))
  same_goals from {a = a} {b = b} (more {middle = m} {goals = gs} {goal = g} are few is)
      (more {middle = k} {goals = hs} {goal = h} also fewer has) e =
      let n = length_push gs g in
      let l = length_push hs h in
      let before = same_goals from are also (omega (arith, e, n, l)) in
      let same = goal_once.once m a b g h is (subst (λ i. GoalPart lines version table i b h) (sym before.0) has) in
      (same.0, ap (λ xs. xs ++ g ∷ []) before.1 ∙ ap (λ x. hs ++ x ∷ []) same.1)

  -- ---- fewer goals, and the next of the others

  record IsGoalBehind (from at : ℕ) : Type 0 where
    end : ℕ
    goal : Claimed
    is : GoalPart lines version table at end goal

  next_goal : (from : ℕ) {a b : ℕ} {gs hs : List Claimed} → AreGoals lines version table from a gs → AreGoals lines version table from b hs
      → length gs < length hs → IsGoalBehind from a
  next_goal from {gs = gs} are no_goals lt = absurd (omega (arith, lt))
  next_goal from {a = a} {b = b} {gs = gs} are (more {middle = k} {goals = hs} {goal = h} also fewer has) lt =
      by_order (λ less. next_goal from are also less) (cases_order (length gs) (length hs))
    where
      by_order : (length gs < length hs → IsGoalBehind from a)
          → (length gs ≡ length hs) ⊎ ((length gs < length hs) ⊎ (length hs < length gs)) → IsGoalBehind from a
      by_order before (inl e) =
          let same = same_goals from are also e in
          record { end = b; goal = h; is = subst (λ i. GoalPart lines version table i b h) (sym same.0) has }
      by_order before (inr (inl less)) = before less
      by_order before (inr (inr less)) = absurd (let n = length_push hs h in omega (arith, n, lt, less))

  begins_within : (from at : ℕ) → IsGoalBehind from at → at < length lines
  begins_within from at g = g.is.first.within

  no_goal_behind : {a b : ℕ} {gs hs : List Claimed} (from : ℕ) → AreGoals lines version table from a gs → a ≡ length lines
      → AreGoals lines version table from b hs → length gs < length hs → ⊥
  no_goal_behind {a = a} from are end also lt =
      let low = begins_within from a (next_goal from are also lt) in
      omega (arith, end, low)

  no_fault_before : {a b : ℕ} {gs hs : List Claimed} (from place : ℕ) (kind : Kind) → AreGoals lines version table from a gs
      → GoalFault lines version table a place kind → AreGoals lines version table from b hs → length gs < length hs → ⊥
  no_fault_before {a = a} from place kind are fault also lt =
      let g = next_goal from are also lt in
      goal_once.apart a g.end place g.goal kind g.is fault

  few_goals : {a : ℕ} {gs : List Claimed} (from : ℕ) → AreGoals lines version table from a gs → length gs ≤ 64
  few_goals from no_goals = omega arith
  few_goals from (more {goals = gs} {goal = g} are few is) = (let n = length_push gs g in omega (arith, n, few))

  -- ---- the goals of a text

  goals_same : (from next other : ℕ) (xs ys : List Claimed) → GoalsPart lines version table from next xs
      → GoalsPart lines version table from other ys → (length xs ≡ length ys) ⊎ ((length xs < length ys) ⊎ (length ys < length xs))
      → (next ≡ other) × (xs ≡ ys)
  goals_same from next other xs ys a b (inl e) = same_goals from a.are b.are e
  goals_same from next other xs ys a b (inr (inl lt)) = absurd (no_goal_behind from a.are a.whole b.are lt)
  goals_same from next other xs ys a b (inr (inr lt)) = absurd (no_goal_behind from b.are b.whole a.are lt)

  not_at_end : (from next at : ℕ) (xs gs : List Claimed) → GoalsPart lines version table from next xs
      → AreGoals lines version table from at gs → (at < length lines) ⊎ (gs ≡ []) → length gs ≡ length xs → ⊥
  not_at_end from next at xs gs a are (inl low) e =
      let end = (same_goals from are a.are e).0 ∙ a.whole in
      absurd (omega (arith, end, low))
  not_at_end from next at xs gs a are (inr none) e = a.some (sym (same_goals from are a.are e).1 ∙ none)

  goals_apart_by : (from next place at : ℕ) (xs gs : List Claimed) (kind : Kind) → GoalsPart lines version table from next xs
      → AreGoals lines version table from at gs → (at < length lines) ⊎ (gs ≡ []) → GoalFault lines version table at place kind
      → (length gs ≡ length xs) ⊎ ((length gs < length xs) ⊎ (length xs < length gs)) → ⊥
  goals_apart_by from next place at xs gs kind a are left fault (inl e) = not_at_end from next at xs gs a are left e
  goals_apart_by from next place at xs gs kind a are left fault (inr (inl lt)) =
      no_fault_before from place kind are fault a.are lt
  goals_apart_by from next place at xs gs kind a are left fault (inr (inr lt)) =
      no_goal_behind from a.are a.whole are lt

  many_apart_by : (from next at : ℕ) (xs gs : List Claimed) → GoalsPart lines version table from next xs
      → AreGoals lines version table from at gs → at < length lines → length gs ≡ 64
      → (length gs ≡ length xs) ⊎ ((length gs < length xs) ⊎ (length xs < length gs)) → ⊥
  many_apart_by from next at xs gs a are low all (inl e) = not_at_end from next at xs gs a are (inl low) e
  many_apart_by from next at xs gs a are low all (inr (inl lt)) =
      (let few = few_goals from a.are in absurd (omega (arith, few, all, lt)))
  many_apart_by from next at xs gs a are low all (inr (inr lt)) = no_goal_behind from a.are a.whole are lt

  goals_apart : (from next place : ℕ) (xs : List Claimed) (kind : Kind) → GoalsPart lines version table from next xs
      → GoalsFault lines version table from place kind → ⊥
  goals_apart from next place xs kind a (in_goal {at = at} {goals = gs} are few left fault) =
      goals_apart_by from next place at xs gs kind a are left fault (cases_order (length gs) (length xs))
  goals_apart from next place xs kind a (too_many {at = at} {goals = gs} are all low fault) =
      many_apart_by from next at xs gs a are low all (cases_order (length gs) (length xs))

  faults_same : (from place other at end : ℕ) (gs hs : List Claimed) (kind another : Kind)
      → AreGoals lines version table from at gs → GoalFault lines version table at place kind → AreGoals lines version table from end hs
      → GoalFault lines version table end other another
      → (length gs ≡ length hs) ⊎ ((length gs < length hs) ⊎ (length hs < length gs))
      → (place ≡ other) × (kind ≡ another)
  faults_same from place other at end gs hs kind another are fault also bad (inl e) =
      let same = same_goals from are also e in
      goal_once.first at place other kind another fault
      (subst (λ i. GoalFault lines version table i other another) (sym same.0) bad)
  faults_same from place other at end gs hs kind another are fault also bad (inr (inl lt)) =
      absurd (no_fault_before from place kind are fault also lt)
  faults_same from place other at end gs hs kind another are fault also bad (inr (inr lt)) =
      absurd (no_fault_before from other another also bad are lt)

  goals_first : (from place other : ℕ) (kind another : Kind) → GoalsFault lines version table from place kind
      → GoalsFault lines version table from other another → (place ≡ other) × (kind ≡ another)
  goals_first from place other kind another (in_goal {at = at} {goals = gs} are few left fault)
      (in_goal {at = end} {goals = hs} also fewer behind bad) =
      faults_same from place other at end gs hs kind another are fault also bad (cases_order (length gs) (length hs))
  goals_first from place other kind another (in_goal are few left fault) (too_many also all low bad) =
      absurd (no_fault_before from place kind are fault also (omega (arith, few, all)))
  goals_first from place other kind another (too_many are all low fault) (in_goal also few left bad) =
      absurd (no_fault_before from other another also bad are (omega (arith, few, all)))
  goals_first from place other kind another (too_many {at = at} are all low fault)
      (too_many {at = end} also full high bad) =
      let same = same_goals from are also (all ∙ sym full) in
      one_bad_line lines at place other kind another fault
      (subst (λ i. IsBadOrMissingLine lines i other another) (sym same.0) bad)

  pub goals_once : IsOneReading (GoalsPart lines version table) (GoalsFault lines version table)
  goals_once = record {
    once = λ from next other xs ys a b. goals_same from next other xs ys a b (cases_order (length xs) (length ys));
    apart = goals_apart;
    first = goals_first;
  }
