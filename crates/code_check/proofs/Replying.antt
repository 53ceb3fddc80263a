-- The lines of codes, one more at a time.
use Rattle.std.proofs.Common.{◌≡◌, ℕ, suc, ◌+◌, ◌<◌, ◌||◌, ◌++◌, if◌then◌else◌, Bool, true, false, All, Some, List, [], ◌∷◌, length, map, refl, sym, ap, ap₂, ◌∙◌, subst, arith, slice_get}
use Rattle.std.specs.List.{list_any}
use Rattle.std.specs.Option.{option_map_or}
use Rattle.std.proofs.lemmas.List.{flat_map_more, get_or_at, length-map}
use Rattle.std.proofs.lemmas.List.Elements.{All-append, All-cons, All-get_or, All-map, All-nil}
use Rattle.std.proofs.lemmas.List.Folds.{list_any-append}
use Rattle.text_core.specs.LineTexts.{Words, line_text, lines_text}
use Rattle.axiom_library.specs.declared.libraries.Library.{Library}
use Rattle.alpha_encode.specs.declared.instructions.Instr.{Instr}
use Rattle.goal_meaning.specs.Expanded.{expanded, expanded_target, let_terms}
use Rattle.goal_meaning.specs.Outcomes.{is_memory}
use Rattle.goal_meaning.specs.Views.{GoalTree, InputTree, TargetTree}
use Rattle.code_check.specs.Codes.{IsCodeOf}
use Rattle.code_check.specs.Replies.{AreReplies, AreSaid, CanBeSaid, IsPartOf, IsReplyTo, code_words, is_no_world, is_unknown, none, one_more, reply_lines, reply_words}
use Rattle.code_check.specs.Same.{compared_parts, goal_parts, places_from, word_targets_from}
use Rattle.code_check.specs.Verified.{IsRightFor, IsVerified}
use Rattle.code_check.specs.declared.codes.Code.{Code}
use Rattle.code_check.specs.declared.codes.Part.{Part}
use Rattle.code_check.specs.declared.codes.Part.TheVariants as parts
use Rattle.code_check.specs.declared.codes.Verified.{Verified}
use Rattle.code_check.specs.declared.codes.Verified.TheVariants.{Yes, Unknown, NoWorld}
use Rattle.code_check.proofs.CodeWords.{or_false}

-- ---- parts are of the goal

more_targets : (n : ℕ) (ts : List TargetTree) → All (λ i. i < (n + 1) + length ts) (word_targets_from (n + 1) ts) → All (λ i. i < n + suc (length ts)) (word_targets_from (n + 1) ts)
more_targets n ts below = λ k d l. (let h = below k d l in omega (arith, h))

with_target : (n : ℕ) (ts : List TargetTree) (b : Bool) → All (λ i. i < n + suc (length ts)) (word_targets_from (n + 1) ts)
    → All (λ i. i < n + suc (length ts)) (if b then word_targets_from (n + 1) ts else n ∷ word_targets_from (n + 1) ts)
with_target n ts true rest = rest
with_target n ts false rest = All-cons (λ i. i < n + suc (length ts)) n (word_targets_from (n + 1) ts) (omega arith) rest

low_targets : (n : ℕ) (ts : List TargetTree) → All (λ i. i < n + length ts) (word_targets_from n ts)
low_targets n [] = All-nil (λ i. i < n + 0)
low_targets n (t ∷ ts) = with_target n ts (is_memory t) (more_targets n ts (low_targets (n + 1) ts))

targets_are : (goal : GoalTree) → All (λ i. IsPartOf goal (parts.Set i)) (word_targets_from 0 goal.sets)
targets_are goal = λ k d l. (let h = low_targets 0 goal.sets k d l in omega (arith, h))

goal_parts_are : (goal : GoalTree) → All (IsPartOf goal) (goal_parts goal)
goal_parts_are goal =
    let sets = map parts.Set (word_targets_from 0 goal.sets) in
    All-cons (IsPartOf goal) parts.Guard (parts.Exit ∷ (sets ++ parts.Memory ∷ [])) tt
    (All-cons (IsPartOf goal) parts.Exit (sets ++ parts.Memory ∷ []) tt
    (All-append (IsPartOf goal) sets (parts.Memory ∷ [])
    (All-map (IsPartOf goal) parts.Set (word_targets_from 0 goal.sets) (targets_are goal))
    (All-cons (IsPartOf goal) parts.Memory [] tt (All-nil (IsPartOf goal)))))

pub parts_are : (goal : GoalTree) (instrs : List Instr) → All (IsPartOf goal) (compared_parts goal instrs)
parts_are goal instrs =
    All-append (IsPartOf goal) (map parts.Trap (places_from 0 instrs)) (goal_parts goal)
    (All-map (IsPartOf goal) parts.Trap (places_from 0 instrs) (λ k d l. tt)) (goal_parts_are goal)

pub middle : {X : Type 0} (P : X → Type 0) (all before behind : List X) (x : X) → all ≡ before ++ x ∷ behind → All P all → P x
middle P all before behind x e h =
    subst P (get_or_at before x behind x (length before) refl)
    (All-get_or P (before ++ x ∷ behind) (length before) x (within before) (subst (All P) e h))
  where
    within : (xs : List _) → length xs < length (xs ++ x ∷ behind)
    within [] = omega arith
    within (y ∷ ys) = (let l = within ys in omega (arith, l))

-- the goal without lets has the goal's targets
of_goal : (goal : GoalTree) (part : Part) → IsPartOf (expanded goal) part → IsPartOf goal part
of_goal goal (parts.Trap at) h = h
of_goal goal parts.Guard h = h
of_goal goal parts.Exit h = h
of_goal goal (parts.Set i) h = subst (λ n. i < n) (length-map goal.sets (expanded_target (let_terms goal))) h
of_goal goal parts.Memory h = h

pub can_be_said : (input : InputTree) (goal : GoalTree) (instrs : List Instr) (code : Code) (rounds nodes : ℕ) (library : Library) (answer : Verified) → IsVerified input goal instrs code rounds nodes library answer → CanBeSaid goal answer
can_be_said input goal instrs code rounds nodes library Yes h = tt
can_be_said input goal instrs code rounds nodes library (Unknown j stop part) h =
    (let d = h.2 in of_goal goal part (middle (IsPartOf (expanded goal)) (compared_parts (expanded goal) instrs) d.before d.behind part d.order (parts_are (expanded goal) instrs)))
can_be_said input goal instrs code rounds nodes library (NoWorld class a b) h = tt

-- ---- one more line

module _ (input : InputTree) (rounds nodes : ℕ) (library : Library) where
  pub reply_is : (code : Code) (answer : Verified) (of : IsCodeOf input code) → ((goal : GoalTree) → slice_get input.goals code.goal ≡ Some goal → IsRightFor input goal code rounds nodes library answer) → IsReplyTo input rounds nodes library code answer
  reply_is code answer of right = record {
    goal = of.goal;
    of_goal = of.of_goal;
    instrs = of.fits.instrs;
    decode = of.fits.is_code.decode;
    right = right of.goal of.of_goal of.fits.instrs of.fits.is_code.decode;
  }

  replies_more : (codes : List Code) (answers : List Verified) (code : Code) (answer : Verified) → AreReplies input rounds nodes library codes answers → IsReplyTo input rounds nodes library code answer → AreReplies input rounds nodes library (codes ++ code ∷ []) (answers ++ answer ∷ [])
  replies_more _ _ code answer none r = one_more r none
  replies_more _ _ code answer (one_more {codes = cs} {answers = rest} one others) r = one_more one (replies_more cs rest code answer others r)

  lines_more : (codes : List Code) (answers : List Verified) (code : Code) (answer : Verified) → AreReplies input rounds nodes library codes answers
      → reply_lines input.goals (codes ++ code ∷ []) (answers ++ answer ∷ []) ≡ reply_lines input.goals codes answers ++ code_words input.goals code answer ∷ []
  lines_more _ _ code answer none = refl
  lines_more _ _ code answer (one_more {code = c} {codes = cs} {answer = a} {answers = rest} one others) = ap (λ ls. code_words input.goals c a ∷ ls) (lines_more cs rest code answer others)

  pub nothing_said : AreSaid input rounds nodes library [] [] false false
  nothing_said = record { answers = []; each = none; printed = refl; some_unknown = refl; some_no_world = refl }

  any_more : (p : Verified → Bool) (answers : List Verified) (answer : Verified) (b : Bool) → b ≡ list_any p answers → b || p answer ≡ list_any p (answers ++ answer ∷ [])
  any_more p answers answer b e =
      ap (λ c. c || p answer) e ∙ sym (list_any-append p answers (answer ∷ []) ∙ ap (λ c. list_any p answers || c) (or_false (p answer)))

  pub said_more : (codes : List Code) (bytes : List ℕ) (unknown no_world : Bool) (code : Code) (answer : Verified) (goal : GoalTree) → AreSaid input rounds nodes library codes bytes unknown no_world
      → IsReplyTo input rounds nodes library code answer → slice_get input.goals code.goal ≡ Some goal
      → AreSaid input rounds nodes library (codes ++ code ∷ []) (bytes ++ line_text (reply_words goal answer)) (unknown || is_unknown answer) (no_world || is_no_world answer)
  said_more codes bytes unknown no_world code answer goal said reply there =
      let line : reply_words goal answer ≡ code_words input.goals code answer = sym (ap (λ o. option_map_or (λ (g : GoalTree). reply_words g answer) o []) there) in
      record {
        answers = said.answers ++ answer ∷ [];
        each = replies_more codes said.answers code answer said.each reply;
        printed = ap₂ (λ xs (ws : Words). xs ++ line_text ws) said.printed line
            ∙ flat_map_more line_text [] (reply_lines input.goals codes said.answers) (code_words input.goals code answer)
            ∙ ap lines_text (sym (lines_more codes said.answers code answer said.each));
        some_unknown = any_more is_unknown said.answers answer unknown said.some_unknown;
        some_no_world = any_more is_no_world said.answers answer no_world said.some_no_world;
      }
