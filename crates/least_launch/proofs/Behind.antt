-- The lines behind an answer, as they are read.
use Rattle.std.proofs.Common.{◌≡◌, ℕ, zero, suc, ◌+◌, ◌<◌, ◌≤◌, ◌^◌, List, [], ◌∷◌, ◌++◌, length, take, drop, get_or, refl, sym, ap, subst, ◌∙◌, arith, length-append, Option}
use Rattle.std.specs.Prelude.{All, IfSome}
use Rattle.std.proofs.lemmas.List.{drop_more, length-take-le, take-append-drop, take_more}
use Rattle.std.proofs.lemmas.List.Elements.{All-append, All-cons, All-nil}
use Rattle.answer_texts.specs.AnswerParts.{AreCounted}
use Rattle.answer_texts.specs.LineParts.{IsBadOrMissingLine}
use Rattle.answer_texts.specs.declared.answers.Claimed.{Claimed}
use Rattle.answer_texts.proofs.PartsFaults.{fault_by}
use Rattle.answer_texts.proofs.PartsWithin.{counted_within}
use Rattle.cnf_core.specs.declared.line.Lines.{Lines}
use Rattle.text_core.specs.Faults.{IsFaultBy}
use Rattle.text_core.specs.LineTexts.{Words}
use Rattle.text_core.specs.Lines.{AreLines, HasLines, Line, line, line_at, none}
use Rattle.text_core.specs.declared.faults.TextFault.{TextFault}
use Rattle.least_launch.specs.TailParts.{AreTails, GoalTailFault, GoalTailPart, OneTailPart, TailRest, TailsFault, behind_all, in_goal, more, no_goals}
use Rattle.least_launch.specs.TailVerdicts.{HasFewLines}
use Rattle.least_launch.specs.TailedAnswers.{bytes_in_front}
use Rattle.least_launch.specs.declared.tails.Tail.{Tail}
use Rattle.least_launch.specs.declared.tails.TailLine.{TailLine}
use Rattle.least_launch.specs.declared.tails.TailLine.TheVariants as lines_of

-- ---- lines

-- a line of one word is that word
pub one_word : (words : Words) (word : List ℕ) → length words ≡ 1 → get_or words 0 [] ≡ word → words ≡ word ∷ []
one_word [] word n e = absurd (let z : length {A = List ℕ} [] ≡ 0 = refl in omega (arith, n, z))
one_word (w ∷ []) word n e = ap (λ x. x ∷ []) e
one_word (w ∷ v ∷ ws) word n e = absurd (omega (arith, n))

-- a line begins within the text
begins_within : (place : ℕ) (lines : List Line) (text : List ℕ) → AreLines place lines text → (at : ℕ) (d : Line)
    → at < length lines → (get_or lines at d).place ≤ place + length text
begins_within place _ _ none at d lt = absurd (omega (arith, lt))
begins_within place _ _ (line front rest one others whole) zero d lt = omega arith
begins_within place _ text (line front rest one others whole) (suc at) d lt =
    let later = begins_within (place + length front) _ rest others at d (omega (arith, lt)) in
    let size = ap length whole ∙ length-append front rest in
    omega (arith, later, size)

pub front_within : (text : List ℕ) (lines : List Line) (at : ℕ) → HasLines text lines → at < length lines
    → (line_at lines at).place ≤ length text
front_within text lines at split lt =
    let b = begins_within 0 lines text split at (record { place = 0; words = [] }) lt in omega (arith, b)

-- ---- how far parts reach

counted_to : (lines : List Line) (count from next : ℕ) (read : Lines) → AreCounted lines count from next read
    → next ≤ length lines
counted_to lines count from next read are =
    let end = counted_within lines from count read.lines are.within are.are in
    let behind = are.behind in
    omega (arith, end, behind)

rest_within : (lines : List Line) (first : TailLine) (from next : ℕ) (tail : Tail) → TailRest lines first from next tail
    → from ≤ length lines → next ≤ length lines
rest_within lines (lines_of.Least launches count) from next tail is low =
    let end = counted_to lines count from is.middle is.said is.first in let stays = is.second.stays in
    omega (arith, end, stays)
rest_within lines (lines_of.Spent launches count) from next tail is low =
    let end = counted_to lines count from is.middle is.said is.first in let stays = is.second.stays in
    omega (arith, end, stays)
rest_within lines (lines_of.Size launches vars clauses) from next tail is low =
    let stays = is.stays in omega (arith, low, stays)

pub said_within : (lines : List Line) (from next : ℕ) (tail : Tail) → OneTailPart lines from next tail
    → next ≤ length lines
said_within lines from next tail is =
    let first = is.first.within in
    let behind = is.first.behind in
    rest_within lines is.said is.middle next tail is.second (omega (arith, first, behind))

-- ---- goals one behind another

-- what is said of so many of the goals
pub record AreSaidTo (lines : List Line) (from at : ℕ) (goals : List Claimed) (done : ℕ) (said : List (Option Tail))
    : Type 0 where
  pub are : AreTails lines from at (take done goals) said
  pub within : at ≤ length lines
  pub few : All (λ tail. IfSome tail HasFewLines) said

module _ (lines : List Line) (from : ℕ) (goals : List Claimed) where
  pub none_said : (said : List (Option Tail)) → said ≡ [] → from ≤ length lines → AreSaidTo lines from from goals 0 said
  none_said said is low = record {
    are = subst (AreTails lines from from []) (sym is) no_goals;
    within = low;
    few = subst (All (λ tail. IfSome tail HasFewLines)) (sym is) (All-nil (λ tail. IfSome tail HasFewLines));
  }

  pub one_said : (at next done : ℕ) (said new : List (Option Tail)) (goal : Claimed) (tail : Option Tail)
      → AreSaidTo lines from at goals done said → done < length goals → goal ≡ get_or goals done goal
      → GoalTailPart lines goal.claim at next tail → IfSome tail HasFewLines → next ≤ length lines
      → new ≡ said ++ tail ∷ [] → AreSaidTo lines from next goals (done + 1) new
  one_said at next done said new goal tail so_far lt is part few low whole = record {
    are = subst (λ (gs : List Claimed). AreTails lines from next gs new)
        (ap (λ (x : Claimed). take done goals ++ x ∷ []) is ∙ sym (take_more goals done goal lt))
        (subst (AreTails lines from next (take done goals ++ goal ∷ [])) (sym whole) (more goal tail so_far.are part));
    within = low;
    few = subst (All (λ tail. IfSome tail HasFewLines)) (sym whole)
        (All-append (λ tail. IfSome tail HasFewLines) said (tail ∷ []) so_far.few
        (All-cons (λ tail. IfSome tail HasFewLines) tail [] few (All-nil (λ tail. IfSome tail HasFewLines))));
  }

  -- the goals before one, it, and those behind it
  parted : (done : ℕ) (goal : Claimed) (gs : List Claimed) → done < length gs
      → gs ≡ take done gs ++ get_or gs done goal ∷ drop (done + 1) gs
  parted done goal gs lt = sym (take-append-drop done gs) ∙ ap (λ xs. take done gs ++ xs) (drop_more gs done goal lt)

  pub goal_fault : (at done : ℕ) (said : List (Option Tail)) (goal : Claimed) (f : TextFault)
      → AreSaidTo lines from at goals done said → done < length goals → goal ≡ get_or goals done goal
      → IsFaultBy (GoalTailFault lines goal.claim at) f → IsFaultBy (TailsFault lines goals from) f
  goal_fault at done said goal f so_far lt is =
      fault_by (GoalTailFault lines goal.claim at) (TailsFault lines goals from)
      (λ place kind bad. in_goal (take done goals) (drop (done + 1) goals) goal
      (parted done goal goals lt ∙ ap (λ (x : Claimed). take done goals ++ x ∷ drop (done + 1) goals) (sym is))
      so_far.are bad) f

  pub behind_fault : (at done : ℕ) (said : List (Option Tail)) (f : TextFault) → AreSaidTo lines from at goals done said
      → take done goals ≡ goals → ¬ (at ≡ length lines) → IsFaultBy (IsBadOrMissingLine lines at) f
      → IsFaultBy (TailsFault lines goals from) f
  behind_fault at done said f so_far all ne =
      fault_by (IsBadOrMissingLine lines at) (TailsFault lines goals from)
      (λ place kind bad. behind_all (subst (λ (gs : List Claimed). AreTails lines from at gs said) all so_far.are)
      (let low = so_far.within in omega (arith, low, ne)) bad) f

  pub all_said : (at done : ℕ) (said : List (Option Tail)) → AreSaidTo lines from at goals done said
      → take done goals ≡ goals
      → at ≡ length lines → AreTails lines from (length lines) goals said
  all_said at done said so_far all end =
      subst (λ n. AreTails lines from n goals said) end
      (subst (λ (gs : List Claimed). AreTails lines from at gs said) all so_far.are)

-- the bytes in front of a line are no more than all
pub front_few : (text : List ℕ) (lines : List Line) (at : ℕ) → HasLines text lines → at < length lines
    → length text < 2 ^ 29
    → length (bytes_in_front text lines at) < 2 ^ 29
front_few text lines at split lt few =
    let within = front_within text lines at split lt in
    let size = length-take-le (line_at lines at).place text within in
    omega (arith, few, size, within)
