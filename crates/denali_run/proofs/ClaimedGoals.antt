-- What is claimed of goals, one after another, and its lines.
use Rattle.std.proofs.Common.{◌≡◌, ℕ, suc, zero, ◌+◌, ◌<◌, List, [], ◌∷◌, ◌++◌, length, take, get_or, map, refl, sym, ap, subst, ◌∙◌, append_assoc, append-nil, arith}
use Rattle.std.specs.List.{flat_map}
use Rattle.std.proofs.lemmas.List.{get_or-map, length-map}
use Rattle.std.proofs.Math.Seq.{take-length}
use Rattle.std.proofs.lemmas.Grind.{flat_map-append}
use Rattle.answer_texts.specs.AnswerLines.{goal_lines}
use Rattle.answer_texts.specs.declared.answers.Claimed.{Claimed}
use Rattle.goal_meaning.specs.Views.{GoalTree, goal_view}
use Rattle.goal_meaning.specs.declared.goals.Goal.{Goal}
use Rattle.machine_table.specs.declared.tables.Table.{Table}
use Rattle.text_core.specs.LineTexts.{Words, line_text, lines_text}
use Rattle.denali_run.specs.ClaimedResults.{claimed, goals_claimed}
use Rattle.denali_run.specs.declared.results.Answered.{Answered}

next : (i : ℕ) → i + 1 ≡ suc i
next i = omega arith

no_claims : (goals : List GoalTree) → goals_claimed goals [] ≡ []
no_claims [] = refl
no_claims (goal ∷ goals) = refl

-- one goal and one result more
one_more : (goals : List GoalTree) (results : List Answered) (i : ℕ) (d : GoalTree) (e : Answered)
    → i < length goals → i < length results
    → goals_claimed goals (take (suc i) results)
    ≡ goals_claimed goals (take i results) ++ claimed (get_or goals i d).name (get_or results i e) ∷ []
one_more [] results i d e lt more = absurd (omega (arith, lt))
one_more (goal ∷ goals) [] i d e lt more = absurd (omega (arith, more))
one_more (goal ∷ goals) (r ∷ rs) zero d e lt more = ap (λ cs. claimed goal.name r ∷ cs) (no_claims goals)
one_more (goal ∷ goals) (r ∷ rs) (suc i) d e lt more =
    ap (λ cs. claimed goal.name r ∷ cs) (one_more goals rs i d e (omega (arith, lt)) (omega (arith, more)))

-- the lines of what is claimed of one goal more, behind those of the goals so far
pub goal_more : (table : Table) (goals shown : List Goal) (results : List Answered) (i : ℕ) (goal : Goal) (r : Answered)
    (claim : Claimed) (name start text new : List ℕ) → shown ≡ goals → i < length results
    → length results ≡ length goals → goal ≡ get_or shown i goal → r ≡ get_or results i r → name ≡ goal.name
    → claim ≡ claimed name r
    → text ≡ start ++ lines_text (flat_map (goal_lines table) (goals_claimed (map goal_view goals) (take i results)))
    → new ≡ text ++ lines_text (goal_lines table claim)
    → new ≡ start ++ lines_text (flat_map (goal_lines table) (goals_claimed (map goal_view goals) (take (i + 1) results)))
goal_more table goals shown results i goal r claim name start text new same lt as_many is read named claims so_far more =
    let trees : List GoalTree = map goal_view goals in
    let few : i < length goals = subst (λ n. i < n) as_many lt in
    let one : goal_view goal ≡ get_or trees i (goal_view goal) =
    ap goal_view (subst (λ (gs : List Goal). goal ≡ get_or gs i goal) same is)
    ∙ sym (get_or-map goal_view goals i goal (goal_view goal) few) in
    let last : claim ≡ claimed (get_or trees i (goal_view goal)).name (get_or results i r) =
    claims ∙ ap (λ n. claimed n r) (named ∙ ap (λ (g : GoalTree). g.name) one)
    ∙ ap (λ a. claimed (get_or trees i (goal_view goal)).name a) read in
    let before : List Claimed = goals_claimed trees (take i results) in
    let grown : goals_claimed trees (take (i + 1) results) ≡ before ++ claim ∷ [] =
    ap (λ n. goals_claimed trees (take n results)) (next i)
    ∙ one_more trees results i (goal_view goal) r (subst (λ n. i < n) (sym (length-map goals goal_view)) few) lt
    ∙ ap (λ c. before ++ c ∷ []) (sym last) in
    more ∙ ap (λ t. t ++ lines_text (goal_lines table claim)) so_far
    ∙ append_assoc start (lines_text (flat_map (goal_lines table) before)) (lines_text (goal_lines table claim))
    ∙ ap (λ t. start ++ t)
    (sym (flat_map-append line_text (flat_map (goal_lines table) before) (goal_lines table claim))
    ∙ ap lines_text
    (ap (λ t. flat_map (goal_lines table) before ++ t) (sym (append-nil (goal_lines table claim)))
    ∙ sym (flat_map-append (goal_lines table) before (claim ∷ []))
    ∙ sym (ap (flat_map (goal_lines table)) grown)))

-- the head alone, where no goal was looked at
pub no_goals : (table : Table) (goals : List GoalTree) (head text : List ℕ) → text ≡ head
    → text ≡ head ++ lines_text (flat_map (goal_lines table) (goals_claimed goals []))
no_goals table goals head text is =
    is ∙ sym (ap (λ cs. head ++ lines_text (flat_map (goal_lines table) cs)) (no_claims goals) ∙ append-nil head)

-- the lines of all results
pub all_goals : (table : Table) (goals : List GoalTree) (head : List Words) (results : List Answered) (n : ℕ)
    (text : List ℕ) → n ≡ length results
    → text ≡ lines_text head ++ lines_text (flat_map (goal_lines table) (goals_claimed goals (take n results)))
    → text ≡ lines_text (head ++ flat_map (goal_lines table) (goals_claimed goals results))
all_goals table goals head results n text is so_far =
    so_far
    ∙ ap (λ rs. lines_text head ++ lines_text (flat_map (goal_lines table) (goals_claimed goals rs)))
    (ap (λ n. take n results) is ∙ take-length results)
    ∙ sym (flat_map-append line_text head (flat_map (goal_lines table) (goals_claimed goals results)))
