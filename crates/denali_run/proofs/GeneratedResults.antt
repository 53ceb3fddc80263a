-- Which results a generated goal has, and what is told of them.
use Rattle.std.proofs.Common.{◌≡◌, ℕ, List, [], ◌∷◌, Result, Ok, Err, get_or, sym, subst}
use Rattle.std.specs.Prelude.{IfOk}
use Rattle.std.specs.List.{AllZip}
use Rattle.std.specs.declared.alloc.AllocError.{AllocError}
use Rattle.word_ops.specs.Worlds.{IsWorld, World}
use Rattle.goal_meaning.specs.Holds.{HoldsFor}
use Rattle.goal_meaning.specs.Views.{InputTree}
use Rattle.generated_goals.specs.Generated.{generated_goal, generated_input}
use Rattle.denali_run.specs.GeneratedAnswers.{AnswersGenerated, IsGeneratedLine, generated_settings}
use Rattle.denali_run.specs.Right.{Right}
use Rattle.reports.specs.declared.reports.Report.{Report}
use Rattle.denali_run.specs.declared.results.Answered.{Answered}
use Rattle.denali_run.specs.declared.results.Answered.TheVariants.{NoWorld}
use Rattle.denali_run.specs.declared.settings.Settings.{Settings}

-- a world meets each generated goal, so none is answered by that there is none
pub not_without_world : ((size : ℕ) → (world : World) × IsWorld world × HoldsFor (generated_input size) (generated_goal size) world)
    → (size class a b : ℕ) (answered : Answered) → answered ≡ NoWorld class a b
    → Right (generated_input size) (generated_goal size) generated_settings answered → ⊥
not_without_world meets size class a b answered is right =
    let there = meets size in
    let r = subst (Right (generated_input size) (generated_goal size) generated_settings) is right in
    r.0.nowhere there.0 there.1 there.2

first_of : {A B : Type 0} (R : A → B → Type 0) (x : A) (ys : List B) (d : B) → AllZip R (x ∷ []) ys → R x (get_or ys 0 d)
first_of R x [] d h = absurd h
first_of R x (y ∷ ys) d h = h.0

-- the result of the input's one goal is right
pub one_right : (size : ℕ) (s : Settings) (input : InputTree) (results : List Answered) (answered : Answered)
    → s ≡ generated_settings → input ≡ generated_input size
    → AllZip (λ goal a. Right input goal s a) input.goals results → answered ≡ get_or results 0 answered
    → Right (generated_input size) (generated_goal size) generated_settings answered
one_right size s input results answered same is right at =
    let zip = subst (λ i. AllZip (λ goal a. Right i goal s a) i.goals results) is right in
    let first = first_of (λ goal a. Right (generated_input size) goal s a) (generated_goal size) results answered zip in
    subst (λ t. Right (generated_input size) (generated_goal size) t answered) same
    (subst (Right (generated_input size) (generated_goal size) s) (sym at) first)

pub line_answers : (size : ℕ) (answered : Answered) (result : Result Report AllocError)
    → Right (generated_input size) (generated_goal size) generated_settings answered
    → IfOk result (λ r. IsGeneratedLine size answered r.bytes.items r.status)
    → IfOk result (λ r. AnswersGenerated size r.bytes.items r.status)
line_answers size answered (Ok r) right line = record { answered = answered; right = right; line = line }
line_answers size answered (Err e) right line = tt
