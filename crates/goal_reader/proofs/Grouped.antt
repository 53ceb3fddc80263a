-- Lists of one keyword each, one group behind the other: which lists of a keyword there are.
use Rattle.std.proofs.Common.{◌≡◌, ℕ, ◌++◌, ◌==◌, if◌then◌else◌, false, true, Some, List, [], ◌∷◌, refl, ap, ap₂, ◌∙◌, arith}
use Rattle.std.specs.Prelude.{⊤}
use Rattle.std.specs.Option.{option_map_or}
use Rattle.std.proofs.lemmas.Bool.Decides.{nat_tests}
use Rattle.forms.specs.Forms.{Form}
use Rattle.machine_table.specs.Grammar.{Each, more_of, IsListOf}
use Rattle.goal_reader.specs.Roles.{rank, rank_from, is_of_rank, of_rank}
use Rattle.goal_reader.proofs.GoalSteps.{nothing_more}
use Rattle.goal_reader.proofs.Ranks.{of_rank_by}

-- the rank of a list behind its keyword
pub listed_rank : (keywords : List (List ℕ)) (word : List ℕ) (parts : List Form) (form : Form) → IsListOf word parts form → rank keywords form ≡ rank_from 0 keywords word
listed_rank keywords word parts form is = ap (rank keywords) is.is

module _ (keywords : List (List ℕ)) where
  -- all of these lists have the keyword of this number
  abbrev pub AllOf : ℕ → List Form → Type 0
  AllOf at [] = ⊤
  AllOf at (f ∷ fs) = (rank keywords f ≡ Some at) × AllOf at fs

  pub all_ranked : {Y : Type 0} (W : Form → Y → Type 0) (at : ℕ) → ((f : Form) (y : Y) → W f y → rank keywords f ≡ Some at) → (fs : List Form) (ys : List Y) → Each W fs ys → AllOf at fs
  all_ranked W at h [] [] e = tt
  all_ranked W at h [] (y ∷ ys) e = elim e [ ]
  all_ranked W at h (f ∷ fs) [] e = elim e [ ]
  all_ranked W at h (f ∷ fs) (y ∷ ys) (more_of one others) = (h f y one, all_ranked W at h fs ys others)

  by_rank : (at k : ℕ) (f : Form) (rest : List Form) → rank keywords f ≡ Some k → (if is_of_rank keywords at f then f ∷ rest else rest) ≡ (if k == at then f ∷ rest else rest)
  by_rank at k f rest e = ap (λ o. if option_map_or (λ r. r == at) o false then f ∷ rest else rest) e

  of_all : (at : ℕ) (fs : List Form) → AllOf at fs → of_rank keywords at fs ≡ fs
  of_all at [] h = refl
  of_all at (f ∷ fs) h =
      let equal : (at == at) ≡ true = grind (arith, nat_tests) in
      by_rank at at f (of_rank keywords at fs) h.0 ∙ ap (λ b. if b then f ∷ of_rank keywords at fs else of_rank keywords at fs) equal ∙ ap (λ xs. f ∷ xs) (of_all at fs h.1)

  pub of_other : (k at : ℕ) (fs : List Form) → AllOf k fs → (k == at) ≡ false → of_rank keywords at fs ≡ []
  of_other k at [] h n = refl
  of_other k at (f ∷ fs) h n =
      by_rank at k f (of_rank keywords at fs) h.0 ∙ ap (λ b. if b then f ∷ of_rank keywords at fs else of_rank keywords at fs) n ∙ of_other k at fs h.1 n

  of_both : (at : ℕ) (xs ys : List Form) → of_rank keywords at (xs ++ ys) ≡ of_rank keywords at xs ++ of_rank keywords at ys
  of_both at [] ys = refl
  of_both at (f ∷ fs) ys = of_rank_by f (is_of_rank keywords at f) _ _ _ (of_both at fs ys)

  pub first_of : (at : ℕ) (xs ys : List Form) → AllOf at xs → of_rank keywords at ys ≡ [] → of_rank keywords at (xs ++ ys) ≡ xs
  first_of at xs ys h e = of_both at xs ys ∙ ap₂ (λ a b. a ++ b) (of_all at xs h) e ∙ nothing_more xs

  pub skip_of : (k at : ℕ) (xs ys : List Form) → AllOf k xs → (k == at) ≡ false → of_rank keywords at (xs ++ ys) ≡ of_rank keywords at ys
  skip_of k at xs ys h n = of_both at xs ys ∙ ap (λ a. a ++ of_rank keywords at ys) (of_other k at xs h n)
