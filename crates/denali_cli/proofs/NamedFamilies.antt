-- The families of a word, name by name.
use Rattle.std.proofs.Common.{◌≡◌, ℕ, suc, ◌+◌, ◌<◌, Bool, true, false, ◌==◌, List, [], ◌∷◌, ◌++◌, length, take, drop, get_or, Option, Some, None, refl, sym, ap, subst, ◌∙◌, arith, take-append-drop}
use Rattle.std.specs.Prelude.{All, slice_index}
use Rattle.std.specs.List.{slice_split}
use Rattle.std.specs.Option.{option_and_then}
use Rattle.std.proofs.lemmas.Bool.Decides.{nat_tests}
use Rattle.std.proofs.lemmas.List.Splits.{slice_split_at, slice_split_none}
use Rattle.axiom_library.specs.declared.libraries.Library.{Library}
use Rattle.denali_cli.specs.OptionValues.{library_of_names, parts_of, with_named}
use lib.Seq.{drop-cons}

-- a name alone
alone : (library : Library) (name : List ℕ) → library_of_names library (name ∷ []) ≡ with_named library name
alone library name = by (with_named library name)
  where
    by : (x : Option Library) → option_and_then (λ more. library_of_names more []) x ≡ x
    by None = refl
    by (Some more) = refl

is_comma : (b : ℕ) → b ≡ 44 → (b == 44) ≡ true
is_comma b e = grind (arith, nat_tests, e)

no_comma : (b : ℕ) → (b ≡ 44 → ⊥) → (b == 44) ≡ false
no_comma b never = by (b == 44) refl
  where
    by : (t : Bool) → (b == 44) ≡ t → t ≡ false
    by false e = refl
    by true e = absurd (never (grind (arith, nat_tests, e)))

-- where no comma is left, the rest is the last name
pub last_name : (library : Library) (rest : List ℕ) → All (λ b. b ≡ 44 → ⊥) rest
    → library_of_names library (parts_of rest) ≡ with_named library rest
last_name library rest never =
    ap (library_of_names library) (slice_split_none (λ b. b == 44) rest (λ k d lt. no_comma _ (never k d lt))) ∙ alone library rest

drop_more : (rest : List ℕ) (at : ℕ) → at < length rest → drop at rest ≡ get_or rest at 0 ∷ drop (at + 1) rest
drop_more rest at lt = let more : suc at ≡ at + 1 = omega arith in drop-cons rest at 0 lt ∙ ap (λ n. get_or rest at 0 ∷ drop n rest) more

-- at the first comma a name ends
first_part : (rest : List ℕ) (at : ℕ) → at < length rest → slice_index rest at ≡ 44 → All (λ b. b ≡ 44 → ⊥) (take at rest)
    → parts_of rest ≡ take at rest ∷ parts_of (drop (at + 1) rest)
first_part rest at lt comma never =
    ap parts_of (sym (take-append-drop at rest) ∙ ap (λ xs. take at rest ++ xs) (drop_more rest at lt))
    ∙ slice_split_at (λ b. b == 44) (take at rest) (get_or rest at 0) (drop (at + 1) rest)
    (λ k d lt. no_comma _ (never k d lt)) (is_comma _ comma)

-- the rest's first name, and then the others
pub next_name : (library : Library) (rest : List ℕ) (at : ℕ) → at < length rest → slice_index rest at ≡ 44
    → All (λ b. b ≡ 44 → ⊥) (take at rest)
    → library_of_names library (parts_of rest)
    ≡ option_and_then (λ more. library_of_names more (parts_of (drop (at + 1) rest))) (with_named library (take at rest))
next_name library rest at lt comma never = ap (library_of_names library) (first_part rest at lt comma never)
