-- The families that words ask for. Source: this project.
use Rattle.std.specs.Prelude.{ℕ, ◌≡◌, ◌≢◌, ◌<◌, Bool, true, false, if◌then◌else◌, List, [], ◌∷◌, length, map, All, AllPairs, Contains, Option, None, Some}
use Rattle.std.specs.Borrow.{Bor}
use Rattle.std.specs.Option.{option_map, option_and_then}
use Rattle.text_core.specs.Names.{is_among}
use Rattle.axiom_library.specs.declared.families.Family.{Family}
use Rattle.axiom_library.specs.Names.{family_name}
use Rattle.axiom_texts.specs.Written.{written_families, written_named}

-- the families of these names; none where a word is no name of a family that is written
abbrev pub families_named : List (List ℕ) → Option (List Family)
families_named [] = Some []
families_named (word ∷ words) =
    option_and_then (λ one. option_map (λ others. one ∷ others) (families_named words)) (written_named word)

-- no two words are the same
abbrev pub differ : List (List ℕ) → Bool
differ [] = true
differ (word ∷ words) = if is_among words word then false else differ words

-- the families that the words ask for, in their order, if they do
abbrev pub asked_families : List (List ℕ) → Option (List Family)
asked_families [] = None
asked_families (word ∷ words) = if differ (word ∷ words) then families_named (word ∷ words) else None

-- what the code's words ask for
abbrev pub families_asked_by : List (Bor (List ℕ)) → Option (List Family)
families_asked_by words = asked_families (map (λ word. word.now) words)

-- The words are the names of the families, which are written, one or more, and no two the same.
pub record IsAsked (words : List (List ℕ)) (families : List Family) : Type 0 where
  pub some : 0 < length words
  pub named : words ≡ map family_name families
  pub written : All (Contains written_families) families
  pub each_once : AllPairs (λ m n. m ≢ n) words
