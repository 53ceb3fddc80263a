-- Which bytes are a name, in texts of goals and in texts of lines. Source: this project.
use Rattle.std.specs.Prelude.{ℕ, ◌≡◌, Bool, true, false, not, List, [], ◌∷◌, bytes_eq}
use Rattle.std.specs.List.{list_all, list_any}
use Rattle.std.specs.Char.{is_ascii_digit}
use Rattle.text_core.specs.Pieces.{is_word_byte}

-- there is a first byte, and it is no digit
abbrev pub begins_name : List ℕ → Bool
begins_name [] = false
begins_name (b ∷ bs) = not (is_ascii_digit b)

-- letters, digits and underscores, with no digit first
pub record IsName (bytes : List ℕ) : Type 0 where
  pub begins : begins_name bytes ≡ true
  pub each : list_all is_word_byte bytes ≡ true

-- the name is one of these
abbrev pub is_among : List (List ℕ) → List ℕ → Bool
is_among names name = list_any (λ other. bytes_eq other name) names
