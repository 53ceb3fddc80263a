-- The text of a program to be run: its words, and the words that registers and places of memory hold at first. Source:
-- this project.
use Rattle.std.specs.Prelude.{ℕ, ◌≡◌, ◌≢◌, ◌<◌, ◌/◌, List, [], ◌∷◌, ◌++◌, length, map, codes, decimal, All, AllPairs, Some, slice_get}
use Rattle.std.specs.Str.Parse.{AllDigits, digits_value}
use Rattle.word_ops.specs.Words.{IsWord}
use Rattle.text_core.specs.LineTexts.{Words}
use Rattle.alpha_machine.specs.Runs.{MayStandAt}
use Rattle.run_texts.specs.declared.texts.RegisterWord.{RegisterWord}
use Rattle.run_texts.specs.declared.texts.PlaceWord.{PlaceWord}
use Rattle.run_texts.specs.declared.texts.RunText.{RunText}

-- the lines of a word, of a register's word and of a place's word
abbrev pub program_word_words : List ℕ → Words
program_word_words digits = codes "word" ∷ digits ∷ []

abbrev pub register_words : RegisterWord → Words
register_words r = codes "reg" ∷ decimal r.register ∷ decimal r.word ∷ []

abbrev pub place_words : PlaceWord → Words
place_words p = codes "mem" ∷ decimal p.address ∷ decimal p.word ∷ []

-- eight hexadecimal digits of either case
pub record IsHexWord (digits : List ℕ) : Type 0 where
  pub eight : length digits ≡ 8
  pub each : AllDigits 16 digits

-- registers 0 to 30, each once
pub record AreRegisters (given : List RegisterWord) : Type 0 where
  pub each : All (λ r. (r.register < 31) × IsWord r.word) given
  pub once : AllPairs (λ r s. r.register ≢ s.register) given

-- each place once: the place of an address is the address div 8
pub record ArePlaces (given : List PlaceWord) : Type 0 where
  pub each : All (λ p. IsWord p.address × IsWord p.word) given
  pub once : AllPairs (λ p q. p.address / 8 ≢ q.address / 8) given

-- The lines say this program, of which all words are so many: words, then registers, then places. A word is an
-- instruction, and a branch leads one word behind the last. Limits apart.
pub record IsRunText (count : ℕ) (lines : List Words) (run : RunText) : Type 0 where
  pub digits : List (List ℕ)
  pub is : lines ≡ map program_word_words digits ++ (map register_words run.registers ++ map place_words run.places)
  pub hex : All IsHexWord digits
  pub words : run.words ≡ map (digits_value 16) digits
  pub stand : (at word : ℕ) → slice_get run.words at ≡ Some word → MayStandAt count at word
  pub registers : AreRegisters run.registers
  pub places : ArePlaces run.places
