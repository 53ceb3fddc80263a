-- When a line is one of a program's text, by itself. No public clause rests on this. Source: this project.
use Rattle.std.specs.Prelude.{ℕ, ◌≡◌, ◌<◌, List}
use Rattle.std.specs.Str.Parse.{digits_value}
use Rattle.word_ops.specs.Words.{IsWord}
use Rattle.text_core.specs.LineTexts.{Words}
use Rattle.run_texts.specs.declared.texts.RegisterWord.{RegisterWord}
use Rattle.run_texts.specs.declared.texts.PlaceWord.{PlaceWord}
use Rattle.run_texts.specs.RunTexts.{program_word_words, register_words, place_words, IsHexWord}

pub record IsWordLine (line : Words) (word : ℕ) : Type 0 where
  pub digits : List ℕ
  pub is : line ≡ program_word_words digits
  pub hex : IsHexWord digits
  pub value : word ≡ digits_value 16 digits

pub record IsRegisterLine (line : Words) (r : RegisterWord) : Type 0 where
  pub low : r.register < 31
  pub small : IsWord r.word
  pub is : line ≡ register_words r

pub record IsPlaceLine (line : Words) (p : PlaceWord) : Type 0 where
  pub address : IsWord p.address
  pub word : IsWord p.word
  pub is : line ≡ place_words p
