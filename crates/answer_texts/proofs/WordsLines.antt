-- Numbers in the words of lines.
use Rattle.std.proofs.Common.{◌≡◌, ℕ, ◌<◌, ◌^◌, List, get_or, [], sym, ap, ◌∙◌, decimal}
use Rattle.std.proofs.lemmas.Fmt.{decimal_injective}
use Rattle.text_core.specs.LineTexts.{Words}

-- a word that writes one number is that of no other
pub same_number : (words other : Words) (at : ℕ) (word : List ℕ) (n m : ℕ) → words ≡ other → word ≡ get_or words at []
    → word ≡ decimal n → get_or other at [] ≡ decimal m → n < 2 ^ 64 → m < 2 ^ 64 → n ≡ m
same_number words other at word n m e read is there small low =
    decimal_injective n m small low (sym is ∙ read ∙ ap (λ (ws : Words). get_or ws at []) e ∙ there)
