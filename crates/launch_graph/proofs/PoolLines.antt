-- The line of the pool, put together from its words.
use Rattle.std.proofs.Common.{◌≡◌, ℕ, ◌<◌, ◌≤◌, List, ◌∷◌, length, map, drop, get_or, ap, ◌∙◌, codes, decimal}
use Rattle.std.proofs.Math.Seq.{drop-cons}
use Rattle.text_core.specs.LineTexts.{Words, SaysNone}
use Rattle.launch_graph.specs.GraphLines.{pool_words}
use Rattle.launch_graph.specs.LineReading.{IsPoolLine}
use Rattle.launch_graph.proofs.Numbers.{IsBelow, SoFar, no_numbers, all_read}

behind_pool_word : (row : Words) (ns : List ℕ) → row ≡ pool_words ns → drop 1 row ≡ map decimal ns
behind_pool_word row ns e = ap (λ (ws : Words). drop 1 ws) e

pub no_pool_line : (row : Words) (ns : List ℕ) (at : ℕ) (word d : List ℕ) → at < length row → word ≡ get_or row at d
    → ((n : ℕ) → IsBelow 31 n → word ≡ decimal n → ⊥) → SoFar 31 row 1 ns at → SaysNone IsPoolLine row
no_pool_line row ns at word d few read never h others p =
    no_numbers 31 row 1 ns at word d few read never h others (record { small = p.low; are = behind_pool_word row others p.is })

pub pool_read : (row : Words) (ns : List ℕ) (at : ℕ) (d : List ℕ) → 0 < length row → get_or row 0 d ≡ codes "pool" → length row ≤ at
    → SoFar 31 row 1 ns at → IsPoolLine row ns
pool_read row ns at d some first all h =
    let are = all_read 31 row 1 ns at all h in
    record {
      low = are.small;
      is = drop-cons row 0 d some ∙ ap (λ (w : List ℕ). w ∷ drop 1 row) first ∙ ap (λ (ws : Words). codes "pool" ∷ ws) are.are;
    }
