-- Sums of products over the numbers of rows, one row more. Source: this project.
use Rattle.std.proofs.Common.{◌≡◌, ℕ, ◌+◌, ◌*◌, sym, ap, ◌∙◌}
use Rattle.std.specs.List.{sum_by, range_with_len}
use Rattle.cycle_encoding.proofs.Tallies.{sum_more}

pub row_more : (A B : ℕ → ℕ) (n old a b : ℕ) → old ≡ sum_by (λ r. A r * B r) (range_with_len 0 n) → a ≡ A n → b ≡ B n → old + a * b ≡ sum_by (λ r. A r * B r) (range_with_len 0 (n + 1))
row_more A B n old a b i e f =
    let all : ℕ = sum_by (λ r. A r * B r) (range_with_len 0 n) in
    ap (λ m. m + a * b) i ∙ ap (λ m. all + m * b) e ∙ ap (λ m. all + A n * m) f ∙ sym (sum_more (λ r. A r * B r) n)
