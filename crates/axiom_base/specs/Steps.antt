-- What the search for the sort of a variable finds. No public clause rests on this.
use Rattle.std.specs.Prelude.{◌≡◌, ℕ, List}
use Rattle.word_ops.specs.declared.sorts.Op.{Op}
use Rattle.word_ops.specs.declared.sorts.Sort.{Sort}
use Rattle.word_terms.specs.Keys.{op_signature}
use Rattle.word_terms.specs.Tree.{Tree}
use Rattle.word_terms.specs.Sorting.{sort_at, HasSort, Occurs}

-- variable n stands in the tree, and has that sort wherever the tree is well formed
abbrev pub IsSortOf : Tree Op → Sort → ℕ → Sort → Type 0
IsSortOf t sort n found =
    Occurs n t × ((variables : List Sort) → HasSort op_signature variables sort t → sort_at variables n ≡ found)
