-- Variables of a tree of a sort are below their number.
use Rattle.std.proofs.Common.{ℕ, ◌+◌, List, length}
use Rattle.word_ops.specs.declared.sorts.Op.{Op}
use Rattle.word_ops.specs.declared.sorts.Sort.{Sort}
use Rattle.word_terms.specs.Keys.{op_signature}
use Rattle.word_terms.specs.Sorting.{HasSort, HaveSorts}
use Rattle.word_terms.specs.Tree.{Tree, Trees, variable, application, none, more, AreBelow, EachBelow}

mutual
  pub sort_below :
      (variables : List Sort) (sort : Sort) (t : Tree Op) →
      HasSort op_signature variables sort t →
      AreBelow (length variables) t
  sort_below variables sort (variable n) h = h.0
  sort_below variables sort (application op ts) h = sorts_below variables op 0 ts h.3

  sorts_below :
      (variables : List Sort) (op : Op) (at : ℕ) (ts : Trees Op) →
      HaveSorts op_signature variables op at ts →
      EachBelow (length variables) ts
  sorts_below variables op at none h = tt
  sorts_below variables op at (more t ts) h =
      (sort_below variables _ t h.0, sorts_below variables op (at + 1) ts h.1)
