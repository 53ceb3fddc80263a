-- Each equation is a rule, row by row in the order of the table.
use Rattle.std.proofs.Common.{rules}
use Rattle.std.specs.Prelude.{All}
use Rattle.axiom_base.specs.Rewrites.{IsRule}
use Rattle.axiom_base.specs.Equations.{additions, differences, multiplications, shifts, scaled_sums, ands, ors, exclusive_ors, inversions, comparisons, bytes, memories, narrow_loads, narrow_stores, narrow_displaced, equations}
use Rattle.word_ops.specs.declared.sorts.Access.TheVariants.{Byte, Word, Long}
use Rattle.axiom_base.proofs.NarrowRules.{load_is_rule, bytes_are_rule, store_is_rule, put_is_rule}
use Rattle.axiom_base.proofs.Rows.{Each, done, ◌▸◌, All-Each, joined}

additions_are_rules : Each IsRule additions
additions_are_rules = search rules ▸ search rules ▸ search rules ▸ done

differences_are_rules : Each IsRule differences
differences_are_rules = search rules ▸ search rules ▸ search rules ▸ search rules ▸ search rules ▸ search rules ▸ done

multiplications_are_rules : Each IsRule multiplications
multiplications_are_rules = search rules ▸ search rules ▸ search rules ▸ search rules ▸ search rules ▸ done

shifts_are_rules : Each IsRule shifts
shifts_are_rules = search rules ▸ search rules ▸ search rules ▸ search rules ▸ done

scaled_sums_are_rules : Each IsRule scaled_sums
scaled_sums_are_rules = search rules ▸ search rules ▸ search rules ▸ search rules ▸ done

ands_are_rules : Each IsRule ands
ands_are_rules = search rules ▸ search rules ▸ search rules ▸ search rules ▸ done

ors_are_rules : Each IsRule ors
ors_are_rules = search rules ▸ search rules ▸ search rules ▸ search rules ▸ done

exclusive_ors_are_rules : Each IsRule exclusive_ors
exclusive_ors_are_rules = search rules ▸ search rules ▸ search rules ▸ search rules ▸ done

inversions_are_rules : Each IsRule inversions
inversions_are_rules = search rules ▸ search rules ▸ search rules ▸ search rules ▸ search rules ▸ done

comparisons_are_rules : Each IsRule comparisons
comparisons_are_rules = search rules ▸ done

bytes_are_rules : Each IsRule bytes
bytes_are_rules = search rules ▸ search rules ▸ search rules ▸ search rules ▸ done

memories_are_rules : Each IsRule memories
memories_are_rules = search rules ▸ search rules ▸ search rules ▸ search rules ▸ done

narrow_loads_are_rules : Each IsRule narrow_loads
narrow_loads_are_rules =
    load_is_rule Byte ▸ bytes_are_rule Byte ▸ load_is_rule Word ▸ bytes_are_rule Word ▸ load_is_rule Long ▸ bytes_are_rule Long ▸ done

narrow_stores_are_rules : Each IsRule narrow_stores
narrow_stores_are_rules =
    store_is_rule Byte ▸ put_is_rule Byte ▸ store_is_rule Word ▸ put_is_rule Word ▸ store_is_rule Long ▸ put_is_rule Long ▸ done

narrow_displaced_are_rules : Each IsRule narrow_displaced
narrow_displaced_are_rules = search rules ▸ search rules ▸ search rules ▸ search rules ▸ search rules ▸ search rules ▸ done

pub equations_are_rules : All IsRule equations
equations_are_rules = All-Each _ _ (joined additions_are_rules (joined differences_are_rules (joined multiplications_are_rules (joined shifts_are_rules (joined scaled_sums_are_rules (joined ands_are_rules (joined ors_are_rules (joined exclusive_ors_are_rules (joined inversions_are_rules (joined comparisons_are_rules (joined bytes_are_rules (joined memories_are_rules (joined narrow_loads_are_rules (joined narrow_stores_are_rules narrow_displaced_are_rules))))))))))))))
