-- The equations of narrow loads and stores are rules, access by access.
use Rattle.std.proofs.Common.{rules}
use Rattle.word_ops.specs.declared.sorts.Access.{Access}
use Rattle.word_ops.specs.declared.sorts.Access.TheVariants.{Quad, Byte, Word, Long}
use Rattle.word_terms.specs.Building.{store_of, read_of, written_of}
use Rattle.axiom_base.specs.Rewrites.{IsRule}
use Rattle.axiom_base.specs.Equations.{memory_1, memory_2, extracted, inserted}

pub load_is_rule : (access : Access) → IsRule (memory_1 (λ m a. (read_of access m a, extracted access m a)))
load_is_rule Quad = search rules
load_is_rule Byte = search rules
load_is_rule Word = search rules
load_is_rule Long = search rules

pub bytes_are_rule : (access : Access) → IsRule (memory_1 (λ m a. (extracted access m a, read_of access m a)))
bytes_are_rule Quad = search rules
bytes_are_rule Byte = search rules
bytes_are_rule Word = search rules
bytes_are_rule Long = search rules

pub store_is_rule : (access : Access) → IsRule (memory_2 (λ m a v. (written_of access m a v, store_of m a (inserted access m a v))))
store_is_rule Quad = search rules
store_is_rule Byte = search rules
store_is_rule Word = search rules
store_is_rule Long = search rules

pub put_is_rule : (access : Access) → IsRule (memory_2 (λ m a v. (store_of m a (inserted access m a v), written_of access m a v)))
put_is_rule Quad = search rules
put_is_rule Byte = search rules
put_is_rule Word = search rules
put_is_rule Long = search rules
