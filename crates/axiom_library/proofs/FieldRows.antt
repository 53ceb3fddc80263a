-- Fields at bit 0, and a byte put into 0: both sides have the same bytes.
use Rattle.std.proofs.Common.{◌≡◌, ℕ, refl, arith}
use Rattle.word_ops.specs.Words.{IsWord}
use Rattle.word_ops.specs.Values.{and, storeb, zapnot, ext_low, ins_low}
use Rattle.axiom_library.proofs.ByteBits.{same_bytes, zero_bytes, own_bytes, stored, taken, low_byte, inserted, kept}
use Rattle.axiom_library.proofs.WideFields.{taken_low}

pub insbl : (x : ℕ) → IsWord x → ins_low 1 x 0 ≡ and x 255
insbl x h = same_bytes (inserted 1 0 (own_bytes x h)) (low_byte (own_bytes x h))
    (λ r. omega arith) (λ r. omega arith) (λ r. omega arith) (λ r. omega arith)
    (λ r. omega arith) (λ r. omega arith) (λ r. omega arith) (λ r. omega arith)

pub extbl : (x : ℕ) → IsWord x → ext_low 1 x 0 ≡ and x 255
extbl x h = same_bytes (taken 0 (own_bytes x h)) (low_byte (own_bytes x h))
    (λ r. omega arith) (λ r. omega arith) (λ r. omega arith) (λ r. omega arith)
    (λ r. omega arith) (λ r. omega arith) (λ r. omega arith) (λ r. omega arith)

pub zapnot_1 : (x : ℕ) → IsWord x → zapnot x 1 ≡ and x 255
zapnot_1 x h = same_bytes (kept 1 (own_bytes x h)) (low_byte (own_bytes x h))
    (λ r. omega arith) (λ r. omega arith) (λ r. omega arith) (λ r. omega arith)
    (λ r. omega arith) (λ r. omega arith) (λ r. omega arith) (λ r. omega arith)

pub insll : (x : ℕ) → IsWord x → ins_low 4 x 0 ≡ zapnot x 15
insll x h = same_bytes (inserted 4 0 (own_bytes x h)) (kept 15 (own_bytes x h))
    (λ r. omega arith) (λ r. omega arith) (λ r. omega arith) (λ r. omega arith)
    (λ r. omega arith) (λ r. omega arith) (λ r. omega arith) (λ r. omega arith)

pub extll : (x : ℕ) → IsWord x → ext_low 4 x 0 ≡ zapnot x 15
extll x h = same_bytes (taken_low 0 0 refl 4 (own_bytes x h)) (kept 15 (own_bytes x h))
    (λ r. omega arith) (λ r. omega arith) (λ r. omega arith) (λ r. omega arith)
    (λ r. omega arith) (λ r. omega arith) (λ r. omega arith) (λ r. omega arith)

pub inswl : (x : ℕ) → IsWord x → ins_low 2 x 0 ≡ zapnot x 3
inswl x h = same_bytes (inserted 2 0 (own_bytes x h)) (kept 3 (own_bytes x h))
    (λ r. omega arith) (λ r. omega arith) (λ r. omega arith) (λ r. omega arith)
    (λ r. omega arith) (λ r. omega arith) (λ r. omega arith) (λ r. omega arith)

pub extwl : (x : ℕ) → IsWord x → ext_low 2 x 0 ≡ zapnot x 3
extwl x h = same_bytes (taken_low 0 0 refl 2 (own_bytes x h)) (kept 3 (own_bytes x h))
    (λ r. omega arith) (λ r. omega arith) (λ r. omega arith) (λ r. omega arith)
    (λ r. omega arith) (λ r. omega arith) (λ r. omega arith) (λ r. omega arith)

pub stored_in_0 : (x : ℕ) → IsWord x → storeb 0 0 x ≡ and x 255
stored_in_0 x h = same_bytes (stored 0 zero_bytes (own_bytes x h)) (low_byte (own_bytes x h))
    (λ r. omega arith) (λ r. omega arith) (λ r. omega arith) (λ r. omega arith)
    (λ r. omega arith) (λ r. omega arith) (λ r. omega arith) (λ r. omega arith)
