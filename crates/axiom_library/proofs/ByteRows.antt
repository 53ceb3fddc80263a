-- Bytes packed, swapped and spread: both sides have the same bytes.
use Rattle.std.proofs.Common.{◌≡◌, ℕ, arith}
use Rattle.word_ops.specs.Words.{IsWord}
use Rattle.word_ops.specs.Values.{and, bis, sll, srl, storeb, selectb, zapnot, ext_low, ins_low}
use Rattle.axiom_library.proofs.ByteBits.{same_bytes, zero_bytes, own_bytes, stored, taken, selected, low_byte, inserted, down, up, kept, joined}

abbrev four_stored : ℕ → ℕ → ℕ → ℕ → ℕ → ℕ → ℕ → ℕ → ℕ → ℕ
four_stored t i j k l a b c d = storeb (storeb (storeb (storeb t i a) j b) k c) l d

pub packing :
    (a b c d : ℕ) →
    IsWord a →
    IsWord b →
    IsWord c →
    IsWord d →
    four_stored 0 0 1 2 3 a b c d ≡ bis (bis (and a 255) (ins_low 1 b 1)) (bis (ins_low 1 c 2) (ins_low 1 d 3))
packing a b c d h i j k = same_bytes
    (stored 3 (stored 2 (stored 1 (stored 0 zero_bytes (own_bytes a h)) (own_bytes b i)) (own_bytes c j)) (own_bytes d k))
    (joined (joined (low_byte (own_bytes a h)) (inserted 1 1 (own_bytes b i))) (joined (inserted 1 2 (own_bytes c j)) (inserted 1 3 (own_bytes d k))))
    (λ r. omega arith) (λ r. omega arith) (λ r. omega arith) (λ r. omega arith)
    (λ r. omega arith) (λ r. omega arith) (λ r. omega arith) (λ r. omega arith)

pub swapping_4 :
    (x : ℕ) →
    IsWord x →
    four_stored 0 0 1 2 3 (selectb x 3) (selectb x 2) (selectb x 1) (selectb x 0)
    ≡ bis (bis (ext_low 1 x 3) (ins_low 1 x 3)) (bis (zapnot (srl x 8) 2) (ins_low 1 (srl x 8) 2))
swapping_4 x h =
    let own = own_bytes x h in
    same_bytes
    (stored 3 (stored 2 (stored 1 (stored 0 zero_bytes (selected 3 own)) (selected 2 own)) (selected 1 own)) (selected 0 own))
    (joined (joined (taken 3 own) (inserted 1 3 own)) (joined (kept 2 (down 1 (omega arith) own)) (inserted 1 2 (down 1 (omega arith) own))))
    (λ r. omega arith) (λ r. omega arith) (λ r. omega arith) (λ r. omega arith)
    (λ r. omega arith) (λ r. omega arith) (λ r. omega arith) (λ r. omega arith)

abbrev swapped : ℕ → ℕ → ℕ → ℕ → ℕ
swapped distance right left t = bis (zapnot (srl t distance) right) (zapnot (sll t distance) left)

pub swapping_8 :
    (x : ℕ) →
    IsWord x →
    four_stored (four_stored 0 0 1 2 3 (selectb x 7) (selectb x 6) (selectb x 5) (selectb x 4)) 4 5 6 7 (selectb x 3) (selectb x 2) (selectb x 1) (selectb x 0)
    ≡ swapped 8 85 170 (swapped 16 51 204 (bis (srl x 32) (sll x 32)))
swapping_8 x h =
    let own = own_bytes x h in
    let low = stored 3 (stored 2 (stored 1 (stored 0 zero_bytes (selected 7 own)) (selected 6 own)) (selected 5 own)) (selected 4 own) in
    let halves = joined (down 4 (omega arith) own) (up 4 (omega arith) own) in
    let quarters = joined (kept 51 (down 2 (omega arith) halves)) (kept 204 (up 2 (omega arith) halves)) in
    same_bytes
    (stored 7 (stored 6 (stored 5 (stored 4 low (selected 3 own)) (selected 2 own)) (selected 1 own)) (selected 0 own))
    (joined (kept 85 (down 1 (omega arith) quarters)) (kept 170 (up 1 (omega arith) quarters)))
    (λ r. omega arith) (λ r. omega arith) (λ r. omega arith) (λ r. omega arith)
    (λ r. omega arith) (λ r. omega arith) (λ r. omega arith) (λ r. omega arith)

abbrev four_times : ℕ → ℕ
four_times x = bis (bis (and x 255) (ins_low 1 x 1)) (ins_low 2 (bis (and x 255) (ins_low 1 x 1)) 2)

pub spreading :
    (x : ℕ) →
    IsWord x →
    four_stored (four_stored 0 0 1 2 3 x x x x) 4 5 6 7 x x x x ≡ bis (four_times x) (sll (four_times x) 32)
spreading x h =
    let own = own_bytes x h in
    let low = stored 3 (stored 2 (stored 1 (stored 0 zero_bytes own) own) own) own in
    let pair = joined (low_byte own) (inserted 1 1 own) in
    let half = joined pair (inserted 2 2 pair) in
    same_bytes
    (stored 7 (stored 6 (stored 5 (stored 4 low own) own) own) own)
    (joined half (up 4 (omega arith) half))
    (λ r. omega arith) (λ r. omega arith) (λ r. omega arith) (λ r. omega arith)
    (λ r. omega arith) (λ r. omega arith) (λ r. omega arith) (λ r. omega arith)
