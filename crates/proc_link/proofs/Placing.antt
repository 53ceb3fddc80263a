-- Where the words of a block stand in the linked list.
use Rattle.std.proofs.Common.{◌≡◌, ℕ, zero, suc, ◌+◌, ◌*◌, ◌<◌, ◌≤◌, List, [], ◌∷◌, ◌++◌, length, refl, sym, ◌∙◌, ap, subst, arith, Some}
use Rattle.std.specs.Prelude.{All, slice_get, slice_index}
use Rattle.std.proofs.lemmas.List.Elements.{All-head, All-tail}
use Rattle.std.proofs.lemmas.List.{length-append}
use Rattle.std.proofs.lemmas.Option.{same_Some, none-some}
use Rattle.schedule_meaning.specs.Limits.{most_launches}
use Rattle.alpha_encode.specs.declared.instructions.Instr.{Instr}
use Rattle.alpha_encode.specs.declared.instructions.Instr.TheVariants.{Beq}
use Rattle.proc_goal.specs.Views.{BlockTree}
use Rattle.proc_goal.specs.declared.procs.Target.{Target}
use Rattle.proc_link.specs.Blocks.{other_of}
use Rattle.proc_link.specs.Linked.{block_instrs, displacement_between, led, led_from, linked, linked_from, place_of_target, starts_from, words_before}
use Rattle.proc_link.proofs.Relocating.{StandsAt}

-- ---- reads of lists behind one another

read_left : {X : Type 0} (xs ys : List X) (k : ℕ) (x : X) → slice_get xs k ≡ Some x → slice_get (xs ++ ys) k ≡ Some x
read_left [] ys k x e = absurd (none-some x e)
read_left (z ∷ xs) ys zero x e = e
read_left (z ∷ xs) ys (suc k) x e = read_left xs ys k x e

read_right : {X : Type 0} (xs ys : List X) (n k : ℕ) (x : X) → n ≡ length xs + k → slice_get ys k ≡ Some x → slice_get (xs ++ ys) n ≡ Some x
read_right [] ys n k x e h = let same : k ≡ n = omega (arith, e) in subst (λ m. slice_get ys m ≡ Some x) same h
read_right (z ∷ xs) ys zero k x e h = absurd (omega (arith, e))
read_right (z ∷ xs) ys (suc n) k x e h = read_right xs ys n k x (omega (arith, e)) h

length_led : (from to : ℕ) (is : List Instr) → length (led_from from to is) ≡ length is
length_led from to [] = refl
length_led from to (i ∷ is) = ap suc (length_led (from + 1) to is)

read_led : (from to : ℕ) (is : List Instr) (k m : ℕ) (i : Instr) → m ≡ from + k → slice_get is k ≡ Some i → slice_get (led_from from to is) k ≡ Some (led (displacement_between m to) i)
read_led from to [] k m i e h = absurd (none-some i h)
read_led from to (j ∷ is) zero m i e h =
    let at : from ≡ m = omega (arith, e) in
    ap (λ x. Some (led (displacement_between from to) x)) (same_Some j i h) ∙ ap (λ p. Some (led (displacement_between p to) i)) at
read_led from to (j ∷ is) (suc k) m i e h = read_led (from + 1) to is k m i (omega (arith, e)) h

length_block : (place : Target → ℕ) (from : ℕ) (b : BlockTree) (is : List Instr) → length (block_instrs place from b is) ≡ length is + 1
length_block place from b is =
    let e = length_led from (place (other_of b)) is in
    length-append (led_from from (place (other_of b)) is) (Beq 31 (displacement_between (from + length is) (place b.go)) ∷ []) ∙ ap (λ n. n + 1) e

module _ (place : Target → ℕ) where
  -- what a block has at a place of its own, the whole list has that much further
  block_at : (from : ℕ) (blocks : List BlockTree) (listings : List (List Instr)) (i : ℕ) (b : BlockTree) (is : List Instr) (n start k : ℕ) (x : Instr)
      → slice_get blocks i ≡ Some b → slice_get listings i ≡ Some is → start ≡ from + words_before listings i → n ≡ words_before listings i + k
      → slice_get (block_instrs place start b is) k ≡ Some x → slice_get (linked_from place from blocks listings) n ≡ Some x
  block_at from [] listings i b is n start k x hb hl hs hn h = absurd (none-some b hb)
  block_at from (c ∷ bs) [] i b is n start k x hb hl hs hn h = absurd (none-some is hl)
  block_at from (c ∷ bs) (l ∷ ls) zero b is n start k x hb hl hs hn h =
      let eb : b ≡ c = sym (same_Some c b hb) in
      let el : is ≡ l = sym (same_Some l is hl) in
      let es : start ≡ from = omega (arith, hs) in
      let en : k ≡ n = omega (arith, hn) in
      let same : block_instrs place start b is ≡ block_instrs place from c l = λ j. block_instrs place (es j) (eb j) (el j) in
      subst (λ m. slice_get (block_instrs place from c l ++ linked_from place (from + (length l + 1)) bs ls) m ≡ Some x) en
      (read_left (block_instrs place from c l) (linked_from place (from + (length l + 1)) bs ls) k x (subst (λ ws. slice_get ws k ≡ Some x) same h))
  block_at from (c ∷ bs) (l ∷ ls) (suc i) b is n start k x hb hl hs hn h =
      read_right (block_instrs place from c l) (linked_from place (from + (length l + 1)) bs ls) n (words_before ls i + k) x
      (let e = length_block place from c l in omega (arith, e, hn))
      (block_at (from + (length l + 1)) bs ls i b is (words_before ls i + k) start k x hb hl (omega (arith, hs)) refl h)

module _ (blocks : List BlockTree) (listings : List (List Instr)) (i : ℕ) (b : BlockTree) (is : List Instr)
    (there : slice_get blocks i ≡ Some b) (listed : slice_get listings i ≡ Some is) where
  abbrev place : Target → ℕ
  place t = place_of_target listings t

  abbrev from : ℕ
  from = words_before listings i

  pub stands : StandsAt (linked blocks listings) from (place (other_of b)) is
  stands k j h =
      block_at place 0 blocks listings i b is (from + k) from k (led (displacement_between (from + k) (place (other_of b))) j) there listed (omega arith) refl
      (read_left (led_from from (place (other_of b)) is) (Beq 31 (displacement_between (from + length is) (place b.go)) ∷ []) k (led (displacement_between (from + k) (place (other_of b))) j)
      (read_led from (place (other_of b)) is k (from + k) j refl h))

  pub closes : slice_get (linked blocks listings) (from + length is) ≡ Some (Beq 31 (displacement_between (from + length is) (place b.go)))
  closes =
      let last : Instr = Beq 31 (displacement_between (from + length is) (place b.go)) in
      block_at place 0 blocks listings i b is (from + length is) from (length is) last there listed (omega arith) refl
      (read_right (led_from from (place (other_of b)) is) (last ∷ []) (length is) 0 last
      (let e = length_led from (place (other_of b)) is in omega (arith, e)) refl)

-- so few words are before a block
pub few_before : (listings : List (List Instr)) (i : ℕ) → All (λ (l : List Instr). length l ≤ most_launches) listings → words_before listings i ≤ 193 * length listings
few_before [] i h = omega arith
few_before (l ∷ ls) zero h = omega arith
few_before (l ∷ ls) (suc i) h =
    let here = All-head (λ (l : List Instr). length l ≤ most_launches) l ls h in
    let rest = few_before ls i (All-tail (λ (l : List Instr). length l ≤ most_launches) l ls h) in
    omega (arith, here, rest)

-- ---- the length of the whole, and where each block starts

-- all words are those before the end
pub length_linked : (place : Target → ℕ) (from : ℕ) (blocks : List BlockTree) (listings : List (List Instr)) → length blocks ≡ length listings
    → length (linked_from place from blocks listings) ≡ words_before listings (length listings)
length_linked place from [] [] same = refl
length_linked place from [] (l ∷ ls) same = absurd (omega (arith, same))
length_linked place from (b ∷ bs) [] same = absurd (omega (arith, same))
length_linked place from (b ∷ bs) (l ∷ ls) same =
    let here = length_block place from b l in
    let rest = length_linked place (from + (length l + 1)) bs ls (omega (arith, same)) in
    let whole = length-append (block_instrs place from b l) (linked_from place (from + (length l + 1)) bs ls) in
    omega (arith, here, rest, whole)

pub start_at : (from : ℕ) (listings : List (List Instr)) (i : ℕ) → i < length listings
    → slice_index (starts_from from listings) i ≡ 4 * (from + words_before listings i)
start_at from [] i inside = absurd (omega (arith, inside))
start_at from (l ∷ ls) zero inside = omega arith
start_at from (l ∷ ls) (suc i) inside =
    let rest = start_at (from + (length l + 1)) ls i (omega (arith, inside)) in
    omega (arith, rest)
