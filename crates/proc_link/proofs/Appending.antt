-- One instruction more, one block more, one start more.
use Rattle.std.proofs.Common.{◌≡◌, ℕ, zero, suc, ◌+◌, ◌*◌, ◌<◌, ◌≤◌, List, [], ◌∷◌, ◌++◌, length, map, take, get_or, refl, sym, ◌∙◌, ap, arith}
use Rattle.std.proofs.lemmas.List.{append-nil, append_assoc, length-map, length-take-le, map-append, take_all, take_more}
use Rattle.alpha_encode.specs.Formats.{encoded}
use Rattle.alpha_encode.specs.declared.instructions.Instr.{Instr}
use Rattle.proc_goal.specs.Views.{BlockTree}
use Rattle.proc_goal.specs.declared.procs.Target.{Target}
use Rattle.register_assign.specs.Outcomes.{instrs_of}
use Rattle.register_assign.specs.declared.listings.Item.{Item}
use Rattle.register_assign.specs.declared.listings.Listing.{Listing}
use Rattle.proc_link.specs.Linked.{all_instrs, block_instrs, displacement_between, led, led_from, linked_from, starts_from, words_before}

-- ---- instructions of a listing

led_after : (from to : ℕ) (xs : List Instr) (x : Instr) → led_from from to (xs ++ x ∷ []) ≡ led_from from to xs ++ led (displacement_between (from + length xs) to) x ∷ []
led_after from to [] x = (let e : from ≡ from + 0 = omega arith in ap (λ n. led (displacement_between n to) x ∷ []) e)
led_after from to (y ∷ xs) x =
    let e : from + 1 + length xs ≡ from + length (y ∷ xs) = omega arith in
    ap (λ is. led (displacement_between from to) y ∷ is) (led_after (from + 1) to xs x)
    ∙ ap (λ n. led (displacement_between from to) y ∷ (led_from (from + 1) to xs ++ led (displacement_between n to) x ∷ [])) e

module _ (items : List Item) (from to at : ℕ) (d : Item) (inside : at < length items) where
  instrs_more : instrs_of (take (at + 1) items) ≡ instrs_of (take at items) ++ (get_or items at d).instr ∷ []
  instrs_more = ap instrs_of (take_more items at d inside) ∙ map-append (λ (a : Item). a.instr) (take at items) (get_or items at d ∷ [])

  count : length (instrs_of (take at items)) ≡ at
  count = length-map (take at items) (λ (a : Item). a.instr) ∙ length-take-le at items (omega (arith, inside))

  led_one : led_from from to (instrs_of (take (at + 1) items)) ≡ led_from from to (instrs_of (take at items)) ++ led (displacement_between (from + at) to) (get_or items at d).instr ∷ []
  led_one =
      ap (led_from from to) instrs_more ∙ led_after from to (instrs_of (take at items)) (get_or items at d).instr
      ∙ ap (λ n. led_from from to (instrs_of (take at items)) ++ led (displacement_between (from + n) to) (get_or items at d).instr ∷ []) count

  pub led_more : (start words : List ℕ) (w : ℕ) → words ≡ start ++ map encoded (led_from from to (instrs_of (take at items)))
      → w ≡ encoded (led (displacement_between (from + at) to) (get_or items at d).instr)
      → words ++ w ∷ [] ≡ start ++ map encoded (led_from from to (instrs_of (take (at + 1) items)))
  led_more start words w h e =
      ap (λ ws. ws ++ w ∷ []) h
      ∙ append_assoc start (map encoded (led_from from to (instrs_of (take at items)))) (w ∷ [])
      ∙ ap (λ v. start ++ (map encoded (led_from from to (instrs_of (take at items))) ++ v ∷ [])) e
      ∙ ap (λ ws. start ++ ws) (sym (map-append encoded (led_from from to (instrs_of (take at items))) (led (displacement_between (from + at) to) (get_or items at d).instr ∷ [])))
      ∙ ap (λ is. start ++ map encoded is) (sym led_one)

pub led_all : (items : List Item) (from to at : ℕ) (start words : List ℕ) → length items ≤ at → words ≡ start ++ map encoded (led_from from to (instrs_of (take at items)))
    → words ≡ start ++ map encoded (led_from from to (instrs_of items))
led_all items from to at start words past h = h ∙ ap (λ is. start ++ map encoded (led_from from to (instrs_of is))) (take_all at items past)

pub led_none : (from to : ℕ) (items : List Item) (words : List ℕ) → words ≡ words ++ map encoded (led_from from to (instrs_of (take 0 items)))
led_none from to items words = sym (append-nil words)

-- a listing and its closing branch
pub block_more : (start words : List ℕ) (is : List Instr) (i : Instr) (w : ℕ) → words ≡ start ++ map encoded is → w ≡ encoded i
    → words ++ w ∷ [] ≡ start ++ map encoded (is ++ i ∷ [])
block_more start words is i w h e =
    ap (λ ws. ws ++ w ∷ []) h ∙ append_assoc start (map encoded is) (w ∷ [])
    ∙ ap (λ v. start ++ (map encoded is ++ v ∷ [])) e
    ∙ ap (λ ws. start ++ ws) (sym (map-append encoded is (i ∷ [])))

-- ---- starts

starts_after : (from : ℕ) (ls : List (List Instr)) (l : List Instr) → starts_from from (ls ++ l ∷ []) ≡ starts_from from ls ++ 4 * (from + words_before ls (length ls)) ∷ []
starts_after from [] l = (let e : 4 * from ≡ 4 * (from + 0) = omega arith in ap (λ n. n ∷ []) e)
starts_after from (k ∷ ls) l =
    let e : 4 * (from + (length k + 1) + words_before ls (length ls)) ≡ 4 * (from + words_before (k ∷ ls) (length (k ∷ ls))) = omega arith in
    ap (λ xs. 4 * from ∷ xs) (starts_after (from + (length k + 1)) ls l)
    ∙ ap (λ n. 4 * from ∷ (starts_from (from + (length k + 1)) ls ++ n ∷ [])) e

before_after : (ls : List (List Instr)) (l : List Instr) → words_before (ls ++ l ∷ []) (length (ls ++ l ∷ [])) ≡ words_before ls (length ls) + (length l + 1)
before_after [] l = omega arith
before_after (k ∷ ls) l = (let rest = before_after ls l in omega (arith, rest))

module _ (ls : List Listing) (at : ℕ) (d : Listing) (inside : at < length ls) where
  abbrev so_far : List (List Instr)
  so_far = all_instrs (take at ls)

  pub all_more : all_instrs (take (at + 1) ls) ≡ all_instrs (take at ls) ++ instrs_of (get_or ls at d).items ∷ []
  all_more = ap all_instrs (take_more ls at d inside) ∙ map-append (λ (l : Listing). instrs_of l.items) (take at ls) (get_or ls at d ∷ [])

  pub starts_more : (starts : List ℕ) (end start : ℕ) → starts ≡ starts_from 0 (all_instrs (take at ls)) → end ≡ words_before (all_instrs (take at ls)) (length (all_instrs (take at ls)))
      → start ≡ 4 * end → starts ++ start ∷ [] ≡ starts_from 0 (all_instrs (take (at + 1) ls))
  starts_more starts end start h e is =
      let place : start ≡ 4 * (0 + words_before so_far (length so_far)) = omega (arith, e, is) in
      ap (λ xs. xs ++ start ∷ []) h ∙ ap (λ n. starts_from 0 so_far ++ n ∷ []) place
      ∙ sym (ap (starts_from 0) all_more ∙ starts_after 0 so_far (instrs_of (get_or ls at d).items))

  pub end_more : (end : ℕ) → end ≡ words_before (all_instrs (take at ls)) (length (all_instrs (take at ls)))
      → end + (length (get_or ls at d).items + 1) ≡ words_before (all_instrs (take (at + 1) ls)) (length (all_instrs (take (at + 1) ls)))
  end_more end e =
      let many = length-map (get_or ls at d).items (λ (a : Item). a.instr) in
      let after = before_after so_far (instrs_of (get_or ls at d).items) in
      let sum : end + (length (get_or ls at d).items + 1) ≡ words_before (so_far ++ instrs_of (get_or ls at d).items ∷ []) (length (so_far ++ instrs_of (get_or ls at d).items ∷ [])) = omega (arith, e, many, after) in
      sum ∙ ap (λ xs. words_before xs (length xs)) (sym all_more)

-- ---- blocks

pub linked_after : (place : Target → ℕ) (from : ℕ) (bs : List BlockTree) (ls : List (List Instr)) (b : BlockTree) (l : List Instr) → length bs ≡ length ls
    → linked_from place from (bs ++ b ∷ []) (ls ++ l ∷ []) ≡ linked_from place from bs ls ++ block_instrs place (from + words_before ls (length ls)) b l
linked_after place from [] [] b l same =
    let e : from ≡ from + 0 = omega arith in
    append-nil (block_instrs place from b l) ∙ ap (λ n. block_instrs place n b l) e
linked_after place from [] (k ∷ ls) b l same = absurd (omega (arith, same))
linked_after place from (c ∷ bs) [] b l same = absurd (omega (arith, same))
linked_after place from (c ∷ bs) (k ∷ ls) b l same =
    let e : from + (length k + 1) + words_before ls (length ls) ≡ from + words_before (k ∷ ls) (length (k ∷ ls)) = omega arith in
    ap (λ is. block_instrs place from c k ++ is) (linked_after place (from + (length k + 1)) bs ls b l (omega (arith, same)))
    ∙ sym (append_assoc (block_instrs place from c k) (linked_from place (from + (length k + 1)) bs ls) (block_instrs place (from + (length k + 1) + words_before ls (length ls)) b l))
    ∙ ap (λ n. block_instrs place from c k ++ linked_from place (from + (length k + 1)) bs ls ++ block_instrs place n b l) e

-- so many words are before a listing, also where only those before it are counted
pub before_take : (ls : List (List Instr)) (i : ℕ) → i ≤ length ls → words_before (take i ls) (length (take i ls)) ≡ words_before ls i
before_take [] zero inside = refl
before_take [] (suc i) inside = refl
before_take (l ∷ ls) zero inside = refl
before_take (l ∷ ls) (suc i) inside = (let rest = before_take ls i (omega (arith, inside)) in omega (arith, rest))
