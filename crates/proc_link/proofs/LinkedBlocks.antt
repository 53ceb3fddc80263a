-- The blocks so far, linked.
use Rattle.std.proofs.Common.{◌≡◌, ℕ, zero, suc, ◌+◌, ◌/◌, ◌<◌, ◌≤◌, List, [], ◌∷◌, ◌++◌, length, map, take, get_or, refl, sym, ◌∙◌, ap, subst, arith, Some}
use Rattle.std.specs.Prelude.{All, slice_index}
use Rattle.std.specs.List.{AllZip}
use Rattle.std.proofs.lemmas.List.{append_assoc, get_or-map, length-map, length-take-le, map-append, take_all, take_more}
use Rattle.std.proofs.lemmas.List.Elements.{All-nil, All-cons, All-head, All-tail, All-map, All-weaker}
use Rattle.std.proofs.lemmas.Slice.Zip.{AllZip-long}
use Rattle.schedule_meaning.specs.Limits.{most_launches}
use Rattle.alpha_encode.specs.Decoded.{decoded}
use Rattle.alpha_encode.specs.Formats.{IsWellFormed, encoded}
use Rattle.alpha_encode.specs.declared.instructions.Instr.{Instr}
use Rattle.alpha_encode.specs.declared.instructions.Instr.TheVariants.{Beq}
use Rattle.proc_goal.specs.Views.{BlockTree, ProcTree, block_view}
use Rattle.proc_goal.specs.WellFormed.{IsProc, IsProcBlock, IsProcTarget}
use Rattle.proc_goal.specs.declared.procs.Block.{Block}
use Rattle.proc_goal.specs.declared.procs.Target.{Target}
use Rattle.proc_goal.specs.declared.procs.Target.TheVariants as targets
use Rattle.register_assign.specs.Assigned.{HaveWords}
use Rattle.register_assign.specs.Outcomes.{instrs_of}
use Rattle.register_assign.specs.declared.listings.Item.{Item}
use Rattle.register_assign.specs.declared.listings.Listing.{Listing}
use Rattle.proc_link.specs.Blocks.{other_of}
use Rattle.proc_link.specs.Follows.{AreListings, IsListingOfBlock}
use Rattle.proc_link.specs.Linked.{all_instrs, block_instrs, displacement_between, led_from, linked_from, place_of_target, starts_from, words_before}
use Rattle.proc_link.specs.Placed.{AreListingPlaces, CanBeLinked, LeadsInside, place_by_starts}
use Rattle.proc_link.specs.declared.places.Places.{Places}
use Rattle.proc_link.proofs.Appending.{all_more, before_take, linked_after}
use Rattle.proc_link.proofs.Placing.{few_before, start_at}
use Rattle.proc_link.proofs.Steps.{other_there}

-- ---- places

pub length_starts : (from : ℕ) (ls : List (List Instr)) → length (starts_from from ls) ≡ length ls
length_starts from [] = refl
length_starts from (l ∷ ls) = ap suc (length_starts (from + (length l + 1)) ls)

module _ (blocks : List BlockTree) (ls : List Listing) (can : CanBeLinked blocks ls) where
  abbrev all : List (List Instr)
  all = all_instrs ls

  many : length all ≡ length blocks
  many = length-map ls (λ (l : Listing). instrs_of l.items) ∙ can.count

  short : All (λ (is : List Instr). length is ≤ most_launches) all
  short =
      All-map (λ (is : List Instr). length is ≤ most_launches) (λ (l : Listing). instrs_of l.items) ls
      (All-weaker (λ (l : Listing). length l.items ≤ most_launches) (λ (l : Listing). length (instrs_of l.items) ≤ most_launches)
      (λ l low. subst (λ n. n ≤ most_launches) (sym (length-map l.items (λ (a : Item). a.instr))) low) ls can.short)

  before_low : (i : ℕ) → words_before all i ≤ 12352
  before_low i =
      let low = few_before all i short in
      let same = many in
      let few = can.few in
      omega (arith, low, same, few)

  pub place_low : (t : Target) → place_of_target all t ≤ 12352
  place_low (targets.Block i) = before_low i
  place_low targets.Done = before_low (length all)

  module _ (places : Places) (are : AreListingPlaces all places) where
    pub starts_long : length places.starts ≡ length blocks
    starts_long = ap length are.starts ∙ length_starts 0 all ∙ many

    pub there : (t : Target) → IsProcTarget (length blocks) t → IsProcTarget (length places.starts) t
    there t h = subst (λ n. IsProcTarget n t) (sym starts_long) h

    pub placed : (t : Target) → IsProcTarget (length blocks) t → place_by_starts places.starts places.end t ≡ place_of_target all t
    placed (targets.Block i) h =
        let same = many in
        let start = start_at 0 all i (omega (arith, same, h)) in
        ap (λ xs. slice_index xs i / 4) are.starts ∙ omega (arith, start)
    placed targets.Done h = are.end

-- what is known of a block and of its listing
module _ (blocks : List Block) (ls : List Listing) (can : CanBeLinked (map block_view blocks) ls) (at : ℕ) (inside : at < length blocks) where
  in_views : at < length (map block_view blocks)
  in_views = (let same = length-map blocks block_view in omega (arith, same, inside))

  pub inside_at : (b : Block) → b ≡ get_or blocks at b → LeadsInside (length (map block_view blocks)) (block_view b)
  inside_at b is =
      subst (LeadsInside (length (map block_view blocks)))
      (get_or-map block_view blocks at b (block_view b) inside ∙ ap block_view (sym is))
      (can.inside at (block_view b) in_views)

  pub in_listings : at < length ls
  in_listings = (let same = length-map blocks block_view in let many = can.count in omega (arith, same, many, inside))

  pub place_now : (places : Places) → AreListingPlaces (all_instrs ls) places → (from : ℕ) → from ≡ place_by_starts places.starts places.end (targets.Block at)
      → from ≡ words_before (all_instrs ls) at
  place_now places are from is = is ∙ placed (map block_view blocks) ls can places are (targets.Block at) in_views

  pub place_then : (places : Places) → AreListingPlaces (all_instrs ls) places → (t : Target) → IsProcTarget (length (map block_view blocks)) t → (to : ℕ)
      → to ≡ place_by_starts places.starts places.end t → to ≡ place_of_target (all_instrs ls) t
  place_then places are t h to is = is ∙ placed (map block_view blocks) ls can places are t h

  pub place_small : (t : Target) → (to : ℕ) → to ≡ place_of_target (all_instrs ls) t → to ≤ 12352
  place_small t to is = subst (λ n. n ≤ 12352) (sym is) (place_low (map block_view blocks) ls can t)

  pub short_at : (l : Listing) → l ≡ get_or ls at l → length l.items ≤ most_launches
  short_at l is = subst (λ (l : Listing). length l.items ≤ most_launches) (sym is) (can.short at l in_listings)

-- ---- one block more

module _ (place : Target → ℕ) (blocks : List Block) (ls : List Listing) (at : ℕ) (b : Block) (l : Listing)
    (inside : at < length blocks) (many : length ls ≡ length blocks) where
  abbrev this : Block
  this = get_or blocks at b

  abbrev listing : Listing
  listing = get_or ls at l

  abbrev views : ℕ → List BlockTree
  views n = map block_view (take n blocks)

  views_more : views (at + 1) ≡ views at ++ block_view this ∷ []
  views_more = ap (map block_view) (take_more blocks at b inside) ∙ map-append block_view (take at blocks) (this ∷ [])

  as_many : length (views at) ≡ length (all_instrs (take at ls))
  as_many =
      length-map (take at blocks) block_view ∙ length-take-le at blocks (omega (arith, inside))
      ∙ sym (length-map (take at ls) (λ (l : Listing). instrs_of l.items) ∙ length-take-le at ls (omega (arith, inside, many)))

  before : words_before (all_instrs (take at ls)) (length (all_instrs (take at ls))) ≡ words_before (all_instrs ls) at
  before =
      ap (λ xs. words_before xs (length xs)) (all_taken at ls) ∙ before_take (all_instrs ls) at (let e = length-map ls (λ (l : Listing). instrs_of l.items) in omega (arith, inside, many, e))
    where
      all_taken : (n : ℕ) (xs : List Listing) → all_instrs (take n xs) ≡ take n (all_instrs xs)
      all_taken zero xs = refl
      all_taken (suc n) [] = refl
      all_taken (suc n) (x ∷ xs) = ap (λ is. instrs_of x.items ∷ is) (all_taken n xs)

  linked_one : linked_from place 0 (views (at + 1)) (all_instrs (take (at + 1) ls))
      ≡ linked_from place 0 (views at) (all_instrs (take at ls)) ++ block_instrs place (words_before (all_instrs ls) at) (block_view this) (instrs_of listing.items)
  linked_one =
      let e : 0 + words_before (all_instrs (take at ls)) (length (all_instrs (take at ls))) ≡ words_before (all_instrs ls) at = (let same = before in omega (arith, same)) in
      (λ j. linked_from place 0 (views_more j) (all_more ls at l (omega (arith, inside, many)) j))
      ∙ linked_after place 0 (views at) (all_instrs (take at ls)) (block_view this) (instrs_of listing.items) as_many
      ∙ ap (λ n. linked_from place 0 (views at) (all_instrs (take at ls)) ++ block_instrs place n (block_view this) (instrs_of listing.items)) e

  pub blocks_more : (start words : List ℕ) (from to go : ℕ) → words ≡ start ++ map encoded (linked_from place 0 (views at) (all_instrs (take at ls)))
      → from ≡ words_before (all_instrs ls) at → to ≡ place (other_of (block_view this)) → go ≡ place (block_view this).go
      → words ++ map encoded (led_from from to (instrs_of listing.items) ++ Beq 31 (displacement_between (from + length listing.items) go) ∷ [])
      ≡ start ++ map encoded (linked_from place 0 (views (at + 1)) (all_instrs (take (at + 1) ls)))
  blocks_more start words from to go h from_is to_is go_is =
      let long = length-map listing.items (λ (a : Item). a.instr) in
      let same : led_from from to (instrs_of listing.items) ++ Beq 31 (displacement_between (from + length listing.items) go) ∷ []
      ≡ block_instrs place (words_before (all_instrs ls) at) (block_view this) (instrs_of listing.items)
      = λ j. led_from (from_is j) (to_is j) (instrs_of listing.items) ++ Beq 31 (displacement_between (from_is j + sym long j) (go_is j)) ∷ [] in
      let so_far = linked_from place 0 (views at) (all_instrs (take at ls)) in
      let one = block_instrs place (words_before (all_instrs ls) at) (block_view this) (instrs_of listing.items) in
      (λ j. h j ++ map encoded (same j))
      ∙ append_assoc start (map encoded so_far) (map encoded one)
      ∙ ap (λ ws. start ++ ws) (sym (map-append encoded so_far one))
      ∙ ap (λ is. start ++ map encoded is) (sym linked_one)

pub blocks_all : (place : Target → ℕ) (blocks : List Block) (ls : List Listing) (at : ℕ) (start words : List ℕ) → length ls ≡ length blocks → length blocks ≤ at
    → words ≡ start ++ map encoded (linked_from place 0 (map block_view (take at blocks)) (all_instrs (take at ls)))
    → words ≡ start ++ map encoded (linked_from place 0 (map block_view blocks) (all_instrs ls))
blocks_all place blocks ls at start words many past h =
    h ∙ (λ j. start ++ map encoded (linked_from place 0 (map block_view (take_all at blocks past j)) (all_instrs (take_all at ls (omega (arith, many, past)) j))))

-- ---- a proc's blocks with their listings

pub can_be_linked : (p : ProcTree) (ls : List Listing) → IsProc p → AreListings p ls → CanBeLinked p.blocks ls
can_be_linked p ls is_proc are = record {
  few = is_proc.rules.blocks.1;
  count = AllZip-long (IsListingOfBlock p) p.blocks ls are;
  inside = All-weaker (IsProcBlock p.vars (length p.blocks)) (LeadsInside (length p.blocks))
      (λ b block. (other_there p.vars (length p.blocks) b block, block.go)) p.blocks is_proc.blocks;
  have_words = each (λ (l : Listing). HaveWords l.items) (λ b l h. h.have_words) p.blocks ls are;
  short = each (λ (l : Listing). length l.items ≤ most_launches) (λ b l h. h.few) p.blocks ls are;
}
  where
    each : (P : Listing → Type 0) → ((b : BlockTree) (l : Listing) → IsListingOfBlock p b l → P l) → (bs : List BlockTree) (ls : List Listing)
        → AllZip (IsListingOfBlock p) bs ls → All P ls
    each P f [] [] h = All-nil P
    each P f [] (l ∷ ls) h = absurd h
    each P f (b ∷ bs) [] h = absurd h
    each P f (b ∷ bs) (l ∷ ls) h = All-cons P l ls (f b l h.0) (each P f bs ls h.1)

-- words that are the instructions' decode as them
pub decode_again : ((i : Instr) → IsWellFormed i → decoded (encoded i) ≡ Some i) → (is : List Instr) → All IsWellFormed is → map decoded (map encoded is) ≡ map Some is
decode_again back [] wf = refl
decode_again back (i ∷ is) wf =
    let first = back i (All-head IsWellFormed i is wf) in
    let rest = decode_again back is (All-tail IsWellFormed i is wf) in
    cc
