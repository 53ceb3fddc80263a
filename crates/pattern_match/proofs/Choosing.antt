-- Lists of which some are chosen: what a loop that pushes some of them keeps, and what it lists.
use Rattle.std.proofs.Common.{◌≡◌, ℕ, zero, suc, ◌<◌, ◌≤◌, ◌+◌, List, [], ◌∷◌, ◌++◌, map, length, take, drop, get_or, refl, sym, ap, ◌∙◌, subst, subst₂, arith}
use Rattle.std.specs.Prelude.{All, AllPairs, Contains}
use Rattle.std.proofs.lemmas.List.{get_or-map, length-map, length-append, get_or_default, get_or_append_left, take_more, take_all, take-append-drop, map-append}
use Rattle.std.proofs.lemmas.List.Elements.{All-push, Contains-get_or}
use Rattle.std.proofs.lemmas.List.Kept.{AllPairs-cons}
use Rattle.pattern_match.specs.Found.{classes_in}
use Rattle.pattern_match.specs.Listing.{Lists, ListsUpTo, Chosen, nothing, taken, left_out}
use Rattle.pattern_match.specs.declared.found.Match.{Match}

module _ {X Y : Type 0} (R : X → Y → Type 0) where
  pub chosen_takes : (xs : List X) (ys : List Y) (x : X) (y : Y) → Chosen R xs ys → R x y → Chosen R (xs ++ x ∷ []) (ys ++ y ∷ [])
  chosen_takes [] [] x y nothing r = taken r nothing
  chosen_takes (a ∷ xs) (b ∷ ys) x y (taken q h) r = taken q (chosen_takes xs ys x y h r)
  chosen_takes (a ∷ xs) ys x y (left_out n h) r = left_out n (chosen_takes xs ys x y h r)
  chosen_takes [] (b ∷ ys) x y h r = elim h [ ]

  pub chosen_skips : (xs : List X) (ys : List Y) (x : X) → Chosen R xs ys → ((y : Y) → R x y → ⊥) → Chosen R (xs ++ x ∷ []) ys
  chosen_skips [] [] x nothing n = left_out n nothing
  chosen_skips (a ∷ xs) (b ∷ ys) x (taken q h) n = taken q (chosen_skips xs ys x h n)
  chosen_skips (a ∷ xs) ys x (left_out m h) n = left_out m (chosen_skips xs ys x h n)
  chosen_skips [] (b ∷ ys) x h n = elim h [ ]

pub lists_same : {X : Type 0} (P Q : X → Type 0) (xs : List X) → ((x : X) → P x → Q x) → ((x : X) → Q x → P x) → Lists P xs → Lists Q xs
lists_same P Q xs there back h = record { each = λ k d l. there (get_or xs k d) (h.each k d l); all = λ x q. h.all x (back x q); once = h.once }

module _ {X : Type 0} (P Q : X → Type 0) where
  -- x is chosen as itself
  abbrev pub AsItself : X → X → Type 0
  AsItself x y = Q x × (y ≡ x)

  chosen_from : {xs ys : List X} → Chosen AsItself xs ys → (z : X) → Contains ys z → Contains xs z × Q z
  chosen_from nothing z h = absurd (omega (arith, h.1))
  chosen_from (taken {x} {y} {xs} {ys} r c) z (zero, l, e) =
      let is : x ≡ z = sym r.1 ∙ e in ((0, omega arith, is), subst Q is r.0)
  chosen_from (taken {x} {y} {xs} {ys} r c) z (suc k, l, e) = let h = chosen_from c z (k, omega (arith, l), e) in ((suc h.0.0, omega (arith, h.0.1), h.0.2), h.1)
  chosen_from (left_out {x} {xs} {ys} n c) z h = let k = chosen_from c z h in ((suc k.0.0, omega (arith, k.0.1), k.0.2), k.1)

  all_chosen : {xs ys : List X} → Chosen AsItself xs ys → (z : X) → Contains xs z → Q z → Contains ys z
  all_chosen nothing z h q = absurd (omega (arith, h.1))
  all_chosen (taken {x} {y} {xs} {ys} r c) z (zero, l, e) q = (0, omega arith, r.1 ∙ e)
  all_chosen (taken {x} {y} {xs} {ys} r c) z (suc k, l, e) q = let h = all_chosen c z (k, omega (arith, l), e) q in (suc h.0, omega (arith, h.1), h.2)
  all_chosen (left_out {x} {xs} {ys} n c) z (zero, l, e) q = absurd (n z (subst Q (sym e) q, sym e))
  all_chosen (left_out {x} {xs} {ys} n c) z (suc k, l, e) q = all_chosen c z (k, omega (arith, l), e) q

  abbrev Differ : X → X → Type 0
  Differ x y = x ≡ y → ⊥

  tail_differs : (x : X) (xs : List X) → AllPairs Differ (x ∷ xs) → AllPairs Differ xs
  tail_differs x xs h i j d a b = h (suc i) (suc j) d (omega (arith, a)) (omega (arith, b))

  head_differs : (x z : X) (xs : List X) → AllPairs Differ (x ∷ xs) → Contains xs z → x ≡ z → ⊥
  head_differs x z xs h k e = h 0 (suc k.0) z (omega arith) (omega (arith, k.1)) (e ∙ sym k.2)

  chosen_once : {xs ys : List X} → Chosen AsItself xs ys → AllPairs Differ xs → AllPairs Differ ys
  chosen_once nothing h = h
  chosen_once (taken {x} {y} {xs} {ys} r c) h =
      AllPairs-cons Differ y ys
      (λ k d l e. let f = chosen_from c (get_or ys k d) (Contains-get_or ys k d l) in head_differs x (get_or ys k d) xs h f.0 (sym r.1 ∙ e))
      (chosen_once c (tail_differs x xs h))
  chosen_once (left_out {x} {xs} {ys} n c) h = chosen_once c (tail_differs x xs h)

  pub chosen_lists : (xs ys : List X) → Lists P xs → Chosen AsItself xs ys → Lists (λ x. P x × Q x) ys
  chosen_lists xs ys h c = record {
    each = λ k d l.
        let f = chosen_from c (get_or ys k d) (Contains-get_or ys k d l) in
        let i = f.0 in
        (subst P (get_or_default xs i.0 (get_or ys k d) (get_or ys k d) i.1 ∙ i.2) (h.each i.0 (get_or ys k d) i.1), f.1);
    all = λ x q. all_chosen c x (h.all x q.0) q.1;
    once = chosen_once c h.once;
  }

  -- ---- the first part of a list

  pub first_lists : (xs ys : List X) → Lists P (xs ++ ys) → Lists (λ x. P x × Contains xs x) xs
  first_lists xs ys h = record {
    each = λ k d l. (subst P (get_or_append_left xs ys d k l) (h.each k d (omega (arith, l, length-append xs ys))), Contains-get_or xs k d l);
    all = λ x q. q.1;
    once = λ i j d a l e. h.once i j d a (omega (arith, l, length-append xs ys)) (get_or_append_left xs ys d i (omega (arith, a, l)) ∙ e ∙ sym (get_or_append_left xs ys d j l));
  }

-- ---- in the shapes of the loops over matches

module _ (items : List Match) (i : ℕ) (m : Match) (l : i < length items) (is : m ≡ get_or items i m) where
  one_more : map classes_in (take (i + 1) items) ≡ map classes_in (take i items) ++ classes_in m ∷ []
  one_more = ap (map classes_in) (take_more items i m l ∙ ap (λ x. take i items ++ x ∷ []) (sym is)) ∙ map-append classes_in (take i items) (m ∷ [])

  -- what each item of the list has
  pub classes_at : (P : List ℕ → Type 0) → All P (map classes_in items) → P (classes_in m)
  classes_at P h =
      let at : get_or (map classes_in items) i [] ≡ classes_in m = get_or-map classes_in items i m [] l ∙ ap classes_in (sym is) in
      subst P at (h i [] (omega (arith, l, length-map items classes_in)))

  pub match_at : (P : Match → Type 0) → All P items → P m
  match_at P h = subst P (sym is) (h i m l)

  module _ (Q : List ℕ → Type 0) (before : List Match) (h : Chosen (AsItself Q Q) (map classes_in (take i items)) (map classes_in before)) where
    pub loop_takes : (after : List Match) (x : Match) → after ≡ before ++ x ∷ [] → classes_in x ≡ classes_in m → Q (classes_in m) → Chosen (AsItself Q Q) (map classes_in (take (i + 1) items)) (map classes_in after)
    loop_takes after x a f q =
        let pushed : map classes_in after ≡ map classes_in before ++ classes_in m ∷ [] = ap (map classes_in) a ∙ map-append classes_in before (x ∷ []) ∙ ap (λ y. map classes_in before ++ y ∷ []) f in
        subst₂ (Chosen (AsItself Q Q)) (sym one_more) (sym pushed) (chosen_takes (AsItself Q Q) (map classes_in (take i items)) (map classes_in before) (classes_in m) (classes_in m) h (q, refl))

    pub loop_skips : (Q (classes_in m) → ⊥) → Chosen (AsItself Q Q) (map classes_in (take (i + 1) items)) (map classes_in before)
    loop_skips n = subst (λ xs. Chosen (AsItself Q Q) xs (map classes_in before)) (sym one_more) (chosen_skips (AsItself Q Q) (map classes_in (take i items)) (map classes_in before) (classes_in m) h (λ y r. n r.0))

-- one match more, of which R holds
pub each_more : (R : Match → Type 0) (before after : List Match) (x : Match) → All R before → after ≡ before ++ x ∷ [] → R x → All R after
each_more R before after x h a r = subst (All R) (sym a) (All-push R before x h r)

-- what is chosen of a list of matches
module _ (P Q : List ℕ → Type 0) (items found : List Match) (h : Lists P (map classes_in items)) where
  pub whole : (i : ℕ) → length items ≤ i → Chosen (AsItself Q Q) (map classes_in (take i items)) (map classes_in found) → Lists (λ x. P x × Q x) (map classes_in found)
  whole i l c = chosen_lists P Q (map classes_in items) (map classes_in found) h (subst (λ xs. Chosen (AsItself Q Q) xs (map classes_in found)) (ap (map classes_in) (take_all i items l)) c)

  -- of its first items, more than `most`
  pub part : (R : List ℕ → Type 0) → ((x : List ℕ) → P x × Q x → R x) → (i most : ℕ) → most < length found → Chosen (AsItself Q Q) (map classes_in (take i items)) (map classes_in found) → ListsUpTo R most (map classes_in found)
  part R into i most l c =
      let all : map classes_in items ≡ map classes_in (take i items) ++ map classes_in (drop i items) = sym (ap (map classes_in) (take-append-drop i items)) ∙ map-append classes_in (take i items) (drop i items) in
      let first = first_lists P P (map classes_in (take i items)) (map classes_in (drop i items)) (subst (Lists P) all h) in
      let k = chosen_lists (λ x. P x × Contains (map classes_in (take i items)) x) Q (map classes_in (take i items)) (map classes_in found) first c in
      record {
        each = λ j d m. let e = k.each j d m in into (get_or (map classes_in found) j d) (e.0.0, e.1);
        all = λ f. absurd (omega (arith, l, f, length-map found classes_in));
        once = k.once;
      }

pub up_to : {X : Type 0} (P : X → Type 0) (most : ℕ) (xs : List X) → Lists P xs → ListsUpTo P most xs
up_to P most xs h = record { each = h.each; all = λ l. h.all; once = h.once }

pub all_up_to : {X : Type 0} (P : X → Type 0) (most : ℕ) (xs : List X) → length xs ≤ most → ListsUpTo P most xs → Lists P xs
all_up_to P most xs l h = record { each = h.each; all = h.all l; once = h.once }
