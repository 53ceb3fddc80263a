-- Lists of keywords in their order.
use Rattle.std.proofs.Common.{◌≡◌, ℕ, ◌+◌, ◌<◌, ◌≤◌, ◌||◌, ◌==◌, nat_lt, if◌then◌else◌, Bool, true, false, Option, None, Some, List, [], ◌∷◌, ◌++◌, length, refl, sym, ap, ap₂, ◌∙◌, subst, arith, inl, inr, ◌⊎◌, length-append}
use Rattle.goal_reader.specs.Order.{IsOrderOf}
use Rattle.goal_reader.specs.declared.order.Order.{Order}
use Rattle.std.specs.Option.{option_map_or}
use Rattle.std.specs.List.{list_any}
use Rattle.std.proofs.lemmas.Bool.{false≢true}
use Rattle.std.proofs.lemmas.Bool.Decides.{nat_tests}
use Rattle.forms.specs.Forms.{Form, atom, list, is_list}
use Rattle.goal_reader.specs.Roles.{rank, is_of_rank, is_later_than, of_rank}

abbrev later : ℕ → Option ℕ → Bool
later at o = option_map_or (λ r. nat_lt at r) o false

abbrev same : ℕ → Option ℕ → Bool
same at o = option_map_or (λ r. r == at) o false

not_later : (last at : ℕ) (o : Option ℕ) → last ≤ at → later last o ≡ false → later at o ≡ false
not_later last at None l h = refl
not_later last at (Some r) l h = grind (arith, nat_tests, l, h)

not_same : (last at : ℕ) (o : Option ℕ) → last < at → later last o ≡ false → same at o ≡ false
not_same last at None l h = refl
not_same last at (Some r) l h = grind (arith, nat_tests, l, h)

same_later : (last at : ℕ) (o : Option ℕ) → at < last → same last o ≡ true → later at o ≡ true
same_later last at None l h = cc
same_later last at (Some r) l h = grind (arith, nat_tests, l, h)

or_false : (a b : Bool) → a || b ≡ false → (a ≡ false) × (b ≡ false)
or_false true b h = cc
or_false false b h = (refl, h)

or_true : (a : Bool) → a || true ≡ true
or_true true = refl
or_true false = refl

or_same : (a : Bool) → a || false ≡ a
or_same true = refl
or_same false = refl

or_together : (a b c : Bool) → a || (b || c) ≡ (a || b) || c
or_together true b c = refl
or_together false b c = refl

pub of_rank_by : (f : Form) (b : Bool) (xs ys zs : List Form) → xs ≡ ys ++ zs → (if b then f ∷ xs else xs) ≡ (if b then f ∷ ys else ys) ++ zs
of_rank_by f true xs ys zs e = ap (λ w. f ∷ w) e
of_rank_by f false xs ys zs e = e

some_of : (last count n at : ℕ) → (last ≡ 0) ⊎ (0 < count) → count ≡ n → at < last → 0 < n
some_of last count n at (inl z) e l = absurd (omega (arith, z, l))
some_of last count n at (inr s) e l = omega (arith, s, e)

module _ (keywords : List (List ℕ)) where
  pub none_later : (last at : ℕ) (before : List Form) → last ≤ at → list_any (is_later_than keywords last) before ≡ false → list_any (is_later_than keywords at) before ≡ false
  none_later last at [] l h = refl
  none_later last at (f ∷ fs) l h =
      let both = or_false (is_later_than keywords last f) (list_any (is_later_than keywords last) fs) h in
      ap₂ (λ a b. a || b) (not_later last at (rank keywords f) l both.0) (none_later last at fs l both.1)

  pub none_of : (last at : ℕ) (before : List Form) → last < at → list_any (is_later_than keywords last) before ≡ false → of_rank keywords at before ≡ []
  none_of last at [] l h = refl
  none_of last at (f ∷ fs) l h =
      let both = or_false (is_later_than keywords last f) (list_any (is_later_than keywords last) fs) h in
      ap (λ b. if b then f ∷ of_rank keywords at fs else of_rank keywords at fs) (not_same last at (rank keywords f) l both.0) ∙ none_of last at fs l both.1

  some_later_by : (last at : ℕ) (f : Form) (fs : List Form) (b : Bool) → at < last → is_of_rank keywords last f ≡ b → (0 < length (of_rank keywords last fs) → list_any (is_later_than keywords at) fs ≡ true)
      → 0 < length (if b then f ∷ of_rank keywords last fs else of_rank keywords last fs) → list_any (is_later_than keywords at) (f ∷ fs) ≡ true
  some_later_by last at f fs true l e rest h = ap (λ a. a || list_any (is_later_than keywords at) fs) (same_later last at (rank keywords f) l e)
  some_later_by last at f fs false l e rest h = ap (λ b. is_later_than keywords at f || b) (rest h) ∙ or_true (is_later_than keywords at f)

  pub some_later : (last at : ℕ) (before : List Form) → at < last → 0 < length (of_rank keywords last before) → list_any (is_later_than keywords at) before ≡ true
  some_later last at [] l h = absurd (omega arith)
  some_later last at (f ∷ fs) l h = some_later_by last at f fs (is_of_rank keywords last f) l refl (some_later last at fs l) h

  pub of_rank_more : (at : ℕ) (before : List Form) (form : Form) → of_rank keywords at (before ++ form ∷ []) ≡ of_rank keywords at before ++ of_rank keywords at (form ∷ [])
  of_rank_more at [] form = refl
  of_rank_more at (f ∷ fs) form = of_rank_by f (is_of_rank keywords at f) _ _ _ (of_rank_more at fs form)

  pub later_more : (at : ℕ) (before : List Form) (form : Form) → list_any (is_later_than keywords at) (before ++ form ∷ []) ≡ (list_any (is_later_than keywords at) before || is_later_than keywords at form)
  later_more at [] form = or_same (is_later_than keywords at form)
  later_more at (f ∷ fs) form = ap (λ b. is_later_than keywords at f || b) (later_more at fs form) ∙ or_together (is_later_than keywords at f) _ _

  pub is_itself : (at : ℕ) (form : Form) → rank keywords form ≡ Some at → (is_later_than keywords at form ≡ false) × (length (of_rank keywords at (form ∷ [])) ≡ 1)
  is_itself at form e =
      let not_less : nat_lt at at ≡ false = grind (arith, nat_tests) in
      let equal : (at == at) ≡ true = grind (arith, nat_tests) in
      (ap (later at) e ∙ not_less, ap (λ o. length (if same at o then form ∷ [] else [])) e ∙ ap (λ b. length (if b then form ∷ [] else [])) equal)

  pub order_same : (before : List Form) (form : Form) (order : Order) (at : ℕ) → IsOrderOf keywords before order → rank keywords form ≡ Some at → at ≡ order.last → IsOrderOf keywords (before ++ form ∷ []) (record { last = at; count = order.count + 1 })
  order_same before form order at h e same_one =
      let one = is_itself at form e in
      let latest = subst (λ n. list_any (is_later_than keywords n) before ≡ false) (sym same_one) h.latest in
      let counted : order.count ≡ length (of_rank keywords at before) = subst (λ n. order.count ≡ length (of_rank keywords n before)) (sym same_one) h.counted in
      let total = ap length (of_rank_more at before form) ∙ length-append (of_rank keywords at before) (of_rank keywords at (form ∷ [])) in
      let last = one.1 in
      record {
        latest = later_more at before form ∙ ap₂ (λ a b. a || b) latest one.0;
        counted = omega (arith, counted, total, last);
        some = inr (omega arith);
      }

  pub order_next : (before : List Form) (form : Form) (order : Order) (at : ℕ) → IsOrderOf keywords before order → rank keywords form ≡ Some at → order.last < at → IsOrderOf keywords (before ++ form ∷ []) (record { last = at; count = 1 })
  order_next before form order at h e l =
      let one = is_itself at form e in
      let nothing = ap length (none_of order.last at before l h.latest) in
      let total = ap length (of_rank_more at before form) ∙ length-append (of_rank keywords at before) (of_rank keywords at (form ∷ [])) in
      let last = one.1 in
      record {
        latest = later_more at before form ∙ ap₂ (λ a b. a || b) (none_later order.last at before (omega (arith, l)) h.latest) one.0;
        counted = omega (arith, nothing, total, last);
        some = inr (omega arith);
      }

  pub out_of_order : (before : List Form) (order : Order) (at : ℕ) → IsOrderOf keywords before order → at < order.last → list_any (is_later_than keywords at) before ≡ true
  out_of_order before order at h l = some_later order.last at before l (some_of (order.last) (order.count) _ at h.some h.counted l)

-- ---- a form with a keyword is a list

pub has_parts : (keywords : List (List ℕ)) (at : ℕ) (f : Form) → is_of_rank keywords at f ≡ true → is_list f ≡ false → ⊥
has_parts keywords at (atom p a) h e = false≢true h
has_parts keywords at (list p ps) h e = false≢true (sym e)
