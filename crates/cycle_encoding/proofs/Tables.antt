-- Tables that are made number by number.
use Rattle.std.proofs.Common.{◌≡◌, ℕ, true, zero, suc, ◌+◌, ◌<◌, List, ◌∷◌, ◌++◌, [], length, map, take, get_or, max, Some, None, refl, sym, ap, ◌∙◌, subst, arith, append_assoc}
use Rattle.std.specs.Prelude.{slice_get, nat_lt}
use Rattle.std.specs.List.{range_with_len}
use Rattle.std.proofs.lemmas.Bool.{ltb-true}
use Rattle.std.proofs.lemmas.List.{take_more}
use Rattle.std.proofs.lemmas.List.Sums.{fold-append}
use Rattle.std.proofs.lemmas.List.FromFn.{length-map-range_with_len, map-range_with_len_more, get_or-map-range_with_len}
use Rattle.graph_meaning.specs.declared.graphs.LaunchRow.{LaunchRow}
use Rattle.graph_meaning.specs.WellFormed.{next_class}
use Rattle.cycle_encoding.specs.Facts.{IsTableOf}

none_some : {X : Type 0} (x : X) → None ≡ Some x → ⊥
none_some x h = cc

some_is : {X : Type 0} (x y : X) → Some x ≡ Some y → x ≡ y
some_is x y h = cc

module _ {X : Type 0} where
  pub got_is : (xs : List X) (i : ℕ) (x : X) → slice_get xs i ≡ Some x → (i < length xs) × (get_or xs i x ≡ x)
  got_is [] i x e = absurd (none_some x e)
  got_is (y ∷ xs) zero x e = (omega arith, some_is y x e)
  got_is (y ∷ xs) (suc i) x e = (let r = got_is xs i x e in ((let l = r.0 in let s : length (y ∷ xs) ≡ suc (length xs) = refl in omega arith), r.1))

  pub get_some : (xs : List X) (i : ℕ) (d : X) → i < length xs → slice_get xs i ≡ Some (get_or xs i d)
  get_some [] i d lt = absurd (let z : length {A = X} [] ≡ 0 = refl in omega (arith, z))
  get_some (y ∷ xs) zero d lt = refl
  get_some (y ∷ xs) (suc i) d lt = get_some xs i d (let s : length (y ∷ xs) ≡ suc (length xs) = refl in omega (arith, s))

  pub table_at : (f : ℕ → X) (xs ys : List X) (i : ℕ) (d x : X) → IsTableOf f xs → ys ≡ xs → true ≡ nat_lt i (length ys) → x ≡ get_or ys i d → x ≡ f i
  table_at f xs ys i d x t e lt h =
      h ∙ t i (get_or ys i d) (subst (λ (zs : List X). slice_get zs i ≡ Some (get_or ys i d)) e (get_some ys i d (ltb-true i (length ys) (sym lt))))

  pub table_more : (f : ℕ → X) (n : ℕ) → map f (range_with_len 0 (n + 1)) ≡ map f (range_with_len 0 n) ++ f n ∷ []
  table_more f n = map-range_with_len_more f 0 n n (omega arith)

  pub table_of : (f : ℕ → X) (n : ℕ) (xs : List X) → xs ≡ map f (range_with_len 0 n) → IsTableOf f xs
  table_of f n xs e i x h =
      let g = got_is xs i x h in
      let l = g.0 in
      let size : length xs ≡ n = ap (λ (ys : List X). length ys) e ∙ length-map-range_with_len f 0 n in
      sym g.1 ∙ ap (λ ys. get_or ys i x) e ∙ get_or-map-range_with_len f 0 n i i x (omega arith) (omega arith)

-- one more row
pub next_more : (rows : List LaunchRow) (i : ℕ) (d : LaunchRow) → i < length rows → next_class (take (i + 1) rows) ≡ max (next_class (take i rows)) ((get_or rows i d).class + 1)
next_more rows i d lt =
    ap (λ rs. next_class rs) (take_more rows i d lt) ∙ fold-append (λ n (r : LaunchRow). max n (r.class + 1)) 0 (take i rows) (get_or rows i d ∷ [])

-- what was appended to what was appended
pub grown : {A : Type 0} (old mid new more ps qs : List A) → mid ≡ old ++ ps → new ≡ mid ++ more → qs ≡ ps ++ more → new ≡ old ++ qs
grown old mid new more ps qs a b e = b ∙ ap (λ zs. zs ++ more) a ∙ append_assoc old ps more ∙ ap (λ zs. old ++ zs) (sym e)

pub same : {A : Type 0} (old mid ps qs : List A) → mid ≡ old ++ ps → qs ≡ ps → mid ≡ old ++ qs
same old mid ps qs a e = a ∙ ap (λ zs. old ++ zs) (sym e)

pub in_table : {X : Type 0} (f : ℕ → X) (xs : List X) (i : ℕ) (d x : X) → IsTableOf f xs → true ≡ nat_lt i (length xs) → x ≡ get_or xs i d → x ≡ f i
in_table f xs i d x t lt h = table_at f xs xs i d x t refl lt h
