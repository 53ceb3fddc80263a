-- How many parentheses have no partner in a list of tokens, and how many stand open at once.
use Rattle.std.proofs.Common.{◌≡◌, ℕ, ◌+◌, ◌-◌, ◌≤◌, max, List, [], ◌∷◌, ◌++◌, length, refl, sym, ap, subst, arith}
use Rattle.text_core.specs.declared.tokens.Token.{Token}
use Rattle.text_core.specs.declared.tokens.TokenKind.{TokenKind}
use Rattle.text_core.specs.declared.tokens.TokenKind.TheVariants as kinds
use Rattle.text_core.specs.Building.{peak, peak_before, Frame, AreOpen, closed, within, AreOpenLists}
use Rattle.text_core.specs.Nesting.{HasClosing, HasOpening, IsInside, outside, inside}
use Rattle.text_core.specs.Sexps.{all_of}
use Rattle.text_core.specs.Trees.{SexpTree, SexpTrees, IsAtom, name, register, number, Spells, SpellAll, as_atom, as_list, no_more, one_more, depth, most_depth}

abbrev pub need_before : TokenKind → ℕ → ℕ
need_before kinds.Opening n = n - 1
need_before kinds.Closing n = n + 1
need_before _ n = n

-- how many closing parentheses have no opening one
abbrev pub need : List Token → ℕ
need [] = 0
need (token ∷ tokens) = need_before token.kind (need tokens)

abbrev pub extra_before : TokenKind → ℕ → ℕ → ℕ
extra_before kinds.Opening n e = e + (1 - n)
extra_before _ n e = e

-- how many opening parentheses have no closing one
abbrev pub extra : List Token → ℕ
extra [] = 0
extra (token ∷ tokens) = extra_before token.kind (need tokens) (extra tokens)

need_step : (k : TokenKind) (n a m e : ℕ) → n ≡ a + (m - e) → need_before k n ≡ need_before k a + (m - extra_before k a e)
need_step kinds.Opening n a m e is = omega arith
need_step kinds.Closing n a m e is = omega arith
need_step kinds.Name n a m e is = omega arith
need_step kinds.Register n a m e is = omega arith
need_step (kinds.Number v) n a m e is = omega arith

pub need-append : (xs ys : List Token) → need (xs ++ ys) ≡ need xs + (need ys - extra xs)
need-append [] ys = omega arith
need-append (x ∷ xs) ys = need_step x.kind (need (xs ++ ys)) (need xs) (need ys) (extra xs) (need-append xs ys)

extra_step : (k : TokenKind) (n a m e f g : ℕ) → n ≡ a + (m - e) → g ≡ f + (e - m) → extra_before k n g ≡ f + (extra_before k a e - m)
extra_step kinds.Opening n a m e f g is more = omega arith
extra_step kinds.Closing n a m e f g is more = omega arith
extra_step kinds.Name n a m e f g is more = omega arith
extra_step kinds.Register n a m e f g is more = omega arith
extra_step (kinds.Number v) n a m e f g is more = omega arith

pub extra-append : (xs ys : List Token) → extra (xs ++ ys) ≡ extra ys + (extra xs - need ys)
extra-append [] ys = omega arith
extra-append (x ∷ xs) ys =
    extra_step x.kind (need (xs ++ ys)) (need xs) (need ys) (extra xs) (extra ys) (extra (xs ++ ys)) (need-append xs ys) (extra-append xs ys)

peak_step : (k : TokenKind) (p q a e r : ℕ) → p ≡ max q ((e + r) - a) → peak_before k p ≡ max (peak_before k q) ((extra_before k a e + r) - need_before k a)
peak_step kinds.Opening p q a e r is = omega arith
peak_step kinds.Closing p q a e r is = omega arith
peak_step kinds.Name p q a e r is = omega arith
peak_step kinds.Register p q a e r is = omega arith
peak_step (kinds.Number v) p q a e r is = omega arith

pub peak-append : (xs ys : List Token) → peak (xs ++ ys) ≡ max (peak xs) ((extra xs + peak ys) - need xs)
peak-append [] ys = omega arith
peak-append (x ∷ xs) ys =
    peak_step x.kind (peak (xs ++ ys)) (peak xs) (need xs) (extra xs) (peak ys) (peak-append xs ys)

-- one token more at the front
pub need-opening : (o : Token) (xs : List Token) → o.kind ≡ kinds.Opening → need (o ∷ xs) ≡ need xs - 1
need-opening o xs is = ap (λ k. need_before k (need xs)) is

pub extra-opening : (o : Token) (xs : List Token) → o.kind ≡ kinds.Opening → extra (o ∷ xs) ≡ extra xs + (1 - need xs)
extra-opening o xs is = ap (λ k. extra_before k (need xs) (extra xs)) is

pub peak-opening : (o : Token) (xs : List Token) → o.kind ≡ kinds.Opening → peak (o ∷ xs) ≡ peak xs + 1
peak-opening o xs is = ap (λ k. peak_before k (peak xs)) is

pub need-closing : (c : Token) (xs : List Token) → c.kind ≡ kinds.Closing → need (c ∷ xs) ≡ need xs + 1
need-closing c xs is = ap (λ k. need_before k (need xs)) is

pub extra-closing : (c : Token) (xs : List Token) → c.kind ≡ kinds.Closing → extra (c ∷ xs) ≡ extra xs
extra-closing c xs is = ap (λ k. extra_before k (need xs) (extra xs)) is

pub peak-closing : (c : Token) (xs : List Token) → c.kind ≡ kinds.Closing → peak (c ∷ xs) ≡ peak xs - 1
peak-closing c xs is = ap (λ k. peak_before k (peak xs)) is

-- what tokens leave open
pub record HasLevels (xs : List Token) (level top : ℕ) : Type 0 where
  pub needs : need xs ≡ 0
  pub extras : extra xs ≡ level
  pub peaks : peak xs ≡ top

atom_levels : (k : TokenKind) → IsAtom k → (need_before k 0 ≡ 0) × (extra_before k 0 0 ≡ 0) × (peak_before k 0 ≡ 0)
atom_levels k name = (refl, refl, refl)
atom_levels k register = (refl, refl, refl)
atom_levels k number = (refl, refl, refl)

one_level : (token : Token) → IsAtom token.kind → HasLevels (token ∷ []) 0 0
one_level token is = let levels = atom_levels token.kind is in record { needs = levels.0; extras = levels.1; peaks = levels.2 }

between : (o c : Token) (inner : List Token) (top : ℕ) → o.kind ≡ kinds.Opening → c.kind ≡ kinds.Closing → HasLevels inner 0 top → HasLevels (o ∷ inner ++ c ∷ []) 0 (1 + top)
between o c inner top opens closes levels =
    let n : need (inner ++ c ∷ []) ≡ 1 = omega (arith, need-append inner (c ∷ []), need-closing c [] closes, levels.needs, levels.extras) in
    let e : extra (inner ++ c ∷ []) ≡ 0 = omega (arith, extra-append inner (c ∷ []), need-closing c [] closes, extra-closing c [] closes, levels.extras) in
    let p : peak (inner ++ c ∷ []) ≡ top = omega (arith, peak-append inner (c ∷ []), peak-closing c [] closes, levels.needs, levels.extras, levels.peaks) in
    record {
      needs = omega (arith, need-opening o (inner ++ c ∷ []) opens, n);
      extras = omega (arith, extra-opening o (inner ++ c ∷ []) opens, n, e);
      peaks = omega (arith, peak-opening o (inner ++ c ∷ []) opens, p);
    }

both : (xs ys : List Token) (m n : ℕ) → HasLevels xs 0 m → HasLevels ys 0 n → HasLevels (xs ++ ys) 0 (max m n)
both xs ys m n one two = record {
  needs = omega (arith, need-append xs ys, one.needs, two.needs);
  extras = omega (arith, extra-append xs ys, one.extras, two.extras);
  peaks = omega (arith, peak-append xs ys, one.needs, one.extras, one.peaks, two.peaks);
}

mutual
  tree_levels : (tree : SexpTree) (xs : List Token) → Spells tree xs → HasLevels xs 0 (depth tree)
  tree_levels tree xs (as_atom {token = token} is same) = subst (λ ys. HasLevels ys 0 0) (sym same) (one_level token is)
  tree_levels tree xs (as_list {parts = parts} o c inner opens place each closes same) =
      subst (λ ys. HasLevels ys 0 (1 + most_depth parts)) (sym same) (between o c inner (most_depth parts) opens closes (spelled_levels parts inner each))

  -- tokens that spell trees leave nothing open, and their peak is the depth of the trees
  pub spelled_levels : (trees : SexpTrees) (xs : List Token) → SpellAll trees xs → HasLevels xs 0 (most_depth trees)
  spelled_levels trees xs no_more = record { needs = refl; extras = refl; peaks = refl }
  spelled_levels trees xs (one_more {tree = tree} {trees = rest} front back one others same) =
      subst (λ ys. HasLevels ys 0 (max (depth tree) (most_depth rest))) (sym same) (both front back (depth tree) (most_depth rest) (tree_levels tree front one) (spelled_levels rest back others))

open_levels : (frames : List Frame) (xs : List Token) → AreOpen frames xs → (need xs ≡ 0) × (extra xs ≡ length frames)
open_levels frames xs closed = (refl, refl)
open_levels frames xs (within {frame = frame} {frames = more} front o behind spelled opens place others same) =
    let levels = spelled_levels (all_of frame.before) front spelled in
    let rest = open_levels more behind others in (
      omega (arith, ap need same, need-append front (o ∷ behind), need-opening o behind opens, levels.needs, rest.0),
      omega (arith, ap extra same, extra-append front (o ∷ behind), extra-opening o behind opens, levels.extras, rest.0, rest.1),
    )

pub built_levels : (frames : List Frame) (parts : List SexpTree) (xs : List Token) → AreOpenLists frames parts xs → (need xs ≡ 0) × (extra xs ≡ length frames)
built_levels frames parts xs built =
    let lists = open_levels frames built.front built.lists in
    let levels = spelled_levels (all_of parts) built.back built.spelled in (
      omega (arith, ap need built.whole, need-append built.front built.back, levels.needs, lists.0),
      omega (arith, ap extra built.whole, extra-append built.front built.back, levels.needs, levels.extras, lists.1),
    )

-- what the definitions of partners say of the levels
pub inside_extra : (n : ℕ) (xs : List Token) → IsInside n xs → n ≤ extra xs
inside_extra n xs outside = omega arith
inside_extra n xs (inside {n = m} opened more) =
    let levels = spelled_levels opened.balanced.trees opened.inner opened.balanced.spelled in
    let rest = inside_extra m opened.front more in
    omega (arith, ap extra opened.whole, extra-append opened.front (opened.opening ∷ opened.inner), extra-opening opened.opening opened.inner opened.opens, need-opening opened.opening opened.inner opened.opens, levels.needs, levels.extras, rest)

pub not_opened : (xs : List Token) → extra xs ≡ 0 → HasOpening xs → ⊥
not_opened xs none opened =
    let levels = spelled_levels opened.balanced.trees opened.inner opened.balanced.spelled in
    omega (arith, ap extra opened.whole, extra-append opened.front (opened.opening ∷ opened.inner), extra-opening opened.opening opened.inner opened.opens, levels.needs, levels.extras)

pub not_closed : (xs : List Token) → need xs ≡ 0 → HasClosing xs → ⊥
not_closed xs none found =
    let levels = spelled_levels found.balanced.trees found.inner found.balanced.spelled in
    omega (arith, ap need found.whole, need-append found.inner (found.closing ∷ found.rest), need-closing found.closing found.rest found.closes, levels.extras)

height_step : (k : TokenKind) (e n p : ℕ) → e ≤ p + n → extra_before k n e ≤ peak_before k p + need_before k n
height_step kinds.Opening e n p low = omega arith
height_step kinds.Closing e n p low = omega arith
height_step kinds.Name e n p low = omega arith
height_step kinds.Register e n p low = omega arith
height_step (kinds.Number v) e n p low = omega arith

-- what stands open in the end stood open at once
pub extra_peak : (xs : List Token) → extra xs ≤ peak xs + need xs
extra_peak [] = omega arith
extra_peak (x ∷ xs) = height_step x.kind (extra xs) (need xs) (peak xs) (extra_peak xs)

-- one token more, where none or few enough stand open
pub peak_more : (xs : List Token) (t : Token) → need xs ≡ 0 → peak xs ≤ 64 → (peak_before t.kind 0) + extra xs ≤ 64 → peak (xs ++ t ∷ []) ≤ 64
peak_more xs t needs low fits = omega (arith, peak-append xs (t ∷ []), needs)
