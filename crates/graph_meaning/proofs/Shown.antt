-- What rows show of a class: at most 3, and no more where more stands of the operands.
use Rattle.std.proofs.Common.{◌≡◌, ℕ, suc, ◌+◌, ◌%◌, ◌≤◌, List, [], ◌∷◌, refl, ◌∙◌, ap, subst, arith, Bool, true, false, cond, Option, Some, None}
use Rattle.std.specs.Prelude.{All, Contains, ◌==◌, slice_index}
use Rattle.std.specs.Option.{option_map_or}
use Rattle.word_ops.specs.Meanings.{constant_in}
use Rattle.word_ops.specs.declared.operates.Operate.{Operate as OperateOf}
use Rattle.word_ops.specs.declared.operates.Operate.TheVariants.{Addq, Subq, And, Bic, Bis, Xor, Zap, Zapnot, Sll, S4addq, S4subq, S8addq, S8subq, Mulq}
use Rattle.word_ops.specs.declared.operators.WordOp.{WordOp}
use Rattle.word_ops.specs.declared.operators.WordOp.TheVariants.{Operate, Neg, Lda, Ldah}
use Rattle.word_ops.specs.declared.sorts.Op.{Op}
use Rattle.word_ops.specs.declared.sorts.Op.TheVariants.{Constant, Word}
use Rattle.graph_meaning.specs.Graphs.{constant_among}
use Rattle.graph_meaning.specs.Multiples.{low_zeros, low_ones, operate_multiple, pair_multiple, HasRow, IsShown, IsMultiple}
use Rattle.graph_meaning.specs.Multiples.IsShown.{by_nothing, by_constant, by_negation, by_operands, by_mask, by_mask_before}
use Rattle.graph_meaning.specs.Raising.{negated, said, row_says, IsMasked}
use Rattle.graph_meaning.specs.declared.graphs.LaunchRow.{LaunchRow}

-- ---- at most 3

cond_few : (b : Bool) (m n : ℕ) → m ≤ 3 → n ≤ 3 → cond b m n ≤ 3
cond_few true m n h g = h
cond_few false m n h g = g

pub zeros_few : (w : ℕ) → low_zeros w ≤ 3
zeros_few w =
    let two : cond {A = ℕ} (w % 2 == 0) 1 0 ≤ 3 = cond_few (w % 2 == 0) 1 0 (omega arith) (omega arith) in
    let four : cond (w % 4 == 0) 2 (cond (w % 2 == 0) 1 0) ≤ 3 =
    cond_few (w % 4 == 0) 2 (cond (w % 2 == 0) 1 0) (omega arith) two in
    cond_few (w % 8 == 0) 3 (cond (w % 4 == 0) 2 (cond (w % 2 == 0) 1 0)) (omega arith) four

pub ones_few : (w : ℕ) → low_ones w ≤ 3
ones_few w = zeros_few (w + 1)

nothing : 0 ≤ 3
nothing = omega arith

operate_few : (op : OperateOf) (k : Option ℕ) (a b : ℕ) → a ≤ 3 → b ≤ 3 → operate_multiple op k a b ≤ 3
operate_few Addq k a b h g = omega arith
operate_few Subq k a b h g = omega arith
operate_few Bis k a b h g = omega arith
operate_few Xor k a b h g = omega arith
operate_few And k a b h g = omega arith
operate_few Bic (Some k) a b h g = let o : low_ones k ≤ 3 = ones_few k in omega arith
operate_few Bic None a b h g = nothing
operate_few Zapnot (Some k) a b h g = cond_few (k % 2 == 0) 3 a (omega arith) h
operate_few Zapnot None a b h g = nothing
operate_few Zap (Some k) a b h g = cond_few (k % 2 == 0) a 3 h (omega arith)
operate_few Zap None a b h g = nothing
operate_few Sll (Some k) a b h g = omega arith
operate_few Sll None a b h g = nothing
operate_few S4addq k a b h g = omega arith
operate_few S4subq k a b h g = omega arith
operate_few S8addq k a b h g = omega arith
operate_few S8subq k a b h g = omega arith
operate_few Mulq k a b h g = omega arith
operate_few _ k a b h g = nothing

word_few : (op : WordOp) (k : Option ℕ) (a b : ℕ) → a ≤ 3 → b ≤ 3 → pair_multiple (Word op) k a b ≤ 3
word_few (Operate op) k a b h g = operate_few op k a b h g
word_few Lda k a b h g = omega arith
word_few Ldah k a b h g = h
word_few _ k a b h g = nothing

pair_few : (o : Op) (k : Option ℕ) (a b : ℕ) → a ≤ 3 → b ≤ 3 → pair_multiple o k a b ≤ 3
pair_few (Word op) k a b h g = word_few op k a b h g
pair_few _ k a b h g = nothing

pub few : (rows : List LaunchRow) {class n : ℕ} → IsShown rows class n → n ≤ 3
few rows by_nothing = nothing
few rows (by_constant w h) = zeros_few w
few rows (by_negation h s) = few rows s
few rows (by_operands {y = y} {a = a} {b = b} o h s t) = pair_few o (constant_among rows y) a b (few rows s)
    (few rows t)
few rows (by_mask {k = k} h z c) = ones_few k
few rows (by_mask_before {k = k} h z c) = ones_few k

-- ---- no less where more stands of the operands

cond_more : (t : Bool) (m n m' n' : ℕ) → m ≤ m' → n ≤ n' → cond t m n ≤ cond t m' n'
cond_more true m n m' n' h g = h
cond_more false m n m' n' h g = g

none_more : 0 ≤ 0
none_more = omega arith

operate_more : (op : OperateOf) (k : Option ℕ) (a b a' b' : ℕ) → a ≤ a' → b ≤ b'
    → operate_multiple op k a b ≤ operate_multiple op k a' b'
operate_more Addq k a b a' b' h g = omega arith
operate_more Subq k a b a' b' h g = omega arith
operate_more Bis k a b a' b' h g = omega arith
operate_more Xor k a b a' b' h g = omega arith
operate_more And k a b a' b' h g = omega arith
operate_more Bic (Some k) a b a' b' h g = omega arith
operate_more Bic None a b a' b' h g = none_more
operate_more Zapnot (Some k) a b a' b' h g = cond_more (k % 2 == 0) 3 a 3 a' (omega arith) h
operate_more Zapnot None a b a' b' h g = none_more
operate_more Zap (Some k) a b a' b' h g = cond_more (k % 2 == 0) a 3 a' 3 h (omega arith)
operate_more Zap None a b a' b' h g = none_more
operate_more Sll (Some k) a b a' b' h g = omega arith
operate_more Sll None a b a' b' h g = none_more
operate_more S4addq k a b a' b' h g = omega arith
operate_more S4subq k a b a' b' h g = omega arith
operate_more S8addq k a b a' b' h g = omega arith
operate_more S8subq k a b a' b' h g = omega arith
operate_more Mulq k a b a' b' h g = omega arith
operate_more _ k a b a' b' h g = none_more

word_more : (op : WordOp) (k : Option ℕ) (a b a' b' : ℕ) → a ≤ a' → b ≤ b'
    → pair_multiple (Word op) k a b ≤ pair_multiple (Word op) k a' b'
word_more (Operate op) k a b a' b' h g = operate_more op k a b a' b' h g
word_more Lda k a b a' b' h g = omega arith
word_more Ldah k a b a' b' h g = h
word_more _ k a b a' b' h g = none_more

pair_more : (o : Op) (k : Option ℕ) (a b a' b' : ℕ) → a ≤ a' → b ≤ b' → pair_multiple o k a b ≤ pair_multiple o k a' b'
pair_more (Word op) k a b a' b' h g = word_more op k a b a' b' h g
pair_more _ k a b a' b' h g = none_more

-- ---- what a row says is shown

pub here : (x : ℕ) (xs : List ℕ) → Contains (x ∷ xs) x
here x xs = (0, omega arith, refl)

pub there : (y x : ℕ) (xs : List ℕ) → Contains xs x → Contains (y ∷ xs) x
there y x xs h = (suc h.0, (let l = h.1 in omega arith), h.2)

module _ (rows : List LaunchRow) (class : ℕ) where
  zeros_shown : (o : Op) → HasRow rows class o [] → IsShown rows class (option_map_or low_zeros (constant_in o) 0)
  zeros_shown (Constant w) h = by_constant w h
  zeros_shown _ h = by_nothing

  word_negated : (op : WordOp) (x a : ℕ) → HasRow rows class (Word op) (x ∷ []) → IsShown rows x a
      → IsShown rows class (negated (Word op) a)
  word_negated Neg x a h s = by_negation h s
  word_negated _ x a h s = by_nothing

  negated_shown : (o : Op) (x a : ℕ) → HasRow rows class o (x ∷ []) → IsShown rows x a
      → IsShown rows class (negated o a)
  negated_shown (Word op) x a h s = word_negated op x a h s
  negated_shown _ x a h s = by_nothing

  pub said_shown : (o : Op) (stands : ℕ → ℕ) (xs : List ℕ) → HasRow rows class o xs
      → ((c : ℕ) → Contains xs c → IsShown rows c (stands c))
      → IsShown rows class (said o (constant_among rows) stands xs)
  said_shown o stands [] h s = zeros_shown o h
  said_shown o stands (x ∷ []) h s = negated_shown o x (stands x) h (s x (here x []))
  said_shown o stands (x ∷ y ∷ []) h s =
      by_operands o h (s x (here x (y ∷ []))) (s y (there x y (y ∷ []) (here y [])))
  said_shown o stands (x ∷ y ∷ z ∷ xs) h s = by_nothing

-- ---- where each row says no more than what stands, no more is shown

pub at_row : (P : LaunchRow → Type 0) (rows : List LaunchRow) (row : LaunchRow) → All P rows → Contains rows row → P row
at_row P rows row all h = subst P h.2 (all h.0 row h.1)

module _ (rows : List LaunchRow) (stands : List ℕ)
    (says : All (λ r. row_says rows stands r ≤ slice_index stands r.class) rows)
    (masked : All (IsMasked rows stands) rows) where
  says_at : (class : ℕ) (o : Op) (xs : List ℕ) → HasRow rows class o xs
      → said o (constant_among rows) (slice_index stands) xs ≤ slice_index stands class
  says_at class o xs h =
      let a : row_says rows stands h.0 ≤ slice_index stands h.0.class =
      at_row (λ r. row_says rows stands r ≤ slice_index stands r.class) rows h.0 says h.1 in
      let K = constant_among rows in
      subst (λ c. said o K (slice_index stands) xs ≤ slice_index stands c) h.2
      (subst (λ ys. said o K (slice_index stands) ys ≤ slice_index stands h.0.class) h.4
      (subst (λ p. said p K (slice_index stands) h.0.operands ≤ slice_index stands h.0.class) h.3 a))

  masked_at : (class x y : ℕ) → HasRow rows class (Word (Operate And)) (x ∷ y ∷ []) → constant_among rows class ≡ Some 0
      → ((k : ℕ) → constant_among rows y ≡ Some k → low_ones k ≤ slice_index stands x)
      × ((k : ℕ) → constant_among rows x ≡ Some k → low_ones k ≤ slice_index stands y)
  masked_at class x y h z =
      at_row (IsMasked rows stands) rows h.0 masked h.1 x y h.3 h.4 (ap (constant_among rows) h.2 ∙ z)

  pub most : {class n : ℕ} → IsShown rows class n → n ≤ slice_index stands class
  most by_nothing = omega arith
  most (by_constant {class} w h) = says_at class (Constant w) [] h
  most (by_negation {class} {x} h s) =
      let a = most s in let b : slice_index stands x ≤ slice_index stands class = says_at class (Word Neg)
      (x ∷ []) h in omega arith
  most (by_operands {class} {x} {y} {a} {b} o h s t) =
      let K = constant_among rows y in
      let m : pair_multiple o K a b ≤ pair_multiple o K (slice_index stands x) (slice_index stands y) =
      pair_more o K a b (slice_index stands x) (slice_index stands y) (most s) (most t) in
      let e : pair_multiple o K (slice_index stands x) (slice_index stands y) ≤ slice_index stands class =
      says_at class o (x ∷ y ∷ []) h in
      omega arith
  most (by_mask {class} {x} {y} {k} h z c) = (masked_at class x y h z).0 k c
  most (by_mask_before {class} {x} {y} {k} h z c) = (masked_at class y x h z).1 k c

pub one_multiple : (rows : List LaunchRow) (class m n : ℕ) → IsMultiple rows class m → IsMultiple rows class n → m ≡ n
one_multiple rows class m n a b =
    let x : m ≤ n = b.most m a.shown in let y : n ≤ m = a.most n b.shown in omega arith
