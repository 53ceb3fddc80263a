-- What rows show of a class, the rows of a graph that is alike show of its class there.
use Rattle.std.proofs.Common.{◌≡◌, ℕ, zero, suc, ◌<◌, List, [], ◌∷◌, Option, Some, None, length, map, get_or, refl, sym, ◌∙◌, ap, subst, inl, inr, arith}
use Rattle.std.specs.Prelude.{Contains, if◌then◌else◌}
use Rattle.std.proofs.lemmas.List.{get_or-map, length-map}
use Rattle.std.proofs.lemmas.Bool.Decides.{eqb_tells}
use Rattle.std.specs.List.{AllZip}
use Rattle.std.specs.Option.{option_or}
use Rattle.word_ops.specs.Meanings.{constant_in}
use Rattle.word_ops.specs.declared.operates.Operate.TheVariants.{And}
use Rattle.word_ops.specs.declared.operators.WordOp.TheVariants.{Operate, Neg}
use Rattle.word_ops.specs.declared.sorts.Op.{Op}
use Rattle.word_ops.specs.declared.sorts.Op.TheVariants.{Constant, Word}
use Rattle.word_terms.specs.Keys.{op_signature}
use Rattle.word_terms.specs.Tree.{Tree}
use Rattle.egraph.specs.Graph.{Graph, IsGraph}
use Rattle.egraph.specs.declared.rows.Row.{Row}
use Rattle.graph_meaning.specs.Graphs.{constant_among, plain_row}
use Rattle.graph_meaning.specs.Multiples.{HasRow, IsShown, low_ones, pair_multiple, by_constant, by_mask, by_mask_before, by_negation, by_nothing, by_operands}
use Rattle.graph_meaning.specs.declared.graphs.LaunchRow.{LaunchRow}
use Rattle.saturation.specs.Alike.{AreAlike, AreOfOneTerm}
use Rattle.code_check.specs.Same.{HaveSameClass, IsMultipleTerm, rows_of}

abbrev shown_row : Row Op → LaunchRow
shown_row r = plain_row r.class r.op r.operands

-- ---- rows and their pictures

some_at : {X : Type 0} (xs : List X) (k : ℕ) → k < length xs → (x : X) × (get_or xs k x ≡ x)
some_at [] k h = absurd (omega arith)
some_at (x ∷ xs) zero h = (x, refl)
some_at (x ∷ xs) (suc k) h = some_at xs k (omega arith)

row_there : (rs : List (Row Op)) (r : Row Op) → Contains rs r → Contains (map shown_row rs) (shown_row r)
row_there rs r h = (h.0, omega (arith, length-map rs shown_row, h.1), get_or-map shown_row rs h.0 r (shown_row r) h.1 ∙ ap shown_row h.2)

row_from : (rs : List (Row Op)) (row : LaunchRow) → Contains (map shown_row rs) row → (r : Row Op) × Contains rs r × (row ≡ shown_row r)
row_from rs row h =
    let l : h.0 < length rs = omega (arith, length-map rs shown_row, h.1) in
    let s = some_at rs h.0 l in
    (s.0, (h.0, l, s.1), sym h.2 ∙ get_or-map shown_row rs h.0 s.0 row l ∙ ap shown_row s.1)

has_row : (h : Graph Op) (s : Row Op) (d : ℕ) (o : Op) (ys : List ℕ) → Contains h.rows s → s.class ≡ d → s.op ≡ o → s.operands ≡ ys → HasRow (rows_of h) d o ys
has_row h s d o ys there class op operands = (shown_row s, row_there h.rows s there, class, op, operands)

-- ---- the constant of a class

abbrev among : List (Row Op) → ℕ → Option ℕ
among rs c = constant_among (map shown_row rs) c

-- a row of some class that is a constant
abbrev IsConstantIn : List (Row Op) → ℕ → ℕ → Type 0
IsConstantIn rs c n = (r : Row Op) × Contains rs r × (r.class ≡ c) × (constant_in r.op ≡ Some n)

constant_later : (r : Row Op) (rs : List (Row Op)) (c n : ℕ) → IsConstantIn rs c n → IsConstantIn (r ∷ rs) c n
constant_later r rs c n t = (t.0, (suc t.1.0, (let l = t.1.1 in omega (arith, l)), t.1.2), t.2, t.3)

constant_here : (r : Row Op) (rs : List (Row Op)) (c n : ℕ) → (among rs c ≡ Some n → IsConstantIn rs c n) → r.class ≡ c → (o : Option ℕ) → constant_in r.op ≡ o
    → option_or o (among rs c) ≡ Some n → IsConstantIn (r ∷ rs) c n
constant_here r rs c n more class None is f = constant_later r rs c n (more f)
constant_here r rs c n more class (Some m) is f = (r, (zero, omega arith, refl), class, is ∙ f)

constant_there : (rs : List (Row Op)) (c n : ℕ) → among rs c ≡ Some n → IsConstantIn rs c n
constant_there [] c n e = absurd (none e)
  where
    none : None ≡ Some n → ⊥
    none e = cc
constant_there (r ∷ rs) c n e = elim (eqb_tells r.class c) [
  | inl k ↦ constant_here r rs c n (λ f. constant_there rs c n f) k.1 (constant_in r.op) refl
      (sym (ap (λ b. if b then option_or (constant_in r.op) (among rs c) else among rs c) k.0) ∙ e)
  | inr k ↦ constant_later r rs c n (constant_there rs c n (sym (ap (λ b. if b then option_or (constant_in r.op) (among rs c) else among rs c) k.0) ∙ e))
]

constant_found : (rs : List (Row Op)) (c n : ℕ) (t : Row Op) → Contains rs t → t.class ≡ c → constant_in t.op ≡ Some n → (m : ℕ) × (among rs c ≡ Some m)
constant_found rs c n t there class is = at_place rs there.0 there.1 there.2
  where
    first : (r : Row Op) (rest : List (Row Op)) → (o : Option ℕ) → constant_in r.op ≡ o → r.class ≡ c → ((m : ℕ) × (among rest c ≡ Some m)) → (m : ℕ) × (among (r ∷ rest) c ≡ Some m)
    first r rest None e k more = elim (eqb_tells r.class c) [
      | inl b ↦ (more.0, ap (λ x. if x then option_or (constant_in r.op) (among rest c) else among rest c) b.0 ∙ ap (λ o. option_or o (among rest c)) e ∙ more.1)
      | inr b ↦ absurd (b.1 k)
    ]
    first r rest (Some m) e k more = elim (eqb_tells r.class c) [
      | inl b ↦ (m, ap (λ x. if x then option_or (constant_in r.op) (among rest c) else among rest c) b.0 ∙ ap (λ o. option_or o (among rest c)) e)
      | inr b ↦ absurd (b.1 k)
    ]

    at_place : (rs : List (Row Op)) (k : ℕ) → k < length rs → get_or rs k t ≡ t → (m : ℕ) × (among rs c ≡ Some m)
    at_place [] k l e = absurd (omega (arith, l))
    at_place (r ∷ rest) zero l e = elim (eqb_tells r.class c) [
      | inl b ↦ (n, ap (λ x. if x then option_or (constant_in r.op) (among rest c) else among rest c) b.0 ∙ ap (λ o. option_or o (among rest c)) (ap (λ (x : Row Op). constant_in x.op) e ∙ is))
      | inr b ↦ absurd (b.1 (ap (λ (x : Row Op). x.class) e ∙ class))
    ]
    at_place (r ∷ rest) (suc k) l e =
        let more = at_place rest k (omega (arith, l)) e in
        elim (eqb_tells r.class c) [
          | inl b ↦ first r rest (constant_in r.op) refl b.1 more
          | inr b ↦ (more.0, ap (λ x. if x then option_or (constant_in r.op) (among rest c) else among rest c) b.0 ∙ more.1)
        ]

same_some : (m n : ℕ) → m ≡ n → Some m ≡ Some n
same_some m n e = ap Some e

no_some : (n : ℕ) → None ≡ Some n → ⊥
no_some n e = cc

module _ (g h : Graph Op) (is_g : IsGraph op_signature g) (is_h : IsGraph op_signature h) (alike : AreAlike g h) where
  abbrev R : ℕ → ℕ → Type 0
  R c d = AreOfOneTerm g h c d

  swapped : (c d : ℕ) → AreOfOneTerm h g d c → R c d
  swapped c d k = record { term = k.term; first = k.second; second = k.first }

  const_forth : (c d n : ℕ) → R c d → among g.rows c ≡ Some n → among h.rows d ≡ Some n
  const_forth c d n rel e =
      let a = constant_there g.rows c n e in
      let s = alike.rows a.0 a.1 in
      let class : s.0.class ≡ d = alike.forth c s.0.class d (subst (λ k. R k s.0.class) a.2 s.3) rel in
      let is : constant_in s.0.op ≡ Some n = ap constant_in s.2 ∙ a.3 in
      let f = constant_found h.rows d n s.0 s.1 class is in
      let t = constant_there h.rows d f.0 f.1 in
      let same : f.0 ≡ n = is_h.constants d f.0 n (record { row = t.0; there = t.1; of_class = t.2; is = t.3 }) (record { row = s.0; there = s.1; of_class = class; is = is }) in
      f.1 ∙ same_some f.0 n same

  const_back : (c d n : ℕ) → R c d → among h.rows d ≡ Some n → (m : ℕ) × (among g.rows c ≡ Some m)
  const_back c d n rel e =
      let a = constant_there h.rows d n e in
      let s = alike.back a.0 a.1 in
      let class : s.0.class ≡ c = alike.one s.0.class c d (swapped s.0.class d (subst (λ k. AreOfOneTerm h g k s.0.class) a.2 s.3)) rel in
      constant_found g.rows c n s.0 s.1 class (ap constant_in s.2 ∙ a.3)

  const_same : (c d : ℕ) → R c d → among g.rows c ≡ among h.rows d
  const_same c d rel = by (among g.rows c) refl (among h.rows d) refl
    where
      by : (o : Option ℕ) → among g.rows c ≡ o → (p : Option ℕ) → among h.rows d ≡ p → o ≡ p
      by (Some n) e p f = sym (const_forth c d n rel e) ∙ f
      by None e None f = refl
      by None e (Some n) f = absurd (let b = const_back c d n rel f in no_some b.0 (sym e ∙ b.1))

  -- a row of the one is a row of the other
  row_kept : (c : ℕ) (o : Op) (xs : List ℕ) → HasRow (rows_of g) c o xs → (d : ℕ) × (ys : List ℕ) × HasRow (rows_of h) d o ys × R c d × AllZip R xs ys
  row_kept c o xs k =
      let r = row_from g.rows k.0 k.1 in
      let s = alike.rows r.0 r.1 in
      let class : r.0.class ≡ c = ap (λ (x : LaunchRow). x.class) (sym r.2) ∙ k.2 in
      let op : r.0.op ≡ o = ap (λ (x : LaunchRow). x.op) (sym r.2) ∙ k.3 in
      let operands : r.0.operands ≡ xs = ap (λ (x : LaunchRow). x.operands) (sym r.2) ∙ k.4 in (
        s.0.class,
        s.0.operands,
        has_row h s.0 s.0.class o s.0.operands s.1 refl (s.2 ∙ op) refl,
        subst (λ n. R n s.0.class) class s.3,
        subst (λ ns. AllZip R ns s.0.operands) operands s.4,
      )

  none_over : (ys : List ℕ) → AllZip R [] ys → ys ≡ []
  none_over [] z = refl
  none_over (y ∷ ys) z = absurd z

  one_over : (x : ℕ) (ys : List ℕ) → AllZip R (x ∷ []) ys → (y : ℕ) × (ys ≡ y ∷ []) × R x y
  one_over x [] z = absurd z
  one_over x (y ∷ ys) z = (y, ap (λ zs. y ∷ zs) (none_over ys z.1), z.0)

  two_over : (w x : ℕ) (ys : List ℕ) → AllZip R (w ∷ x ∷ []) ys → (v : ℕ) × (y : ℕ) × (ys ≡ v ∷ y ∷ []) × R w v × R x y
  two_over w x [] z = absurd z
  two_over w x (y ∷ ys) z = (let k = one_over x ys z.1 in (y, k.0, ap (λ zs. y ∷ zs) k.1, z.0, k.2))

  moved : (c : ℕ) (o : Op) (ys : List ℕ) (e d : ℕ) → R c e → R c d → HasRow (rows_of h) e o ys → HasRow (rows_of h) d o ys
  moved c o ys e d one two k = subst (λ n. HasRow (rows_of h) n o ys) (alike.forth c e d one two) k

  -- what rows show of a class they show of the other's
  shown_kept : {c n : ℕ} → IsShown (rows_of g) c n → (d : ℕ) → R c d → IsShown (rows_of h) d n
  shown_kept by_nothing d rel = by_nothing
  shown_kept (by_constant {class = c} w k) d rel =
      let r = row_kept c (Constant w) [] k in
      by_constant w (moved c (Constant w) [] r.0 d r.3 rel (subst (HasRow (rows_of h) r.0 (Constant w)) (none_over r.1 r.4) r.2))
  shown_kept (by_negation {class = c} {x = x} k s) d rel =
      let r = row_kept c (Word Neg) (x ∷ []) k in
      let y = one_over x r.1 r.4 in
      by_negation (moved c (Word Neg) (y.0 ∷ []) r.0 d r.3 rel (subst (HasRow (rows_of h) r.0 (Word Neg)) y.1 r.2)) (shown_kept s y.0 y.2)
  shown_kept (by_operands {class = c} {x = x} {y = y} {a = a} {b = b} o k s t) d rel =
      let r = row_kept c o (x ∷ y ∷ []) k in
      let z = two_over x y r.1 r.4 in
      subst (λ q. IsShown (rows_of h) d (pair_multiple o q a b)) (sym (const_same y z.1 z.4))
      (by_operands o (moved c o (z.0 ∷ z.1 ∷ []) r.0 d r.3 rel (subst (HasRow (rows_of h) r.0 o) z.2 r.2)) (shown_kept s z.0 z.3) (shown_kept t z.1 z.4))
  shown_kept (by_mask {class = c} {x = x} {y = y} {k = n} k is_zero is) d rel =
      let r = row_kept c (Word (Operate And)) (x ∷ y ∷ []) k in
      let z = two_over x y r.1 r.4 in
      subst (λ m. IsShown (rows_of h) m (low_ones n)) (alike.forth x z.0 d z.3 rel)
      (by_mask (subst (HasRow (rows_of h) r.0 (Word (Operate And))) z.2 r.2) (const_forth c r.0 0 r.3 is_zero) (const_forth y z.1 n z.4 is))
  shown_kept (by_mask_before {class = c} {x = x} {y = y} {k = n} k is_zero is) d rel =
      let r = row_kept c (Word (Operate And)) (y ∷ x ∷ []) k in
      let z = two_over y x r.1 r.4 in
      subst (λ m. IsShown (rows_of h) m (low_ones n)) (alike.forth x z.1 d z.4 rel)
      (by_mask_before (subst (HasRow (rows_of h) r.0 (Word (Operate And))) z.2 r.2) (const_forth c r.0 0 r.3 is_zero) (const_forth y z.0 n z.3 is))

  -- a term's address is the same multiple in both
  pub multiple_kept : ((t : Tree Op) → HaveSameClass g t t → HaveSameClass h t t) → (t : Tree Op) (n : ℕ) → IsMultipleTerm g t n → IsMultipleTerm h t n
  multiple_kept present t n m =
      let k = present t (record { class = m.class; first = m.is; second = m.is }) in
      record {
        class = k.class;
        is = k.first;
        power = m.power;
        enough = m.enough;
        shown = shown_kept m.shown k.class (record { term = t; first = m.is; second = k.first });
      }
