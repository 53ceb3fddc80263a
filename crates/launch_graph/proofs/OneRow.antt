-- The words of a line are one row.
use Rattle.std.proofs.Common.{◌≡◌, ℕ, ◌<◌, ◌^◌, List, [], ◌∷◌, ◌++◌, map, refl, sym, ap, ◌∙◌, arith, decimal, codes, find}
use Rattle.std.specs.Prelude.{bytes_eq, All}
use Rattle.std.specs.Option.{unwrap_or}
use Rattle.std.proofs.lemmas.List.Elements.{All-head, All-tail}
use Rattle.std.proofs.lemmas.Fmt.{decimal_injective}
use Rattle.word_ops.specs.Names.{name_of}
use Rattle.word_ops.specs.declared.operators.WordOp.{WordOp}
use Rattle.word_ops.specs.declared.operates.Operate.TheVariants.{Addl}
use Rattle.word_ops.specs.declared.operators.WordOp.TheVariants.{Operate, Neg}
use Rattle.word_ops.specs.declared.sorts.Access.TheVariants as accesses
use Rattle.word_ops.specs.declared.sorts.Arity.TheVariants.{One}
use Rattle.word_ops.specs.declared.sorts.Op.{Op}
use Rattle.word_ops.specs.declared.sorts.Op.TheVariants.{Entry, Input, Constant, Word, Select, Store, Load, Put, Declared}
use Rattle.text_core.specs.LineTexts.{Words}
use Rattle.launch_graph.specs.declared.row_lines.LineOp.{LineOp}
use Rattle.launch_graph.specs.declared.row_lines.LineOp.TheVariants.{Plain, Use, Unknown}
use Rattle.launch_graph.specs.declared.row_lines.RowLine.{RowLine}
use Rattle.launch_graph.specs.RowLines.{op_word, argument_words, line_op_words, row_words, IsLineOp, IsRowLine}

abbrev Small : ℕ → Type 0
Small n = n < 2 ^ 31

same_numbers : (ms ns : List ℕ) → All Small ms → All Small ns → map decimal ms ≡ map decimal ns → ms ≡ ns
same_numbers [] [] a b e = refl
same_numbers [] (n ∷ ns) a b e = cc
same_numbers (m ∷ ms) [] a b e = cc
same_numbers (m ∷ ms) (n ∷ ns) a b e =
    let small = All-head Small m ms a in
    let less = All-head Small n ns b in
    let head : m ≡ n = decimal_injective m n (omega arith) (omega arith) (let first : decimal m ≡ decimal n = cc in first) in
    let tail = same_numbers ms ns (All-tail Small m ms a) (All-tail Small n ns b) (let rest : map decimal ms ≡ map decimal ns = cc in rest) in
    ap (λ k. k ∷ ms) head ∙ ap (λ (ks : List ℕ). n ∷ ks) tail

row_of : ℕ → LineOp → List ℕ → RowLine
row_of class op operands = record { class = class; op = op; operands = operands }

same_row : (a b : RowLine) → a.class ≡ b.class → a.op ≡ b.op → a.operands ≡ b.operands → a ≡ b
unfolding row_of
same_row a b e f g = ap (λ x. row_of x a.op a.operands) e ∙ ap (λ (x : LineOp). row_of b.class x a.operands) f ∙ ap (λ (x : List ℕ). row_of b.class b.op x) g

-- the operator without its argument, and one operator on words for each other
abbrev bare : Op → Op
bare (Input r) = Input 0
bare (Constant n) = Constant 0
bare (Word v) = Word Neg
bare (Declared i a) = Declared 0 One
bare o = o

-- an operator for each word that isn't the name of an operator on words
listed : List Op
listed =
    Entry ∷ Input 0 ∷ Constant 0 ∷ Select accesses.Quad ∷ Store accesses.Quad ∷ Load accesses.Quad
    ∷ Put accesses.Quad ∷ Select accesses.Byte ∷ Select accesses.Word ∷ Select accesses.Long ∷ Store accesses.Byte
    ∷ Store accesses.Word ∷ Store accesses.Long ∷ Load accesses.Byte ∷ Load accesses.Word ∷ Load accesses.Long
    ∷ Put accesses.Byte ∷ Put accesses.Word ∷ Put accesses.Long ∷ Declared 0 One ∷ []

named : List ℕ → Op
named word = unwrap_or (find (λ o. bytes_eq (op_word o) word) listed) (Word Neg)

named_back : (o : Op) → named (op_word o) ≡ bare o
unfolding listed named
named_back (Word (Operate Addl)) = refl
named_back (Word (Operate _)) = refl
named_back (Word _) = refl
named_back (Select accesses.Quad) = refl
named_back (Select accesses.Byte) = refl
named_back (Select accesses.Word) = refl
named_back (Select accesses.Long) = refl
named_back (Store accesses.Quad) = refl
named_back (Store accesses.Byte) = refl
named_back (Store accesses.Word) = refl
named_back (Store accesses.Long) = refl
named_back (Load accesses.Quad) = refl
named_back (Load accesses.Byte) = refl
named_back (Load accesses.Word) = refl
named_back (Load accesses.Long) = refl
named_back (Put accesses.Quad) = refl
named_back (Put accesses.Byte) = refl
named_back (Put accesses.Word) = refl
named_back (Put accesses.Long) = refl
named_back _ = refl

same_bare : (o p : Op) → op_word o ≡ op_word p → bare o ≡ bare p
same_bare o p e = sym (named_back o) ∙ ap named e ∙ named_back p

first_same : (x y : List ℕ) (xs ys : Words) → x ∷ xs ≡ y ∷ ys → x ≡ y
first_same x y xs ys e = cc

rest_same : (x y : List ℕ) (xs ys : Words) → x ∷ xs ≡ y ∷ ys → xs ≡ ys
rest_same x y xs ys e = cc

module _ (names : (o p : WordOp) → name_of o ≡ name_of p → o ≡ p) where
  same_plain : (o p : Op) (xs ys : Words) → IsLineOp (Plain o) → IsLineOp (Plain p) → bare o ≡ bare p
      → op_word o ∷ (argument_words o ++ xs) ≡ op_word p ∷ (argument_words p ++ ys) → (Plain o ≡ Plain p) × (xs ≡ ys)
  same_plain (Declared i a) p xs ys f g b e = absurd f
  same_plain o (Declared j b) xs ys f g b' e = absurd g
  same_plain (Input r) (Input q) xs ys f g b e =
      let behind = rest_same (codes "input") (codes "input") (decimal r ∷ xs) (decimal q ∷ ys) e in
      (ap (λ k. Plain (Input k)) (decimal_injective r q (omega arith) (omega arith) (first_same (decimal r) (decimal q) xs ys behind)), rest_same (decimal r) (decimal q) xs ys behind)
  same_plain (Constant n) (Constant m) xs ys f g b e =
      let behind = rest_same (codes "const") (codes "const") (decimal n ∷ xs) (decimal m ∷ ys) e in
      (ap (λ k. Plain (Constant k)) (decimal_injective n m f g (first_same (decimal n) (decimal m) xs ys behind)), rest_same (decimal n) (decimal m) xs ys behind)
  same_plain (Word v) (Word u) xs ys f g b e =
      (ap (λ k. Plain (Word k)) (names v u (first_same (name_of v) (name_of u) xs ys e)), rest_same (name_of v) (name_of u) xs ys e)
  same_plain Entry Entry xs ys f g b e = (refl, rest_same (op_word Entry) (op_word Entry) xs ys e)
  same_plain (Select a) (Select c) xs ys f g b e = (ap Plain b, rest_same (op_word (Select a)) (op_word (Select c)) xs ys e)
  same_plain (Store a) (Store c) xs ys f g b e = (ap Plain b, rest_same (op_word (Store a)) (op_word (Store c)) xs ys e)
  same_plain (Load a) (Load c) xs ys f g b e = (ap Plain b, rest_same (op_word (Load a)) (op_word (Load c)) xs ys e)
  same_plain (Put a) (Put c) xs ys f g b e = (ap Plain b, rest_same (op_word (Put a)) (op_word (Put c)) xs ys e)
  same_plain _ _ xs ys f g b e = cc

  use_apart : (o : Op) → IsLineOp (Plain o) → bare o ≡ Declared 0 One → ⊥
  use_apart (Declared i a) f b = f
  use_apart _ f b = cc

  pub same_ops : (a b : LineOp) (xs ys : Words) → IsLineOp a → IsLineOp b → line_op_words a ++ xs ≡ line_op_words b ++ ys → (a ≡ b) × (xs ≡ ys)
  same_ops (Plain o) (Plain p) xs ys f g e =
      same_plain o p xs ys f g (same_bare o p (first_same (op_word o) (op_word p) (argument_words o ++ xs) (argument_words p ++ ys) e)) e
  same_ops (Plain o) (Use name) xs ys f g e =
      absurd (use_apart o f (same_bare o (Declared 0 One) (first_same (op_word o) (codes "use") (argument_words o ++ xs) (name ∷ ys) e)))
  same_ops (Plain o) (Unknown w) xs ys f g e = absurd (g o (sym (first_same (op_word o) w (argument_words o ++ xs) ys e)))
  same_ops (Use name) (Plain p) xs ys f g e =
      absurd (use_apart p g (sym (same_bare (Declared 0 One) p (first_same (codes "use") (op_word p) (name ∷ xs) (argument_words p ++ ys) e))))
  same_ops (Use name) (Use other) xs ys f g e =
      let behind = rest_same (codes "use") (codes "use") (name ∷ xs) (other ∷ ys) e in
      (ap Use (first_same name other xs ys behind), rest_same name other xs ys behind)
  same_ops (Use name) (Unknown w) xs ys f g e = absurd (g (Declared 0 One) (sym (first_same (codes "use") w (name ∷ xs) ys e)))
  same_ops (Unknown w) (Plain p) xs ys f g e = absurd (f p (first_same w (op_word p) xs (argument_words p ++ ys) e))
  same_ops (Unknown w) (Use name) xs ys f g e = absurd (f (Declared 0 One) (first_same w (codes "use") xs (name ∷ ys) e))
  same_ops (Unknown w) (Unknown v) xs ys f g e = (ap Unknown (first_same w v xs ys e), rest_same w v xs ys e)

  pub one_row_line : (ws : Words) (r q : RowLine) → IsRowLine ws r → IsRowLine ws q → r ≡ q
  one_row_line ws r q h j =
      let e : row_words r ≡ row_words q = sym h.is ∙ j.is in
      let first = first_same (decimal r.class) (decimal q.class) (line_op_words r.op ++ map decimal r.operands) (line_op_words q.op ++ map decimal q.operands) e in
      let rest = rest_same (decimal r.class) (decimal q.class) (line_op_words r.op ++ map decimal r.operands) (line_op_words q.op ++ map decimal q.operands) e in
      let low : r.class < 2 ^ 31 = h.class in
      let less : q.class < 2 ^ 31 = j.class in
      let both = same_ops r.op q.op (map decimal r.operands) (map decimal q.operands) h.op j.op rest in
      same_row r q (decimal_injective r.class q.class (omega arith) (omega arith) first) both.0 (same_numbers r.operands q.operands h.operands j.operands both.1)
