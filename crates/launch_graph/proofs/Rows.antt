-- The row of a line, put together from its words.
use Rattle.std.proofs.Common.{◌≡◌, ℕ, ◌<◌, ◌^◌, List, [], ◌∷◌, ◌++◌, length, map, drop, get_or, refl, sym, ap, ◌∙◌, arith, decimal}
use Rattle.std.specs.List.{All}
use Rattle.std.proofs.lemmas.List.Elements.{All-head, All-tail}
use Rattle.std.proofs.lemmas.Fmt.{decimal_injective}
use Rattle.std.proofs.Math.Seq.{drop-cons}
use Rattle.launch_graph.specs.declared.row_lines.LineOp.{LineOp}
use Rattle.launch_graph.specs.declared.row_lines.LineOp.TheVariants.{Plain, Use, Unknown}
use Rattle.launch_graph.specs.declared.row_lines.RowLine.{RowLine}
use Rattle.text_core.specs.LineTexts.{Words}
use Rattle.launch_graph.specs.RowLines.{line_op_words, IsRowLine}
use Rattle.launch_graph.specs.RowReading.{IsOpBefore, HasNoOp, AreNumbers, IsOnlyRow}

abbrev IsSmall : ℕ → Type 0
IsSmall n = n < 2 ^ 31

pub same_numbers : (ms ns : List ℕ) → All IsSmall ms → All IsSmall ns → map decimal ms ≡ map decimal ns → ms ≡ ns
same_numbers [] [] a b e = refl
same_numbers [] (n ∷ ns) a b e = cc
same_numbers (m ∷ ms) [] a b e = cc
same_numbers (m ∷ ms) (n ∷ ns) a b e =
    let small = All-head IsSmall m ms a in
    let less = All-head IsSmall n ns b in
    let head : m ≡ n = decimal_injective m n (omega arith) (omega arith) (let first : decimal m ≡ decimal n = cc in first) in
    let tail = same_numbers ms ns (All-tail IsSmall m ms a) (All-tail IsSmall n ns b) (let rest : map decimal ms ≡ map decimal ns = cc in rest) in
    ap (λ k. k ∷ ms) head ∙ ap (λ (ks : List ℕ). n ∷ ks) tail

pub row_of : ℕ → LineOp → List ℕ → RowLine
row_of class op operands = record { class = class; op = op; operands = operands }

pub same_row : (a b : RowLine) → a.class ≡ b.class → a.op ≡ b.op → a.operands ≡ b.operands → a ≡ b
unfolding row_of
same_row a b e f g = ap (λ x. row_of x a.op a.operands) e ∙ ap (λ (x : LineOp). row_of b.class x a.operands) f ∙ ap (λ (x : List ℕ). row_of b.class b.op x) g

behind_first : (words : Words) (row : RowLine) → IsRowLine words row → drop 1 words ≡ line_op_words row.op ++ map decimal row.operands
behind_first words row h = ap (λ (ws : Words). drop 1 ws) h.is

first_is : (words : Words) (d : List ℕ) (row : RowLine) → IsRowLine words row → get_or words 0 d ≡ decimal row.class
first_is words d row h = ap (λ (ws : Words). get_or ws 0 d) h.is

op_begins : (op : LineOp) (rest : Words) → 0 < length (line_op_words op ++ rest)
op_begins (Plain op) rest = omega arith
op_begins (Use name) rest = omega arith
op_begins (Unknown word) rest = omega arith

pub too_short : (words : Words) (row : RowLine) → length words < 2 → IsRowLine words row → ⊥
too_short words row few h = (let size = ap length h.is in let more = op_begins row.op (map decimal row.operands) in omega (arith, size, few, more))

pub no_class : (words : Words) (w d : List ℕ) (row : RowLine) → w ≡ get_or words 0 d → ((n : ℕ) → n < 2 ^ 31 → w ≡ decimal n → ⊥) → IsRowLine words row → ⊥
no_class words w d row read never h = never row.class h.class (read ∙ first_is words d row h)

pub no_op : (words : Words) (row : RowLine) → HasNoOp words → IsRowLine words row → ⊥
no_op words row never h = never row.op (map decimal row.operands) h.op (behind_first words row h)

pub no_operands : (words : Words) (op : LineOp) (after : ℕ) (row : RowLine) → IsOpBefore words op after → ((ns : List ℕ) → AreNumbers (2 ^ 31) (drop after words) ns → ⊥) → IsRowLine words row → ⊥
no_operands words op after row b never h =
    never row.operands (record { small = h.operands; are = sym (b.only row.op (map decimal row.operands) h.op (behind_first words row h)).1 })

pub one_row : (words : Words) (w d : List ℕ) (row : RowLine) (after : ℕ) → 0 < length words → w ≡ get_or words 0 d → w ≡ decimal row.class → row.class < 2 ^ 31
    → IsOpBefore words row.op after → AreNumbers (2 ^ 31) (drop after words) row.operands → IsOnlyRow words row
one_row words w d row after some read class small b ns =
    record {
      is = record {
        is = drop-cons words 0 d some
            ∙ ap (λ (x : List ℕ). x ∷ drop 1 words) (sym read ∙ class)
            ∙ ap (λ (ws : Words). decimal row.class ∷ ws) (b.is ∙ ap (λ (ws : Words). line_op_words row.op ++ ws) ns.are);
        class = small;
        op = b.fine;
        operands = ns.small;
      };
      only = λ other h.
          (let o = b.only other.op (map decimal other.operands) h.op (behind_first words other h) in
          let high = h.class in
          same_row other row
          (decimal_injective other.class row.class (omega arith) (omega arith) (sym (first_is words d other h) ∙ sym read ∙ class))
          o.0
          (same_numbers other.operands row.operands h.operands ns.small (o.1 ∙ ns.are)));
    }
