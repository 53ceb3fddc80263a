-- A text of clauses tells its formula.
use Rattle.std.proofs.Common.{◌≡◌, ℕ, ◌<◌, ◌^◌, ◌+◌, Bool, true, false, cond, List, [], ◌∷◌, ◌++◌, length, map, refl, sym, ap, subst, ◌∙◌, arith, decimal}
use Rattle.std.specs.Prelude.{codes}
use Rattle.std.specs.List.{All}
use Rattle.std.proofs.lemmas.Fmt.{decimal_injective}
use Rattle.std.proofs.lemmas.List.Elements.{All-append, All-cons, All-head, All-map, All-nil, All-tail, All-weaker}
use Rattle.cnf_core.specs.Formula.{Formula, IsFormula, IsLitOf}
use Rattle.cnf_core.specs.declared.line.Line.{Line as Row}
use Rattle.cnf_core.specs.declared.literal.Lit.{Lit}
use Rattle.refutation_check.specs.LineWords.{IsId, IsIdLiteral, IsLineOf, line_words, literal_word}
use Rattle.text_core.specs.LineTexts.{CanBeLine, Words, line_text, lines_text, placed_lines, words_of_lines}
use Rattle.text_core.specs.Lines.{AreLines, HasLines, IsLineWord, Line}
use Rattle.dimacs.specs.Dimacs.{clause_words, dimacs_text, problem_words}

-- what the crates below say of lines
pub record Laws : Type 0 where
  pub number : (n : ℕ) → n < 2 ^ 64 → IsLineWord (decimal n)
  pub lines : (place : ℕ) (lines : List Words) → All CanBeLine lines
      → AreLines place (placed_lines place lines) (lines_text lines)
  pub one_text : (text : List ℕ) (lines others : List Line) → HasLines text lines → HasLines text others → lines ≡ others
  pub one_line : (words : Words) (line other : Row) → IsLineOf words line → IsLineOf words other → line ≡ other

words_placed : (place : ℕ) (lines : List Words) → words_of_lines (placed_lines place lines) ≡ lines
words_placed place [] = refl
words_placed place (words ∷ lines) = ap (λ ls. words ∷ ls) (words_placed (place + length (line_text words)) lines)

first_same : {X : Type 0} (x y : X) (xs ys : List X) → x ∷ xs ≡ y ∷ ys → x ≡ y
first_same x y xs ys e = cc

rest_same : {X : Type 0} (x y : X) (xs ys : List X) → x ∷ xs ≡ y ∷ ys → xs ≡ ys
rest_same x y xs ys e = cc

low_var : (n : ℕ) (l : Lit) → n < 2 ^ 29 → IsLitOf n l → IsIdLiteral l
low_var n l few is = (is.above, (let within = is.within in omega (arith, few, within)))

module _ (laws : Laws) where
  literal_is_word : (p : Bool) (n : ℕ) → IsId n → IsLineWord (cond p (decimal n) (codes "-" ++ decimal n))
  literal_is_word true n is = (let low = is.1 in laws.number n (omega (arith, low)))
  literal_is_word false n is =
      let low = is.1 in
      let word = laws.number n (omega (arith, low)) in
      record { some = λ e. cc; printed = word.printed }

  zero_is_word : IsLineWord (codes "0")
  zero_is_word = record { some = λ e. cc; printed = refl }

  same_lines : (xs ys : List Words) → All CanBeLine xs → All CanBeLine ys → lines_text xs ≡ lines_text ys → xs ≡ ys
  same_lines xs ys a b e =
      let other = subst (AreLines 0 (placed_lines 0 ys)) (sym e) (laws.lines 0 ys b) in
      let same = laws.one_text (lines_text xs) (placed_lines 0 xs) (placed_lines 0 ys) (laws.lines 0 xs a) other in
      sym (words_placed 0 xs) ∙ ap words_of_lines same ∙ words_placed 0 ys

  -- ---- one clause

  -- a line of a refutation with these literals and no hints
  abbrev row_of : List Lit → Row
  row_of c = record { id = 1; lits = c; hints = [] }

  row_words : (c : List Lit) → All IsIdLiteral c → IsLineOf (line_words (row_of c)) (row_of c)
  row_words c h = record {
    words = refl;
    readable = record { id = omega arith; lits = h; hints = All-nil IsId };
  }

  -- the words of such a line, from those of the clause
  abbrev around : Words → Words
  around words = decimal 1 ∷ (words ++ codes "0" ∷ [])

  clause_around : (c : List Lit) → around (clause_words c) ≡ line_words (row_of c)
  clause_around [] = refl
  clause_around (l ∷ ls) =
      ap (λ (ws : Words). decimal 1 ∷ literal_word l ∷ ws) (rest_same (decimal 1) (decimal 1)
      (clause_words ls ++ codes "0" ∷ []) (map literal_word ls ++ codes "0" ∷ (codes "0" ∷ [])) (clause_around ls))

  same_clause : (c d : List Lit) → All IsIdLiteral c → All IsIdLiteral d → clause_words c ≡ clause_words d → c ≡ d
  same_clause c d a b e =
      let same = sym (clause_around c) ∙ ap around e ∙ clause_around d in
      let row = laws.one_line (line_words (row_of c)) (row_of c) (row_of d) (row_words c a)
      (subst (λ ws. IsLineOf ws (row_of d)) (sym same) (row_words d b)) in
      ap (λ (r : Row). r.lits) row

  same_clauses : (cs ds : List (List Lit)) → All (All IsIdLiteral) cs → All (All IsIdLiteral) ds
      → map clause_words cs ≡ map clause_words ds → cs ≡ ds
  same_clauses [] [] a b e = refl
  same_clauses [] (d ∷ ds) a b e = cc
  same_clauses (c ∷ cs) [] a b e = cc
  same_clauses (c ∷ cs) (d ∷ ds) a b e =
      let one = same_clause c d (All-head (All IsIdLiteral) c cs a) (All-head (All IsIdLiteral) d ds b)
      (first_same (clause_words c) (clause_words d) (map clause_words cs) (map clause_words ds) e) in
      let others = same_clauses cs ds (All-tail (All IsIdLiteral) c cs a) (All-tail (All IsIdLiteral) d ds b)
      (rest_same (clause_words c) (clause_words d) (map clause_words cs) (map clause_words ds) e) in
      ap (λ x. x ∷ cs) one ∙ ap (λ xs. d ∷ xs) others

  -- ---- the lines of a text

  clause_can : (c : List Lit) → All IsIdLiteral c → CanBeLine (clause_words c)
  clause_can c h = record {
    some = λ e. no_words c e;
    each = All-append IsLineWord (map literal_word c) (codes "0" ∷ [])
        (All-map IsLineWord literal_word c
        (All-weaker IsIdLiteral (λ l. IsLineWord (literal_word l)) (λ l is. literal_is_word l.positive l.var is) c h))
        (All-cons IsLineWord (codes "0") [] zero_is_word (All-nil IsLineWord));
  }
    where
      no_words : (c : List Lit) → clause_words c ≡ [] → ⊥
      no_words [] e = cc
      no_words (l ∷ ls) e = cc

  problem_can : (f : Formula) → IsFormula f → CanBeLine (problem_words f)
  problem_can f is =
      let few = is.few_vars in
      let short = is.few_clauses in
      record {
        some = λ e. cc;
        each = All-cons IsLineWord (codes "p") (codes "cnf" ∷ decimal f.vars ∷ decimal (length f.clauses) ∷ []) (record { some = λ e. cc; printed = refl })
            (All-cons IsLineWord (codes "cnf") (decimal f.vars ∷ decimal (length f.clauses) ∷ []) (record { some = λ e. cc; printed = refl })
            (All-cons IsLineWord (decimal f.vars) (decimal (length f.clauses) ∷ []) (laws.number f.vars (omega (arith, few)))
            (All-cons IsLineWord (decimal (length f.clauses)) [] (laws.number (length f.clauses) (omega (arith, short)))
            (All-nil IsLineWord))));
      }

  exist : (f : Formula) → IsFormula f → All (All IsIdLiteral) f.clauses
  exist f is =
      All-weaker (All (IsLitOf f.vars)) (All IsIdLiteral)
      (λ c h. All-weaker (IsLitOf f.vars) IsIdLiteral (λ l is_lit. low_var f.vars l is.few_vars is_lit) c h)
      f.clauses is.exist

  text_can : (f : Formula) → IsFormula f → All CanBeLine (problem_words f ∷ map clause_words f.clauses)
  text_can f is =
      All-cons CanBeLine (problem_words f) (map clause_words f.clauses) (problem_can f is)
      (All-map CanBeLine clause_words f.clauses
      (All-weaker (All IsIdLiteral) (λ c. CanBeLine (clause_words c)) clause_can f.clauses (exist f is)))

  made : ℕ → List (List Lit) → Formula
  made n cs = record { vars = n; clauses = cs }

  same_fields : (f g : Formula) → f.vars ≡ g.vars → f.clauses ≡ g.clauses → f ≡ g
  unfolding made
  same_fields f g a b = ap (λ n. made n f.clauses) a ∙ ap (made g.vars) b

  number_same : (m n : ℕ) (ws vs : Words) → m < 2 ^ 64 → n < 2 ^ 64
      → codes "p" ∷ codes "cnf" ∷ decimal m ∷ ws ≡ codes "p" ∷ codes "cnf" ∷ decimal n ∷ vs → m ≡ n
  number_same m n ws vs lt less e = decimal_injective m n lt less cc

  pub one_formula : (f g : Formula) → IsFormula f → IsFormula g → dimacs_text f ≡ dimacs_text g → f ≡ g
  one_formula f g a b e =
      let same = same_lines (problem_words f ∷ map clause_words f.clauses) (problem_words g ∷ map clause_words g.clauses)
      (text_can f a) (text_can g b) e in
      let few = a.few_vars in
      let less = b.few_vars in
      let vars = number_same f.vars g.vars (decimal (length f.clauses) ∷ []) (decimal (length g.clauses) ∷ [])
      (omega (arith, few)) (omega (arith, less))
      (first_same (problem_words f) (problem_words g) (map clause_words f.clauses) (map clause_words g.clauses) same) in
      let clauses = same_clauses f.clauses g.clauses (exist f a) (exist g b)
      (rest_same (problem_words f) (problem_words g) (map clause_words f.clauses) (map clause_words g.clauses) same) in
      same_fields f g vars clauses
