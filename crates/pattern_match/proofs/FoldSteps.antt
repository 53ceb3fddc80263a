-- Matches of folding, row by row. Which variables stand for constants is what `axiom_base` promises, given here as an
-- argument.
use Rattle.std.proofs.Common.{◌≡◌, ℕ, suc, ◌+◌, ◌<◌, List, [], ◌∷◌, length, get_or, drop, refl, sym, ap, ◌∙◌, subst, arith, drop-cons, IfSome}
use Rattle.std.specs.Prelude.{All, Contains}
use Rattle.std.proofs.lemmas.List.Elements.{All-nil, All-cons, All-contains}
use Rattle.word_ops.specs.Words.{IsWord}
use Rattle.word_ops.specs.Operators.{arity_of, value_of}
use Rattle.word_ops.specs.Meanings.{arity_of_op}
use Rattle.word_ops.specs.declared.operators.WordOp.{WordOp}
use Rattle.word_ops.specs.declared.sorts.Op.{Op}
use Rattle.word_ops.specs.declared.sorts.Op.TheVariants.{Word, Constant}
use Rattle.word_terms.specs.Keys.{op_signature}
use Rattle.word_terms.specs.Signature.{HasWordConstant}
use Rattle.word_terms.specs.Building.{constant}
use Rattle.axiom_base.specs.Computed.{fold_rewrite, variables_from}
use Rattle.axiom_base.specs.Schemes.{folding, folded}
use Rattle.egraph.specs.declared.rows.Row.{Row}
use Rattle.egraph.specs.Graph.{Graph, IsGraph, HasClass, HasConstant, HasRow}
use Rattle.pattern_match.specs.Classes.{IsClass, AreClasses, at_variable, at_row, no_classes, classes}
use Rattle.pattern_match.specs.Matches.{IsMatch, IsUnmetFold, HaveConstants}
use Rattle.pattern_match.proofs.Walking.{one_class}
use Rattle.pattern_match.proofs.ConstantsOf.{zip_length, zip_at, zip_from, one_list}
use Rattle.pattern_match.proofs.MatchSorts.{fold_only, words_length, drop_none}
use Rattle.pattern_match.proofs.ComputedMatching.{AreNumbered}

own_classes : (g : Graph Op) (places : List ℕ) (k : ℕ) (cs : List ℕ) → k + length cs ≡ length places → AreClasses g places (variables_from k cs) (drop k places)
own_classes g places k [] e = subst (AreClasses g places (variables_from k [])) (sym (drop_none k places (omega (arith, e)))) no_classes
own_classes g places k (c ∷ cs) e =
    let l : k < length places = omega (arith, e) in
    let s : k + 1 ≡ suc k = omega arith in
    subst (AreClasses g places (variables_from k (c ∷ cs))) (sym (drop-cons places k 0 l))
    (classes (at_variable l) (subst (λ n. AreClasses g places (variables_from (k + 1) cs) (drop n places)) s (own_classes g places (k + 1) cs (omega (arith, e)))))

constant_row : (g : Graph Op) (places : List ℕ) (v c : ℕ) → IsClass g places (constant v) c → HasRow g.rows (Constant v) [] c
constant_row g places v c (at_row no_classes r) = r

module _ (g : Graph Op) (is : IsGraph op_signature g) where
  constant_is_word : (c x : ℕ) → HasConstant op_signature g.rows c x → IsWord x
  constant_is_word c x h =
      let w : IfSome (op_signature.constant h.row.op) IsWord = All-contains (λ r. HasWordConstant op_signature r.op) g.rows h.row is.words h.there in
      subst (λ o. IfSome o IsWord) h.is w

  constants_are_words : (cs ws : List ℕ) → HaveConstants g cs ws → All IsWord ws
  constants_are_words [] [] h = All-nil IsWord
  constants_are_words [] (w ∷ ws) h = absurd h
  constants_are_words (c ∷ cs) [] h = absurd h
  constants_are_words (c ∷ cs) (w ∷ ws) h = All-cons IsWord w ws (constant_is_word c w h.0) (constants_are_words cs ws h.1)

  -- a constant has one class
  pub one_row : {v class other : ℕ} → HasRow g.rows (Constant v) [] class → HasRow g.rows (Constant v) [] other → class ≡ other
  one_row h k = one_class g is.distinct [] (at_row no_classes h) (at_row no_classes k)

  module _ (numbers : AreNumbered) where
    -- the constants of a match of folding
    fold_constants : (op : WordOp) (cs places : List ℕ) (c : ℕ) → IsMatch g (fold_rewrite op cs) places c → HaveConstants g places cs
    fold_constants op cs places c m =
        zip_from (HasConstant op_signature g.rows) places cs (omega (arith, m.count, words_length cs)) (λ i l.
        let li : i < length cs = omega (arith, l, m.count, words_length cs) in
        m.constants i (get_or cs i 0) ((numbers 0 cs i (get_or cs i 0)).1 (i, li, omega arith, refl)))

    pub no_constants : (row : Row Op) → ((words : List ℕ) → HaveConstants g row.operands words → ⊥) → (v : ℕ) → IsUnmetFold g row v → ⊥
    no_constants row none v u =
        let o = fold_only (folding u.op) u.rule u.op refl u.of in
        none o.0 (fold_constants u.op o.0 row.operands row.class (subst (λ r. IsMatch g r row.operands row.class) o.3 u.unmet.match))

    module _ (row : Row Op) (there : Contains g.rows row) (op : WordOp) (op_is : row.op ≡ Word op) (words : List ℕ) (h : HaveConstants g row.operands words) where
      pub counted : length words ≡ arity_of op
      counted =
          let a : length row.operands ≡ arity_of_op row.op = All-contains (λ r. length r.operands ≡ arity_of_op r.op) g.rows row is.arities there in
          zip_length (HasConstant op_signature g.rows) row.operands words h ∙ a ∙ ap arity_of_op op_is

      row_is : row ≡ record { op = Word op; operands = row.operands; class = row.class }
      row_is = λ i. record { op = op_is i; operands = row.operands; class = row.class }

      fold_match : IsMatch g (fold_rewrite op words) row.operands row.class
      fold_match =
          let long = zip_length (HasConstant op_signature g.rows) row.operands words h in
          record {
            count = omega (arith, long, words_length words);
            present = All-contains (λ r. All (HasClass g) r.operands) g.rows row is.operands there;
            left = at_row (own_classes g row.operands 0 words (omega (arith, long))) (subst (Contains g.rows) row_is there);
            constants = λ n c k.
                let m = (numbers 0 words n c).0 k in
                let at = zip_at (HasConstant op_signature g.rows) row.operands words h m.0 (omega (arith, m.1, long)) in
                let place : m.0 ≡ n = omega (arith, m.2) in
                subst (λ x. HasConstant op_signature g.rows (get_or row.operands n 0) x) (sym m.3) (subst (λ j. HasConstant op_signature g.rows (get_or row.operands j 0) (get_or words m.0 0)) place at);
          }

      pub unmet_fold : (HasRow g.rows (Constant (value_of op words)) [] row.class → ⊥) → IsUnmetFold g row (value_of op words)
      unmet_fold lacks = record {
        op = op;
        op_is = op_is;
        rule = fold_rewrite op words;
        of = folded op words (constants_are_words row.operands words h) counted;
        right_is = refl;
        unmet = record { match = fold_match; right = λ k. lacks (constant_row g row.operands (value_of op words) row.class k) };
      }

      pub met_fold : HasRow g.rows (Constant (value_of op words)) [] row.class → (v : ℕ) → IsUnmetFold g row v → ⊥
      met_fold has v u =
          let o = fold_only (folding u.op) u.rule u.op refl u.of in
          let same : o.0 ≡ words = one_list g is row.operands o.0 words (fold_constants u.op o.0 row.operands row.class (subst (λ r. IsMatch g r row.operands row.class) o.3 u.unmet.match)) h in
          let words_are : Word u.op ≡ Word op = sym u.op_is ∙ op_is in
          let ops : u.op ≡ op = cc in
          let right : u.rule.right ≡ constant (value_of op words) = ap (λ r. r.right) o.3 ∙ ap (λ ws. constant (value_of u.op ws)) same ∙ ap (λ q. constant (value_of q words)) ops in
          u.unmet.right (subst (λ t. IsClass g row.operands t row.class) (sym right) (at_row no_classes has))
