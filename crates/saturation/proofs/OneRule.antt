-- The classes of a match tell which of a scheme's rules it is a match of.
use Rattle.std.proofs.Common.{◌≡◌, ℕ, suc, ◌+◌, ◌<◌, List, [], ◌∷◌, length, get_or, Contains, refl, sym, ap, ◌∙◌, subst, arith}
use Rattle.std.specs.Prelude.{◌↔◌}
use Rattle.word_ops.specs.Operators.{arity_of}
use Rattle.word_ops.specs.declared.sorts.Op.{Op}
use Rattle.word_terms.specs.Keys.{op_signature}
use Rattle.axiom_base.specs.Rewrites.{Rewrite}
use Rattle.axiom_base.specs.Conditions.{IsCalc}
use Rattle.axiom_base.specs.Computed.{calc_rewrite, fold_rewrite, first_constant, constants_from}
use Rattle.axiom_base.specs.Schemes.{Scheme, plain, computed, folding, IsOf, itself, calculated, folded}
use Rattle.axiom_base.specs.declared.kinds.Calc.{Calc}
use Rattle.axiom_base.specs.declared.kinds.Given.{Given}
use Rattle.egraph.specs.Graph.{Graph, IsGraph, HasConstant}
use Rattle.pattern_match.specs.Matches.{IsMatch}
use Rattle.saturation.proofs.Classes.{one_class}

-- which rules are the scheme's
abbrev RuleOf : Scheme → Rewrite → Type 0
RuleOf (plain r) q = q ≡ r
RuleOf (computed kind) q = (cs : List ℕ) × (given : Given) × IsCalc kind cs given × (q ≡ calc_rewrite kind cs given)
RuleOf (folding op) q = (cs : List ℕ) × (length cs ≡ arity_of op) × (q ≡ fold_rewrite op cs)

rule_of : {s : Scheme} {q : Rewrite} → IsOf s q → RuleOf s q
rule_of (itself r) = refl
rule_of (calculated kind cs given is) = (cs, given, is, refl)
rule_of (folded op cs words count) = (cs, count, refl)

pub of_plain : {r q : Rewrite} → IsOf (plain r) q → q ≡ r
of_plain of = rule_of of

abbrev pub AreNumbered : Type 0
AreNumbered = (k : ℕ) (cs : List ℕ) (n c : ℕ) → Contains {X = ℕ × ℕ} (constants_from k cs) (n, c) ↔ ((i : ℕ) × (i < length cs) × (n ≡ k + i) × (c ≡ get_or cs i 0))

abbrev pub GiveOne : Type 0
GiveOne = (kind : Calc) (cs : List ℕ) (given other : Given) → IsCalc kind cs given → IsCalc kind cs other → given ≡ other

same_lists : (cs ds : List ℕ) → length cs ≡ length ds → ((i : ℕ) → i < length cs → get_or cs i 0 ≡ get_or ds i 0) → cs ≡ ds
same_lists [] [] l h = refl
same_lists [] (d ∷ ds) l h = absurd (omega (arith, l))
same_lists (c ∷ cs) [] l h = absurd (omega (arith, l))
same_lists (c ∷ cs) (d ∷ ds) l h =
    let e : c ≡ d = h 0 (omega arith) in
    let f = same_lists cs ds (omega (arith, l)) (λ i b. h (suc i) (omega (arith, b))) in
    cc

module _ (numbers : AreNumbered) (one : GiveOne) (g : Graph Op) (is : IsGraph op_signature g) (places : List ℕ) where
  -- the constants of places that both lists are for
  same_constants :
      (k : ℕ) (cs ds : List ℕ) →
      length cs ≡ length ds →
      ((n c : ℕ) → Contains (constants_from k cs) (n, c) → HasConstant op_signature g.rows (get_or places n 0) c) →
      ((n c : ℕ) → Contains (constants_from k ds) (n, c) → HasConstant op_signature g.rows (get_or places n 0) c) →
      cs ≡ ds
  same_constants k cs ds l f h =
      same_lists cs ds l (λ i b.
      is.constants (get_or places (k + i) 0) (get_or cs i 0) (get_or ds i 0)
      (f (k + i) (get_or cs i 0) ((numbers k cs (k + i) (get_or cs i 0)).1 (i, b, refl, refl)))
      (h (k + i) (get_or ds i 0) ((numbers k ds (k + i) (get_or ds i 0)).1 (i, omega (arith, b, l), refl, refl))))

  pub one_rule :
      (s : Scheme) (q r : Rewrite) (c d : ℕ) →
      IsOf s q →
      IsOf s r →
      IsMatch g q places c →
      IsMatch g r places d →
      q ≡ r
  one_rule (plain p) q r c d of other m k = rule_of of ∙ sym (rule_of other)
  one_rule (computed kind) q r c d of other m k =
      let a = rule_of of in
      let b = rule_of other in
      let same = same_constants (first_constant kind) a.0 b.0 (a.2.count ∙ sym b.2.count)
      (subst (λ t. IsMatch g t places c) a.3 m).constants (subst (λ t. IsMatch g t places d) b.3 k).constants in
      let e = one kind b.0 a.1 b.1 (subst (λ xs. IsCalc kind xs a.1) same a.2) b.2 in
      a.3 ∙ ap (λ xs. calc_rewrite kind xs a.1) same ∙ ap (calc_rewrite kind b.0) e ∙ sym b.3
  one_rule (folding op) q r c d of other m k =
      let a = rule_of of in
      let b = rule_of other in
      let same = same_constants 0 a.0 b.0 (a.1 ∙ sym b.1)
      (subst (λ t. IsMatch g t places c) a.2 m).constants (subst (λ t. IsMatch g t places d) b.2 k).constants in
      a.2 ∙ ap (fold_rewrite op) same ∙ sym b.2

  pub one_match :
      (s : Scheme) (q r : Rewrite) (c d : ℕ) →
      IsOf s q →
      IsOf s r →
      IsMatch g q places c →
      IsMatch g r places d →
      c ≡ d
  one_match s q r c d of other m k =
      one_class g is.distinct places (subst (λ t. IsMatch g t places c) (one_rule s q r c d of other m k) m).left k.left
