-- Matches of computed rules, by the substitutions of their left sides. What `axiom_base` promises of these rules is given
-- here as arguments.
use Rattle.std.proofs.Common.{◌≡◌, ℕ, ◌+◌, ◌<◌, List, Option, Some, None, length, get_or, drop, replicate, refl, sym, ap, ◌∙◌, subst, arith}
use Rattle.std.specs.Prelude.{Contains, ◌↔◌, true, false, is_some, MatchOption}
use Rattle.std.proofs.lemmas.List.{get_or-drop, length-drop, length-replicate}
use Rattle.word_ops.specs.Words.{IsWord}
use Rattle.word_ops.specs.declared.sorts.Op.{Op}
use Rattle.word_terms.specs.Keys.{op_signature}
use Rattle.word_terms.specs.Tree.{AreBelow}
use Rattle.word_terms.specs.Sorting.{Occurs}
use Rattle.axiom_base.specs.Rewrites.{Rewrite, IsUsable}
use Rattle.axiom_base.specs.Conditions.{IsCalc, constants_of}
use Rattle.axiom_base.specs.Computed.{calc_rewrite, calc_variables, calc_left, calc_right, no_constants, first_constant, constants_from}
use Rattle.axiom_base.specs.Schemes.{Scheme, computed, IsOf, itself, calculated, folded}
use Rattle.axiom_base.specs.declared.kinds.Calc.{Calc}
use Rattle.axiom_base.specs.declared.kinds.Given.{Given}
use Rattle.egraph.specs.Graph.{Graph, IsGraph, HasConstant}
use Rattle.pattern_match.specs.Classes.{IsClass, CanFindClass}
use Rattle.pattern_match.specs.Bindings.{IsSubstitution, AreUnmet, IsUnmetGiven}
use Rattle.pattern_match.specs.Matches.{variables_of, IsMatch, IsUnmet, IsMatchOf, IsUnmetOf, IsUnmetCalc, CanGive, AreGiven}
use Rattle.pattern_match.specs.declared.found.Match.{Match}
use Rattle.pattern_match.proofs.Walking.{one_class}
use Rattle.pattern_match.proofs.Matching.{sort_below, matched_present, class_has, is_unmet, unmet_differs}
use Rattle.pattern_match.proofs.ConstantsOf.{zip_length, zip_at, zip_from, one_list}

-- some constants are given
abbrev pub IsGiven : Graph Op → Calc → List ℕ → Type 0
IsGiven g kind cs = (given : Given) × AreGiven g kind cs given

computed_only : (s : Scheme) (q : Rewrite) (kind : Calc) → s ≡ computed kind → IsOf s q → (ws : List ℕ) × (given : Given) × IsCalc kind ws given × (q ≡ calc_rewrite kind ws given)
computed_only s q kind p (itself r) = absurd (cc)
computed_only s q kind p (calculated other ws given is) =
    let k : other ≡ kind = cc in
    (ws, given, subst (λ x. IsCalc x ws given) k is, ap (λ x. calc_rewrite x ws given) k)
computed_only s q kind p (folded op cs words count) = absurd (cc)

abbrev pub AreWellFormed : Type 0
AreWellFormed = (kind : Calc) (cs : List ℕ) (given : Given) → length cs ≡ constants_of kind → IsWord given.e → IsWord given.f → IsUsable (calc_rewrite kind cs given)

abbrev pub EndInConstants : Type 0
EndInConstants = (kind : Calc) → length (calc_variables kind) ≡ first_constant kind + constants_of kind

abbrev pub AreNumbered : Type 0
AreNumbered = (k : ℕ) (cs : List ℕ) (n c : ℕ) → Contains {X = ℕ × ℕ} (constants_from k cs) (n, c) ↔ ((i : ℕ) × (i < length cs) × (n ≡ k + i) × (c ≡ get_or cs i 0))

-- a list of so many words
abbrev some_words : ℕ → List ℕ
some_words n = replicate n 0

some_words-length : (n : ℕ) → length (some_words n) ≡ n
some_words-length n = length-replicate n 0

module _ (usable : AreWellFormed) (last : EndInConstants) where
  usable_at : (kind : Calc) (given : Given) → IsWord given.e → IsWord given.f → IsUsable (calc_rewrite kind (some_words (constants_of kind)) given)
  usable_at kind given first second = usable kind (some_words (constants_of kind)) given (some_words-length (constants_of kind)) first second

  pub left_occurs : (kind : Calc) (n : ℕ) → n < variables_of kind → Occurs n (calc_left kind)
  left_occurs kind n l = (usable_at kind no_constants (omega arith) (omega arith)).all n (omega (arith, l, last kind))

  pub left_below : (kind : Calc) → AreBelow (variables_of kind) (calc_left kind)
  left_below kind = let u = usable_at kind no_constants (omega arith) (omega arith) in subst (λ n. AreBelow n (calc_left kind)) (last kind) (sort_below (calc_variables kind) u.sort (calc_left kind) u.left)

  right_below : (kind : Calc) (given : Given) → IsWord given.e → IsWord given.f → AreBelow (variables_of kind) (calc_right kind given)
  right_below kind given first second = let u = usable_at kind given first second in subst (λ n. AreBelow n (calc_right kind given)) (last kind) (sort_below (calc_variables kind) u.sort (calc_right kind given) u.right)

  module _ (g : Graph Op) (is : IsGraph op_signature g) (kind : Calc) (cs : List ℕ) where
    pub can_give : IsSubstitution g (calc_left kind) (variables_of kind) cs → CanGive g kind cs
    can_give h = record { graph = is; present = matched_present g is (calc_left kind) (variables_of kind) (left_occurs kind) cs h; count = h.length_is }

    pub right_can : (given : Given) → IsWord given.e → IsWord given.f → CanGive g kind cs → CanFindClass g cs (calc_right kind given)
    right_can given first second h = record { graph = h.graph; present = h.present; below = subst (λ n. AreBelow n (calc_right kind given)) (sym h.count) (right_below kind given first second) }

    module _ (numbers : AreNumbered) where
      given_match : (h : IsSubstitution g (calc_left kind) (variables_of kind) cs) (given : Given) (a : AreGiven g kind cs given) → IsMatch g (calc_rewrite kind a.words given) cs h.class
      given_match h given a = record {
        count = h.length_is ∙ sym (last kind);
        present = matched_present g is (calc_left kind) (variables_of kind) (left_occurs kind) cs h;
        left = h.left;
        constants = λ n c k.
            let m = (numbers (first_constant kind) a.words n c).0 k in
            let long = zip_length (HasConstant op_signature g.rows) (drop (first_constant kind) cs) a.words a.constants in
            let at = zip_at (HasConstant op_signature g.rows) (drop (first_constant kind) cs) a.words a.constants m.0 (omega (arith, m.1, long)) in
            let place : get_or (drop (first_constant kind) cs) m.0 0 ≡ get_or cs n 0 = get_or-drop (first_constant kind) cs m.0 0 ∙ ap (λ j. get_or cs j 0) (sym m.2) in
            let word : get_or a.words m.0 0 ≡ c = sym m.3 in
            subst (λ x. HasConstant op_signature g.rows x c) place (subst (λ x. HasConstant op_signature g.rows (get_or (drop (first_constant kind) cs) m.0 0) x) word at);
      }

      match_given : (ws : List ℕ) (given : Given) (c : ℕ) → IsCalc kind ws given → IsMatch g (calc_rewrite kind ws given) cs c → IsSubstitution g (calc_left kind) (variables_of kind) cs × AreGiven g kind cs given
      match_given ws given c is_calc m = (
        record { length_is = m.count ∙ last kind; class = c; has = class_has g cs (calc_left kind) m.present m.left; left = m.left },
        record {
          words = ws;
          constants = zip_from (HasConstant op_signature g.rows) (drop (first_constant kind) cs) ws (omega (arith, length-drop (first_constant kind) cs, m.count, last kind, is_calc.count)) (λ i l.
              let li : i < length ws = omega (arith, l, length-drop (first_constant kind) cs, m.count, last kind, is_calc.count) in
              let k = (numbers (first_constant kind) ws (first_constant kind + i) (get_or ws i 0)).1 (i, li, refl, refl) in
              subst (λ x. HasConstant op_signature g.rows x (get_or ws i 0)) (sym (get_or-drop (first_constant kind) cs i 0)) (m.constants (first_constant kind + i) (get_or ws i 0) k));
          calc = is_calc;
        },
      )

      pub computed_matched : IsSubstitution g (calc_left kind) (variables_of kind) cs × ((given : Given) × AreGiven g kind cs given) → IsMatchOf g (computed kind) cs
      computed_matched h = record { rule = calc_rewrite kind h.1.1.words h.1.0; of = calculated kind h.1.1.words h.1.0 h.1.1.calc; class = h.0.class; match = given_match h.0 h.1.0 h.1.1 }

      pub matched_computed : IsMatchOf g (computed kind) cs → IsSubstitution g (calc_left kind) (variables_of kind) cs × ((given : Given) × AreGiven g kind cs given)
      matched_computed m =
          let o = computed_only (computed kind) m.rule kind refl m.of in
          let b = match_given o.0 o.1 m.class o.2 (subst (λ q. IsMatch g q cs m.class) o.3 m.match) in
          (b.0, (o.1, b.1))

      pub computed_unmet : IsSubstitution g (calc_left kind) (variables_of kind) cs × AreUnmet g kind cs → IsUnmetOf g (computed kind) cs
      computed_unmet h =
          let a = h.1.are in
          record {
            rule = calc_rewrite kind a.words h.1.given;
            of = calculated kind a.words h.1.given a.calc;
            class = h.0.class;
            unmet = is_unmet g (calc_rewrite kind a.words h.1.given) cs h.0.class (given_match h.0 h.1.given a) h.1.unmet;
          }

      pub unmet_computed : IsUnmetOf g (computed kind) cs → IsSubstitution g (calc_left kind) (variables_of kind) cs × AreUnmet g kind cs
      unmet_computed u =
          let o = computed_only (computed kind) u.rule kind refl u.of in
          let v = subst (λ q. IsUnmet g q cs u.class) o.3 u.unmet in
          let b = match_given o.0 o.1 u.class o.2 v.match in
          (b.0, record { given = o.1; are = b.1; unmet = unmet_differs g (calc_rewrite kind o.0 o.1) cs is.distinct u.class v })

-- ---- one constant at most

module _ (one : (kind : Calc) (cs : List ℕ) (given other : Given) → IsCalc kind cs given → IsCalc kind cs other → given ≡ other) (g : Graph Op) (is : IsGraph op_signature g) (kind : Calc) (cs : List ℕ) where
  given_once : (given other : Given) → AreGiven g kind cs given → AreGiven g kind cs other → given ≡ other
  given_once given other a b =
      let same = one_list g is (drop (first_constant kind) cs) b.words a.words b.constants a.constants in
      one kind a.words given other a.calc (subst (λ ws. IsCalc kind ws other) same b.calc)

  -- no constant makes an unmet right side, where the one that is given makes none
  pub met_given : (m : Match) → m.classes ≡ cs → (given : Given) → AreGiven g kind cs given → IsClass g cs (calc_right kind given) m.class → (other : Given) → IsUnmetGiven g kind m other → ⊥
  met_given m is_cs given a has other u =
      let same : other ≡ given = given_once other given (subst (λ ds. AreGiven g kind ds other) is_cs u.are) a in
      u.unmet (subst (λ x. IsClass g m.classes (calc_right kind x) m.class) (sym same) (subst (λ ds. IsClass g ds (calc_right kind given) m.class) (sym is_cs) has))

-- by the class of the left side
module _ (g : Graph Op) (is : IsGraph op_signature g) (kind : Calc) (m : Match) (left : IsClass g m.classes (calc_left kind) m.class) where
  pub unmet_if : (given : Given) → IsUnmetGiven g kind m given → AreUnmet g kind m.classes
  unmet_if given u = record { given = given; are = u.are; unmet = λ h. u.unmet (subst (IsClass g m.classes (calc_right kind given)) (one_class g is.distinct m.classes h.first left) h.second) }

  pub met_if : ((given : Given) → IsUnmetGiven g kind m given → ⊥) → AreUnmet g kind m.classes → ⊥
  met_if none u = none u.given (record { are = u.are; unmet = λ k. u.unmet (record { class = m.class; first = left; second = k }) })

  pub unmet_calc : (usable : AreWellFormed) (last : EndInConstants) (numbers : AreNumbered) → IsSubstitution g (calc_left kind) (variables_of kind) m.classes → (given : Given) → IsUnmetGiven g kind m given → (x : Match) → x ≡ record { classes = m.classes; class = m.class; given = Some given } → IsUnmetCalc g kind x
  unmet_calc usable last numbers h given u x same =
      let a = u.are in
      let k = given_match usable last g is kind m.classes numbers h given a in
      subst (IsUnmetCalc g kind) (sym same) (record {
        given = given;
        given_is = refl;
        rule = calc_rewrite kind a.words given;
        of = calculated kind a.words given a.calc;
        right_is = refl;
        unmet = record { match = record { count = k.count; present = k.present; left = left; constants = k.constants }; right = u.unmet };
      })

-- optional constants, told by whether they are there
pub some_if : (A : Type 0) (B : Given → Type 0) (o : Option Given) → MatchOption o A B → is_some o ≡ true → (given : Given) × (o ≡ Some given) × B given
some_if A B (Some given) h t = (given, refl, h)
some_if A B None h t = absurd (cc)

pub none_if : (A : Type 0) (B : Given → Type 0) (o : Option Given) → MatchOption o A B → is_some o ≡ false → A
none_if A B (Some given) h t = absurd (cc)
none_if A B None h t = h
