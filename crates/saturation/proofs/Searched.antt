-- What the unmet matches that a search found ask for.
use Rattle.std.proofs.Common.{◌≡◌, ℕ, suc, ◌+◌, ◌<◌, List, [], ◌∷◌, ◌++◌, map, length, take, get_or, Contains, All, refl, sym, ap, ◌∙◌, inl, arith}
use Rattle.std.specs.Prelude.{unwrap_or}
use Rattle.std.specs.List.{AllZip}
use Rattle.std.proofs.lemmas.List.{append-nil, append_assoc, map-append, take_more, length-take}
use Rattle.word_ops.specs.declared.sorts.Op.{Op}
use Rattle.word_ops.specs.declared.operators.WordOp.{WordOp}
use Rattle.word_ops.specs.Operators.{operators}
use Rattle.axiom_base.specs.Equations as rows
use Rattle.axiom_base.specs.Computed.{calc_right, no_constants}
use Rattle.axiom_base.specs.Rewrites.{Rewrite}
use Rattle.axiom_base.specs.Schemes.{AddedRules, Scheme, plain, computed, folding, calc_kinds, schemes, itself}
use Rattle.axiom_base.specs.declared.kinds.Calc.{Calc}
use Rattle.egraph.specs.Graph.{Graph}
use Rattle.pattern_match.specs.Found.{classes_in}
use Rattle.pattern_match.specs.declared.found.Match.{Match}
use Rattle.saturation.specs.Trace.{Asked}
use Rattle.saturation.specs.Asking.{IsAskedOf, AreAsked, AreUnmetOf, AreUnmetOfKind, AreFound, rule_asked, kind_asked, asked_of_each, asked_of_all}
use Rattle.saturation.specs.Instances.{asked_of}
use Rattle.saturation.specs.declared.instance.Instance.{Instance}
use Rattle.saturation.specs.declared.searching.Unmet.{Unmet}
use Rattle.saturation.proofs.AskSteps.{HaveWeights, scheme_asked, both_asked, nothing_asked}
use Rattle.saturation.proofs.Folded.{FoldsAreRows, folds_asked}

-- each match asks for its own
zip_matches : (R : List ℕ → Asked → Type 0) (f : Match → Asked) (found : List Match) → All (λ (m : Match). R m.classes (f m)) found → AllZip R (map classes_in found) (map f found)
zip_matches R f [] h = tt
zip_matches R f (m ∷ found) h = (h 0 m (omega arith), zip_matches R f found (λ k d l. h (suc k) d (omega (arith, l))))

module _ (weights : HaveWeights) (g : Graph Op) where
  rule_are_asked : (r : Rewrite) (found : List Match) → AreUnmetOf g r found → AreAsked g (plain r ∷ []) (map (rule_asked r) found)
  rule_are_asked r found h =
      scheme_asked weights g (plain r) (map classes_in found) (map (rule_asked r) found) h.exact
      (zip_matches (IsAskedOf g (plain r)) (rule_asked r) found (λ k d l. record { rule = r; of = itself r; unmet = h.each k d l; asks = record { right = refl; over = inl refl } }))

  kind_are_asked : (kind : Calc) (found : List Match) → AreUnmetOfKind g kind found → AreAsked g (computed kind ∷ []) (map (kind_asked kind) found)
  kind_are_asked kind found h =
      scheme_asked weights g (computed kind) (map classes_in found) (map (kind_asked kind) found) h.exact
      (zip_matches (IsAskedOf g (computed kind)) (kind_asked kind) found (λ k d l.
      let u = h.each k d l in
      record { rule = u.rule; of = u.of; unmet = u.unmet; asks = record { right = ap (λ o. calc_right kind (unwrap_or o no_constants)) u.given_is ∙ sym u.right_is; over = inl refl } }))

  are_asked_of_each : {X : Type 0} (scheme : X → Scheme) (R : X → List Match → Type 0) (f : X → Match → Asked) →
      ((x : X) (found : List Match) → R x found → AreAsked g (scheme x ∷ []) (map (f x) found)) →
      (xs : List X) (found : List (List Match)) → AllZip R xs found → AreAsked g (map scheme xs) (asked_of_each f xs found)
  are_asked_of_each scheme R f one [] [] h = nothing_asked g
  are_asked_of_each scheme R f one [] (ms ∷ found) h = absurd h
  are_asked_of_each scheme R f one (x ∷ xs) [] h = absurd h
  are_asked_of_each scheme R f one (x ∷ xs) (ms ∷ found) h = both_asked g (scheme x ∷ []) (map scheme xs) (map (f x) ms) (asked_of_each f xs found) (one x ms h.0) (are_asked_of_each scheme R f one xs found h.1)

  pub rules_are_asked : (rs : List Rewrite) (found : List (List Match)) → AllZip (AreUnmetOf g) rs found → AreAsked g (map plain rs) (asked_of_each rule_asked rs found)
  rules_are_asked = are_asked_of_each plain (AreUnmetOf g) rule_asked rule_are_asked

  pub kinds_are_asked : (kinds : List Calc) (found : List (List Match)) → AllZip (AreUnmetOfKind g) kinds found → AreAsked g (map computed kinds) (asked_of_each kind_asked kinds found)
  kinds_are_asked = are_asked_of_each computed (AreUnmetOfKind g) kind_asked kind_are_asked

  pub all_are_asked : (listed : (op : WordOp) → Contains operators op) (rows_are : FoldsAreRows) (added : AddedRules) (u : Unmet) → AreFound g added u → AreAsked g (schemes added) (asked_of_all added u)
  all_are_asked listed rows_are added u h =
      let a = rules_are_asked rows.equations u.equations.items h.equations in
      let axioms = added.axioms in
      let kinds = calc_kinds ++ added.kinds in
      let b = rules_are_asked axioms u.axioms.items h.axioms in
      let c = kinds_are_asked kinds u.kinds.items h.kinds in
      let d = folds_asked listed rows_are g u.folds h.folds h.folds_need in
      both_asked g (map plain rows.equations ++ map plain axioms ++ map computed kinds) (map folding operators) _ _
      (both_asked g (map plain rows.equations ++ map plain axioms) (map computed kinds) _ _
      (both_asked g (map plain rows.equations) (map plain axioms) _ _ a b) c) d

pub zip_length : {A B : Type 0} (R : A → B → Type 0) (xs : List A) (ys : List B) → AllZip R xs ys → length ys ≡ length xs
zip_length R [] [] h = refl
zip_length R [] (y ∷ ys) h = absurd h
zip_length R (x ∷ xs) [] h = absurd h
zip_length R (x ∷ xs) (y ∷ ys) h = let e = zip_length R xs ys h.1 in omega (arith, e)

-- ---- in the shapes of the loops

-- one item more asks for one instance more
pub one_more_asked_for :
    {X : Type 0} (f : X → Asked) (items : List X) (k : ℕ) (x : X) (old : List Asked) (before after : List Instance) (one : Instance) →
    k < length items →
    x ≡ get_or items k x →
    map asked_of before ≡ old ++ map f (take k items) →
    after ≡ before ++ one ∷ [] →
    asked_of one ≡ f x →
    map asked_of after ≡ old ++ map f (take (k + 1) items)
one_more_asked_for f items k x old before after one l is h a e =
    ap (map asked_of) a
    ∙ map-append asked_of before (one ∷ [])
    ∙ ap (λ y. map asked_of before ++ y ∷ []) e
    ∙ ap (λ xs. xs ++ f x ∷ []) h
    ∙ append_assoc old (map f (take k items)) (f x ∷ [])
    ∙ ap (λ xs. old ++ xs) (sym (ap (map f) (take_more items k x l ∙ ap (λ y. take k items ++ y ∷ []) (sym is)) ∙ map-append f (take k items) (x ∷ [])))

asked_each_more : {X : Type 0} (f : X → Match → Asked) (xs : List X) (found : List (List Match)) (x : X) (ms : List Match) → length xs ≡ length found → asked_of_each f (xs ++ x ∷ []) (found ++ ms ∷ []) ≡ asked_of_each f xs found ++ map (f x) ms
asked_each_more f [] [] x ms e = append-nil (map (f x) ms)
asked_each_more f [] (ns ∷ found) x ms e = absurd (omega (arith, e))
asked_each_more f (y ∷ xs) [] x ms e = absurd (omega (arith, e))
asked_each_more f (y ∷ xs) (ns ∷ found) x ms e = ap (λ zs. map (f y) ns ++ zs) (asked_each_more f xs found x ms (omega (arith, e))) ∙ sym (append_assoc (map (f y) ns) (asked_of_each f xs found) (map (f x) ms))

-- one rule more
pub one_more_rule :
    {X : Type 0} (f : X → Match → Asked) (xs : List X) (found : List (List Match)) (k : ℕ) (x : X) (ms items : List Match) (old before after : List Asked) →
    length found ≡ length xs →
    k < length xs →
    x ≡ get_or xs k x →
    ms ≡ get_or found k ms →
    items ≡ ms →
    before ≡ old ++ asked_of_each f (take k xs) (take k found) →
    after ≡ before ++ map (f x) items →
    after ≡ old ++ asked_of_each f (take (k + 1) xs) (take (k + 1) found)
one_more_rule f xs found k x ms items old before after len l is there same h a =
    let lf : k < length found = omega (arith, l, len) in
    let short : length (take k xs) ≡ length (take k found) = omega (arith, length-take k xs, length-take k found, l, lf) in
    a
    ∙ ap (λ zs. zs ++ map (f x) items) h
    ∙ append_assoc old (asked_of_each f (take k xs) (take k found)) (map (f x) items)
    ∙ ap (λ zs. old ++ zs) (
    ap (λ ns. asked_of_each f (take k xs) (take k found) ++ map (f x) ns) same
    ∙ sym (asked_each_more f (take k xs) (take k found) x ms short)
    ∙ sym (ap (λ ys. asked_of_each f ys (take k found ++ ms ∷ [])) (take_more xs k x l ∙ ap (λ y. take k xs ++ y ∷ []) (sym is)))
    ∙ sym (ap (λ ys. asked_of_each f (take (k + 1) xs) ys) (take_more found k ms lf ∙ ap (λ y. take k found ++ y ∷ []) (sym there))))
