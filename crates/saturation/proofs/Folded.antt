-- What folds ask for.
use Rattle.std.proofs.Common.{◌≡◌, ℕ, List, [], ◌∷◌, map, length, Contains, refl, sym, ap, ◌∙◌, subst, inl, inr, arith}
use Rattle.word_ops.specs.Operators.{value_of, operators}
use Rattle.word_ops.specs.declared.operators.WordOp.{WordOp}
use Rattle.word_ops.specs.declared.sorts.Op.{Op}
use Rattle.word_ops.specs.declared.sorts.Op.TheVariants.{Word}
use Rattle.axiom_base.specs.Rewrites.{Rewrite}
use Rattle.word_terms.specs.Building.{constant}
use Rattle.axiom_base.specs.Schemes.{Scheme, folding, IsOf, itself, calculated, folded}
use Rattle.egraph.specs.declared.rows.Row.{Row}
use Rattle.egraph.specs.Graph.{Graph, HasRow}
use Rattle.pattern_match.specs.Listing.{Chosen, nothing, taken, left_out}
use Rattle.pattern_match.specs.Matches.{IsMatch, IsUnmet, IsUnmetOf, IsFoldOf, AreNeeds}
use Rattle.pattern_match.specs.declared.found.Fold.{Fold}
use Rattle.saturation.specs.Trace.{Asked, operators_asked}
use Rattle.saturation.specs.Asking.{IsAskedOf, AreAsked, fold_asked}
use Rattle.word_terms.specs.View.{tree_of}
use Rattle.saturation.specs.Instances.{asked_of}
use Rattle.saturation.specs.declared.instance.Instance.{Instance}
use Rattle.saturation.proofs.AskSteps.{all_from, here_in, later_in, cases_in}

module _ {X Y : Type 0} (R : X → Y → Type 0) where
  chosen_from : {xs : List X} {ys : List Y} → Chosen R xs ys → (y : Y) → Contains ys y → (x : X) × Contains xs x × R x y
  chosen_from nothing y h = absurd (omega (arith, h.1))
  chosen_from (taken {x} {y = z} {xs} {ys} r c) y h = elim (cases_in z y ys h) [
    | inl e ↦ (x, here_in x xs, subst (λ w. R x w) e r)
    | inr k ↦ (let m = chosen_from c y k in (m.0, later_in x m.0 xs m.1, m.2))
  ]
  chosen_from (left_out {x} {xs} f c) y h = let m = chosen_from c y h in (m.0, later_in x m.0 xs m.1, m.2)

  chosen_for : {xs : List X} {ys : List Y} → Chosen R xs ys → (x : X) (y : Y) → Contains xs x → R x y → (z : Y) × Contains ys z × R x z
  chosen_for nothing x y h r = absurd (omega (arith, h.1))
  chosen_for (taken {x = w} {y = z} {xs} {ys} q c) x y h r = elim (cases_in w x xs h) [
    | inl e ↦ (z, here_in z ys, subst (λ v. R v z) e q)
    | inr k ↦ (let m = chosen_for c x y k r in (m.0, later_in z m.0 ys m.1, m.2))
  ]
  chosen_for (left_out {x = w} {xs} f c) x y h r = elim (cases_in w x xs h) [
    | inl e ↦ absurd (f y (subst (λ v. R v y) (sym e) r))
    | inr k ↦ chosen_for c x y k r
  ]

in_map : {X Y : Type 0} (f : X → Y) (xs : List X) (y : Y) → Contains (map f xs) y → (x : X) × Contains xs x × (f x ≡ y)
in_map f [] y h = absurd (omega (arith, h.1))
in_map f (x ∷ xs) y h = elim (cases_in (f x) y (map f xs) h) [
  | inl e ↦ (x, here_in x xs, e)
  | inr k ↦ (let m = in_map f xs y k in (m.0, later_in x m.0 xs m.1, m.2))
]

to_map : {X Y : Type 0} (f : X → Y) (xs : List X) (x : X) → Contains xs x → Contains (map f xs) (f x)
to_map f [] x h = absurd (omega (arith, h.1))
to_map f (y ∷ xs) x h = elim (cases_in y x xs h) [
  | inl e ↦ subst (λ z. Contains (f y ∷ map f xs) (f z)) e (here_in (f y) (map f xs))
  | inr k ↦ later_in (f y) (f x) (map f xs) (to_map f xs x k)
]

fold_only : (s : Scheme) (q : Rewrite) (op : WordOp) → s ≡ folding op → IsOf s q → (v : ℕ) × (q.right ≡ constant v)
fold_only s q op p (itself r) = absurd (cc)
fold_only s q op p (calculated kind cs e is) = absurd (cc)
fold_only s q op p (folded other cs words count) = (value_of other cs, refl)

same_operator : (op other : WordOp) → Word op ≡ Word other → op ≡ other
same_operator op other e = cc

abbrev pub FoldsAreRows : Type 0
FoldsAreRows = (g : Graph Op) (op : WordOp) (r : Rewrite) (places : List ℕ) (c : ℕ) → IsOf (folding op) r → IsMatch g r places c → HasRow g.rows (Word op) places c

module _ (listed : (op : WordOp) → Contains operators op) (rows : FoldsAreRows) (g : Graph Op) where
  fold_of : (row : Row Op) (f : Fold) (h : IsFoldOf g row f) → IsAskedOf g (folding h.unmet.op) row.operands (fold_asked f)
  fold_of row f h = record {
    rule = h.unmet.rule;
    of = h.unmet.of;
    unmet = subst (IsUnmet g h.unmet.rule row.operands) (sym h.class_is) h.unmet.unmet;
    asks = record { right = sym h.unmet.right_is; over = inr (refl, (f.value, h.unmet.right_is)) };
  }

  one_each : (found : List Fold) → length found ≡ operators_asked (map fold_asked found)
  one_each [] = refl
  one_each (f ∷ found) = let e = one_each found in omega (arith, e)

  pub folds_asked : (found : List Fold) → Chosen (IsFoldOf g) g.rows found → AreNeeds g (map folding operators) (length found) → AreAsked g (map folding operators) (map fold_asked found)
  folds_asked found chosen need = record {
    each = all_from (λ (a : Asked). (s : Scheme) × Contains (map folding operators) s × ((places : List ℕ) × IsAskedOf g s places a)) (map fold_asked found) (λ a h.
        let f = in_map fold_asked found a h in
        let k = chosen_from (IsFoldOf g) chosen f.0 f.1 in
        (folding k.2.unmet.op, to_map folding operators k.2.unmet.op (listed k.2.unmet.op), (k.0.operands, subst (IsAskedOf g (folding k.2.unmet.op) k.0.operands) f.2 (fold_of k.0 f.0 k.2))));
    all = λ s places h u.
        let o = in_map folding operators s h in
        let v = subst (λ t. IsUnmetOf g t places) (sym o.2) u in
        let row : Row Op = record { op = Word o.0; operands = places; class = v.class } in
        let there = rows g o.0 v.rule places v.class v.of v.unmet.match in
        let right = fold_only (folding o.0) v.rule o.0 refl v.of in
        let fold : Fold = record { class = v.class; value = right.0 } in
        let is : IsFoldOf g row fold = record { class_is = refl; unmet = record { op = o.0; op_is = refl; rule = v.rule; of = v.of; right_is = right.1; unmet = v.unmet } } in
        let k = chosen_for (IsFoldOf g) chosen row fold there is in
        let same : k.2.unmet.op ≡ o.0 = sym (same_operator o.0 k.2.unmet.op k.2.unmet.op_is) in
        (fold_asked k.0, to_map fold_asked found k.0 k.1, subst (λ t. IsAskedOf g t places (fold_asked k.0)) (ap folding same ∙ o.2) (fold_of row k.0 k.2));
    needs = subst (AreNeeds g (map folding operators)) (one_each found) need;
  }

-- the instance of a fold
pub fold_instance : (one : Instance) (f : Fold) → tree_of one.right ≡ constant f.value → one.places ≡ [] → one.class ≡ f.class → asked_of one ≡ fold_asked f
fold_instance one f e p q = λ i. record { right = e i; places = p i; class = q i }
