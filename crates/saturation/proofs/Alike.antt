-- Graphs that are grown for one number of rounds differ in order and numbers alone, and have no clash.
use Rattle.std.proofs.Common.{◌≡◌, ℕ, zero, suc, ◌+◌, ◌-◌, ◌≤◌, List, [], ◌∷◌, Contains, All, refl, ◌∙◌, subst, arith}
use Rattle.std.specs.List.{AllZip}
use Rattle.std.proofs.lemmas.List.Elements.{All-head, All-tail}
use Rattle.word_ops.specs.declared.sorts.Op.{Op}
use Rattle.word_terms.specs.Keys.{op_signature}
use Rattle.word_terms.specs.Tree.{Tree, Trees, application, none, more}
use Rattle.axiom_base.specs.Schemes.{AddedRules}
use Rattle.word_terms.specs.Building.{constant}
use Rattle.egraph.specs.Graph.{Graph, HasClass, IsGraph}
use Rattle.egraph.specs.declared.rows.Row.{Row}
use Rattle.pattern_match.specs.Classes.{IsClass, AreClasses, at_row, no_classes, classes}
use Rattle.saturation.specs.Derives.{Derives, Pair, later, IsClash}
use Rattle.saturation.specs.Grown.{IsGrown}
use Rattle.saturation.specs.Alike.{AreOfOneTerm, HasEachRow, AreAlike}
use Rattle.saturation.proofs.Classes.{one_class}
use Rattle.saturation.proofs.Graphs.{operands_have}
use Rattle.saturation.proofs.Round.{grown_has_no_clash}

module _ (added : AddedRules) (present : List (Tree Op)) (equal : List Pair) where
  later_by : (k i : ℕ) (t u : Tree Op) → Derives added present equal i t u → Derives added present equal (i + k) t u
  later_by zero i t u d = let e : i ≡ i + 0 = omega arith in subst (λ n. Derives added present equal n t u) e d
  later_by (suc k) i t u d = let e : i + k + 1 ≡ i + suc k = omega arith in subst (λ n. Derives added present equal n t u) e (later (later_by k i t u d))

  pub no_clash : (g : Graph Op) (j i a b : ℕ) → IsGraph op_signature g → IsGrown added present equal g j → i ≤ j → IsClash added present equal i a b → ⊥
  no_clash g j i a b is grown l clash =
      let e : i + (j - i) ≡ j = omega (arith, l) in
      clash.differ (grown_has_no_clash added present equal j g is grown a b (subst (λ n. Derives added present equal n (constant a) (constant b)) e (later_by (j - i) i (constant a) (constant b) clash.derived)))

  module _ (g h : Graph Op) (j : ℕ) (is : IsGraph op_signature g) (first : IsGrown added present equal g j) (second : IsGrown added present equal h j) where
    terms_of : (cs : List ℕ) → All (HasClass g) cs → (ts : Trees Op) × AreClasses g [] ts cs
    terms_of [] a = (none, no_classes)
    terms_of (c ∷ cs) a =
        let t = first.inhabited c (All-head (HasClass g) c cs a) in
        let ts = terms_of cs (All-tail (HasClass g) c cs a) in
        (more t.0 ts.0, classes t.1 ts.1)

    pub zipped : (ts : Trees Op) (cs ds : List ℕ) → AreClasses g [] ts cs → AreClasses h [] ts ds → AllZip (AreOfOneTerm g h) cs ds
    zipped none cs ds no_classes no_classes = tt
    zipped (more t ts) cs ds (classes {c} {cs = xs} a b) (classes {c = d} {cs = ys} e f) = (record { term = t; first = a; second = e }, zipped ts xs ys b f)

    row_in : (op : Op) (ts : Trees Op) (cs : List ℕ) (c d : ℕ) → AreClasses g [] ts cs → IsClass g [] (application op ts) c → IsClass h [] (application op ts) d →
        (s : Row Op) × Contains h.rows s × (s.op ≡ op) × AreOfOneTerm g h c s.class × AllZip (AreOfOneTerm g h) cs s.operands
    row_in op ts cs c d a b (at_row {cs = ds} e k) = (
      record { op = op; operands = ds; class = d },
      k,
      refl,
      record { term = application op ts; first = b; second = at_row e k },
      zipped ts cs ds a e,
    )

    pub each_row : HasEachRow g h
    each_row r there =
        let ts = terms_of r.operands (operands_have op_signature g is r there) in
        let t = application r.op ts.0 in
        let class : IsClass g [] t r.class = at_row ts.1 there in
        let one = (second.exact t t).1 ((first.exact t t).0 (record { class = r.class; first = class; second = class })) in
        row_in r.op ts.0 r.operands r.class one.class ts.1 class one.first

    pub one_to_one : (c d e : ℕ) → AreOfOneTerm g h c d → AreOfOneTerm g h c e → d ≡ e
    one_to_one c d e a b =
        let k = (second.exact a.term b.term).1 ((first.exact a.term b.term).0 (record { class = c; first = a.first; second = b.first })) in
        one_class h second.distinct [] a.second k.first ∙ one_class h second.distinct [] k.second b.second

  pub alike : (g h : Graph Op) (j : ℕ) → IsGraph op_signature g → IsGraph op_signature h → IsGrown added present equal g j → IsGrown added present equal h j → AreAlike g h
  alike g h j is other first second = record {
    rows = each_row g h j is first second;
    back = each_row h g j other second first;
    forth = one_to_one g h j is first second;
    one = λ c d e a b. one_to_one h g j other second first e c d (record { term = a.term; first = a.second; second = a.first }) (record { term = b.term; first = b.second; second = b.first });
  }
