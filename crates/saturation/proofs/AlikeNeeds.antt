-- Graphs that are alike have as many rows, the same unmet matches but for the numbers of classes, and the same needs. So
-- no number of rounds is the end before which rounds go on.
use Rattle.std.proofs.Common.{◌≡◌, ℕ, zero, suc, ◌<◌, ◌≤◌, List, [], ◌∷◌, length, get_or, All, Contains, refl, sym, ap, ◌∙◌, subst, inl, inr, arith}
use Rattle.std.specs.List.{AllZip}
use Rattle.std.proofs.lemmas.List.Elements.{All-cons, All-head, All-tail, All-contains}
use Rattle.word_ops.specs.declared.sorts.Op.{Op}
use Rattle.word_terms.specs.Keys.{op_signature}
use Rattle.word_terms.specs.Tree.{Tree, Trees, variable, application, none, more}
use Rattle.axiom_base.specs.Rewrites.{Rewrite, IsUsable}
use Rattle.axiom_base.specs.Schemes.{AddedRules, Scheme, schemes, weight, IsOf, IsRuleOf}
use Rattle.egraph.specs.Graph.{Graph, HasClass, HasConstant, IsGraph}
use Rattle.egraph.specs.declared.rows.Row.{Row}
use Rattle.pattern_match.specs.Classes.{IsClass, AreClasses, at_variable, at_row, no_classes, classes}
use Rattle.pattern_match.specs.Matches.{IsMatch, IsUnmet, IsUnmetOf, IsNeed, AreNeeds, no_need, one_need}
use Rattle.saturation.specs.Alike.{AreOfOneTerm, AreAlike}
use Rattle.saturation.specs.Derives.{Pair}
use Rattle.saturation.specs.Grown.{IsGrown, IsQuiet, Halts, GoesOnGrowing, NotBefore}
use Rattle.saturation.specs.Rounds.{StopIs}
use Rattle.graph_meaning.specs.declared.stops.Stop.{Stop}
use Rattle.graph_meaning.specs.declared.stops.Stop.TheVariants.{Quiet, Rounds, Full}
use Rattle.saturation.proofs.Alike.{alike}
use Rattle.saturation.proofs.AskSteps.{here_in, later_in}
use Rattle.saturation.proofs.FiniteLists.{no_longer}
use Rattle.saturation.proofs.Needed.{times}

turned : (g h : Graph Op) → AreAlike g h → AreAlike h g
turned g h a = record {
  rows = a.back;
  back = a.rows;
  forth = λ c d e x y. a.one d e c (flip x) (flip y);
  one = λ c d e x y. a.forth e c d (flip x) (flip y);
}
  where
    flip : {c d : ℕ} → AreOfOneTerm h g c d → AreOfOneTerm g h d c
    flip x = record { term = x.term; first = x.second; second = x.first }

module _ (g h : Graph Op) (like : AreAlike g h) where
  abbrev R : ℕ → ℕ → Type 0
  R = AreOfOneTerm g h

  same_right : (xs ys zs : List ℕ) → AllZip R xs ys → AllZip R xs zs → ys ≡ zs
  same_right [] [] [] a b = refl
  same_right [] (y ∷ ys) zs a b = absurd a
  same_right [] [] (z ∷ zs) a b = absurd b
  same_right (x ∷ xs) [] zs a b = absurd a
  same_right (x ∷ xs) (y ∷ ys) [] a b = absurd b
  same_right (x ∷ xs) (y ∷ ys) (z ∷ zs) a b = let e = like.forth x y z a.0 b.0 in let f = same_right xs ys zs a.1 b.1 in cc

  same_left : (xs ys zs : List ℕ) → AllZip R xs zs → AllZip R ys zs → xs ≡ ys
  same_left [] [] [] a b = refl
  same_left (x ∷ xs) ys [] a b = absurd a
  same_left [] (y ∷ ys) [] a b = absurd b
  same_left [] ys (z ∷ zs) a b = absurd a
  same_left (x ∷ xs) [] (z ∷ zs) a b = absurd b
  same_left (x ∷ xs) (y ∷ ys) (z ∷ zs) a b = let e = like.one x y z a.0 b.0 in let f = same_left xs ys zs a.1 b.1 in cc

  zip_long : (xs ys : List ℕ) → AllZip R xs ys → length ys ≡ length xs
  zip_long [] [] a = refl
  zip_long [] (y ∷ ys) a = absurd a
  zip_long (x ∷ xs) [] a = absurd a
  zip_long (x ∷ xs) (y ∷ ys) a = ap suc (zip_long xs ys a.1)

  zip_place : (xs ys : List ℕ) → AllZip R xs ys → (n : ℕ) → n < length xs → R (get_or xs n 0) (get_or ys n 0)
  zip_place [] ys a n l = absurd (omega arith)
  zip_place (x ∷ xs) [] a n l = absurd a
  zip_place (x ∷ xs) (y ∷ ys) a zero l = a.0
  zip_place (x ∷ xs) (y ∷ ys) a (suc n) l = zip_place xs ys a.1 n (omega (arith, l))

  -- ---- classes go over

  has_over : (c : ℕ) → HasClass g c → (d : ℕ) × R c d
  has_over c k = let s = like.rows k.row k.there in (s.0.class, subst (λ x. R x s.0.class) k.is s.3)

  places_over : (cs : List ℕ) → All (HasClass g) cs → (ds : List ℕ) × AllZip R cs ds
  places_over [] k = ([], tt)
  places_over (c ∷ cs) k =
      let one = has_over c (All-head (HasClass g) c cs k) in
      let rest = places_over cs (All-tail (HasClass g) c cs k) in
      (one.0 ∷ rest.0, (one.1, rest.1))

  has_class : {t : Tree Op} {d : ℕ} → IsClass h [] t d → HasClass h d
  has_class (at_variable l) = absurd (omega (arith, l))
  has_class (at_row {op} {cs} {c} k m) = record { row = record { op = op; operands = cs; class = c }; there = m; is = refl }

  places_have : (cs ds : List ℕ) → AllZip R cs ds → All (HasClass h) ds
  places_have cs [] a = λ k d l. absurd (omega (arith, l))
  places_have [] (d ∷ ds) a = absurd a
  places_have (c ∷ cs) (d ∷ ds) a = All-cons (HasClass h) d ds (has_class a.0.second) (places_have cs ds a.1)

  mutual
    pub class_over : (cs ds : List ℕ) → AllZip R cs ds → (t : Tree Op) {c : ℕ} → IsClass g cs t c → (d : ℕ) × IsClass h ds t d × R c d
    class_over cs ds a (variable n) (at_variable l) = (get_or ds n 0, at_variable (let e = zip_long cs ds a in omega (arith, e, l)), zip_place cs ds a n l)
    class_over cs ds a (application op ts) (at_row {cs = xs} {c} k m) =
        let below = classes_over cs ds a ts k in
        let s = like.rows (record { op = op; operands = xs; class = c }) m in
        let same : s.0.operands ≡ below.0 = same_right xs s.0.operands below.0 s.4 below.2 in
        (s.0.class, at_row below.1 (subst (Contains h.rows) (λ i. record { op = s.2 i; operands = same i; class = s.0.class }) s.1), s.3)

    classes_over : (cs ds : List ℕ) → AllZip R cs ds → (ts : Trees Op) {xs : List ℕ} → AreClasses g cs ts xs → (ys : List ℕ) × AreClasses h ds ts ys × AllZip R xs ys
    classes_over cs ds a none no_classes = ([], no_classes, tt)
    classes_over cs ds a (more t ts) (classes k m) =
        let one = class_over cs ds a t k in
        let rest = classes_over cs ds a ts m in
        (one.0 ∷ rest.0, classes one.1 rest.1, (one.2, rest.2))

  pub constant_over : (c d x : ℕ) → R c d → HasConstant op_signature g.rows c x → HasConstant op_signature h.rows d x
  constant_over c d x a k =
      let s = like.rows k.row k.there in
      record {
        row = s.0;
        there = s.1;
        of_class = like.forth c s.0.class d (subst (λ y. R y s.0.class) k.of_class s.3) a;
        is = ap op_signature.constant s.2 ∙ k.is;
      }

  match_over : (r : Rewrite) (cs ds : List ℕ) → AllZip R cs ds → (c : ℕ) → ((n x : ℕ) → Contains r.constants (n, x) → n < length cs) → IsMatch g r cs c → (d : ℕ) × IsMatch h r ds d × R c d
  match_over r cs ds a c below m =
      let left = class_over cs ds a r.left m.left in (
        left.0,
        record {
          count = zip_long cs ds a ∙ m.count;
          present = places_have cs ds a;
          left = left.1;
          constants = λ n x k. constant_over (get_or cs n 0) (get_or ds n 0) x (zip_place cs ds a n (below n x k)) (m.constants n x k);
        },
        left.2,
      )

turned_zip : (g h : Graph Op) (xs ys : List ℕ) → AllZip (AreOfOneTerm g h) xs ys → AllZip (AreOfOneTerm h g) ys xs
turned_zip g h [] [] a = tt
turned_zip g h [] (y ∷ ys) a = absurd a
turned_zip g h (x ∷ xs) [] a = absurd a
turned_zip g h (x ∷ xs) (y ∷ ys) a = (record { term = a.0.term; first = a.0.second; second = a.0.first }, turned_zip g h xs ys a.1)

abbrev AreUsable : Scheme → Type 0
AreUsable s = (r : Rewrite) → IsOf s r → IsUsable r

-- ---- unmet matches go over, and so needs do

unmet_over : (g h : Graph Op) (like : AreAlike g h) (r : Rewrite) → IsUsable r → (cs ds : List ℕ) → AllZip (AreOfOneTerm g h) cs ds → (c : ℕ) → IsUnmet g r cs c → (d : ℕ) × IsUnmet h r ds d
unmet_over g h like r usable cs ds a c u =
    let m = match_over g h like r cs ds a c (λ n x k. let b = usable.constants n x k in let e = u.match.count in omega (arith, b, e)) u.match in (
      m.0,
      record {
        match = m.1;
        right = λ k.
            let back = class_over h g (turned g h like) ds cs (turned_zip g h cs ds a) r.right k in
            u.right (subst (IsClass g cs r.right) (like.one back.0 c m.0 (record { term = back.2.term; first = back.2.second; second = back.2.first }) m.2) back.1);
      },
    )

module _ (g h : Graph Op) (like : AreAlike g h) where
  unmet_of_over : (s : Scheme) → AreUsable s → (cs ds : List ℕ) → AllZip (AreOfOneTerm g h) cs ds → IsUnmetOf g s cs → IsUnmetOf h s ds
  unmet_of_over s usable cs ds a u =
      let k = unmet_over g h like u.rule (usable u.rule u.of) cs ds a u.class u.unmet in
      record { rule = u.rule; of = u.of; class = k.0; unmet = k.1 }

  need_over : (s : Scheme) → AreUsable s → (n m : ℕ) → IsNeed g s n → IsNeed h s m → n ≤ m
  need_over s usable n m a b =
      let few = no_longer (AllZip (AreOfOneTerm g h)) a.count.list b.count.list
      (λ cs k.
      let u = All-contains (IsUnmetOf g s) a.count.list cs a.count.lists.each k in
      let p = places_over g h like cs u.unmet.match.present in
      (p.0, b.count.lists.all p.0 (unmet_of_over s usable cs p.0 p.1 u), p.1))
      (λ i j d l k ds x y. a.count.lists.once i j d l k (same_left g h like (get_or a.count.list i d) (get_or a.count.list j d) ds x y)) in
      let p = a.count.length_is in
      let q = b.count.length_is in
      let t = times a.matches b.matches (weight s) (omega (arith, few, p, q)) in
      let v = a.is in
      let w = b.is in
      omega (arith, t, v, w)

  needs_over : (ss : List Scheme) (n m : ℕ) → ((s : Scheme) → Contains ss s → AreUsable s) → AreNeeds g ss n → AreNeeds h ss m → n ≤ m
  needs_over [] _ _ usable no_need no_need = omega arith
  needs_over (s ∷ ss) _ _ usable (one_need {m = a} {n = b} x xs) (one_need {m = c} {n = d} y ys) =
      let one = need_over s (usable s (here_in s ss)) a c x y in
      let rest = needs_over ss b d (λ t k. usable t (later_in s t ss k)) xs ys in
      omega (arith, one, rest)

  rows_over : IsGraph op_signature g → length g.rows ≤ length h.rows
  rows_over is = no_longer (λ (r s : Row Op). (s.op ≡ r.op) × AllZip (AreOfOneTerm g h) r.operands s.operands) g.rows h.rows
      (λ r k. let s = like.rows r k in (s.0, s.1, (s.2, s.4)))
      (λ i j d l k s a b. is.distinct i j d l k (record { op = sym a.0 ∙ b.0; operands = same_left g h like (get_or g.rows i d).operands (get_or g.rows j d).operands s.operands a.1 b.1 }))

quiet_over : (g h : Graph Op) → AreAlike g h → (added : AddedRules) → ((s : Scheme) → Contains (schemes added) s → AreUsable s) → IsQuiet added g → IsQuiet added h
quiet_over g h like added usable quiet s there ds u =
    let back = turned g h like in
    let p = places_over h g back ds u.unmet.match.present in
    quiet s there p.0 (unmet_of_over h g back s (usable s there) ds p.0 p.1 u)

-- ---- where rounds end

module _ (added : AddedRules) (usable : (r : Rewrite) → IsRuleOf added r → IsUsable r) (present : List (Tree Op)) (equal : List Pair) (rounds nodes : ℕ) where
  each_usable : (s : Scheme) → Contains (schemes added) s → AreUsable s
  each_usable s there r of = usable r (record { scheme = s; there = there; of = of })

  goes_or_halts : (i : ℕ) → GoesOnGrowing added present equal rounds nodes i → ¬ Halts added present equal rounds nodes i
  goes_or_halts i on end =
      let like = alike added present equal end.graph on.graph i end.is_graph on.is_graph end.grown on.grown in
      elim end.ends [
        | inl quiet ↦ on.unmet (quiet_over end.graph on.graph like added each_usable quiet)
        | inr k ↦ elim k [
          | inl last ↦ on.asked last
          | inr full ↦
              (let rows = rows_over end.graph on.graph like end.is_graph in
              let needs = needs_over end.graph on.graph like (schemes added) full.need on.within.need each_usable full.is on.within.is in
              let passed = full.passed in
              let within = on.within.within in
              omega (arith, rows, needs, passed, within))
        ]
      ]

  pub none_before : (i j : ℕ) → NotBefore added present equal rounds nodes j → i < j → ¬ Halts added present equal rounds nodes i
  none_before i j on l = goes_or_halts i (on i l)

pub halts_with : (added : AddedRules) (present : List (Tree Op)) (equal : List Pair) (g : Graph Op) (rounds nodes j : ℕ) (stop : Stop) → IsGraph op_signature g → IsGrown added present equal g j → StopIs added g rounds nodes j stop → Halts added present equal rounds nodes j
halts_with added present equal g rounds nodes j Quiet is grown h = record { graph = g; is_graph = is; grown = grown; ends = inl h }
halts_with added present equal g rounds nodes j Rounds is grown h = record { graph = g; is_graph = is; grown = grown; ends = inr (inl h.1) }
halts_with added present equal g rounds nodes j Full is grown h = record { graph = g; is_graph = is; grown = grown; ends = inr (inr h.2) }
