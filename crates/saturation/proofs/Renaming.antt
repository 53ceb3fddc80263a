-- A graph with other numbers for its classes has the same terms, matches and needs.
use Rattle.std.proofs.Common.{◌≡◌, ℕ, suc, ◌<◌, List, [], ◌∷◌, length, map, get_or, refl, sym, ap, ◌∙◌, subst, arith, All, AllPairs, Contains}
use Rattle.std.proofs.lemmas.List.{get_or-map, length-map}
use Rattle.std.proofs.lemmas.List.Elements.{All-nil, All-cons, All-head, All-tail, All-map, All-weaker, All-contains, All-get_or, Contains-get_or}
use Rattle.word_ops.specs.declared.sorts.Op.{Op}
use Rattle.word_terms.specs.Keys.{op_signature}
use Rattle.word_terms.specs.Tree.{Tree, Trees, variable}
use Rattle.axiom_base.specs.Rewrites.{Rewrite, IsUsable}
use Rattle.axiom_base.specs.Schemes.{AddedRules, Scheme, IsOf, IsRuleOf, schemes}
use Rattle.egraph.specs.Graph.{Graph, Agree, HasClass, HasConstant}
use Rattle.egraph.specs.Joined.{relabel}
use Rattle.egraph.specs.declared.rows.Row.{Row}
use Rattle.pattern_match.specs.Classes.{IsClass, AreClasses, at_variable, at_row, no_classes, classes, HaveOneClass}
use Rattle.pattern_match.specs.Listing.{Lists}
use Rattle.pattern_match.specs.Matches.{IsMatch, IsUnmet, IsUnmetOf, IsNeed, AreNeeds, no_need, one_need}
use Rattle.saturation.specs.Derives.{Pair}
use Rattle.saturation.specs.Grown.{IsGrown, IsQuiet}
use Rattle.saturation.specs.Renamed.{IsRenamed}
use Rattle.saturation.specs.Rounds.{StopIs}
use Rattle.graph_meaning.specs.declared.stops.Stop.{Stop}
use Rattle.graph_meaning.specs.declared.stops.Stop.TheVariants.{Quiet, Rounds, Full}
use Rattle.saturation.proofs.Mapped.{contains_map, contains_map_back, some_at}

abbrev row_of : Op → List ℕ → ℕ → Row Op
row_of op operands class = record { op = op; operands = operands; class = class }

row_same : (op o : Op) (xs ys : List ℕ) (c : ℕ) → op ≡ o → xs ≡ ys → row_of op xs c ≡ row_of o ys c
row_same op o xs ys c e f = ap (λ (x : Op). row_of x xs c) e ∙ ap (λ (zs : List ℕ). row_of o zs c) f

module _ (f : ℕ → ℕ) (old new : Graph Op) (re : IsRenamed f old new) where
  -- ---- rows and classes

  pub there : (r : Row Op) → Contains old.rows r → Contains new.rows (relabel f r)
  there r h = subst (λ (rs : List (Row Op)). Contains rs (relabel f r)) (sym re.rows) (contains_map (relabel f) old.rows r h)

  pub from : (s : Row Op) → Contains new.rows s → (r : Row Op) × Contains old.rows r × (s ≡ relabel f r)
  from s h = contains_map_back (relabel f) old.rows s (subst (λ (rs : List (Row Op)). Contains rs s) re.rows h)

  pub has : (c : ℕ) → HasClass old c → HasClass new (f c)
  has c h = record { row = relabel f h.row; there = there h.row h.there; is = ap f h.is }

  pub has_back : (d : ℕ) → HasClass new d → (c : ℕ) × HasClass old c × (f c ≡ d)
  has_back d h =
      let r = from h.row h.there in
      (r.0.class, record { row = r.0; there = r.1; is = refl }, ap (λ (s : Row Op). s.class) (sym r.2) ∙ h.is)

  -- ---- lists of classes

  pub same_from_map : (xs ys : List ℕ) → All (HasClass old) xs → All (HasClass old) ys → map f xs ≡ map f ys → xs ≡ ys
  same_from_map [] [] h k e = refl
  same_from_map [] (y ∷ ys) h k e = absurd (cc)
  same_from_map (x ∷ xs) [] h k e = absurd (cc)
  same_from_map (x ∷ xs) (y ∷ ys) h k e =
      let head : f x ≡ f y = cc in
      let tail : map f xs ≡ map f ys = cc in
      let one = re.one_to_one x y (All-head (HasClass old) x xs h) (All-head (HasClass old) y ys k) head in
      let more = same_from_map xs ys (All-tail (HasClass old) x xs h) (All-tail (HasClass old) y ys k) tail in
      cc

  pub lists_back : (ds : List ℕ) → All (HasClass new) ds → (cs : List ℕ) × All (HasClass old) cs × (map f cs ≡ ds)
  lists_back [] h = ([], All-nil (HasClass old), refl)
  lists_back (d ∷ ds) h =
      let one = has_back d (All-head (HasClass new) d ds h) in
      let more = lists_back ds (All-tail (HasClass new) d ds h) in
      (one.0 ∷ more.0, All-cons (HasClass old) one.0 more.0 one.1 more.1, (let e = one.2 in let k = more.2 in cc))

  pub all_have : (cs : List ℕ) → All (HasClass old) cs → All (HasClass new) (map f cs)
  all_have cs h = All-map (HasClass new) f cs (All-weaker (HasClass old) (λ c. HasClass new (f c)) has cs h)

  operands_have : (r : Row Op) → Contains old.rows r → All (HasClass old) r.operands
  operands_have r h = All-contains (λ (t : Row Op). All (HasClass old) t.operands) old.rows r re.operands h

  -- ---- terms

  mutual
    pub class_to : (places : List ℕ) (t : Tree Op) (c : ℕ) → IsClass old places t c → IsClass new (map f places) t (f c)
    class_to places _ _ (at_variable {n = n} lt) =
        subst (IsClass new (map f places) (variable n)) (get_or-map f places n 0 0 lt) (at_variable (omega (arith, lt, length-map places f)))
    class_to places _ _ (at_row {op = op} {ts = ts} {cs = cs} {c = c} are here) =
        at_row (classes_to places ts cs are) (there (record { op = op; operands = cs; class = c }) here)

    pub classes_to : (places : List ℕ) (ts : Trees Op) (cs : List ℕ) → AreClasses old places ts cs → AreClasses new (map f places) ts (map f cs)
    classes_to places _ _ no_classes = no_classes
    classes_to places _ _ (classes {t = t} {ts = ts} {c = c} {cs = cs} one rest) = classes (class_to places t c one) (classes_to places ts cs rest)

  abbrev ComesFrom : List ℕ → Tree Op → ℕ → Type 0
  ComesFrom places t d = (c : ℕ) × IsClass old places t c × (f c ≡ d) × HasClass old c

  abbrev ComeFrom : List ℕ → Trees Op → List ℕ → Type 0
  ComeFrom places ts ds = (cs : List ℕ) × AreClasses old places ts cs × (map f cs ≡ ds) × All (HasClass old) cs

  row_from : (op : Op) (cs : List ℕ) (bs : List ℕ) (d : ℕ) → All (HasClass old) bs → map f bs ≡ cs → Contains new.rows (record { op = op; operands = cs; class = d }) → (c : ℕ) × Contains old.rows (record { op = op; operands = bs; class = c }) × (f c ≡ d)
  row_from op cs bs d have e here =
      let r = from (record { op = op; operands = cs; class = d }) here in
      let same : r.0.operands ≡ bs = sym (same_from_map bs r.0.operands have (operands_have r.0 r.1) (e ∙ ap (λ (s : Row Op). s.operands) r.2)) in
      let is = row_same r.0.op op r.0.operands bs r.0.class (ap (λ (s : Row Op). s.op) (sym r.2)) same in
      (r.0.class, subst (λ (s : Row Op). Contains old.rows s) is r.1, ap (λ (s : Row Op). s.class) (sym r.2))

  mutual
    class_from_at : (places ps : List ℕ) → map f places ≡ ps → All (HasClass old) places → (t : Tree Op) (d : ℕ) → IsClass new ps t d → ComesFrom places t d
    class_from_at places ps e h _ _ (at_variable {n = n} lt) =
        let l : n < length places = omega (arith, lt, length-map places f, ap length e) in
        (get_or places n 0, at_variable l, sym (get_or-map f places n 0 0 l) ∙ ap (λ xs. get_or xs n 0) e, All-get_or (HasClass old) places n 0 l h)
    class_from_at places ps e h _ _ (at_row {op = op} {ts = ts} {cs = cs} {c = d} are here) =
        let b = classes_from_at places ps e h ts cs are in
        let r = row_from op cs b.0 d b.3 b.2 here in
        (r.0, at_row b.1 r.1, r.2, record { row = record { op = op; operands = b.0; class = r.0 }; there = r.1; is = refl })

    classes_from_at : (places ps : List ℕ) → map f places ≡ ps → All (HasClass old) places → (ts : Trees Op) (ds : List ℕ) → AreClasses new ps ts ds → ComeFrom places ts ds
    classes_from_at places ps e h _ _ no_classes = ([], no_classes, refl, All-nil (HasClass old))
    classes_from_at places ps e h _ _ (classes {t = t} {ts = ts} {c = d} {cs = ds} one rest) =
        let a = class_from_at places ps e h t d one in
        let b = classes_from_at places ps e h ts ds rest in
        (a.0 ∷ b.0, classes a.1 b.1, (let k = a.2 in let l = b.2 in cc), All-cons (HasClass old) a.0 b.0 a.3 b.3)

  pub class_from : (places : List ℕ) → All (HasClass old) places → (t : Tree Op) (d : ℕ) → IsClass new (map f places) t d → ComesFrom places t d
  class_from places h t d is = class_from_at places (map f places) refl h t d is

  -- a class of the old graph that goes to the class of a term is the term's
  pub class_of : (places : List ℕ) → All (HasClass old) places → (t : Tree Op) (c : ℕ) → HasClass old c → IsClass new (map f places) t (f c) → IsClass old places t c
  class_of places h t c k is =
      let a = class_from places h t (f c) is in
      subst (IsClass old places t) (re.one_to_one a.0 c a.3 k a.2) a.1

  none_have : All (HasClass old) []
  none_have = All-nil (HasClass old)

  pub one_class_to : (t u : Tree Op) → HaveOneClass old [] t u → HaveOneClass new [] t u
  one_class_to t u h = record { class = f h.class; first = class_to [] t h.class h.first; second = class_to [] u h.class h.second }

  pub one_class_from : (t u : Tree Op) → HaveOneClass new [] t u → HaveOneClass old [] t u
  one_class_from t u h =
      let a = class_from [] none_have t h.class h.first in
      let b = class_from [] none_have u h.class h.second in
      record { class = a.0; first = a.1; second = subst (IsClass old [] u) (re.one_to_one b.0 a.0 b.3 a.3 (b.2 ∙ sym a.2)) b.1 }

  -- ---- graphs after rounds

  distinct : AllPairs (λ (r t : Row Op). ¬ Agree r t) old.rows → AllPairs (λ (r t : Row Op). ¬ Agree r t) new.rows
  distinct h i j d lt l agree =
      let m : j < length old.rows = omega (arith, l, ap length re.rows, length-map old.rows (relabel f)) in
      let q = (some_at old.rows j m).0 in
      let at = λ (k : ℕ) (b : k < length old.rows). ap (λ (rs : List (Row Op)). get_or rs k d) re.rows ∙ get_or-map (relabel f) old.rows k q d b in
      let first : get_or new.rows i d ≡ relabel f (get_or old.rows i q) = at i (omega arith) in
      let second : get_or new.rows j d ≡ relabel f (get_or old.rows j q) = at j m in
      let same_op : (get_or old.rows i q).op ≡ (get_or old.rows j q).op = sym (ap (λ (r : Row Op). r.op) first) ∙ agree.op ∙ ap (λ (r : Row Op). r.op) second in
      let same : map f (get_or old.rows i q).operands ≡ map f (get_or old.rows j q).operands = sym (ap (λ (r : Row Op). r.operands) first) ∙ agree.operands ∙ ap (λ (r : Row Op). r.operands) second in
      h i j q lt m (record { op = same_op; operands = same_from_map _ _ (operands_have (get_or old.rows i q) (Contains-get_or old.rows i q (omega arith))) (operands_have (get_or old.rows j q) (Contains-get_or old.rows j q m)) same })

  pub grown_to : (added : AddedRules) (present : List (Tree Op)) (equal : List Pair) (j : ℕ) → IsGrown added present equal old j → IsGrown added present equal new j
  grown_to added present equal j grown = record {
    distinct = distinct grown.distinct;
    operands =
        subst (All (λ (r : Row Op). All (HasClass new) r.operands)) (sym re.rows)
        (All-map (λ (r : Row Op). All (HasClass new) r.operands) (relabel f) old.rows
        (All-weaker (λ (r : Row Op). All (HasClass old) r.operands) (λ (r : Row Op). All (HasClass new) (map f r.operands)) (λ r h. all_have r.operands h) old.rows grown.operands));
    inhabited = λ d h.
        let c = has_back d h in
        let t = grown.inhabited c.0 c.1 in
        (t.0, subst (IsClass new [] t.0) c.2 (class_to [] t.0 c.0 t.1));
    exact = λ t u. (λ h. (grown.exact t u).0 (one_class_from t u h), λ h. one_class_to t u ((grown.exact t u).1 h));
  }

  -- ---- matches

  class_has : (places : List ℕ) (t : Tree Op) (c : ℕ) → All (HasClass old) places → IsClass old places t c → HasClass old c
  class_has places _ _ h (at_variable {n = n} lt) = All-get_or (HasClass old) places n 0 lt h
  class_has places _ _ h (at_row {op = op} {ts = ts} {cs = cs} {c = c} are here) = record { row = record { op = op; operands = cs; class = c }; there = here; is = refl }

  constant_to : (c x : ℕ) → HasConstant op_signature old.rows c x → HasConstant op_signature new.rows (f c) x
  constant_to c x h = record { row = relabel f h.row; there = there h.row h.there; of_class = ap f h.of_class; is = h.is }

  constant_from : (c x : ℕ) → HasClass old c → HasConstant op_signature new.rows (f c) x → HasConstant op_signature old.rows c x
  constant_from c x k h =
      let r = from h.row h.there in
      record {
        row = r.0;
        there = r.1;
        of_class = re.one_to_one r.0.class c (record { row = r.0; there = r.1; is = refl }) k (ap (λ (s : Row Op). s.class) (sym r.2) ∙ h.of_class);
        is = ap (λ (s : Row Op). op_signature.constant s.op) (sym r.2) ∙ h.is;
      }

  module _ (r : Rewrite) (usable : IsUsable r) where
    pub match_to : (places : List ℕ) (c : ℕ) → IsMatch old r places c → IsMatch new r (map f places) (f c)
    match_to places c m = record {
      count = length-map places f ∙ m.count;
      present = all_have places m.present;
      left = class_to places r.left c m.left;
      constants = λ n x h.
          let l : n < length places = omega (arith, usable.constants n x h, m.count) in
          subst (λ d. HasConstant op_signature new.rows d x) (sym (get_or-map f places n 0 0 l)) (constant_to (get_or places n 0) x (m.constants n x h));
    }

    pub match_from : (places : List ℕ) (c : ℕ) → All (HasClass old) places → HasClass old c → IsMatch new r (map f places) (f c) → IsMatch old r places c
    match_from places c h k m = record {
      count = sym (length-map places f) ∙ m.count;
      present = h;
      left = class_of places h r.left c k m.left;
      constants = λ n x there.
          let l : n < length places = omega (arith, usable.constants n x there, m.count, length-map places f) in
          constant_from (get_or places n 0) x (All-get_or (HasClass old) places n 0 l h) (subst (λ d. HasConstant op_signature new.rows d x) (get_or-map f places n 0 0 l) (m.constants n x there));
    }

    pub unmet_to : (places : List ℕ) (c : ℕ) → IsUnmet old r places c → IsUnmet new r (map f places) (f c)
    unmet_to places c u = record {
      match = match_to places c u.match;
      right = λ is. u.right (class_of places u.match.present r.right c (class_has places r.left c u.match.present u.match.left) is);
    }

    pub unmet_from : (places : List ℕ) (c : ℕ) → All (HasClass old) places → HasClass old c → IsUnmet new r (map f places) (f c) → IsUnmet old r places c
    unmet_from places c h k u = record {
      match = match_from places c h k u.match;
      right = λ is. u.right (class_to places r.right c is);
    }

  -- ---- schemes

  abbrev AreUsable : Scheme → Type 0
  AreUsable s = (r : Rewrite) → IsOf s r → IsUsable r

  unmet_of_to : (s : Scheme) (places : List ℕ) → AreUsable s → IsUnmetOf old s places → IsUnmetOf new s (map f places)
  unmet_of_to s places usable u = record { rule = u.rule; of = u.of; class = f u.class; unmet = unmet_to u.rule (usable u.rule u.of) places u.class u.unmet }

  unmet_of_from : (s : Scheme) (ds : List ℕ) → AreUsable s → IsUnmetOf new s ds → (places : List ℕ) × IsUnmetOf old s places × (map f places ≡ ds)
  unmet_of_from s ds usable u =
      let p = lists_back ds u.unmet.match.present in
      let rule_usable = usable u.rule u.of in
      let unmet : IsUnmet new u.rule (map f p.0) u.class = subst (λ xs. IsUnmet new u.rule xs u.class) (sym p.2) u.unmet in
      let c = class_from p.0 p.1 u.rule.left u.class unmet.match.left in
      (p.0, record { rule = u.rule; of = u.of; class = c.0; unmet = unmet_from u.rule rule_usable p.0 c.0 p.1 c.3 (subst (IsUnmet new u.rule (map f p.0)) (sym c.2) unmet) }, p.2)

  quiet_to : (added : AddedRules) → ((s : Scheme) → Contains (schemes added) s → AreUsable s) → IsQuiet added old → IsQuiet added new
  quiet_to added usable quiet s h ds u = let p = unmet_of_from s ds (usable s h) u in quiet s h p.0 p.1

  quiet_from : (added : AddedRules) → ((s : Scheme) → Contains (schemes added) s → AreUsable s) → IsQuiet added new → IsQuiet added old
  quiet_from added usable quiet s h places u = quiet s h (map f places) (unmet_of_to s places (usable s h) u)

  lists_to : (s : Scheme) (xs : List (List ℕ)) → AreUsable s → Lists (IsUnmetOf old s) xs → Lists (IsUnmetOf new s) (map (map f) xs)
  lists_to s xs usable lists = record {
    each = All-map (IsUnmetOf new s) (map f) xs (All-weaker (IsUnmetOf old s) (λ places. IsUnmetOf new s (map f places)) (λ places u. unmet_of_to s places usable u) xs lists.each);
    all = λ ds u.
        let p = unmet_of_from s ds usable u in
        subst (Contains (map (map f) xs)) p.2 (contains_map (map f) xs p.0 (lists.all p.0 p.1));
    once = λ i j d lt l same.
        let m : j < length xs = omega (arith, l, length-map xs (map f)) in
        let k : i < length xs = omega (arith, lt, m) in
        let present = λ (n : ℕ) (b : n < length xs). (All-get_or (IsUnmetOf old s) xs n [] b lists.each).unmet.match.present in
        lists.once i j [] lt m (same_from_map (get_or xs i []) (get_or xs j []) (present i k) (present j m) (sym (get_or-map (map f) xs i [] d k) ∙ same ∙ get_or-map (map f) xs j [] d m));
  }

  need_to : (s : Scheme) (n : ℕ) → AreUsable s → IsNeed old s n → IsNeed new s n
  need_to s n usable need = record {
    matches = need.matches;
    count = record { list = map (map f) need.count.list; lists = lists_to s need.count.list usable need.count.lists; length_is = length-map need.count.list (map f) ∙ need.count.length_is };
    is = need.is;
  }

  needs_to : (ss : List Scheme) (n : ℕ) → ((s : Scheme) → Contains ss s → AreUsable s) → AreNeeds old ss n → AreNeeds new ss n
  needs_to _ _ usable no_need = no_need
  needs_to _ _ usable (one_need {s = s} {ss = ss} {m = m} {n = n} need needs) =
      one_need (need_to s m (usable s (0, omega arith, refl)) need)
      (needs_to ss n (λ t h. usable t (suc h.0, (let l = h.1 in omega arith), h.2)) needs)

  pub stops_to : (added : AddedRules) → ((r : Rewrite) → IsRuleOf added r → IsUsable r) → (rounds nodes j : ℕ) (stop : Stop) → StopIs added old rounds nodes j stop → StopIs added new rounds nodes j stop
  stops_to added usable rounds nodes j Quiet h = quiet_to added (λ s there r of. usable r (record { scheme = s; there = there; of = of })) h
  stops_to added usable rounds nodes j Rounds h = (λ q. h.0 (quiet_from added (λ s there r of. usable r (record { scheme = s; there = there; of = of })) q), h.1)
  stops_to added usable rounds nodes j Full h =
      let each = λ (s : Scheme) (there : Contains (schemes added) s) (r : Rewrite) (of : IsOf s r). usable r (record { scheme = s; there = there; of = of }) in
      let full = h.2 in (
        λ q. h.0 (quiet_from added each q),
        h.1,
        record {
          need = full.need;
          is = needs_to (schemes added) full.need each full.is;
          passed = omega (arith, full.passed, ap length re.rows, length-map old.rows (relabel f));
        },
      )
