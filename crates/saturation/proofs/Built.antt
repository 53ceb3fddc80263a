-- What the inserts of a term keep and give.
use Rattle.std.proofs.Common.{◌≡◌, ℕ, zero, suc, ◌+◌, ◌<◌, List, [], ◌∷◌, map, length, get_or, Contains, All, sym, ap, ◌∙◌, subst, inl, inr, arith}
use Rattle.std.proofs.lemmas.List.{get_or-map, length-map}
use Rattle.std.proofs.lemmas.List.Elements.{All-cons, Contains-push_cases, Contains-push}
use Rattle.word_ops.specs.declared.sorts.Op.{Op}
use Rattle.word_ops.specs.declared.sorts.Sort.{Sort}
use Rattle.word_ops.specs.Meanings.{sort_of, operand_sort}
use Rattle.word_terms.specs.Keys.{op_signature}
use Rattle.word_terms.specs.Tree.{Tree, Trees, variable, application, put_in, substituted, each_substituted}
use Rattle.axiom_base.specs.Schemes.{AddedRules}
use Rattle.word_terms.specs.Sorting.{HasSort, HaveSorts, sort_at}
use Rattle.egraph.specs.declared.rows.Row.{Row}
use Rattle.egraph.specs.Graph.{Graph, IsGraph, read_through, with_row}
use Rattle.pattern_match.specs.Classes.{IsClass, AreClasses, at_variable, at_row, no_classes, classes}
use Rattle.saturation.specs.Derives.{IsAmong, first, rest, Derives, operand}
use Rattle.saturation.specs.Grown.{AreInhabited}
use Rattle.egraph.specs.Sorts.{IsOfSort}
use Rattle.saturation.specs.Trace.{IsBuilt, AreBuilt, placed, put, none_built, one_built}
use Rattle.saturation.proofs.Lists.{map_agree}
use Rattle.saturation.proofs.Graphs.{cur, row_present, row_made}
use Rattle.saturation.proofs.Classes.{at_instances, still_class, still_classes}
use Rattle.saturation.proofs.Follows.{Extends, extends_itself, extends_through, insert_extends, insert_row, extends_follows, class_kept, classes_kept, sort_follows}
use Rattle.saturation.proofs.Sound.{IsSound, insert_sound}
use Rattle.saturation.proofs.Complete.{derives_equality}

abbrev pub AreMadeIn : Graph Op → List ℕ → Type 0
AreMadeIn g xs = All (λ x. x < length g.current) xs

pub made_later : (g new : Graph Op) → Extends g new → (xs : List ℕ) → AreMadeIn g xs → AreMadeIn new xs
made_later g new f xs h = λ n d l. let a = h n d l in omega (arith, f.longer, a)

-- classes ever made are read alike after inserts
pub read_same : (g new : Graph Op) → Extends g new → (xs : List ℕ) → AreMadeIn g xs → map (cur g) xs ≡ map (cur new) xs
read_same g new f xs h = map_agree (cur g) (cur new) xs (λ n d l. sym (f.same (get_or xs n d) (h n d l)))

module _ (places : List ℕ) where
  mutual
    pub built_graph : {t : Tree Op} {g new : Graph Op} {c : ℕ} → IsBuilt places t g c new → IsGraph op_signature g → IsGraph op_signature new
    built_graph (placed l) is = is
    built_graph (put a p) is = p.graph

    pub are_built_graph : {ts : Trees Op} {g new : Graph Op} {cs : List ℕ} → AreBuilt places ts g cs new → IsGraph op_signature g → IsGraph op_signature new
    are_built_graph none_built is = is
    are_built_graph (one_built b a) is = are_built_graph a (built_graph b is)

  mutual
    pub built_extends : {t : Tree Op} {g new : Graph Op} {c : ℕ} → IsBuilt places t g c new → Extends g new
    built_extends (placed {g} l) = extends_itself g
    built_extends (put {op} {g} {h} {new} {cs} {c} a p) = extends_through g h new (are_built_extends a) (insert_extends h op cs c new p.inserted)

    pub are_built_extends : {ts : Trees Op} {g new : Graph Op} {cs : List ℕ} → AreBuilt places ts g cs new → Extends g new
    are_built_extends (none_built {g}) = extends_itself g
    are_built_extends (one_built {g} {h} {new} b a) = extends_through g h new (built_extends b) (are_built_extends a)

  mutual
    -- the term has the class that it was given
    pub built_class : {t : Tree Op} {g new : Graph Op} {c : ℕ} → IsBuilt places t g c new → IsGraph op_signature g → AreMadeIn g places → (c < length new.current) × IsClass new (map (cur new) places) t (cur new c)
    built_class (placed {n} {g} l) is made =
        (made n 0 l, subst (IsClass g (map (cur g) places) (variable n)) (get_or-map (cur g) places n 0 0 l) (at_variable (omega (arith, l, length-map places (cur g)))))
    built_class (put {op} {ts} {g} {h} {new} {cs} {c} a p) is made =
        let f = are_built_extends a in
        let k = insert_extends h op cs c new p.inserted in
        let here = read_through h cs in
        let there = insert_row h op cs c new p.inserted in
        let row : Row Op = record { op = op; operands = here; class = c } in
        let ops : AreClasses new (map (cur h) places) ts here = classes_kept h new k (map (cur h) places) (are_built_classes a is made).1 in
        let ops' : AreClasses new (map (cur new) places) ts here = subst (λ xs. AreClasses new xs ts here) (read_same h new k places (made_later g h f places made)) ops in
        (row_made op_signature new p.graph row there, subst (IsClass new (map (cur new) places) (application op ts)) (sym (row_present op_signature new p.graph row there)) (at_row ops' there))

    pub are_built_classes : {ts : Trees Op} {g new : Graph Op} {cs : List ℕ} → AreBuilt places ts g cs new → IsGraph op_signature g → AreMadeIn g places →
        AreMadeIn new cs × AreClasses new (map (cur new) places) ts (map (cur new) cs)
    are_built_classes none_built is made = (λ n d l. absurd (omega arith), no_classes)
    are_built_classes (one_built {t} {ts} {g} {h} {new} {c} {cs} b a) is made =
        let f = built_extends b in
        let k = are_built_extends a in
        let one = built_class b is made in
        let all = are_built_classes a (built_graph b is) (made_later g h f places made) in
        let t_then : IsClass new (map (cur h) places) t (cur h c) = class_kept h new k (map (cur h) places) one.1 in
        let t_now : IsClass new (map (cur new) places) t (cur new c) =
        subst (IsClass new (map (cur new) places) t) (sym (k.same c one.0)) (subst (λ xs. IsClass new xs t (cur h c)) (read_same h new k places (made_later g h f places made)) t_then) in
        (All-cons (λ x. x < length new.current) c cs (omega (arith, k.longer, one.0)) all.0, classes t_now all.1)

-- ---- terms of classes

-- the values are terms of the places' classes
pub record Stand (g : Graph Op) (places : List ℕ) (values : List (Tree Op)) : Type 0 where
  pub made : AreMadeIn g places
  pub each : (n : ℕ) → n < length places → IsClass g [] (put_in values n) (cur g (get_or places n 0))

pub stand_extends : (g new : Graph Op) → Extends g new → (places : List ℕ) (values : List (Tree Op)) → Stand g places values → Stand new places values
stand_extends g new f places values h = record {
  made = made_later g new f places h.made;
  each = λ n l. subst (IsClass new [] (put_in values n)) (sym (f.same (get_or places n 0) (h.made n 0 l))) (class_kept g new f [] (h.each n l));
}

-- the same as premise of the lemmas on instances
pub stand_each : (g : Graph Op) (places : List ℕ) (values : List (Tree Op)) → Stand g places values → (n : ℕ) → n < length (map (cur g) places) → IsClass g [] (put_in values n) (get_or (map (cur g) places) n 0)
stand_each g places values h n l =
    let l' : n < length places = omega (arith, l, length-map places (cur g)) in
    subst (IsClass g [] (put_in values n)) (sym (get_or-map (cur g) places n 0 0 l')) (h.each n l')

insert_inhabited : (g : Graph Op) (op : Op) (here : List ℕ) (ts : Trees Op) → AreClasses g [] ts here → AreInhabited g → AreInhabited (with_row g op here)
insert_inhabited g op here ts are inh c h =
    let added : Row Op = record { op = op; operands = here; class = length g.current } in
    elim (Contains-push_cases g.rows added h.row h.there) [
      | inl old ↦ (let t = inh c (record { row = h.row; there = old; is = h.is }) in (t.0, still_class g op here [] t.1))
      | inr new ↦ (application op ts, subst (IsClass (with_row g op here) [] (application op ts)) (ap (λ r. r.class) new ∙ h.is) (at_row (still_classes g op here [] are) (Contains-push g.rows added)))
    ]

among_substituted : (values : List (Tree Op)) {t : Tree Op} {ts : Trees Op} → IsAmong t ts → IsAmong (substituted values t) (each_substituted values ts)
among_substituted values first = first
among_substituted values (rest h) = rest (among_substituted values h)

-- what is built of an instance that is present keeps soundness, and no class is empty
module _ (added : AddedRules) (present : List (Tree Op)) (equal : List (Tree Op × Tree Op)) (j : ℕ) (values : List (Tree Op)) (places : List ℕ) where
  abbrev D : Tree Op → Tree Op → Type 0
  D = Derives added present equal j

  abbrev Good : Graph Op → Type 0
  Good g = IsSound D g × AreInhabited g

  mutual
    pub built_sound : {t : Tree Op} {g new : Graph Op} {c : ℕ} → IsBuilt places t g c new → IsGraph op_signature g → Good g → Stand g places values →
        D (substituted values t) (substituted values t) → Good new
    built_sound (placed l) is good stand d = good
    built_sound (put {op} {ts} {g} {h} {new} {cs} {c} a p) is good stand d =
        let f = are_built_extends places a in
        let ih = are_built_graph places a is in
        let then = are_built_sound a is good stand (λ t k. operand (substituted values t) (among_substituted values k) d) in
        let stand_h = stand_extends g h f places values stand in
        let are : AreClasses h [] (each_substituted values ts) (read_through h cs) = at_instances h (map (cur h) places) values (stand_each h places values stand_h) (are_built_classes places a is stand.made).1 in
        elim p.inserted [
          | inl old ↦ subst Good (sym old.1) then
          | inr new_row ↦
              subst Good (sym new_row.2) (
                insert_sound D (derives_equality added present equal j) op_signature h ih then.0 op (read_through h cs) (each_substituted values ts) are d,
                insert_inhabited h op (read_through h cs) (each_substituted values ts) are then.1,
              )
        ]

    are_built_sound : {ts : Trees Op} {g new : Graph Op} {cs : List ℕ} → AreBuilt places ts g cs new → IsGraph op_signature g → Good g → Stand g places values →
        ((t : Tree Op) → IsAmong t ts → D (substituted values t) (substituted values t)) → Good new
    are_built_sound none_built is good stand d = good
    are_built_sound (one_built {t} {ts} {g} {h} b a) is good stand d =
        are_built_sound a (built_graph places b is) (built_sound b is good stand (d t first)) (stand_extends g h (built_extends places b) places values stand) (λ u k. d u (rest k))

-- ---- sorts

-- all rows of the class give the sort
pub sort_of_rows : (g : Graph Op) → IsGraph op_signature g → (c : ℕ) (sort : Sort) → IsOfSort op_signature g c sort → (r : Row Op) → Contains g.rows r → r.class ≡ cur g c → sort_of r.op ≡ sort
sort_of_rows g is c sort h r k e = is.one_sort r h.row k h.there (e ∙ sym h.in_class) ∙ h.sort_is

by_place : (new : Graph Op) (op : Op) (at : ℕ) (c : ℕ) (cs : List ℕ) → IsOfSort op_signature new c (operand_sort op at) → ((k : ℕ) → k < length cs → IsOfSort op_signature new (get_or cs k 0) (operand_sort op (at + 1 + k))) → (k : ℕ) → k < length (c ∷ cs) → IsOfSort op_signature new (get_or (c ∷ cs) k 0) (operand_sort op (at + k))
by_place new op at c cs one others zero l = let e : at ≡ at + 0 = omega arith in subst (λ n. IsOfSort op_signature new c (operand_sort op n)) e one
by_place new op at c cs one others (suc k) l = let e : at + 1 + k ≡ at + suc k = omega arith in subst (λ n. IsOfSort op_signature new (get_or cs k 0) (operand_sort op n)) e (others k (omega arith))

module _ (places : List ℕ) (variables : List Sort) (count : length places ≡ length variables) where
  abbrev HaveIn : Graph Op → Type 0
  HaveIn g = (n : ℕ) → n < length places → IsOfSort op_signature g (get_or places n 0) (sort_at variables n)

  pub have_later : (g new : Graph Op) → IsGraph op_signature g → Extends g new → HaveIn g → HaveIn new
  have_later g new is f h = λ n l. sort_follows g new (extends_follows op_signature g is new f) (get_or places n 0) _ (h n l)

  -- the classes are of the sorts that the operator takes, from number `at` on
  abbrev pub OfSorts : Graph Op → Op → ℕ → List ℕ → Type 0
  OfSorts g op at cs = (k : ℕ) → k < length cs → IsOfSort op_signature g (get_or cs k 0) (operand_sort op (at + k))

  mutual
    -- what is built is of the term's sort
    pub built_sort : {t : Tree Op} {g new : Graph Op} {c : ℕ} (sort : Sort) → IsBuilt places t g c new → IsGraph op_signature g → HaveIn g → HasSort op_signature variables sort t → IsOfSort op_signature new c sort
    built_sort sort (placed {n} {g} l) is have h = subst (IsOfSort op_signature g (get_or places n 0)) h.1 (have n l)
    built_sort sort (put {op} {ts} {g} {h = mid} {new} {cs} {c} a p) is have h =
        let there = insert_row mid op cs c new p.inserted in
        let row : Row Op = record { op = op; operands = read_through mid cs; class = c } in
        record {
          made = row_made op_signature new p.graph row there;
          row = row;
          there = there;
          in_class = sym (row_present op_signature new p.graph row there);
          sort_is = h.0;
        }

    pub are_built_sorts : {ts : Trees Op} {g new : Graph Op} {cs : List ℕ} (op : Op) (at : ℕ) → AreBuilt places ts g cs new → IsGraph op_signature g → HaveIn g → HaveSorts op_signature variables op at ts → OfSorts new op at cs
    are_built_sorts op at none_built is have h = λ k l. absurd (omega arith)
    are_built_sorts op at (one_built {t} {ts} {g} {h = mid} {new} {c} {cs} b a) is have h =
        let im = built_graph places b is in
        let one = sort_follows mid new (extends_follows op_signature mid im new (are_built_extends places a)) c (operand_sort op at) (built_sort (operand_sort op at) b is have h.0) in
        let others = are_built_sorts op (at + 1) a im (have_later g mid is (built_extends places b) have) h.1 in
        λ k. by_place new op at c cs one others k
