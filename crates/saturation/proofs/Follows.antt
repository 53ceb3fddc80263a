-- What a graph has of an earlier one: inserts and merges keep it.
use Rattle.std.proofs.Common.{◌≡◌, ℕ, ◌<◌, ◌≤◌, List, [], ◌∷◌, map, length, get_or, Contains, All, refl, sym, ap, ◌∙◌, subst, inl, inr, arith}
use Rattle.std.proofs.lemmas.List.{get_or_append_left, length-append}
use Rattle.std.proofs.lemmas.List.Elements.{Contains-append_left, Contains-push}
use Rattle.word_ops.specs.declared.sorts.Op.{Op}
use Rattle.word_ops.specs.declared.sorts.Sort.{Sort}
use Rattle.word_terms.specs.Keys.{op_signature}
use Rattle.word_terms.specs.Signature.{Signature}
use Rattle.word_terms.specs.Tree.{Tree, Trees}
use Rattle.egraph.specs.declared.rows.Row.{Row}
use Rattle.egraph.specs.Graph.{Graph, HasClass, IsGraph, HasRow, IsInserted, read_through, with_row}
use Rattle.egraph.specs.Joined.{IsMerged, relabel}
use Rattle.pattern_match.specs.Classes.{IsClass, AreClasses, at_variable, at_row, no_classes, classes}
use Rattle.egraph.specs.Sorts.{IsOfSort}
use Rattle.saturation.specs.Trace.{MayBuild, MayJoin, Asked}
use Rattle.saturation.proofs.Lists.{map_at_same, map_agree, map-map}
use Rattle.saturation.proofs.Graphs.{cur, row_made, row_present, has_made, has_present, operands_have, current_has, now_again}
use Rattle.saturation.proofs.Classes.{class_moved}

-- the rows are there, each class read as the one that it is in now
pub record Follows {O : Type 0} (g new : Graph O) : Type 0 where
  pub longer : length g.current ≤ length new.current
  pub again : (x : ℕ) → x < length g.current → cur new (cur g x) ≡ cur new x
  pub rows : (r : Row O) → Contains g.rows r → Contains new.rows (relabel (cur new) r)

pub follows_itself : {O : Type 0} (s : Signature O) (g : Graph O) → IsGraph s g → Follows g g
follows_itself s g is = record {
  longer = omega arith;
  again = λ x l. has_present s g is (cur g x) (current_has s g is x l);
  rows = λ r h.
      let ops : map (cur g) r.operands ≡ r.operands = map_at_same (cur g) r.operands (λ k d l. has_present s g is (get_or r.operands k d) (operands_have s g is r h k d l)) in
      let cls : cur g r.class ≡ r.class = row_present s g is r h in
      subst (Contains g.rows) (λ i. record { op = r.op; operands = sym ops i; class = sym cls i }) h;
}

pub follows_through : {O : Type 0} (s : Signature O) (g h new : Graph O) → IsGraph s g → Follows g h → Follows h new → Follows g new
follows_through s g h new is f k =
    let one : (x : ℕ) → x < length g.current → cur new (cur h x) ≡ cur new x = λ x l. k.again x (omega (arith, l, f.longer)) in
    record {
      longer = omega (arith, f.longer, k.longer);
      again = λ x l.
          let lq : cur g x < length g.current = has_made s g is (cur g x) (current_has s g is x l) in
          sym (one (cur g x) lq) ∙ ap (cur new) (f.again x l) ∙ one x l;
      rows = λ r c.
          let ops : map (cur new) (map (cur h) r.operands) ≡ map (cur new) r.operands =
          map-map (cur new) (cur h) r.operands ∙ map_agree (λ x. cur new (cur h x)) (cur new) r.operands (λ n d l. one (get_or r.operands n d) (has_made s g is (get_or r.operands n d) (operands_have s g is r c n d l))) in
          let cls : cur new (cur h r.class) ≡ cur new r.class = one r.class (row_made s g is r c) in
          subst (Contains new.rows) (λ i. record { op = r.op; operands = ops i; class = cls i }) (k.rows (relabel (cur h) r) (f.rows r c));
    }

pub merge_follows : {O : Type 0} (s : Signature O) (g : Graph O) (is : IsGraph s g) (a b : ℕ) (new : Graph O) → IsMerged g a b new → Follows g new
merge_follows s g is a b new m = record {
  longer = omega (arith, m.made);
  again = now_again s g is a b new m;
  rows = m.images;
}

-- the rows and classes are there, and more
pub record Extends {O : Type 0} (g new : Graph O) : Type 0 where
  pub longer : length g.current ≤ length new.current
  pub same : (x : ℕ) → x < length g.current → cur new x ≡ cur g x
  pub rows : (r : Row O) → Contains g.rows r → Contains new.rows r

pub extends_itself : {O : Type 0} (g : Graph O) → Extends g g
extends_itself g = record { longer = omega arith; same = λ x l. refl; rows = λ r h. h }

pub extends_through : {O : Type 0} (g h new : Graph O) → Extends g h → Extends h new → Extends g new
extends_through g h new f k = record {
  longer = omega (arith, f.longer, k.longer);
  same = λ x l. k.same x (omega (arith, l, f.longer)) ∙ f.same x l;
  rows = λ r c. k.rows r (f.rows r c);
}

with_row_extends : {O : Type 0} (g : Graph O) (op : O) (here : List ℕ) → Extends g (with_row g op here)
with_row_extends g op here = record {
  longer = omega (arith, length-append g.current (length g.current ∷ []));
  same = λ x l. get_or_append_left g.current (length g.current ∷ []) 0 x l;
  rows = λ r h. Contains-append_left g.rows (record { op = op; operands = here; class = length g.current } ∷ []) r h;
}

pub insert_extends : {O : Type 0} (g : Graph O) (op : O) (operands : List ℕ) (class : ℕ) (new : Graph O) → IsInserted g op operands class new → Extends g new
insert_extends g op operands class new i =
    elim i [
      | inl h ↦ subst (Extends g) (sym h.1) (extends_itself g)
      | inr h ↦ subst (Extends g) (sym h.2) (with_row_extends g op (read_through g operands))
    ]

-- the row that was asked for is there
pub insert_row : {O : Type 0} (g : Graph O) (op : O) (operands : List ℕ) (class : ℕ) (new : Graph O) → IsInserted g op operands class new → HasRow new.rows op (read_through g operands) class
insert_row {O} g op operands class new i =
    elim i [
      | inl h ↦ subst (λ (k : Graph O). HasRow k.rows op (read_through g operands) class) (sym h.1) h.0
      | inr h ↦
          subst (λ (k : Graph O). HasRow k.rows op (read_through g operands) class) (sym h.2)
          (subst (λ c. HasRow (with_row g op (read_through g operands)).rows op (read_through g operands) c) (sym h.1)
          (Contains-push g.rows (record { op = op; operands = read_through g operands; class = length g.current })))
    ]

pub extends_follows : {O : Type 0} (s : Signature O) (g : Graph O) → IsGraph s g → (new : Graph O) → Extends g new → Follows g new
extends_follows s g is new f = record {
  longer = f.longer;
  again = λ x l.
      let h = current_has s g is x l in
      let lq = has_made s g is (cur g x) h in
      f.same (cur g x) lq ∙ has_present s g is (cur g x) h ∙ sym (f.same x l);
  rows = λ r c.
      let now : (x : ℕ) → HasClass g x → cur new x ≡ x = λ x h. f.same x (has_made s g is x h) ∙ has_present s g is x h in
      let ops : map (cur new) r.operands ≡ r.operands = map_at_same (cur new) r.operands (λ k d l. now (get_or r.operands k d) (operands_have s g is r c k d l)) in
      let cls : cur new r.class ≡ r.class = now r.class (record { row = r; there = c; is = refl }) in
      subst (Contains new.rows) (λ i. record { op = r.op; operands = sym ops i; class = sym cls i }) (f.rows r c);
}

-- more rows give a term the class that it had
module _ {O : Type 0} (g new : Graph O) (f : Extends g new) (places : List ℕ) where
  mutual
    pub class_kept : {t : Tree O} {c : ℕ} → IsClass g places t c → IsClass new places t c
    class_kept (at_variable l) = at_variable l
    class_kept (at_row {op} {ts} {cs} {c} h k) = at_row (classes_kept h) (f.rows (record { op = op; operands = cs; class = c }) k)

    pub classes_kept : {ts : Trees O} {cs : List ℕ} → AreClasses g places ts cs → AreClasses new places ts cs
    classes_kept no_classes = no_classes
    classes_kept (classes h i) = classes (class_kept h) (classes_kept i)

-- the classes read through a later graph
pub read_again : {O : Type 0} (g new : Graph O) → Follows g new → (places : List ℕ) → All (λ x. x < length g.current) places → map (cur new) (map (cur g) places) ≡ map (cur new) places
read_again g new f places made = map-map (cur new) (cur g) places ∙ map_agree (λ x. cur new (cur g x)) (cur new) places (λ n d l. f.again (get_or places n d) (made n d l))

-- a term whose class was read so has it so later
pub class_follows : {O : Type 0} (g new : Graph O) → Follows g new → (places : List ℕ) → All (λ x. x < length g.current) places → {t : Tree O} {c : ℕ} → c < length g.current →
    IsClass g (map (cur g) places) t (cur g c) → IsClass new (map (cur new) places) t (cur new c)
class_follows g new f places made {t} {c} l h =
    subst (λ xs. IsClass new xs t (cur new c)) (read_again g new f places made)
    (subst (IsClass new (map (cur new) (map (cur g) places)) t) (f.again c l) (class_moved g new (cur new) f.rows (map (cur g) places) h))

pub closed_follows : {O : Type 0} (g new : Graph O) → Follows g new → {t : Tree O} {c : ℕ} → c < length g.current → IsClass g [] t (cur g c) → IsClass new [] t (cur new c)
closed_follows g new f l h = class_follows g new f [] (λ n d k. absurd (omega arith)) l h

-- sorts
pub sort_follows : (g new : Graph Op) → Follows g new → (c : ℕ) (sort : Sort) → IsOfSort op_signature g c sort → IsOfSort op_signature new c sort
sort_follows g new f c sort h = record {
  made = omega (arith, f.longer, h.made);
  row = relabel (cur new) h.row;
  there = f.rows h.row h.there;
  in_class = ap (cur new) h.in_class ∙ f.again c h.made;
  sort_is = h.sort_is;
}

pub build_follows : (g new : Graph Op) → Follows g new → (places : List ℕ) (t : Tree Op) (sort : Sort) → MayBuild g places t sort → MayBuild new places t sort
build_follows g new f places t sort h = record {
  variables = h.variables;
  count = h.count;
  places_have = λ n l. sort_follows g new f (get_or places n 0) _ (h.places_have n l);
  has_sort = h.has_sort;
}

pub join_follows : (g new : Graph Op) → Follows g new → (a : Asked) → MayJoin g a → MayJoin new a
join_follows g new f a h = record {
  sort = h.sort;
  right = build_follows g new f a.places a.right h.sort h.right;
  class = sort_follows g new f a.class h.sort h.class;
}
