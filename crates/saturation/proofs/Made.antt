-- What a round keeps and gives, step by step.
use Rattle.std.proofs.Common.{◌≡◌, ◌≢◌, ℕ, zero, suc, ◌<◌, ◌≤◌, List, [], ◌∷◌, map, length, Contains, All, refl, sym, ap, ◌∙◌, subst, arith}
use Rattle.std.proofs.lemmas.List.Elements.{All-head, All-tail, All-weaker, All-contains}
use Rattle.word_ops.specs.declared.sorts.Op.{Op}
use Rattle.word_ops.specs.declared.sorts.Op.TheVariants.{Constant}
use Rattle.word_terms.specs.Keys.{op_signature}
use Rattle.word_terms.specs.Laws.{op_constant_is_own, op_constant_takes_none}
use Rattle.word_terms.specs.Tree.{Tree, substituted}
use Rattle.axiom_base.specs.Schemes.{AddedRules}
use Rattle.word_terms.specs.Building.{constant}
use Rattle.egraph.specs.declared.rows.Row.{Row}
use Rattle.egraph.specs.Graph.{Graph, IsGraph, HasConstant}
use Rattle.egraph.specs.Joined as closure
use Rattle.egraph.specs.Joined.{pair, IsMerged}
use Rattle.pattern_match.specs.Classes.{IsClass, at_row, no_classes}
use Rattle.saturation.specs.Trace.{Asked, IsBuilt, IsApplied, AreAllApplied, finished, work, IsRefusedMerge, IsRefused, here, after}
use Rattle.saturation.specs.Derives.{Derives, symmetric, transitive}
use Rattle.saturation.specs.Grown.{AreInhabited}
use Rattle.saturation.proofs.Graphs.{cur, row_present}
use Rattle.saturation.proofs.Classes.{class_moved, at_instance}
use Rattle.saturation.proofs.Follows.{Follows, follows_itself, follows_through, merge_follows, extends_follows, class_follows, closed_follows}
use Rattle.saturation.proofs.Built.{AreMadeIn, made_later, built_graph, built_extends, built_class, Stand, stand_each, built_sound}
use Rattle.saturation.proofs.Sound.{IsSound, merge_sound, joined_sound}
use Rattle.saturation.proofs.Complete.{derives_equality}

-- the graph and the class before the merge
pub made_graph : (a : Asked) (g new : Graph Op) → IsApplied a g new → IsGraph op_signature new
made_graph a g new h = h.joined.graph

pub made_follows : (a : Asked) (g new : Graph Op) → IsApplied a g new → IsGraph op_signature g → Follows g new
made_follows a g new h is =
    let im = built_graph a.places h.built is in
    follows_through op_signature g h.middle new is
    (extends_follows op_signature g is h.middle (built_extends a.places h.built))
    (merge_follows op_signature h.middle im h.class a.class new h.joined.merged)

pub all_made_graph : {asks : List Asked} {g new : Graph Op} → AreAllApplied asks g new → IsGraph op_signature g → IsGraph op_signature new
all_made_graph finished is = is
all_made_graph (work {a} {asks} {g} {h} m w) is = all_made_graph w (made_graph a g h m)

pub all_made_follow : {asks : List Asked} {g new : Graph Op} → AreAllApplied asks g new → IsGraph op_signature g → Follows g new
all_made_follow (finished {g}) is = follows_itself op_signature g is
all_made_follow (work {a} {asks} {g} {h} {new} m w) is = follows_through op_signature g h new is (made_follows a g h m is) (all_made_follow w (made_graph a g h m))

-- ---- what was asked is there at the end

-- the classes that are asked about were made
pub record IsAbout (g : Graph Op) (a : Asked) : Type 0 where
  pub places : AreMadeIn g a.places
  pub class : a.class < length g.current

about_later : (g new : Graph Op) → length g.current ≤ length new.current → (a : Asked) → IsAbout g a → IsAbout new a
about_later g new f a h = record { places = λ n d l. let k = h.places n d l in omega (arith, f, k); class = omega (arith, f, h.class) }

-- the right side has the class
abbrev pub IsThere : Graph Op → Asked → Type 0
IsThere new a = IsClass new (map (cur new) a.places) a.right (cur new a.class)

pub made_there : (a : Asked) (g new : Graph Op) → IsApplied a g new → IsGraph op_signature g → IsAbout g a → IsThere new a
made_there a g new h is about =
    let im = built_graph a.places h.built is in
    let f = built_extends a.places h.built in
    let c = built_class a.places h.built is about.places in
    let m = h.joined.merged in
    let now = class_follows h.middle new (merge_follows op_signature h.middle im h.class a.class new m) a.places (made_later g h.middle f a.places about.places) c.0 c.1 in
    let one : cur new h.class ≡ cur new a.class = (m.joined h.class a.class c.0 (omega (arith, f.longer, about.class))).1 pair in
    subst (IsClass new (map (cur new) a.places) a.right) one now

there_follows : (a : Asked) (g new : Graph Op) → Follows g new → IsAbout g a → IsThere g a → IsThere new a
there_follows a g new f about h = class_follows g new f a.places about.places about.class h

pub all_there : {asks : List Asked} {g new : Graph Op} → AreAllApplied asks g new → IsGraph op_signature g → All (IsAbout g) asks → All (IsThere new) asks
all_there finished is about n d l = absurd (omega arith)
all_there (work {a} {asks} {g} {h} {new} m w) is about zero d l =
    let ih = made_graph a g h m in
    let first = All-head (IsAbout g) a asks about in
    there_follows a h new (all_made_follow w ih) (about_later g h (made_follows a g h m is).longer a first) (made_there a g h m is first)
all_there (work {a} {asks} {g} {h} {new} m w) is about (suc n) d l =
    let longer = (made_follows a g h m is).longer in
    all_there w (made_graph a g h m) (All-weaker (IsAbout g) (IsAbout h) (λ x k. about_later g h longer x k) asks (All-tail (IsAbout g) a asks about)) n d (omega arith)

-- ---- no more than that

-- D between the right side and a term of the class, by terms of the classes that it is over
pub record IsJustified (D : Tree Op → Tree Op → Type 0) (g : Graph Op) (a : Asked) : Type 0 where
  pub values : List (Tree Op)
  pub left : Tree Op
  pub stand : Stand g a.places values
  pub class_made : a.class < length g.current
  pub left_class : IsClass g [] left (cur g a.class)
  pub equal : D left (substituted values a.right)

pub justified_follows : (D : Tree Op → Tree Op → Type 0) (g new : Graph Op) → Follows g new → (a : Asked) → IsJustified D g a → IsJustified D new a
justified_follows D g new f a h = record {
  values = h.values;
  left = h.left;
  stand = record {
    made = λ n d l. let k = h.stand.made n d l in omega (arith, f.longer, k);
    each = λ n l. closed_follows g new f (h.stand.made n 0 l) (h.stand.each n l);
  };
  class_made = omega (arith, f.longer, h.class_made);
  left_class = closed_follows g new f h.class_made h.left_class;
  equal = h.equal;
}

pub merge_inhabited : (g : Graph Op) (a b : ℕ) (new : Graph Op) → IsMerged g a b new → AreInhabited g → AreInhabited new
merge_inhabited g a b new m inh c h =
    let s = m.from_old h.row h.there in
    let t = inh s.0.class (record { row = s.0; there = s.1; is = refl }) in
    (t.0, subst (IsClass new [] t.0) (sym (ap (λ r. r.class) s.2) ∙ h.is) (class_moved g new (cur new) m.images [] t.1))

none_of_none : (xs : List ℕ) → length xs ≡ 0 → xs ≡ []
none_of_none [] e = refl
none_of_none (x ∷ xs) e = absurd (omega arith)

-- the row of a constant
pub constant_class : (g : Graph Op) → IsGraph op_signature g → (c x : ℕ) → HasConstant op_signature g.rows c x → IsClass g [] (constant x) c
constant_class g is c x h =
    let e : h.row.op ≡ Constant x = op_constant_is_own h.row.op (Constant x) x h.is refl in
    let len : length h.row.operands ≡ 0 = All-contains (λ (r : Row Op). length r.operands ≡ op_signature.arity r.op) g.rows h.row is.arities h.there ∙ op_constant_takes_none h.row.op x h.is in
    let nil : h.row.operands ≡ [] = none_of_none h.row.operands len in
    let row_is : h.row ≡ record { op = Constant x; operands = []; class = c } = λ i. record { op = e i; operands = nil i; class = h.of_class i } in
    at_row no_classes (subst (Contains g.rows) row_is h.there)

module _ (added : AddedRules) (present : List (Tree Op)) (equal : List (Tree Op × Tree Op)) (j : ℕ) where
  abbrev D : Tree Op → Tree Op → Type 0
  D = Derives added present equal j

  abbrev pub Good : Graph Op → Type 0
  Good g = IsSound D g × AreInhabited g

  -- the middle graph is good, and the right term has its class there
  record Middle (a : Asked) (m : Graph Op) (c : ℕ) : Type 0 where
    pub good : Good m
    pub class_made : c < length m.current
    pub justified : IsJustified D m a
    pub right : IsClass m [] (substituted justified.values a.right) (cur m c)

  middle : (a : Asked) (g m : Graph Op) (c : ℕ) → IsBuilt a.places a.right g c m → IsGraph op_signature g → Good g → IsJustified D g a → Middle a m c
  unfolding justified_follows
  middle a g m c b is good q =
      let f = built_extends a.places b in
      let here : D (substituted q.values a.right) (substituted q.values a.right) = transitive (symmetric q.equal) q.equal in
      let q' = justified_follows D g m (extends_follows op_signature g is m f) a q in
      let class = built_class a.places b is q.stand.made in
      record {
        good = built_sound added present equal j q.values a.places b is good q.stand here;
        class_made = class.0;
        justified = q';
        right = at_instance m (map (cur m) a.places) q.values (stand_each m a.places q.values q'.stand) class.1;
      }

  pub made_good : (a : Asked) (g new : Graph Op) → IsApplied a g new → IsGraph op_signature g → Good g → IsJustified D g a → Good new
  made_good a g new h is good q =
      let im = built_graph a.places h.built is in
      let m = middle a g h.middle h.class h.built is good q in
      let q' = m.justified in (
        merge_sound D (derives_equality added present equal j) op_signature h.middle im m.good.0 m.good.1 h.class a.class m.class_made q'.class_made (substituted q'.values a.right) q'.left m.right q'.left_class (symmetric q'.equal) new h.joined.merged,
        merge_inhabited h.middle h.class a.class new h.joined.merged m.good.1,
      )

  pub all_made_good : {asks : List Asked} {g new : Graph Op} → AreAllApplied asks g new → IsGraph op_signature g → Good g → All (IsJustified D g) asks → Good new
  all_made_good finished is good f = good
  all_made_good (work {a} {asks} {g} {h} m w) is good f =
      all_made_good w (made_graph a g h m) (made_good a g h m is good (All-head (IsJustified D g) a asks f))
      (All-weaker (IsJustified D g) (IsJustified D h) (λ q k. justified_follows D g h (made_follows a g h m is) q k) asks (All-tail (IsJustified D g) a asks f))

  -- a merge that puts two constants into one class shows that these are equal
  pub refused_at : (a : Asked) (g : Graph Op) (x y : ℕ) → IsRefusedMerge a g x y → IsGraph op_signature g → Good g → IsJustified D g a → D (constant x) (constant y) × (x ≢ y)
  refused_at a g x y h is good q =
      let im = built_graph a.places h.built is in
      let m = middle a g h.middle h.class h.built is good q in
      let q' = m.justified in
      let k = h.clash in
      let eq = derives_equality added present equal j in
      let cx : IsClass h.middle [] (constant x) (cur h.middle k.first.class) = subst (IsClass h.middle [] (constant x)) (sym (row_present op_signature h.middle im k.first k.first_there)) (constant_class h.middle im k.first.class x (record { row = k.first; there = k.first_there; of_class = refl; is = k.first_is })) in
      let cy : IsClass h.middle [] (constant y) (cur h.middle k.second.class) = subst (IsClass h.middle [] (constant y)) (sym (row_present op_signature h.middle im k.second k.second_there)) (constant_class h.middle im k.second.class y (record { row = k.second; there = k.second_there; of_class = refl; is = k.second_is })) in (
        joined_sound D eq op_signature h.middle im m.good.0 m.good.1 h.class a.class m.class_made q'.class_made (substituted q'.values a.right) q'.left m.right q'.left_class (symmetric q'.equal)
            (closure.transitive k.first_joined (closure.symmetric k.second_joined)) (constant x) (constant y) cx cy,
        k.differ,
      )

  pub refused_is_clash : {asks : List Asked} {g : Graph Op} {x y : ℕ} → IsRefused asks g x y → IsGraph op_signature g → Good g → All (IsJustified D g) asks → D (constant x) (constant y) × (x ≢ y)
  refused_is_clash (here {a} {asks} {g} {x} {y} h) is good f = refused_at a g x y h is good (All-head (IsJustified D g) a asks f)
  refused_is_clash (after {a} {asks} {g} {h} m w) is good f =
      refused_is_clash w (made_graph a g h m) (made_good a g h m is good (All-head (IsJustified D g) a asks f))
      (All-weaker (IsJustified D g) (IsJustified D h) (λ q k. justified_follows D g h (made_follows a g h m is) q k) asks (All-tail (IsJustified D g) a asks f))
