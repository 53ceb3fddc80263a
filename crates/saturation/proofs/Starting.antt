-- The start makes a graph that is grown for round 0.
use Rattle.std.proofs.Common.{◌≡◌, ◌≢◌, ℕ, zero, suc, ◌<◌, List, [], length, get_or, All, refl, sym, ap, subst, arith}
use Rattle.std.proofs.lemmas.List.Elements.{All-head, All-tail, All-contains, All-contains_itself}
use Rattle.word_ops.specs.declared.sorts.Op.{Op}
use Rattle.word_terms.specs.Keys.{op_signature}
use Rattle.word_terms.specs.Tree.{Tree, Trees, variable, application, none, more, substituted, each_substituted}
use Rattle.axiom_base.specs.Schemes.{AddedRules}
use Rattle.word_terms.specs.Building.{constant}
use Rattle.egraph.specs.Graph.{Graph, IsGraph}
use Rattle.pattern_match.specs.Classes.{IsClass, at_variable, at_row}
use Rattle.saturation.specs.Trace.{Asked, IsBuilt, AreInserted, none_inserted, one_inserted, IsAssumeMade, AreAssumed, none_assumed, one_assumed, AreRefused, refused_here, refused_after}
use Rattle.saturation.specs.Derives.{Derives, given, assumed, symmetric, transitive}
use Rattle.saturation.specs.Grown.{IsGrown}
use Rattle.saturation.proofs.Graphs.{cur}
use Rattle.saturation.proofs.Follows.{Follows, follows_itself, follows_through, extends_follows, closed_follows}
use Rattle.saturation.proofs.Built.{AreMadeIn, built_graph, built_extends, built_class, built_sound, Stand}
use Rattle.saturation.proofs.Made.{IsJustified, made_graph, made_follows, made_there, made_good, refused_at, Good}
use Rattle.saturation.proofs.Complete.{complete_at_start}

mutual
  same_tree : (t : Tree Op) → substituted [] t ≡ t
  same_tree (variable n) = refl
  same_tree (application op ts) = ap (application op) (same_trees ts)

  same_trees : (ts : Trees Op) → each_substituted [] ts ≡ ts
  same_trees none = refl
  same_trees (more t ts) = let e = same_tree t in let f = same_trees ts in cc

pub none_made : (g : Graph Op) → AreMadeIn g []
none_made g n d l = absurd (omega arith)

no_stand : (g : Graph Op) → Stand g [] []
no_stand g = record { made = none_made g; each = λ n l. absurd (omega (arith, l)) }

-- the term has its class, and has it still later
pub record Placed (g : Graph Op) (t : Tree Op) : Type 0 where
  pub class : ℕ
  pub made : class < length g.current
  pub is : IsClass g [] t (cur g class)

pub placed_built : (t : Tree Op) (g new : Graph Op) (c : ℕ) → IsBuilt [] t g c new → IsGraph op_signature g → Placed new t
placed_built t g new c b is = let k = built_class [] b is (none_made g) in record { class = c; made = k.0; is = k.1 }

pub placed_later : (g new : Graph Op) → Follows g new → (t : Tree Op) → Placed g t → Placed new t
placed_later g new f t p = record { class = p.class; made = omega (arith, f.longer, p.made); is = closed_follows g new f p.made p.is }

pub record Together (g : Graph Op) (t u : Tree Op) : Type 0 where
  pub class : ℕ
  pub made : class < length g.current
  pub first : IsClass g [] t (cur g class)
  pub second : IsClass g [] u (cur g class)

pub together_later : (g new : Graph Op) → Follows g new → (t u : Tree Op) → Together g t u → Together new t u
together_later g new f t u p = record { class = p.class; made = omega (arith, f.longer, p.made); first = closed_follows g new f p.made p.first; second = closed_follows g new f p.made p.second }

-- ---- graphs

built_follows : (t : Tree Op) (g new : Graph Op) (c : ℕ) → IsBuilt [] t g c new → IsGraph op_signature g → Follows g new
built_follows t g new c b is = extends_follows op_signature g is new (built_extends [] b)

pub inserted_graph : {ts : List (Tree Op)} {g new : Graph Op} → AreInserted ts g new → IsGraph op_signature g → IsGraph op_signature new
inserted_graph none_inserted is = is
inserted_graph (one_inserted b w) is = inserted_graph w (built_graph [] b is)

pub inserted_follows : {ts : List (Tree Op)} {g new : Graph Op} → AreInserted ts g new → IsGraph op_signature g → Follows g new
inserted_follows (none_inserted {g}) is = follows_itself op_signature g is
inserted_follows (one_inserted {t} {ts} {g} {h} {new} {c} b w) is = follows_through op_signature g h new is (built_follows t g h c b is) (inserted_follows w (built_graph [] b is))

pub assumed_graph : (p : Tree Op × Tree Op) (g new : Graph Op) → IsAssumeMade p g new → IsGraph op_signature new
assumed_graph p g new a = made_graph (record { right = p.1; places = []; class = a.class }) a.middle new a.made

pub assumed_follows : (p : Tree Op × Tree Op) (g new : Graph Op) → IsAssumeMade p g new → IsGraph op_signature g → Follows g new
assumed_follows p g new a is =
    let im = built_graph [] a.built is in
    follows_through op_signature g a.middle new is (built_follows p.0 g a.middle a.class a.built is) (made_follows (record { right = p.1; places = []; class = a.class }) a.middle new a.made im)

pub all_assumed_graph : {ps : List (Tree Op × Tree Op)} {g new : Graph Op} → AreAssumed ps g new → IsGraph op_signature g → IsGraph op_signature new
all_assumed_graph none_assumed is = is
all_assumed_graph (one_assumed {p} {ps} {g} {h} a w) is = all_assumed_graph w (assumed_graph p g h a)

pub all_assumed_follow : {ps : List (Tree Op × Tree Op)} {g new : Graph Op} → AreAssumed ps g new → IsGraph op_signature g → Follows g new
all_assumed_follow (none_assumed {g}) is = follows_itself op_signature g is
all_assumed_follow (one_assumed {p} {ps} {g} {h} {new} a w) is = follows_through op_signature g h new is (assumed_follows p g h a is) (all_assumed_follow w (assumed_graph p g h a))

-- ---- each term has its class at the end, and each pair one class

pub all_placed : {ts : List (Tree Op)} {g new : Graph Op} → AreInserted ts g new → IsGraph op_signature g → All (Placed new) ts
all_placed none_inserted is k d l = absurd (omega arith)
all_placed (one_inserted {t} {ts} {g} {h} {new} {c} b w) is zero d l = let ih = built_graph [] b is in placed_later h new (inserted_follows w ih) t (placed_built t g h c b is)
all_placed (one_inserted {t} {ts} {g} {h} {new} b w) is (suc k) d l = all_placed w (built_graph [] b is) k d (omega (arith, l))

abbrev PairTogether : Graph Op → Tree Op × Tree Op → Type 0
PairTogether g p = Together g p.0 p.1

assumed_together : (p : Tree Op × Tree Op) (g new : Graph Op) → IsAssumeMade p g new → IsGraph op_signature g → PairTogether new p
assumed_together p g new a is =
    let im = built_graph [] a.built is in
    let ask : Asked = record { right = p.1; places = []; class = a.class } in
    let first = placed_built p.0 g a.middle a.class a.built is in
    let k = built_class [] a.built is (none_made g) in
    let f = made_follows ask a.middle new a.made im in
    record {
      class = a.class;
      made = omega (arith, k.0, f.longer);
      first = closed_follows a.middle new f k.0 k.1;
      second = made_there ask a.middle new a.made im (record { places = none_made a.middle; class = k.0 });
    }

all_together : {ps : List (Tree Op × Tree Op)} {g new : Graph Op} → AreAssumed ps g new → IsGraph op_signature g → All (PairTogether new) ps
all_together none_assumed is k d l = absurd (omega arith)
all_together (one_assumed {p} {ps} {g} {h} {new} a w) is zero d l = together_later h new (all_assumed_follow w (assumed_graph p g h a)) p.0 p.1 (assumed_together p g h a is)
all_together (one_assumed {p} {ps} {g} {h} {new} a w) is (suc k) d l = all_together w (assumed_graph p g h a) k d (omega (arith, l))

-- ---- soundness

module _ (added : AddedRules) (present : List (Tree Op)) (equal : List (Tree Op × Tree Op)) where
  abbrev D : Tree Op → Tree Op → Type 0
  D = Derives added present equal 0

  abbrev pub Fine : Graph Op → Type 0
  Fine g = Good added present equal 0 g

  one_good : (t : Tree Op) (g new : Graph Op) (c : ℕ) → IsBuilt [] t g c new → IsGraph op_signature g → Fine g → D t t → Fine new
  one_good t g new c b is good d = built_sound added present equal 0 [] [] b is good (no_stand g) (subst (λ u. D u u) (sym (same_tree t)) d)

  pub inserted_good : {ts : List (Tree Op)} {g new : Graph Op} → AreInserted ts g new → IsGraph op_signature g → Fine g → All (λ t. D t t) ts → Fine new
  inserted_good none_inserted is good d = good
  inserted_good (one_inserted {t} {ts} {g} {h} {new} {c} b w) is good d =
      inserted_good w (built_graph [] b is) (one_good t g h c b is good (All-head (λ u. D u u) t ts d)) (All-tail (λ u. D u u) t ts d)

  justified : (p : Tree Op × Tree Op) (g m : Graph Op) (c : ℕ) → IsBuilt [] p.0 g c m → IsGraph op_signature g → D p.0 p.1 → IsJustified D m (record { right = p.1; places = []; class = c })
  justified p g m c b is d =
      let k = built_class [] b is (none_made g) in
      record { values = []; left = p.0; stand = no_stand m; class_made = k.0; left_class = k.1; equal = subst (D p.0) (sym (same_tree p.1)) d }

  assumed_good : (p : Tree Op × Tree Op) (g new : Graph Op) → IsAssumeMade p g new → IsGraph op_signature g → Fine g → D p.0 p.1 → Fine new
  assumed_good p g new a is good d =
      let im = built_graph [] a.built is in
      made_good added present equal 0 (record { right = p.1; places = []; class = a.class }) a.middle new a.made im
      (one_good p.0 g a.middle a.class a.built is good (transitive d (symmetric d))) (justified p g a.middle a.class a.built is d)

  all_assumed_good : {ps : List (Tree Op × Tree Op)} {g new : Graph Op} → AreAssumed ps g new → IsGraph op_signature g → Fine g → All (λ (p : Tree Op × Tree Op). D p.0 p.1) ps → Fine new
  all_assumed_good none_assumed is good d = good
  all_assumed_good (one_assumed {p} {ps} {g} {h} a w) is good d =
      all_assumed_good w (assumed_graph p g h a) (assumed_good p g h a is good (All-head (λ (q : Tree Op × Tree Op). D q.0 q.1) p ps d)) (All-tail (λ (q : Tree Op × Tree Op). D q.0 q.1) p ps d)

  all_refused_clash : {ps : List (Tree Op × Tree Op)} {g : Graph Op} {x y : ℕ} → AreRefused ps g x y → IsGraph op_signature g → Fine g → All (λ (p : Tree Op × Tree Op). D p.0 p.1) ps → D (constant x) (constant y) × (x ≢ y)
  all_refused_clash (refused_here {p} {ps} {g} {x} {y} a) is good d =
      let im = built_graph [] a.built is in
      let h = All-head (λ (q : Tree Op × Tree Op). D q.0 q.1) p ps d in
      refused_at added present equal 0 (record { right = p.1; places = []; class = a.class }) a.middle x y a.refused im
      (one_good p.0 g a.middle a.class a.built is good (transitive h (symmetric h))) (justified p g a.middle a.class a.built is h)
  all_refused_clash (refused_after {p} {ps} {g} {h} a w) is good d =
      all_refused_clash w (assumed_graph p g h a) (assumed_good p g h a is good (All-head (λ (q : Tree Op × Tree Op). D q.0 q.1) p ps d)) (All-tail (λ (q : Tree Op × Tree Op). D q.0 q.1) p ps d)

  given_all : All (λ t. D t t) present
  given_all = λ k d l. given (get_or present k d) (All-contains_itself present k d l)

  assumed_all : All (λ (p : Tree Op × Tree Op). D p.0 p.1) equal
  assumed_all = λ k d l. assumed (get_or equal k d).0 (get_or equal k d).1 (All-contains_itself equal k d l)

  nothing_good : Fine (record { rows = []; current = [] })
  nothing_good = (λ t u c h k. absurd (no_class t h), λ c h. absurd (let k = h.there in omega (arith, k.1)))
    where
      no_class : (t : Tree Op) {c : ℕ} → IsClass (record { rows = []; current = [] }) [] t c → ⊥
      no_class t (at_variable l) = omega (arith, l)
      no_class t (at_row h k) = omega (arith, k.1)

  -- the graph that starts from nothing
  pub start_is_grown : (middle new : Graph Op) → IsGraph op_signature (record { rows = []; current = [] }) → AreInserted present (record { rows = []; current = [] }) middle → AreAssumed equal middle new → IsGrown added present equal new 0
  start_is_grown middle new is inserted assumes =
      let im = inserted_graph inserted is in
      let inew = all_assumed_graph assumes im in
      let good = all_assumed_good assumes im (inserted_good inserted is nothing_good given_all) assumed_all in
      let f = all_assumed_follow assumes im in
      let placed = all_placed inserted is in
      let pairs = all_together assumes im in
      record {
        distinct = inew.distinct;
        operands = inew.operands;
        inhabited = good.1;
        exact = λ t u. (
          λ h. good.0 t u h.class h.first h.second,
          λ d. complete_at_start added present equal new inew.distinct
              (λ v h. let p = placed_later middle new f v (All-contains (Placed middle) present v placed h) in record { class = cur new p.class; first = p.is; second = p.is })
              (λ v w h. let p = All-contains (PairTogether new) equal (v, w) pairs h in record { class = cur new p.class; first = p.first; second = p.second })
              d refl,
        );
      }

  pub start_clashes : (middle : Graph Op) (x y : ℕ) → IsGraph op_signature (record { rows = []; current = [] }) → AreInserted present (record { rows = []; current = [] }) middle → AreRefused equal middle x y → Derives added present equal 0 (constant x) (constant y) × (x ≢ y)
  start_clashes middle x y is inserted refused = all_refused_clash refused (inserted_graph inserted is) (inserted_good inserted is nothing_good given_all) assumed_all
