-- Steps of the calls that change the graph in a round.
use Rattle.std.proofs.Common.{◌≡◌, ℕ, zero, suc, ◌+◌, ◌<◌, ◌≤◌, List, [], ◌∷◌, ◌++◌, map, length, take, get_or, slice_index, Contains, sym, ap, ◌∙◌, arith}
use Rattle.std.proofs.lemmas.List.{get_or-map, length-map, take_more, take_all}
use Rattle.word_ops.specs.declared.sorts.Op.{Op}
use Rattle.word_ops.specs.Meanings.{sort_of}
use Rattle.word_terms.specs.Keys.{op_signature}
use Rattle.egraph.specs.declared.rows.Row.{Row}
use Rattle.egraph.specs.Graph.{Graph}
use Rattle.egraph.specs.declared.faults.MergeFault.{MergeFault}
use Rattle.egraph.specs.declared.faults.MergeFault.TheVariants.{NoWorld, Memory}
use Rattle.word_terms.specs.OperatorsIn.{operators_in}
use Rattle.saturation.specs.Trace.{Asked, CanApply, CanApplyAll, operators_asked, IsBuilt, IsApplied, AreAllApplied, finished, work, IsRefusedMerge, IsRefused, here, after}
use Rattle.saturation.specs.Instances.{asked_of, RefusalIs, RefusalOfAll}
use Rattle.saturation.specs.declared.instance.Instance.{Instance}
use Rattle.saturation.proofs.Follows.{extends_follows, sort_follows, join_follows}
use Rattle.saturation.proofs.Built.{built_graph, built_extends, built_sort, sort_of_rows}
use Rattle.saturation.proofs.Building.{built_few}
use Rattle.saturation.proofs.Made.{all_made_graph, all_made_follow}

-- what a merge asks
pub record CanJoin (g : Graph Op) (a b : ℕ) : Type 0 where
  pub a_made : a < length g.current
  pub b_made : b < length g.current
  pub one_sort : (r t : Row Op) → Contains g.rows r → Contains g.rows t → r.class ≡ slice_index g.current a → t.class ≡ slice_index g.current b → sort_of r.op ≡ sort_of t.op

pub join_can : (a : Asked) (g m : Graph Op) (c : ℕ) → CanApply g a → IsBuilt a.places a.right g c m → CanJoin m c a.class
join_can a g m c can b =
    let im = built_graph a.places b can.graph in
    let r = can.may.right in
    let first = built_sort a.places r.variables r.count can.may.sort b can.graph r.places_have r.has_sort in
    let second = sort_follows g m (extends_follows op_signature g can.graph m (built_extends a.places b)) a.class can.may.sort can.may.class in
    record {
      a_made = first.made;
      b_made = second.made;
      one_sort = λ x y hx hy ex ey. sort_of_rows m im c can.may.sort first x hx ex ∙ sym (sort_of_rows m im a.class can.may.sort second y hy ey);
    }

pub all_made_push : {asks : List Asked} {a : Asked} {g h new : Graph Op} → AreAllApplied asks g h → IsApplied a h new → AreAllApplied (asks ++ a ∷ []) g new
all_made_push finished m = work m finished
all_made_push (work k w) m = work k (all_made_push w m)

made_few : (a : Asked) (g new : Graph Op) → IsApplied a g new → length new.current ≤ length g.current + operators_in a.right
made_few a g new h = let f = built_few a.places h.built in omega (arith, f, h.joined.merged.made)

pub all_made_few : {asks : List Asked} {g new : Graph Op} → AreAllApplied asks g new → length new.current ≤ length g.current + operators_asked asks
all_made_few finished = omega arith
all_made_few (work {a} {asks} {g} {h} m w) = let f = made_few a g h m in let k = all_made_few w in omega (arith, f, k)

few_asked : (asks : List Asked) (k : ℕ) (d : Asked) → k < length asks → operators_asked (take k asks) + operators_in (get_or asks k d).right ≤ operators_asked asks
few_asked [] k d l = absurd (omega arith)
few_asked (a ∷ asks) zero d l = omega arith
few_asked (a ∷ asks) (suc k) d l = let h = few_asked asks k d (omega arith) in omega (arith, h)

pub next_can : (g h : Graph Op) (asks : List Asked) (k : ℕ) (d : Asked) → CanApplyAll g asks → AreAllApplied (take k asks) g h → k < length asks → CanApply h (get_or asks k d)
next_can g h asks k d can made l =
    let f = all_made_few made in
    let s = few_asked asks k d l in
    let c = can.few in
    record {
      graph = all_made_graph made can.graph;
      may = join_follows g h (all_made_follow made can.graph) (get_or asks k d) (can.may k d l);
      few = omega (arith, f, s, c);
    }

refused_in : (asks : List Asked) (k : ℕ) (d : Asked) {g h : Graph Op} {x y : ℕ} → k < length asks → AreAllApplied (take k asks) g h → IsRefusedMerge (get_or asks k d) h x y → IsRefused asks g x y
refused_in [] k d l w r = absurd (omega arith)
refused_in (a ∷ asks) zero d l finished r = here r
refused_in (a ∷ asks) (suc k) d l (work m w) r = after m (refused_in asks k d (omega arith) w r)

pub refusal_in : (asks : List Asked) (k : ℕ) (d : Asked) (g h : Graph Op) (fault : MergeFault) → k < length asks → AreAllApplied (take k asks) g h → RefusalIs (get_or asks k d) h fault → RefusalOfAll asks g fault
refusal_in asks k d g h (NoWorld class x y) l w r = refused_in asks k d l w r
refusal_in asks k d g h Memory l w r = tt

-- ---- over the items of a list

module _ (items : List Instance) (k : ℕ) (x : Instance) (l : k < length items) (is : x ≡ get_or items k x) where
  pub in_asked : k < length (map asked_of items)
  in_asked = omega (arith, l, length-map items asked_of)

  pub at_asked : get_or (map asked_of items) k (asked_of x) ≡ asked_of x
  at_asked = get_or-map asked_of items k x (asked_of x) l ∙ sym (ap asked_of is)

  pub one_more_asked : take (k + 1) (map asked_of items) ≡ take k (map asked_of items) ++ asked_of x ∷ []
  one_more_asked = take_more (map asked_of items) k (asked_of x) in_asked ∙ ap (λ y. take k (map asked_of items) ++ y ∷ []) at_asked

pub all_asked_taken : (items : List Instance) (k : ℕ) → length items ≤ k → take k (map asked_of items) ≡ map asked_of items
all_asked_taken items k h = take_all k (map asked_of items) (omega (arith, h, length-map items asked_of))
