-- Terms over lets: what is made of them over the lets' classes is made of the terms without lets.
use Rattle.std.proofs.Common.{◌≡◌, ℕ, zero, suc, ◌+◌, ◌<◌, false, ◌||◌, List, [], ◌∷◌, ◌++◌, map, length, get_or, refl, sym, ap, ◌∙◌, subst, arith}
use Rattle.std.specs.Prelude.{slice_index_or}
use Rattle.std.specs.List.{AllZip}
use Rattle.std.proofs.lemmas.List.{append-nil, append_assoc, get_or_default, length-append}
use Rattle.std.proofs.lemmas.Slice.Zip.{AllZip-long}
use Rattle.word_ops.specs.declared.sorts.Op.{Op}
use Rattle.word_terms.specs.Keys.{op_signature}
use Rattle.word_terms.specs.Tree.{Tree, Trees, variable, application, none, more, put_in, substituted, each_substituted}
use Rattle.egraph.specs.Graph.{Graph, IsGraph, read_through}
use Rattle.pattern_match.specs.Classes.{IsClass}
use Rattle.goal_meaning.specs.Expanded.{expanded_terms, expanded_sides}
use Rattle.goal_meaning.specs.Views.{TwoTrees}
use Rattle.saturation.specs.OverLets.{AreInsertedOver, none_over, one_over, AreLetsInserted, no_let, one_let, IsAssumeMadeOver, AreAssumedOver, none_assumed_over, one_assumed_over, AreRefusedOver, refused_here_over, refused_after_over, has_select_over, have_select_over}
use Rattle.saturation.specs.GoalTerms.{assumed_pair}
use Rattle.saturation.specs.StandsFor.{has_select, have_select, is_select}
use Rattle.saturation.specs.Trace.{IsBuilt, AreBuilt, placed, put, none_built, one_built, AreInserted, none_inserted, one_inserted, IsAssumeMade, AreAssumed, none_assumed, one_assumed, AreRefused, refused_here, refused_after}
use Rattle.saturation.proofs.Built.{built_graph, built_extends, Stand, stand_each}
use Rattle.saturation.proofs.Classes.{class_has}
use Rattle.saturation.proofs.Follows.{Follows, Extends, class_kept, closed_follows}
use Rattle.saturation.proofs.Graphs.{has_made, has_present}
use Rattle.saturation.proofs.Mapped.{zip_push}
use Rattle.saturation.proofs.MoreTerms.{built_already, class_of_built}
use Rattle.saturation.proofs.StartSteps.{zip_at, zip_to, over_assumed_graph, over_assumed_follows}

-- ---- expanded terms

pub expanded_push : (before ts : List (Tree Op)) (t : Tree Op) → expanded_terms before (ts ++ t ∷ []) ≡ expanded_terms before ts ++ substituted (expanded_terms before ts) t ∷ []
expanded_push before [] t = refl
expanded_push before (u ∷ ts) t = expanded_push (before ++ substituted before u ∷ []) ts t

pub expanded_count : (before ts : List (Tree Op)) → length (expanded_terms before ts) ≡ length before + length ts
expanded_count before [] = omega arith
expanded_count before (t ∷ ts) =
    let h = expanded_count (before ++ substituted before t ∷ []) ts in
    omega (arith, h, length-append before (substituted before t ∷ []))

-- ---- classes of terms

-- each variable's term has its class
abbrev pub HaveClasses : Graph Op → List ℕ → List (Tree Op) → Type 0
HaveClasses g cs es = (n : ℕ) → n < length cs → IsClass g [] (put_in es n) (get_or cs n 0)

pub have_classes : (g : Graph Op) (es : List (Tree Op)) (cs : List ℕ) → AllZip (IsClass g []) es cs → HaveClasses g cs es
have_classes g es cs z n l = zip_at (IsClass g []) es cs n (variable n) 0 z (omega (arith, l, AllZip-long (IsClass g []) es cs z))

pub classes_stand : (g : Graph Op) → IsGraph op_signature g → (es : List (Tree Op)) (cs : List ℕ) → HaveClasses g cs es → Stand g cs es
classes_stand g is es cs each = record {
  made = λ n d l. made_at n d l;
  each = λ n l. subst (IsClass g [] (put_in es n)) (sym (has_present op_signature g is (get_or cs n 0) (class_has g (each n l)))) (each n l);
}
  where
    made_at : (n d : ℕ) → n < length cs → get_or cs n d < length g.current
    made_at n d l = subst (λ x. x < length g.current) (get_or_default cs n 0 d l) (has_made op_signature g is (get_or cs n 0) (class_has g (each n l)))

stand_follows : (g new : Graph Op) → Follows g new → (cs : List ℕ) (es : List (Tree Op)) → Stand g cs es → Stand new cs es
stand_follows g new f cs es h = record {
  made = λ n d l. let k = h.made n d l in omega (arith, f.longer, k);
  each = λ n l. closed_follows g new f (h.made n 0 l) (h.each n l);
}

-- ---- terms that are built

module _ (cs : List ℕ) (es : List (Tree Op)) where
  kept_each : (g h : Graph Op) → Extends g h → HaveClasses g cs es → HaveClasses h cs es
  kept_each g h f each n l = class_kept g h f [] (each n l)

  mutual
    pub built_without : {t : Tree Op} {g new : Graph Op} {c : ℕ} → IsBuilt cs t g c new → IsGraph op_signature g → HaveClasses g cs es → IsBuilt [] (substituted es t) g c new
    built_without (placed {n} {g} l) is each = built_already g is (each n l)
    built_without (put a p) is each = put (are_built_without a is each) p

    are_built_without : {ts : Trees Op} {g new : Graph Op} {ds : List ℕ} → AreBuilt cs ts g ds new → IsGraph op_signature g → HaveClasses g cs es → AreBuilt [] (each_substituted es ts) g ds new
    are_built_without none_built is each = none_built
    are_built_without (one_built {t} {ts} {g} {h} {new} b a) is each =
        one_built (built_without b is each) (are_built_without a (built_graph cs b is) (kept_each g h (built_extends cs b) each))

  pub inserted_without : {ts : List (Tree Op)} {g new : Graph Op} → AreInsertedOver cs ts g new → IsGraph op_signature g → HaveClasses g cs es → AreInserted (map (substituted es) ts) g new
  inserted_without none_over is each = none_inserted
  inserted_without (one_over {t} {ts} {g} {h} {new} b w) is each =
      one_inserted (built_without b is each) (inserted_without w (built_graph cs b is) (kept_each g h (built_extends cs b) each))

pub inserted_closed : {ts : List (Tree Op)} {g new : Graph Op} → AreInsertedOver [] ts g new → AreInserted ts g new
inserted_closed none_over = none_inserted
inserted_closed (one_over b w) = one_inserted b (inserted_closed w)

-- ---- lets

-- what the lets stand for is inserted, and has the lets' classes
pub record LetsStand (g new : Graph Op) (es ts : List (Tree Op)) (lets : List ℕ) : Type 0 where
  pub terms : List (Tree Op)
  pub are : expanded_terms es ts ≡ es ++ terms
  pub inserted : AreInserted terms g new
  pub zip : AllZip (IsClass new []) (expanded_terms es ts) lets

pub lets_stand : {before lets : List ℕ} {ts : List (Tree Op)} {g new : Graph Op} (es : List (Tree Op)) → AreLetsInserted before ts g lets new → IsGraph op_signature g → AllZip (IsClass g []) es before → LetsStand g new es ts lets
lets_stand es no_let is z = record { terms = []; are = sym (append-nil es); inserted = none_inserted; zip = z }
lets_stand es (one_let {before} {lets} {t} {ts} {g} {h} {new} {c} b w) is z =
    let s = substituted es t in
    let closed : IsBuilt [] s g c h = built_without before es b is (have_classes g es before z) in
    let ih = built_graph before b is in
    let kept = zip_to (IsClass g []) (IsClass h []) es before (λ e d k. class_kept g h (built_extends before b) [] k) z in
    let r = lets_stand (es ++ s ∷ []) w ih (zip_push (IsClass h []) es before s c kept (class_of_built closed is)) in
    record { terms = s ∷ r.terms; are = r.are ∙ append_assoc es (s ∷ []) r.terms; inserted = one_inserted closed r.inserted; zip = r.zip }

-- ---- sides that are made equal

module _ (lets : List ℕ) (es : List (Tree Op)) where
  abbrev without : TwoTrees → TwoTrees
  without a = expanded_sides es a

  read_have : (g : Graph Op) → Stand g lets es → HaveClasses g (read_through g lets) es
  read_have g s = stand_each g lets es s

  made_without : (a : TwoTrees) (g new : Graph Op) → IsAssumeMadeOver lets (assumed_pair a) g new → IsGraph op_signature g → Stand g lets es → IsAssumeMade (assumed_pair (without a)) g new
  made_without a g new h is s =
      let places = read_through g lets in
      record {
        middle = h.middle;
        class = h.class;
        built = built_without places es h.built is (read_have g s);
        made = record {
          middle = h.made.middle;
          class = h.made.class;
          built = built_without places es h.made.built (built_graph places h.built is) (kept_each places es g h.middle (built_extends places h.built) (read_have g s));
          joined = h.made.joined;
        };
      }

  pub assumed_without : (xs : List TwoTrees) {g new : Graph Op} → AreAssumedOver lets (map assumed_pair xs) g new → IsGraph op_signature g → Stand g lets es → AreAssumed (map assumed_pair (map (expanded_sides es) xs)) g new
  assumed_without [] none_assumed_over is s = none_assumed
  assumed_without (x ∷ xs) (one_assumed_over {g} {h} a w) is s =
      one_assumed (made_without x g h a is s)
      (assumed_without xs w (over_assumed_graph lets (assumed_pair x) g h a) (stand_follows g h (over_assumed_follows lets (assumed_pair x) g h a is) lets es s))

  pub refused_without : (xs : List TwoTrees) {g : Graph Op} {x y : ℕ} → AreRefusedOver lets (map assumed_pair xs) g x y → IsGraph op_signature g → Stand g lets es → AreRefused (map assumed_pair (map (expanded_sides es) xs)) g x y
  refused_without [] w is s = elim w [ ]
  refused_without (a ∷ xs) (refused_here_over {g} {x} {y} h) is s =
      let places = read_through g lets in
      refused_here (record {
        middle = h.middle;
        class = h.class;
        built = built_without places es h.built is (read_have g s);
        refused = record {
          middle = h.refused.middle;
          class = h.refused.class;
          built = built_without places es h.refused.built (built_graph places h.built is) (kept_each places es g h.middle (built_extends places h.built) (read_have g s));
          at = h.refused.at;
          clash = h.refused.clash;
        };
      })
  refused_without (a ∷ xs) (refused_after_over {g} {h} k w) is s =
      refused_after (made_without a g h k is s)
      (refused_without xs w (over_assumed_graph lets (assumed_pair a) g h k) (stand_follows g h (over_assumed_follows lets (assumed_pair a) g h k is) lets es s))

-- ---- which terms read a memory

select_put : (es : List (Tree Op)) (n k : ℕ) → has_select (slice_index_or es n (variable k)) ≡ slice_index_or (map has_select es) n false
select_put [] n k = refl
select_put (e ∷ es) zero k = refl
select_put (e ∷ es) (suc n) k = select_put es n k

mutual
  pub select_without : (es : List (Tree Op)) (t : Tree Op) → has_select (substituted es t) ≡ has_select_over (map has_select es) t
  select_without es (variable n) = select_put es n n
  select_without es (application op ts) = ap (λ b. is_select op || b) (selects_without es ts)

  selects_without : (es : List (Tree Op)) (ts : Trees Op) → have_select (each_substituted es ts) ≡ have_select_over (map has_select es) ts
  selects_without es none = refl
  selects_without es (more t ts) =
      ap (λ b. b || have_select (each_substituted es ts)) (select_without es t)
      ∙ ap (λ b. has_select_over (map has_select es) t || b) (selects_without es ts)
