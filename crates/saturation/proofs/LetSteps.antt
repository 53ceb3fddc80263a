-- Steps of the calls that look up the lets of a goal.
use Rattle.std.proofs.Common.{◌≡◌, ℕ, ◌+◌, ◌<◌, Bool, Option, Some, None, List, [], ◌∷◌, ◌++◌, map, length, take, get_or, All, refl, sym, ap, ◌∙◌, subst, arith}
use Rattle.std.specs.Option.{IsSome, MatchOption}
use Rattle.std.specs.List.{AllZip}
use Rattle.std.proofs.lemmas.List.{append-nil, append_assoc, map-append, take_more, length-take-le}
use Rattle.std.proofs.lemmas.List.Elements.{All-cons, All-head}
use Rattle.std.proofs.lemmas.Slice.Zip.{AllZip-long}
use Rattle.word_ops.specs.declared.sorts.Op.{Op}
use Rattle.word_terms.specs.Keys.{op_signature}
use Rattle.word_terms.specs.Tree.{Tree, substituted, AreBelow}
use Rattle.egraph.specs.Graph.{Graph, HasClass, IsGraph}
use Rattle.pattern_match.specs.Classes.{CanFindClass, IsClass}
use Rattle.goal_meaning.specs.Expanded.{expanded_terms}
use Rattle.saturation.specs.OverLets.{AreLetsBelow, has_select_over}
use Rattle.saturation.specs.StandsFor.{has_select}
use Rattle.saturation.proofs.Classes.{at_instance, class_has, from_instance}
use Rattle.saturation.proofs.LetTerms.{expanded_push, expanded_count, have_classes, select_without}
use Rattle.saturation.proofs.Mapped.{zip_push}
use Rattle.saturation.proofs.StartSteps.{all_before, all_behind, parted}

pub zip_has : (g : Graph Op) (es : List (Tree Op)) (cs : List ℕ) → AllZip (IsClass g []) es cs → All (HasClass g) cs
zip_has g es [] z = λ n d l. absurd (omega arith)
zip_has g [] (c ∷ cs) z = absurd z
zip_has g (e ∷ es) (c ∷ cs) z = All-cons (HasClass g) c cs (class_has g z.0) (zip_has g es cs z.1)

-- the expanded terms of all begin with those of the first
begins : (before ts us : List (Tree Op)) → (more : List (Tree Op)) × (expanded_terms before (ts ++ us) ≡ expanded_terms before ts ++ more)
begins before [] us = all_begin before us
  where
    all_begin : (before us : List (Tree Op)) → (more : List (Tree Op)) × (expanded_terms before us ≡ before ++ more)
    all_begin before [] = ([], sym (append-nil before))
    all_begin before (u ∷ us) =
        let s = substituted before u in
        let h = all_begin (before ++ s ∷ []) us in
        (s ∷ h.0, h.1 ∙ append_assoc before (s ∷ []) h.0)
begins before (t ∷ ts) us = begins (before ++ substituted before t ∷ []) ts us

module _ (g : Graph Op) (is : IsGraph op_signature g) (ts : List (Tree Op)) (k : ℕ) (t : Tree Op) (l : k < length ts) (at : get_or ts k t ≡ t) (cs : List ℕ) (z : AllZip (IsClass g []) (expanded_terms [] (take k ts)) cs) where
  abbrev es : List (Tree Op)
  es = expanded_terms [] (take k ts)

  next : take (k + 1) ts ≡ take k ts ++ t ∷ []
  next = take_more ts k t l ∙ ap (λ u. take k ts ++ u ∷ []) at

  made : length cs ≡ k
  made = omega (arith, l, AllZip-long (IsClass g []) es cs z, expanded_count [] (take k ts), length-take-le k ts (omega (arith, l)))

  pub let_can : AreLetsBelow ts → CanFindClass g cs t
  let_can below = record {
    graph = is;
    present = zip_has g es cs z;
    below = subst (λ u. AreBelow (length cs) u) at (subst (λ n. AreBelow n (get_or ts k t)) (sym made) (below k t l));
  }

  pub let_there : AreLetsBelow ts → All (λ u. (c : ℕ) × IsClass g [] u c) (expanded_terms [] ts) → (c : ℕ) × IsClass g cs t c
  let_there below all =
      let p = parted ts k t l in
      let whole : ts ≡ (take k ts ++ t ∷ []) ++ p.0 = p.1 ∙ ap (λ u. take k ts ++ (u ∷ p.0)) at ∙ sym (append_assoc (take k ts) (t ∷ []) p.0) in
      let b = begins [] (take k ts ++ t ∷ []) p.0 in
      let e : expanded_terms [] ts ≡ (es ++ substituted es t ∷ []) ++ b.0 = ap (expanded_terms []) whole ∙ b.1 ∙ ap (λ xs. xs ++ b.0) (expanded_push [] (take k ts) t) in
      let P : Tree Op → Type 0 = λ u. (c : ℕ) × IsClass g [] u c in
      let h = all_behind P es (substituted es t ∷ []) (all_before P (es ++ substituted es t ∷ []) b.0 (subst (All P) e all)) in
      let has = All-head P (substituted es t) [] h in
      (has.0, from_instance g cs es (have_classes g es cs z) is.distinct t (let_can below).below has.1)

  pub let_found : (c : ℕ) → IsClass g cs t c → AllZip (IsClass g []) (expanded_terms [] (take (k + 1) ts)) (cs ++ c ∷ [])
  let_found c h =
      subst (λ us. AllZip (IsClass g []) us (cs ++ c ∷ [])) (sym (ap (expanded_terms []) next ∙ expanded_push [] (take k ts) t))
      (zip_push (IsClass g []) es cs (substituted es t) c z (at_instance g cs es (have_classes g es cs z) h))

pub found_term : (g : Graph Op) (cs : List ℕ) (t : Tree Op) (found : Option ℕ) → MatchOption found ((c : ℕ) → IsClass g cs t c → ⊥) (IsClass g cs t) → ((c : ℕ) × IsClass g cs t c) → IsSome found
found_term g cs t None lacks there = absurd (lacks there.0 there.1)
found_term g cs t (Some c) has there = refl

-- which lets read a memory
pub next_reads : (ts : List (Tree Op)) (k : ℕ) (t : Tree Op) (reads : List Bool) (b : Bool) → k < length ts → get_or ts k t ≡ t → reads ≡ map has_select (expanded_terms [] (take k ts)) → b ≡ has_select_over reads t → reads ++ b ∷ [] ≡ map has_select (expanded_terms [] (take (k + 1) ts))
next_reads ts k t reads b l at is e =
    let es = expanded_terms [] (take k ts) in
    let one : b ≡ has_select (substituted es t) = e ∙ ap (λ rs. has_select_over rs t) is ∙ sym (select_without es t) in
    sym (
    ap (λ us. map has_select (expanded_terms [] us)) (take_more ts k t l ∙ ap (λ u. take k ts ++ u ∷ []) at)
    ∙ ap (map has_select) (expanded_push [] (take k ts) t)
    ∙ map-append has_select es (substituted es t ∷ [])
    ∙ ap (λ rs. rs ++ has_select (substituted es t) ∷ []) (sym is)
    ∙ ap (λ c. reads ++ c ∷ []) (sym one)
    )
