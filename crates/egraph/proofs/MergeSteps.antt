-- What the merge's code does, step by step, over plain lists.
use Rattle.std.proofs.Common.{◌≡◌, ℕ, ◌<◌, ◌^◌, List, map, length, get_or, refl, sym, ap, ◌∙◌, subst, inl, inr, arith}
use Rattle.word_terms.specs.Signature.{Signature}
use Rattle.egraph.specs.Graph.{Graph, IsGraph, HasOneConstantEach}
use Rattle.egraph.specs.Joined.{Joined, kept, pair, symmetric, transitive, relabel, IsMerged, Clash}
use Rattle.egraph.specs.Steps.{moved, HasTwoConstants}
use Rattle.egraph.proofs.Lists.{moved_cases, at_map}
use Rattle.egraph.proofs.Merging.{IsMerging, MayJoin, start, has_made, has_present, row_made, current_has, joined_made}

pub moved_from : (from to : ℕ) → moved from to from ≡ to
moved_from from to = elim (moved_cases from to from) [ inl h ↦ h.1 | inr h ↦ absurd (h.0 refl) ]

module _ {O : Type 0} (s : Signature O) (old : Graph O) (is : IsGraph s old) (a b : ℕ) where
  pub first_may_join : a < length old.current → b < length old.current → MayJoin s old is a b old (start s old is a b) (get_or old.current a 0) (get_or old.current b 0)
  first_may_join la lb =
      let ha = current_has s old is a la in
      let hb = current_has s old is b lb in
      let ma = has_made s old is (get_or old.current a 0) ha in
      let mb = has_made s old is (get_or old.current b 0) hb in
      let pa = has_present s old is (get_or old.current a 0) ha in
      let pb = has_present s old is (get_or old.current b 0) hb in
      record {
        to_made = mb;
        to_settled = pb;
        to_present = pb;
        forced = transitive (kept (get_or old.current a 0) a ma la pa) (transitive pair (kept b (get_or old.current b 0) lb mb (sym pb)));
      }

  -- two constants of one class are a clash of the merge
  pub clash_from : (new : Graph O) (m : IsMerging old a b new) (class x y : ℕ) → HasTwoConstants s new.rows class x y → Clash s old a b class x y
  clash_from new m class x y h =
      let u = m.from_old h.first.row h.first.there in
      let v = m.from_old h.second.row h.second.there in
      let cu : get_or new.current u.0.class 0 ≡ class = sym (ap (λ r. r.class) u.2) ∙ h.first.of_class in
      let cv : get_or new.current v.0.class 0 ≡ class = sym (ap (λ r. r.class) v.2) ∙ h.second.of_class in
      record {
        first = u.0;
        second = v.0;
        first_there = u.1;
        second_there = v.1;
        first_is = sym (ap (λ r. s.constant r.op) u.2) ∙ h.first.is;
        second_is = sym (ap (λ r. s.constant r.op) v.2) ∙ h.second.is;
        first_joined = subst (Joined old a b u.0.class) cu (m.sound u.0.class (row_made s old is u.0 u.1));
        second_joined = subst (Joined old a b v.0.class) cv (m.sound v.0.class (row_made s old is v.0 v.1));
        differ = h.differ;
      }

  -- the class of a clash was made
  pub clash_low : a < length old.current → b < length old.current → {class x y : ℕ} → Clash s old a b class x y → class < 2 ^ 31
  clash_low la lb h = let l = (joined_made s old is a b la lb h.first_joined).1 in omega (arith, l, is.few)

pub pair_kept : (f : ℕ → ℕ) (current current' : List ℕ) (a b : ℕ) → a < length current → b < length current → current' ≡ map f current → get_or current a 0 ≡ get_or current b 0 → get_or current' a 0 ≡ get_or current' b 0
pair_kept f current current' a b la lb e p =
    ap (λ xs. get_or xs a 0) e ∙ at_map f current a la ∙ ap f p ∙ sym (ap (λ xs. get_or xs b 0) e ∙ at_map f current b lb)

-- where no class of the new graph has two constants, the merge has no clash
pub no_clash : {O : Type 0} (s : Signature O) (old : Graph O) (is : IsGraph s old) (a b : ℕ) (new : Graph O) → IsMerged old a b new → HasOneConstantEach s new.rows → (class x y : ℕ) → ¬ Clash s old a b class x y
no_clash s old is a b new m one class x y h =
    let l1 = row_made s old is h.first h.first_there in
    let l2 = row_made s old is h.second h.second_there in
    let e = (m.joined h.first.class h.second.class l1 l2).1 (transitive h.first_joined (symmetric h.second_joined)) in
    let f = λ (c : ℕ). get_or new.current c 0 in
    h.differ (one (f h.second.class) x y
    (record { row = relabel f h.first; there = m.images h.first h.first_there; of_class = e; is = h.first_is })
    (record { row = relabel f h.second; there = m.images h.second h.second_there; of_class = refl; is = h.second_is }))
