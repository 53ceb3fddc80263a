-- Matches of rules, by the substitutions of their left sides.
use Rattle.std.proofs.Common.{◌≡◌, ℕ, suc, ◌<◌, ◌+◌, List, length, get_or, refl, sym, subst, inl, inr, arith}
use Rattle.std.specs.Prelude.{All, AllPairs, Contains}
use Rattle.std.proofs.lemmas.List.{get_or_default}
use Rattle.std.proofs.lemmas.List.Elements.{All-contains}
use Rattle.word_ops.specs.declared.sorts.Op.{Op}
use Rattle.word_ops.specs.declared.sorts.Sort.{Sort}
use Rattle.word_terms.specs.Keys.{op_signature}
use Rattle.word_terms.specs.Tree.{Tree, Trees, variable, application, none, more, AreBelow, EachBelow}
use Rattle.word_terms.specs.Sorting.{HasSort, HaveSorts, Occurs, OccursInOne}
use Rattle.axiom_base.specs.Rewrites.{Rewrite, IsRule}
use Rattle.axiom_base.specs.Schemes.{Scheme, plain, IsOf, itself, calculated, folded}
use Rattle.egraph.specs.declared.rows.Row.{Row}
use Rattle.egraph.specs.Graph.{Graph, IsGraph, HasClass, Agree}
use Rattle.pattern_match.specs.Classes.{IsClass, AreClasses, at_variable, at_row, classes, HaveOneClass, CanFindClass}
use Rattle.pattern_match.specs.Bindings.{IsSubstitution}
use Rattle.pattern_match.specs.Matches.{IsMatch, IsUnmet, IsMatchOf, IsUnmetOf}
use Rattle.pattern_match.proofs.Walking.{one_class}

-- ---- a well formed term's variables

mutual
  pub sort_below : (variables : List Sort) (sort : Sort) (t : Tree Op) → HasSort op_signature variables sort t → AreBelow (length variables) t
  sort_below variables sort (variable n) h = h.0
  sort_below variables sort (application op ts) h = sorts_below variables op 0 ts h.3

  sorts_below : (variables : List Sort) (op : Op) (at : ℕ) (ts : Trees Op) → HaveSorts op_signature variables op at ts → EachBelow (length variables) ts
  sorts_below variables op at none h = tt
  sorts_below variables op at (more t ts) h = (sort_below variables _ t h.0, sorts_below variables op (at + 1) ts h.1)

-- ---- the classes of a substitution are of the graph

module _ (g : Graph Op) (is : IsGraph op_signature g) (cs : List ℕ) (v : ℕ) where
  mutual
    place_has : (p : Tree Op) {c : ℕ} → Occurs v p → IsClass g cs p c → HasClass g c → HasClass g (get_or cs v 0)
    place_has (variable n) e (at_variable l) h = subst (λ m. HasClass g (get_or cs m 0)) (sym e) h
    place_has (application op ts) o (at_row {cs = ds} {c} k r) h =
        place_has_in ts o k (All-contains (λ (t : Row Op). All (HasClass g) t.operands) g.rows (record { op = op; operands = ds; class = c }) is.operands r)

    place_has_in : (ps : Trees Op) {ds : List ℕ} → OccursInOne v ps → AreClasses g cs ps ds → All (HasClass g) ds → HasClass g (get_or cs v 0)
    place_has_in none o k h = absurd o
    place_has_in (more p ps) o (classes {c} {cs = ds} k m) h = elim o [ inl a ↦ place_has p a k (h 0 c (omega arith)) | inr b ↦ place_has_in ps b m (λ i d l. h (suc i) d (omega (arith, l))) ]

pub matched_present : (g : Graph Op) → IsGraph op_signature g → (p : Tree Op) (n : ℕ) → ((v : ℕ) → v < n → Occurs v p) → (cs : List ℕ) → IsSubstitution g p n cs → All (HasClass g) cs
matched_present g is p n all cs h = λ k d l. subst (HasClass g) (get_or_default cs k 0 d l) (place_has g is cs k p (all k (omega (arith, l, h.length_is))) h.left h.has)

pub class_has : (g : Graph Op) (cs : List ℕ) (t : Tree Op) {c : ℕ} → All (HasClass g) cs → IsClass g cs t c → HasClass g c
class_has g cs (variable n) h (at_variable l) = h n 0 l
class_has g cs (application op ts) h (at_row {cs = ds} {c} k r) = record { row = record { op = op; operands = ds; class = c }; there = r; is = refl }

-- ---- unmet matches

-- the two have no class, or another one each
abbrev pub Differ : Graph Op → Tree Op → Tree Op → List ℕ → Type 0
Differ g t u cs = HaveOneClass g cs t u → ⊥

module _ (g : Graph Op) (r : Rewrite) (cs : List ℕ) where
  pub is_unmet : (c : ℕ) → IsMatch g r cs c → (HaveOneClass g cs r.left r.right → ⊥) → IsUnmet g r cs c
  is_unmet c m never = record { match = m; right = λ k. never (record { class = c; first = m.left; second = k }) }

  pub unmet_differs : AllPairs (λ x y. ¬ Agree x y) g.rows → (c : ℕ) → IsUnmet g r cs c → HaveOneClass g cs r.left r.right → ⊥
  unmet_differs apart c u h = u.right (subst (IsClass g cs r.right) (one_class g apart cs h.first u.match.left) h.second)

-- ---- a rule by itself

plain_only : (s : Scheme) (q r : Rewrite) → s ≡ plain r → IsOf s q → q ≡ r
plain_only s q r e (itself p) = cc
plain_only s q r e (calculated kind cs n is) = absurd (cc)
plain_only s q r e (folded op cs words count) = absurd (cc)

module _ (g : Graph Op) (is : IsGraph op_signature g) (r : Rewrite) (rule : IsRule r) (cs : List ℕ) where
  pub rule_match : (h : IsSubstitution g r.left (length r.variables) cs) → IsMatch g r cs h.class
  rule_match h = record {
    count = h.length_is;
    present = matched_present g is r.left (length r.variables) rule.all cs h;
    left = h.left;
    constants = λ n c k. absurd (let m = subst (λ xs. Contains xs (n, c)) rule.free k in omega (arith, m.1));
  }

  match_rule : (c : ℕ) → IsMatch g r cs c → IsSubstitution g r.left (length r.variables) cs
  match_rule c m = record { length_is = m.count; class = c; has = class_has g cs r.left m.present m.left; left = m.left }

  pub rule_matched : IsSubstitution g r.left (length r.variables) cs → IsMatchOf g (plain r) cs
  rule_matched h = record { rule = r; of = itself r; class = h.class; match = rule_match h }

  pub matched_rule : IsMatchOf g (plain r) cs → IsSubstitution g r.left (length r.variables) cs
  matched_rule m = match_rule m.class (subst (λ q. IsMatch g q cs m.class) (plain_only (plain r) m.rule r refl m.of) m.match)

  pub rule_unmet : IsSubstitution g r.left (length r.variables) cs × (HaveOneClass g cs r.left r.right → ⊥) → IsUnmetOf g (plain r) cs
  rule_unmet h = record { rule = r; of = itself r; class = h.0.class; unmet = is_unmet g r cs h.0.class (rule_match h.0) h.1 }

  pub unmet_rule : IsUnmetOf g (plain r) cs → IsSubstitution g r.left (length r.variables) cs × (HaveOneClass g cs r.left r.right → ⊥)
  unmet_rule u =
      let v = subst (λ q. IsUnmet g q cs u.class) (plain_only (plain r) u.rule r refl u.of) u.unmet in
      (match_rule u.class v.match, unmet_differs g r cs is.distinct u.class v)

  pub right_reads : IsSubstitution g r.left (length r.variables) cs → CanFindClass g cs r.right
  right_reads h = record {
    graph = is;
    present = matched_present g is r.left (length r.variables) rule.all cs h;
    below = subst (λ n. AreBelow n r.right) (sym h.length_is) (sort_below r.variables rule.sides.0 r.right rule.sides.2);
  }

pub rule_below : (r : Rewrite) → IsRule r → AreBelow (length r.variables) r.left
rule_below r rule = sort_below r.variables rule.sides.0 r.left rule.sides.1

-- ---- by the class of the left side

module _ (g : Graph Op) (is : IsGraph op_signature g) (t u : Tree Op) (cs : List ℕ) (c : ℕ) (left : IsClass g cs t c) where
  pub differ_if : (IsClass g cs u c → ⊥) → Differ g t u cs
  differ_if never h = never (subst (IsClass g cs u) (one_class g is.distinct cs h.first left) h.second)

  pub one_if : IsClass g cs u c → HaveOneClass g cs t u
  one_if k = record { class = c; first = left; second = k }

-- a match with its class
pub unmet_with : (g : Graph Op) (is : IsGraph op_signature g) (r : Rewrite) (rule : IsRule r) (cs : List ℕ) (c : ℕ) → IsSubstitution g r.left (length r.variables) cs → IsClass g cs r.left c → (IsClass g cs r.right c → ⊥) → IsUnmet g r cs c
unmet_with g is r rule cs c h left never =
    let m = rule_match g is r rule cs h in
    record { match = record { count = m.count; present = m.present; left = left; constants = m.constants }; right = never }
